-- The response at the ends of windows, and the values of windows.
use Rattle.std.proofs.Common.{◌≡◌, ℕ, ◌-◌, ◌*◌, ◌<◌, ◌≤◌, Bool, true, false, cond, ◌&&◌, ltb, List, [], ◌∷◌, ◌++◌, ℤ, pos, ◌+ℤ◌, ◌*ℤ◌, sym, refl, ap, ◌∙◌, subst, inl, inr, arith}
use Rattle.std.specs.List.{AllByRecursion}
use Rattle.std.proofs.lemmas.Bool.{cases_lt}
use Rattle.exact.specs.Fractions.{Fraction, whole, ◌⊕◌, ◌·◌, ◌÷◌, Equal}
use Rattle.exact.specs.Lines.{line}
use Rattle.exact.specs.Averages.{average, Climbs, evenly}
use Rattle.exact.proofs.Naturals.{reads_self, reads-⊕, reads-·}
use Rattle.exact.proofs.Near.{Near, near_refl, near-÷, near_same, near_equal, equal_near}
use Rattle.exact.proofs.Rounding.{half_up_value}
use Rattle.exact.proofs.Averages.{average_level}
use Rattle.exact.proofs.Order.{reads_by}
use Rattle.exact.proofs.Wholes.{half_up_of_whole}
use Rattle.exact.proofs.Tests.{pick, skip}
use Rattle.exact.proofs.Segments.{near_sym, same_by, same-⊕, same-·}
use Rattle.exact.proofs.EvenChanges.{half, straight_even, average_even}
use Rattle.response.specs.declared.group.Window.{Window}
use Rattle.figure.specs.declared.point.Point.{Point}
use Rattle.figure.specs.Points.{After, Rises}
use Rattle.figure.specs.Steps.{Rounding, Case, unrounded, weighed, is_used, inside, value_of, weight, used, response, compensated, at_end, value}
use Rattle.figure.proofs.Curves.{value_is}
use Rattle.figure.specs.WindowLaws.{Steady, SteadyRoundings, OnLine, EndsOfWindows, window, ChangeEvenly, IsTimes, ValuesOfWindows}
use Rattle.figure.proofs.Rising.{rises_kept, inside_climbs}
use Rattle.figure.proofs.WindowAreas.{near_from, not_after_start, not_before_end, none_later, L, at_own, before_next, area, areas_join}

equal_from : {x y : Fraction} → x ≡ y → Equal x y
equal_from e = near_equal (near_from e near_refl)

-- equal as numbers, step by step
equal_by : {x y z : Fraction} → Equal x y → Equal y z → Equal x z
equal_by h k = near_equal (same_by (equal_near h) (equal_near k))

pub steady_roundings : SteadyRoundings
steady_roundings = record {
  half_up = record {
    by_value = λ x y h. equal_from (ap whole (half_up_value x y h.0 h.1));
    once = λ x. equal_from (ap whole (half_up_of_whole _));
    keeps_whole = λ z. equal_from (ap whole (half_up_of_whole z));
  };
  left_out = record { by_value = λ x y h. h; once = λ x. near_equal near_refl; keeps_whole = λ z. near_equal near_refl };
}

-- ---- times that rise up to the point p, and from it on
module _ (p : Point) (later : List Point) where
  below : (l : ℕ) (earlier : List Point) → After l (earlier ++ p ∷ later) → l < p.time
  below l [] h = h.0
  below l (q ∷ earlier) h = omega (arith, h.0, below q.time earlier h.1)

  after_it : (l : ℕ) (earlier : List Point) → After l (earlier ++ p ∷ later) → After p.time later
  after_it l [] h = h.1
  after_it l (q ∷ earlier) h = after_it q.time earlier h.1

  rises_after : (earlier : List Point) → Rises (earlier ++ p ∷ later) → After p.time later
  rises_after [] h = h
  rises_after (q ∷ earlier) h = after_it q.time earlier h

  -- the line from p on
  module _ (f : Point → Fraction) (u : ℕ) (le : p.time ≤ u) where
    reach : (t : ℕ) (v : Fraction) (earlier : List Point) → After t (earlier ++ p ∷ later) → L f t v (earlier ++ p ∷ later) u ≡ L f p.time (f p) later u
    reach t v [] h = skip u p.time _ _ le
    reach t v (q ∷ earlier) h = skip u q.time _ _ (omega (arith, below q.time earlier h.1)) ∙ reach q.time (f q) earlier h.1

    pub line_from_it : (earlier : List Point) → Rises (earlier ++ p ∷ later) → line (λ (q : Point). q.time) f (earlier ++ p ∷ later) u ≡ L f p.time (f p) later u
    line_from_it [] h = refl
    line_from_it (q ∷ earlier) h = reach q.time (f q) earlier h

  -- no point up to p is after a start that p is not after
  module _ (s e : ℕ) (le : p.time ≤ s) where
    inside_after : (l : ℕ) (earlier : List Point) → After l (earlier ++ p ∷ later) → inside s e (earlier ++ p ∷ later) ≡ inside s e later
    inside_after l [] h = not_after_start s e p later le
    inside_after l (q ∷ earlier) h = not_after_start s e q _ (omega (arith, below q.time earlier h.1)) ∙ inside_after q.time earlier h.1

    inside_from : (earlier : List Point) → Rises (earlier ++ p ∷ later) → inside s e (earlier ++ p ∷ later) ≡ inside s e later
    inside_from [] h = not_after_start s e p later le
    inside_from (q ∷ earlier) h = not_after_start s e q _ (omega (arith, below q.time earlier h)) ∙ inside_after q.time earlier h

-- ---- in a case
module _ (r : Rounding) (c : Case) where
  abbrev f : Point → Fraction
  f p = compensated r c p

  pub rises_used : Rises c.points → Rises (used c)
  rises_used h = rises_kept (λ p. is_used c.recovery p.time) c.points h

  -- a response is rounded already
  settled : Steady r → (p : Point) → Equal (r (f p)) (f p)
  settled s p = s.once (weighed (response r c p) (weight c p))

  at_time : (ps : List Point) (t : ℕ) → used c ≡ ps → at_end r c t ≡ r (line (λ (q : Point). q.time) f ps t)
  at_time ps t e = ap (λ (us : List Point). r (line (λ (q : Point). q.time) f us t)) e

  rises_so : (ps : List Point) → Rises c.points → used c ≡ ps → Rises ps
  rises_so ps h e = subst Rises e (rises_used h)

  -- the response at the end of a window is r of the line from the point p on
  end_by : (earlier : List Point) (p : Point) (later : List Point) (t : ℕ) → Rises c.points → used c ≡ earlier ++ p ∷ later → p.time ≤ t → at_end r c t ≡ r (L f p.time (f p) later t)
  end_by earlier p later t h e le = at_time _ t e ∙ ap r (line_from_it p later f t le earlier (rises_so _ h e))

  at_a_point : (earlier : List Point) (p : Point) (later : List Point) → Steady r → Rises c.points → used c ≡ earlier ++ p ∷ later → Equal (at_end r c p.time) (f p)
  at_a_point earlier p later s h e =
      equal_by (equal_from (end_by earlier p later p.time h e (omega arith))) (equal_by (s.by_value _ _ (near_equal (at_own f p.time (f p) later (rises_after p later earlier (rises_so _ h e))))) (settled s p))

  between_neighbours : (earlier : List Point) (p q : Point) (later : List Point) (t : ℕ) → Steady r → Rises c.points → used c ≡ earlier ++ p ∷ q ∷ later → p.time ≤ t → t ≤ q.time
      → (x : Fraction) × OnLine p.time (f p) q.time (f q) t x × Equal (at_end r c t) (r x)
  between_neighbours earlier p q later t s h e lo hi =
      let after = rises_after p (q ∷ later) earlier (rises_so _ h e) in
      (L f p.time (f p) (q ∷ later) t, near_equal (before_next f p.time (f p) q later t after.0 after.1 lo hi).is, equal_from (end_by earlier p (q ∷ later) t h e lo))

  pub level_after_last : (earlier : List Point) (last : Point) (t : ℕ) → Steady r → Rises c.points → used c ≡ earlier ++ last ∷ [] → last.time ≤ t → Equal (at_end r c t) (f last)
  level_after_last earlier last t s h e le = equal_by (equal_from (end_by earlier last [] t h e le)) (settled s last)

pub ends_of_windows : EndsOfWindows
ends_of_windows = record { at_a_point = at_a_point; between_neighbours = between_neighbours; level_after_last = level_after_last }

-- ---- values
-- the multiplier, and watts
watts : {x y : Fraction} (m : ℕ) → Near 0 x y → Near 0 (x · m ÷ 100) (y · m ÷ 100)
watts m h = near-÷ 100 (omega arith) (same-· m h)

-- a line that changes evenly
module _ (b k : ℤ) (f : Point → Fraction) where
  abbrev Even : Point → Type 0
  Even p = Near 0 (f p) (evenly b k p.time)

  module _ (last : Point) (later : List Point) where
    even_from : (t : ℕ) (v : Fraction) (between : List Point) (u : ℕ) → After t (between ++ last ∷ later) → t ≤ u → u ≤ last.time → Near 0 v (evenly b k t) → AllByRecursion Even (between ++ last ∷ [])
        → Near 0 (L f t v (between ++ last ∷ later) u) (evenly b k u)
    even_from t v [] u rises lo hi h all =
        elim (cases_lt u last.time) [
          | inl less ↦ near_from (pick u last.time _ _ less) (straight_even b k t last.time u lo less h all.0)
          | inr le ↦
              let same : last.time ≡ u = omega arith in
              near_from (skip u last.time _ _ le) (subst (λ (s : ℕ). Near 0 (L f last.time (f last) later s) (evenly b k s)) same (same_by (at_own f last.time (f last) later rises.1) all.0))
        ]
    even_from t v (q ∷ between) u rises lo hi h all =
        elim (cases_lt u q.time) [
          | inl less ↦ near_from (pick u q.time _ _ less) (straight_even b k t q.time u lo less h all.0)
          | inr le ↦ near_from (skip u q.time _ _ le) (even_from q.time (f q) between u rises.1 le hi all.0 all.1)
        ]

    even_inside : (s e l : ℕ) (between : List Point) → After l (between ++ last ∷ later) → e ≤ last.time → AllByRecursion Even (between ++ last ∷ []) → AllByRecursion Even (inside s e (between ++ last ∷ later))
    even_inside s e l [] rises hi all = subst (AllByRecursion Even) (sym (not_before_end s e last later hi ∙ none_later s e last.time later rises.1 hi)) tt
    even_inside s e l (q ∷ between) rises hi all = by (ltb s q.time && ltb q.time e) (even_inside s e q.time between rises.1 hi all.1)
      where
        by : (test : Bool) → AllByRecursion Even (inside s e (between ++ last ∷ later)) → AllByRecursion Even (cond test (q ∷ inside s e (between ++ last ∷ later)) (inside s e (between ++ last ∷ later)))
        by true rest = (all.0, rest)
        by false rest = rest

module _ (r : Rounding) (c : Case) where
  all_near : (b k : ℤ) (ps : List Point) → ChangeEvenly r c b k ps → AllByRecursion (Even b k (f r c)) ps
  all_near b k [] h = tt
  all_near b k (p ∷ ps) h = (equal_near h.0, all_near b k ps h.1)

  -- by the points inside, and by the average
  by_average : (w : Window) (ks : List Point) (x : Fraction) → Steady r → inside w.start w.end (used c) ≡ ks
      → Near 0 (average (λ (p : Point). p.time) (f r c) w.start (at_end r c w.start) ks w.end (at_end r c w.end)) x → IsTimes r c w x
  by_average w ks x s e h =
      rw (value_is r c w) (s.by_value _ _ (near_equal (watts w.multiplier (near_from (ap (λ (js : List Point). average (λ (p : Point). p.time) (f r c) w.start (at_end r c w.start) js w.end (at_end r c w.end)) e) h))))

  middle_between : (w : Window) (earlier : List Point) (p q : Point) (later : List Point) → Steady r → Rises c.points → used c ≡ earlier ++ p ∷ q ∷ later
      → p.time ≤ w.start → w.start < w.end → w.end ≤ q.time → IsTimes r c w ((at_end r c w.start ⊕ at_end r c w.end) ÷ 2)
  middle_between w earlier p q later s h e lo lt hi =
      let rises = rises_so r c _ h e in
      let after = rises_after p (q ∷ later) earlier rises in
      by_average w [] _ s
      (ap (inside w.start w.end) e ∙ inside_from p (q ∷ later) w.start w.end lo earlier rises ∙ not_before_end w.start w.end q later hi ∙ none_later w.start w.end q.time later after.1 hi)
      (half (at_end r c w.start ⊕ at_end r c w.end) (w.end - w.start) (omega arith))

  even_response : (w : Window) (b k : ℤ) (earlier : List Point) (first : Point) (between : List Point) (last : Point) (later : List Point) → Steady r → Rises c.points
      → used c ≡ earlier ++ (first ∷ between ++ last ∷ later) → ChangeEvenly r c b k (first ∷ between ++ last ∷ [])
      → first.time ≤ w.start → w.start < w.end → w.end ≤ last.time → IsTimes r c w ((evenly b k w.start ⊕ evenly b k w.end) ÷ 2)
  even_response w b k earlier first between last later s h e even lo lt hi =
      let rises = rises_so r c _ h e in
      let after = rises_after first (between ++ last ∷ later) earlier rises in
      let all = all_near b k (first ∷ between ++ last ∷ []) even in
      let end = λ (t : ℕ) (from : first.time ≤ t) (until : t ≤ last.time). same_by (near_from (end_by r c earlier first (between ++ last ∷ later) t h e from)
      (equal_near (s.by_value _ _ (near_equal (even_from b k (f r c) last later first.time (f r c first) between t after from until all.0 all.1))))) (equal_near (s.keeps_whole (b +ℤ k *ℤ pos t))) in
      let kept = inside w.start w.end (between ++ last ∷ later) in
      let same = ap (inside w.start w.end) e ∙ inside_from first (between ++ last ∷ later) w.start w.end lo earlier rises in
      by_average w kept _ s same
      (average_even b k (λ (p : Point). p.time) (f r c) w.start _ kept w.end _ lt
      (subst (λ (ks : List Point). Climbs (λ (p : Point). p.time) w.start ks w.end) same (inside_climbs w.start w.end (used c) (rises_used r c h) (omega arith)))
      (end w.start lo (omega arith)) (even_inside b k (f r c) last later w.start w.end first.time between after hi all.1) (end w.end (omega arith) hi))

  after_last : (w : Window) (earlier : List Point) (last : Point) → Steady r → Rises c.points → used c ≡ earlier ++ last ∷ [] → last.time ≤ w.start → w.start < w.end → IsTimes r c w (f r c last)
  after_last w earlier last s h e le lt =
      let start = equal_near (level_after_last r c earlier last w.start s h e le) in
      let end = equal_near (level_after_last r c earlier last w.end s h e (omega arith)) in
      by_average w [] _ s (ap (inside w.start w.end) e ∙ inside_from last [] w.start w.end le earlier (rises_so r c _ h e))
      (same_by (near-÷ (2 * (w.end - w.start)) (omega arith) (same-· (w.end - w.start) (same-⊕ start end))) (equal_near (average_level (f r c last) (λ (p : Point). p.time) w.start [] w.end lt (omega arith))))

-- an area over its length, times its length
over_length : (x : Fraction) (n m : ℕ) → 0 < n → Near 0 (x ÷ (2 * n) · m ÷ 100 · n) (x · m ÷ 200)
over_length x n m p = near_same (reads-· n (reads_by 100 (omega arith) (reads-· m (reads_by (2 * n) (omega arith) reads_self)))) (reads_by 200 (omega arith) (reads-· m reads_self)) (omega arith)

both_watts : (x y : Fraction) (m : ℕ) → Near 0 (x · m ÷ 200 ⊕ y · m ÷ 200) ((x ⊕ y) · m ÷ 200)
both_watts x y m = near_same (reads-⊕ (reads_by 200 (omega arith) (reads-· m reads_self)) (reads_by 200 (omega arith) (reads-· m reads_self))) (reads_by 200 (omega arith) (reads-· m (reads-⊕ reads_self reads_self))) (omega arith)

one_by_one : (x : Fraction) (m : ℕ) → Near 0 (x · m ÷ 100) (x · 1 ÷ 100 · m)
one_by_one x m = near_same (reads_by 100 (omega arith) (reads-· m reads_self)) (reads-· m (reads_by 100 (omega arith) (reads-· 1 reads_self))) (omega arith)

module _ (c : Case) (first : Point) (later : List Point) (m : ℕ) where
  abbrev g : Point → Fraction
  g p = compensated unrounded c p

  abbrev A : ℕ → ℕ → Fraction
  A s e = area g first.time (g first) later s e

  by_area : (s e : ℕ) → used c ≡ first ∷ later → first.time ≤ s → s < e → Near 0 (value unrounded c (window s e m) · (e - s)) (A s e · m ÷ 200)
  by_area s e is le lt =
      near_from (ap (λ (x : Fraction). x · (e - s)) (value_is unrounded c (window s e m)) ∙ ap (λ (us : List Point). value_of unrounded g us (window s e m) · (e - s)) is ∙ ap (λ (ks : List Point). average (λ (p : Point). p.time) g s (L g first.time (g first) later s) ks e (L g first.time (g first) later e) · m ÷ 100 · (e - s)) (not_after_start s e first later le))
      (over_length (A s e) (e - s) m (omega arith))

adjoining : (c : Case) (start middle end multiplier : ℕ) (first : Point) (later : List Point) → Rises c.points → used c ≡ first ∷ later → first.time ≤ start → start < middle → middle < end
    → Equal (value unrounded c (window start end multiplier) · (end - start))
    (value unrounded c (window start middle multiplier) · (middle - start) ⊕ value unrounded c (window middle end multiplier) · (end - middle))
adjoining c s n e m first later h is le lt lt' =
    let g = compensated unrounded c in
    let join = areas_join g later first.time (g first) (subst Rises is (rises_used unrounded c h)) s n e le (omega arith) (omega arith) in
    near_equal (near_sym (same_by (same-⊕ (by_area c first later m s n is le lt) (by_area c first later m n e is (omega arith) lt'))
    (same_by (both_watts _ _ m) (same_by (near-÷ 200 (omega arith) (same-· m join)) (near_sym (by_area c first later m s e is le (omega arith)))))))

pub values_of_windows : ValuesOfWindows
values_of_windows = record {
  between_neighbours = λ r c w earlier p q later. middle_between r c w earlier p q later;
  even_response = even_response;
  after_last = after_last;
  adjoining = adjoining;
  multiplied = λ c s e m. rw (value_is unrounded c (window s e m), value_is unrounded c (window s e 1)) (near_equal (one_by_one _ m));
}
