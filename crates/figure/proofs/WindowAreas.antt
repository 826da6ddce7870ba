-- The response along its straight lines, and the areas of windows that adjoin.
use Rattle.std.proofs.Common.{◌≡◌, ℕ, ◌+◌, ◌-◌, ◌<◌, ◌≤◌, Bool, true, false, cond, ◌&&◌, ltb, List, [], ◌∷◌, sym, refl, ap, ◌∙◌, subst, inl, inr, arith}
use Rattle.std.proofs.lemmas.Bool.{cases_lt, lt-ltb, le-ltb}
use Rattle.exact.specs.Fractions.{Fraction, ◌⊕◌, ◌·◌}
use Rattle.exact.specs.Lines.{line_from}
use Rattle.exact.specs.Averages.{trapezoids}
use Rattle.exact.proofs.Naturals.{reads_self, reads-⊕}
use Rattle.exact.proofs.Near.{Near, near_refl, near_same}
use Rattle.exact.proofs.Averages.{times_more}
use Rattle.exact.proofs.Segments.{near_sym, same_by, same-⊕, same-·, Scaled, scaled_first, scaled_second, scaled_as, scaled_same, scaled_straight, strips_join}
use Rattle.exact.proofs.Tests.{pick, skip}
use Rattle.figure.specs.declared.point.Point.{Point}
use Rattle.figure.specs.Points.{After}
use Rattle.figure.specs.Steps.{inside}

pub near_from : {x y z : Fraction} → x ≡ y → Near 0 y z → Near 0 x z
near_from {z = z} e h = subst (λ (a : Fraction). Near 0 a z) (sym e) h

-- a sum written in another way
written : {x x' y y' z z' : Fraction} → x ≡ x' → y ≡ y' → z ≡ z' → Near 0 (x' ⊕ y') z' → Near 0 (x ⊕ y) z
written {x} {x'} {y} {y'} {z} {z'} e e' e'' h = subst (λ (a : Fraction). Near 0 (a ⊕ y) z) (sym e) (subst (λ (a : Fraction). Near 0 (x' ⊕ a) z) (sym e') (subst (λ (a : Fraction). Near 0 (x' ⊕ y') a) (sym e'') h))

group_right : (x y z : Fraction) → Near 0 ((x ⊕ y) ⊕ z) (x ⊕ (y ⊕ z))
group_right x y z = near_same (reads-⊕ (reads-⊕ reads_self reads_self) reads_self) (reads-⊕ reads_self (reads-⊕ reads_self reads_self)) (omega arith)

-- ---- the points inside a window, one by one
module _ (s e : ℕ) (p : Point) (ps : List Point) where
  by_test : (b : Bool) → (ltb s p.time && ltb p.time e) ≡ b → inside s e (p ∷ ps) ≡ cond b (p ∷ inside s e ps) (inside s e ps)
  by_test b h = ap (λ (x : Bool). cond x (p ∷ inside s e ps) (inside s e ps)) h

  pub in_between : s < p.time → p.time < e → inside s e (p ∷ ps) ≡ p ∷ inside s e ps
  in_between lo hi = by_test true (ap (λ (x : Bool). x && ltb p.time e) (lt-ltb s p.time lo) ∙ lt-ltb p.time e hi)

  pub not_after_start : p.time ≤ s → inside s e (p ∷ ps) ≡ inside s e ps
  not_after_start le = by_test false (ap (λ (x : Bool). x && ltb p.time e) (le-ltb s p.time le))

  pub not_before_end : e ≤ p.time → inside s e (p ∷ ps) ≡ inside s e ps
  not_before_end le = by_test false (ap (λ (x : Bool). ltb s p.time && x) (le-ltb p.time e le) ∙ none (ltb s p.time))
    where
      none : (x : Bool) → (x && false) ≡ false
      none true = refl
      none false = refl

pub none_later : (s e l : ℕ) (ps : List Point) → After l ps → e ≤ l → inside s e ps ≡ []
none_later s e l [] h le = refl
none_later s e l (p ∷ ps) h le = not_before_end s e p ps (omega (arith, h.0)) ∙ none_later s e p.time ps h.1 (omega (arith, h.0))

-- from any start before them
same_later : (s m e l : ℕ) (ps : List Point) → After l ps → s ≤ l → m ≤ l → inside s e ps ≡ inside m e ps
same_later s m e l [] h a b = refl
same_later s m e l (p ∷ ps) h a b =
    let rest = same_later s m e p.time ps h.1 (omega (arith, h.0)) (omega (arith, h.0)) in
    elim (cases_lt p.time e) [
      | inl hi ↦ in_between s e p ps (omega (arith, h.0)) hi ∙ ap (λ (ks : List Point). p ∷ ks) rest ∙ sym (in_between m e p ps (omega (arith, h.0)) hi)
      | inr le ↦ not_before_end s e p ps le ∙ rest ∙ sym (not_before_end m e p ps le)
    ]

-- ---- a response f from point to point
module _ (f : Point → Fraction) where
  abbrev pub L : ℕ → Fraction → List Point → ℕ → Fraction
  L t v ps u = line_from (λ (p : Point). p.time) f t v ps u

  abbrev pub strips : ℕ → Fraction → List Point → ℕ → Fraction → Fraction
  strips t v ks t' v' = trapezoids (λ (p : Point). p.time) f t v ks t' v'

  -- on its line
  pub at_own : (t : ℕ) (v : Fraction) (ps : List Point) → After t ps → Near 0 (L t v ps t) v
  at_own t v [] h = near_refl
  at_own t v (p ∷ ps) h = near_from (pick t p.time _ _ h.0) (scaled_same {D = p.time - t} (omega (arith, h.0)) refl (omega arith) (scaled_straight t p.time t v (f p) h.0 (omega arith) (omega (arith, h.0))) scaled_first)

  pub before_next : (t : ℕ) (v : Fraction) (p : Point) (ps : List Point) (u : ℕ) → t < p.time → After p.time ps → t ≤ u → u ≤ p.time → Scaled (p.time - t) v (f p) (L t v (p ∷ ps) u) (p.time - u) (u - t)
  before_next t v p ps u lt h after until =
      elim (cases_lt u p.time) [
        | inl less ↦ scaled_as (near_from (pick u p.time _ _ less) near_refl) (scaled_straight t p.time u v (f p) lt after until)
        | inr le ↦
            let same : p.time ≡ u = omega arith in
            let z : 0 ≡ p.time - p.time = omega arith in
            let own = scaled_as (near_from (skip p.time p.time _ _ (omega arith)) (at_own p.time (f p) ps h)) (scaled_second {D = p.time - t} {v = v}) in
            subst (λ (s : ℕ). Scaled (p.time - t) v (f p) (L t v (p ∷ ps) s) (p.time - s) (s - t)) same (subst (λ (n : ℕ). Scaled (p.time - t) v (f p) (L t v (p ∷ ps) p.time) n (p.time - t)) z own)
      ]

  -- trapezoids between values that are the same
  strips_as : (t : ℕ) {v w : Fraction} (ks : List Point) (t' : ℕ) {v' w' : Fraction} → Near 0 v w → Near 0 v' w' → Near 0 (strips t v ks t' v') (strips t w ks t' w')
  strips_as t [] t' h h' = same-· (t' - t) (same-⊕ h h')
  strips_as t (a ∷ ks) t' h h' = same-⊕ (same-· (a.time - t) (same-⊕ h near_refl)) (strips_as a.time ks t' near_refl h')

  strips_at : (t : ℕ) {v w : Fraction} {ks js : List Point} (t' : ℕ) {v' w' : Fraction} → v ≡ w → ks ≡ js → v' ≡ w' → strips t v ks t' v' ≡ strips t w js t' w'
  strips_at t {v} {w} {ks} {js} t' {v'} {w'} h k h' = ap (λ (x : Fraction). strips t x ks t' v') h ∙ ap (λ (xs : List Point). strips t w xs t' v') k ∙ ap (λ (x : Fraction). strips t w js t' x) h'

  abbrev pub area : ℕ → Fraction → List Point → ℕ → ℕ → Fraction
  area t v ps s e = strips s (L t v ps s) (inside s e ps) e (L t v ps e)

  -- the next point is p
  module _ (t : ℕ) (v : Fraction) (p : Point) (ps : List Point) (lt : t < p.time) (h : After p.time ps) where
    passed : (s e : ℕ) → p.time ≤ s → s ≤ e → area t v (p ∷ ps) s e ≡ area p.time (f p) ps s e
    passed s e le until = strips_at s e (skip s p.time _ _ le) (not_after_start s e p ps le) (skip e p.time _ _ (omega arith))

    short : (s e : ℕ) → e ≤ p.time → area t v (p ∷ ps) s e ≡ (L t v (p ∷ ps) s ⊕ L t v (p ∷ ps) e) · (e - s)
    short s e le = strips_at s e refl (not_before_end s e p ps le ∙ none_later s e p.time ps h le) refl

    over : (s e : ℕ) → s < p.time → p.time < e → area t v (p ∷ ps) s e ≡ (L t v (p ∷ ps) s ⊕ f p) · (p.time - s) ⊕ strips p.time (f p) (inside s e ps) e (L t v (p ∷ ps) e)
    over s e lo hi = strips_at s e refl (in_between s e p ps lo hi) refl

    onwards : (s u : ℕ) → s ≤ p.time → p.time ≤ u → Near 0 (strips p.time (f p) (inside s u ps) u (L t v (p ∷ ps) u)) (area p.time (f p) ps p.time u)
    onwards s u lo le = near_from (strips_at p.time u refl (same_later s p.time u p.time ps h lo (omega arith)) (skip u p.time _ _ le))
        (strips_as p.time (inside p.time u ps) u (near_sym (at_own p.time (f p) ps h)) near_refl)

    on : (u : ℕ) → t ≤ u → u ≤ p.time → Scaled (p.time - t) v (f p) (L t v (p ∷ ps) u) (p.time - u) (u - t)
    on u after until = before_next t v p ps u lt h after until

    -- all before p
    join_short : (s m e : ℕ) → t ≤ s → s ≤ m → m ≤ e → e ≤ p.time → Near 0 (area t v (p ∷ ps) s m ⊕ area t v (p ∷ ps) m e) (area t v (p ∷ ps) s e)
    join_short s m e a b c d =
        let n : (m - s) + (e - m) ≡ e - s = omega arith in
        written (short s m (omega arith)) (short m e d) (short s e d ∙ ap (λ (k : ℕ). (L t v (p ∷ ps) s ⊕ L t v (p ∷ ps) e) · k) (sym n))
        (strips_join (m - s) (e - m) (omega arith) (omega arith) (omega arith) (omega arith) (omega arith) (on s a (omega arith)) (on m (omega arith) (omega arith)) (on e (omega arith) d))

    -- p stands between the meeting and the end
    join_late : (s m e : ℕ) → t ≤ s → s ≤ m → m < p.time → p.time < e → Near 0 (area t v (p ∷ ps) s m ⊕ area t v (p ∷ ps) m e) (area t v (p ∷ ps) s e)
    join_late s m e a b c d =
        let n : (m - s) + (p.time - m) ≡ p.time - s = omega arith in
        let rest = strips p.time (f p) (inside s e ps) e (L t v (p ∷ ps) e) in
        let same : strips p.time (f p) (inside m e ps) e (L t v (p ∷ ps) e) ≡ rest = strips_at p.time e refl (same_later m s e p.time ps h (omega arith) (omega arith)) refl in
        let join = strips_join (m - s) (p.time - m) (omega arith) (omega arith) (omega arith) (omega arith) (omega arith) (on s a (omega arith)) (on m (omega arith) (omega arith)) (scaled_second {D = p.time - t} {v = v} {w = f p}) in
        written (short s m (omega arith)) (over m e c d ∙ ap (λ (x : Fraction). (L t v (p ∷ ps) m ⊕ f p) · (p.time - m) ⊕ x) same)
        (over s e (omega arith) d ∙ ap (λ (k : ℕ). (L t v (p ∷ ps) s ⊕ f p) · k ⊕ rest) (sym n))
        (same_by (near_sym (group_right ((L t v (p ∷ ps) s ⊕ L t v (p ∷ ps) m) · (m - s)) ((L t v (p ∷ ps) m ⊕ f p) · (p.time - m)) rest)) (same-⊕ join (near_refl {x = rest})))

    -- p stands on the meeting
    join_on : (s e : ℕ) → t ≤ s → s < p.time → p.time < e → Near 0 (area t v (p ∷ ps) s p.time ⊕ area t v (p ∷ ps) p.time e) (area t v (p ∷ ps) s e)
    join_on s e a b d =
        let own : Near 0 (L t v (p ∷ ps) p.time) (f p) = near_from (skip p.time p.time _ _ (omega arith)) (at_own p.time (f p) ps h) in
        written (short s p.time (omega arith)) (passed p.time e (omega arith) (omega arith)) (over s e b d)
        (same-⊕ (same-· (p.time - s) (same-⊕ near_refl own)) (near_sym (onwards s e (omega arith) (omega arith))))

    -- p stands between the start and the meeting
    join_early : (s m e : ℕ) → t ≤ s → s < p.time → p.time < m → m ≤ e → Near 0 (area p.time (f p) ps p.time m ⊕ area p.time (f p) ps m e) (area p.time (f p) ps p.time e)
        → Near 0 (area t v (p ∷ ps) s m ⊕ area t v (p ∷ ps) m e) (area t v (p ∷ ps) s e)
    join_early s m e a b c d ih =
        let rest : Near 0 (strips p.time (f p) (inside s m ps) m (L t v (p ∷ ps) m) ⊕ area p.time (f p) ps m e) (strips p.time (f p) (inside s e ps) e (L t v (p ∷ ps) e)) =
        same_by (same-⊕ (onwards s m (omega arith) (omega arith)) near_refl) (same_by ih (near_sym (onwards s e (omega arith) (omega arith)))) in
        written (over s m b c) (passed m e (omega arith) d) (over s e b (omega arith)) (same_by (group_right _ _ _) (same-⊕ near_refl rest))

  pub areas_join : (ps : List Point) (t : ℕ) (v : Fraction) → After t ps → (s m e : ℕ) → t ≤ s → s ≤ m → m ≤ e → Near 0 (area t v ps s m ⊕ area t v ps m e) (area t v ps s e)
  areas_join [] t v h s m e a b c = times_more (v ⊕ v) (m - s) (e - m) (e - s) (omega arith)
  areas_join (p ∷ ps) t v h s m e a b c =
      elim (cases_lt s p.time) [
        | inr le ↦ written (passed t v p ps h.0 h.1 s m le b) (passed t v p ps h.0 h.1 m e (omega arith) c) (passed t v p ps h.0 h.1 s e le (omega arith)) (areas_join ps p.time (f p) h.1 s m e le b c)
        | inl lo ↦ elim (cases_lt p.time e) [
          | inr hi ↦ join_short t v p ps h.0 h.1 s m e a b c hi
          | inl hi ↦ elim (cases_lt m p.time) [
            | inl late ↦ join_late t v p ps h.0 h.1 s m e a b late hi
            | inr le ↦ elim (cases_lt p.time m) [
              | inl early ↦ join_early t v p ps h.0 h.1 s m e a lo early c (areas_join ps p.time (f p) h.1 p.time m e (omega arith) le c)
              | inr le' ↦ let same : p.time ≡ m = omega arith in subst (λ (n : ℕ). Near 0 (area t v (p ∷ ps) s n ⊕ area t v (p ∷ ps) n e) (area t v (p ∷ ps) s e)) same (join_on t v p ps h.0 h.1 s e a lo hi)
            ]
          ]
        ]
      ]
