-- One pass over the points finds the ends of a window and its area.
use Rattle.std.proofs.Common.{◌≡◌, ℕ, ◌+◌, ◌-◌, ◌*◌, ◌<◌, ◌≤◌, max, Bool, true, false, cond, ◌&&◌, ltb, List, [], ◌∷◌, length, drop, ℤ, pos, ◌+ℤ◌, ◌*ℤ◌, sym, refl, ap, ◌∙◌, subst, inl, inr, arith}
use Rattle.std.specs.List.{AllByRecursion}
use Rattle.std.proofs.lemmas.List.{drop_all}
use Rattle.std.proofs.lemmas.Bool.{ltb-true, ltb-false, cases_lt, cond_both}
use Rattle.exact.specs.Fractions.{whole}
use Rattle.exact.specs.Rounding.{half_up}
use Rattle.exact.specs.Lines.{straight, line_from}
use Rattle.exact.specs.Limits.{Within}
use Rattle.exact.proofs.Tests.{pick, skip}
use Rattle.exact.proofs.Wholes.{half_up_straight, half_up_of_whole, straight_within, at_start, at_end}
use Rattle.exact.proofs.Limits.{half_up_within, within_in}
use Rattle.figure.specs.declared.point.Point.{Point}
use Rattle.figure.specs.Points.{After, Rises}
use Rattle.figure.specs.Steps.{inside}
use Rattle.delivery.specs.Limits.{BeginsBy, widest_response, widest_strip}
use Rattle.delivery.specs.Areas.{end_of, area_of}
use Rattle.delivery.proofs.Courses.{after_all, after_strict, begins_later}
use Rattle.delivery.proofs.Reach.{Reached}
use Rattle.delivery.proofs.Reach as reach
use Rattle.delivery.proofs.Summing.{Summed}
use Rattle.delivery.proofs.Summing as summing

-- ---- the line's limit
line_from_within : (A : ℕ) (z : Point → ℤ) (u t : ℕ) (v : ℤ) (ks : List Point) → t ≤ u → Within A v → AllByRecursion (λ p. Within A (z p)) ks → Within A (half_up (line_from (λ p. p.time) (λ p. whole (z p)) t (whole v) ks u))
line_from_within A z u t v [] le h k = subst (Within A) (sym (half_up_of_whole v)) h
line_from_within A z u t v (p ∷ ks) le h k = cond_both (ltb u p.time) _ _ (λ x. Within A (half_up x))
    (λ e. let lt = ltb-true u p.time e in
    subst (Within A) (sym (half_up_straight t p.time u v (z p) (omega arith))) (half_up_within A (p.time - t) _ (omega arith) (straight_within A t p.time u v (z p) le (omega arith) h k.0)))
    (λ e. line_from_within A z u p.time (z p) ks (ltb-false u p.time e) k.0 k.1)

line_within : (A : ℕ) (z : Point → ℤ) (u : ℕ) (ks : List Point) → BeginsBy (λ p. p.time) u ks → AllByRecursion (λ p. Within A (z p)) ks → Within A (end_of z ks u)
line_within A z u [] h k = subst (Within A) (sym (half_up_of_whole (pos 0))) (within_in (omega arith) (omega arith))
line_within A z u (p ∷ ks) h k = line_from_within A z u p.time (z p) ks h k.0 k.1

-- a line at the time of its first point, the next being later
level_first : (z : Point → ℤ) (t : ℕ) (v : ℤ) (ks : List Point) → AllByRecursion (λ p. t < p.time) ks → half_up (line_from (λ p. p.time) (λ p. whole (z p)) t (whole v) ks t) ≡ v
level_first z t v [] h = half_up_of_whole v
level_first z t v (p ∷ ks) h = ap half_up (pick t p.time _ _ h.0) ∙ at_start t p.time v (z p) h.0

none_inside : (a b : ℕ) (ks : List Point) → AllByRecursion (λ p. b ≤ p.time) ks → inside a b ks ≡ []
none_inside a b [] h = refl
none_inside a b (p ∷ ks) h = out (ltb a p.time) ∙ none_inside a b ks h.1
  where
    out : (x : Bool) → cond (x && ltb p.time b) (p ∷ inside a b ks) (inside a b ks) ≡ inside a b ks
    out true = skip p.time b _ _ h.0
    out false = refl

-- after i points, the last of them v1 at t1; level is the line's value at the later of a and t1
pub record Walk (z : Point → ℤ) (ps : List Point) (a b i t1 : ℕ) (v1 sum : ℤ) : Type 0 where
  pub onto : Reached widest_response (λ p. p.time) z ps b i t1 v1
  pub level : ℤ
  pub summed : Summed z ps a b (end_of z ps a) (end_of z ps b) i (max a t1) level sum
  pub before : t1 ≤ a → Reached widest_response (λ p. p.time) z ps a i t1 v1 × (level ≡ end_of z ps a)
  pub after : a < t1 → (level ≡ v1) × AllByRecursion (λ p. t1 < p.time) (drop i ps)

abbrev At : (z : Point → ℤ) (ps : List Point) (a b i t0 : ℕ) (x sum : ℤ) → Type 0
At z ps a b i t0 x sum = Summed z ps a b (end_of z ps a) (end_of z ps b) i t0 x sum

pub start : (z : Point → ℤ) (ps : List Point) (a b : ℕ) → a < b → Rises ps → AllByRecursion (λ p. Within widest_response (z p)) ps → BeginsBy (λ p. p.time) a ps → Walk z ps a b 0 0 (pos 0) (pos 0)
start z ps a b lt r w h = record {
  onto = reach.start (λ p. p.time) z ps b (begins_later (λ p. p.time) a b ps (omega arith) h);
  level = end_of z ps a;
  summed = subst (λ (t : ℕ). At z ps a b 0 t (end_of z ps a) (pos 0)) (omega arith) (summing.start z ps a b (end_of z ps a) (end_of z ps b) r (omega arith) (line_within widest_response z a ps h w));
  before = λ _. (reach.start (λ p. p.time) z ps a h, refl);
  after = λ k. absurd (omega arith);
}

-- the next point is p, and v its value
pub record Here (z : Point → ℤ) (ps : List Point) (a b i t1 : ℕ) (v1 sum : ℤ) (p : Point) (v : ℤ) : Type 0 where
  pub forward : a < b
  pub walked : Walk z ps a b i t1 v1 sum
  pub next : drop i ps ≡ p ∷ drop (i + 1) ps
  pub value : v ≡ z p
  pub within : Within widest_response v

module _ {z : Point → ℤ} {ps : List Point} {a b i t1 : ℕ} {v1 sum : ℤ} {p : Point} {v : ℤ} (here : Here z ps a b i t1 v1 sum p v) where
  abbrev h : Walk z ps a b i t1 v1 sum
  h = here.walked

  opens : drop i ps ≡ p ∷ drop (i + 1) ps
  opens = here.next

  after_here : a < t1 → t1 < p.time
  after_here k = (subst (AllByRecursion (λ (p : Point). t1 < p.time)) opens (h.after k).1).0

  rest : After p.time (drop (i + 1) ps)
  rest = summing.later z ps a b _ _ i _ _ _ h.summed p opens

  -- p is not after the start
  module _ (le : p.time ≤ a) where
    early : t1 ≤ a
    early = elim (cases_lt a t1) [ inl k ↦ absurd (omega (arith, after_here k)) | inr k ↦ k ]

    pub not_yet : Walk z ps a b (i + 1) p.time v sum
    not_yet = let q = h.before early in let t = early in
        record {
          onto = reach.turn (λ p. p.time) z ps b i t1 v1 h.onto p opens v here.value (omega arith) here.within;
          level = h.level;
          summed = subst (λ (t : ℕ). At z ps a b (i + 1) t h.level sum) (omega arith) (summing.passed z ps a b _ _ i _ _ _ h.summed p opens le);
          before = λ _. (reach.turn (λ p. p.time) z ps a i t1 v1 q.0 p opens v here.value le here.within, q.1);
          after = λ k. absurd (omega arith);
        }

  -- p is after the start; t0 is the later of a and t1
  module _ (lo : a < p.time) {t0 : ℕ} (et : t0 ≡ max a t1) where
    pub ahead : t0 < p.time
    ahead = omega (arith, (summing.here z ps a b _ _ i _ _ _ h.summed p opens).0 lo)

    pub upto : t0 ≤ b
    upto = omega (arith, h.summed.upto)

    abbrev value_at : ℕ → ℤ
    value_at u = half_up (straight t1 (whole v1) p.time (whole v) u)

    value_there : value_at t0 ≡ h.level
    value_there = elim (cases_lt a t1) [
      | inl k ↦ let q : t0 ≡ t1 = omega arith in let k' : t1 < p.time = omega (arith, ahead) in
          subst (λ (u : ℕ). value_at u ≡ h.level) (sym q) (at_start t1 p.time v1 v k' ∙ sym (h.after k).0)
      | inr k ↦ let q : t0 ≡ a = omega arith in
          subst (λ (u : ℕ). value_at u ≡ h.level) (sym q) (ap half_up (reach.found (λ p. p.time) z ps a i t1 v1 (h.before k).0 p opens v here.value lo) ∙ sym (h.before k).1)
    ]

    -- y is the line's value at t0
    module _ {y : ℤ} (ey : y ≡ half_up (straight t1 (whole v1) p.time (whole v) t0)) where
      y_is : y ≡ h.level
      y_is = ey ∙ value_there

      -- p is before the end
      pub turn : p.time < b → Walk z ps a b (i + 1) p.time v (sum +ℤ (y +ℤ v) *ℤ pos (p.time - t0))
      turn hi =
          let g : sum +ℤ (h.level +ℤ v) *ℤ pos (p.time - max a t1) ≡ sum +ℤ (y +ℤ v) *ℤ pos (p.time - t0) = rw (y_is, et) refl in
          record {
            onto = reach.turn (λ p. p.time) z ps b i t1 v1 h.onto p opens v here.value (omega arith) here.within;
            level = v;
            summed = subst (λ (t : ℕ). At z ps a b (i + 1) t v (sum +ℤ (y +ℤ v) *ℤ pos (p.time - t0))) (omega arith)
                (subst (λ (x : ℤ). At z ps a b (i + 1) p.time v x) g (summing.turn z ps a b _ _ i _ _ _ h.summed p opens lo hi v here.value here.within));
            before = λ k. absurd (omega arith);
            after = λ k. (refl, after_strict _ _ rest);
          }

      -- p is at the end or after it; x is the line's value there
      module _ (hi : b ≤ p.time) {x : ℤ} (ex : x ≡ half_up (straight t1 (whole v1) p.time (whole v) b)) where
        last_is : x ≡ end_of z ps b
        last_is = ex ∙ elim (cases_lt b p.time) [
          | inl k ↦ ap half_up (reach.found (λ p. p.time) z ps b i t1 v1 h.onto p opens v here.value k)
          | inr k ↦
              let same : p.time ≡ b = omega arith in
              let k' : t1 < p.time = omega (arith, ahead) in
              let next = reach.turn (λ p. p.time) z ps b i t1 v1 h.onto p opens v here.value k here.within in
              subst (λ (u : ℕ). value_at u ≡ v) same (at_end t1 p.time v1 v k')
              ∙ sym (subst (λ (u : ℕ). half_up (line_from (λ p. p.time) (λ p. whole (z p)) p.time (whole v) (drop (i + 1) ps) u) ≡ v) same (level_first z p.time v (drop (i + 1) ps) (after_strict _ _ rest)))
              ∙ ap half_up next.same
        ]

        no_more : inside a b (drop i ps) ≡ []
        no_more = ap (inside a b) opens ∙ none_inside a b (p ∷ drop (i + 1) ps) (hi, after_all _ _ rest b hi)

        parts : sum +ℤ (y +ℤ x) *ℤ pos (b - t0) ≡ sum +ℤ (h.level +ℤ end_of z ps b) *ℤ pos (b - max a t1)
        parts = rw (y_is, last_is, et) refl

        pub stop : sum +ℤ (y +ℤ x) *ℤ pos (b - t0) ≡ area_of z ps a b
        stop = parts ∙ summing.end z ps a b _ _ i _ _ _ h.summed no_more

        pub stop_within : Within widest_response x → Within (widest_strip * (b - a)) (sum +ℤ (y +ℤ x) *ℤ pos (b - t0))
        stop_within k = subst (Within (widest_strip * (b - a))) (sym parts) (summing.end_within z ps a b _ _ i _ _ _ h.summed (subst (Within widest_response) last_is k))

-- after the last point
module _ {z : Point → ℤ} {ps : List Point} {a b i t1 : ℕ} {v1 sum : ℤ} (h : Walk z ps a b i t1 v1 sum) (le : length ps ≤ i) {t0 : ℕ} (et : t0 ≡ max a t1) where
  pub end_upto : t0 ≤ b
  end_upto = omega (arith, h.summed.upto)

  level_is : h.level ≡ v1
  level_is = elim (cases_lt a t1) [ inl k ↦ (h.after k).0 | inr k ↦ (h.before k).1 ∙ sym (reach.level (λ p. p.time) z ps a i t1 v1 (h.before k).0 le) ]

  end_is : v1 ≡ end_of z ps b
  end_is = reach.level (λ p. p.time) z ps b i t1 v1 h.onto le

  parts_end : sum +ℤ (h.level +ℤ end_of z ps b) *ℤ pos (b - max a t1) ≡ sum +ℤ (v1 +ℤ v1) *ℤ pos (b - t0)
  parts_end = rw (level_is, ← end_is, et) refl

  pub done : sum +ℤ (v1 +ℤ v1) *ℤ pos (b - t0) ≡ area_of z ps a b
  done = sym parts_end ∙ summing.end z ps a b _ _ i _ _ _ h.summed (ap (inside a b) (drop_all i ps le))

  pub done_within : Within (widest_strip * (b - a)) (sum +ℤ (v1 +ℤ v1) *ℤ pos (b - t0))
  done_within = subst (Within (widest_strip * (b - a))) parts_end (summing.end_within z ps a b _ _ i _ _ _ h.summed (subst (Within widest_response) end_is h.onto.within))
