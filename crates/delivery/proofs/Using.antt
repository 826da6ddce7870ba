-- The points that are used are the first ones.
use Rattle.std.proofs.Common.{◌≡◌, ℕ, zero, suc, ◌+◌, ◌-◌, ◌≤◌, Bool, true, false, cond, ltb, List, [], ◌∷◌, length, get_or, take, Some, None, Option, sym, refl, ap, ◌∙◌, subst, arith}
use Rattle.std.specs.List.{AllByRecursion, AllWithin}
use Rattle.std.specs.List.Sorted.{IsNonDecreasingBy}
use Rattle.std.proofs.lemmas.List.{get_or_default}
use Rattle.std.proofs.lemmas.Bool.{ltb-false}
use Rattle.exact.proofs.Tests.{skip}
use Rattle.recording.specs.declared.sample.Sample.{Sample}
use Rattle.disturbance.specs.declared.direction.Direction.{Direction}
use Rattle.disturbance.specs.Trace.{Rising}
use Rattle.figure.specs.declared.point.Point.{Point}
use Rattle.figure.specs.Points.{turned, course, Rises}
use Rattle.figure.specs.Steps.{used_points}
use Rattle.delivery.specs.Limits.{BeginsBy}
use Rattle.delivery.proofs.Courses.{after_all}
use Rattle.delivery.proofs.Ends.{climbs}
use Rattle.delivery.proofs.Reaching.{nothing}

pub all_used : (ps : List Point) → used_points None ps ≡ ps
all_used [] = refl
all_used (p ∷ ps) = ap (λ (ks : List Point). p ∷ ks) (all_used ps)

-- times that strictly rise do not fall
pub times_rise : (xs : List Sample) → Rising xs → IsNonDecreasingBy (λ s. s.time) xs
times_rise xs h i j d le lt =
    let here : get_or xs i nothing ≡ get_or xs i d = get_or_default xs i nothing d (omega arith) in
    let there : get_or xs (i + (j - i)) nothing ≡ get_or xs j d = ap (λ (k : ℕ). get_or xs k nothing) (omega arith) ∙ get_or_default xs j nothing d lt in
    let up = climbs (λ s. s.time) nothing xs h i (j - i) (omega arith) in
    subst (λ (s : Sample). s.time ≤ (get_or xs j d).time) here (subst (λ (s : Sample). (get_or xs i nothing).time ≤ s.time) there up)

-- u is the time of recovery
module _ (u : ℕ) where
  none_used : (ps : List Point) → AllByRecursion (λ p. u ≤ p.time) ps → used_points (Some u) ps ≡ []
  none_used [] h = refl
  none_used (p ∷ ps) h = skip p.time u _ _ h.0 ∙ none_used ps h.1

  -- the samples up to place r stand before u, and no other
  pub first_used : (d : Direction) (xs : List Sample) (r : ℕ) → AllWithin (λ s. ltb s.time u ≡ true) xs 0 r → AllWithin (λ s. ltb s.time u ≡ false) xs r (length xs) → course d (take r xs) ≡ used_points (Some u) (course d xs)
  first_used d [] zero h k = refl
  first_used d [] (suc r) h k = refl
  first_used d (x ∷ xs) zero h k =
      first_used d xs zero (λ i e lo hi. absurd (omega arith)) (λ i e lo hi. k (suc i) e (omega arith) (omega arith))
      ∙ sym (ap (λ (b : Bool). cond b (turned d x ∷ used_points (Some u) (course d xs)) (used_points (Some u) (course d xs))) (k zero x (omega arith) (omega arith)))
  first_used d (x ∷ xs) (suc r) h k =
      ap (λ (ks : List Point). turned d x ∷ ks) (first_used d xs r (λ i e lo hi. h (suc i) e (omega arith) (omega arith)) (λ i e lo hi. k (suc i) e (omega arith) (omega arith)))
      ∙ sym (ap (λ (b : Bool). cond b (turned d x ∷ used_points (Some u) (course d xs)) (used_points (Some u) (course d xs))) (h zero x (omega arith) (omega arith)))

  begins_before : (t : ℕ) (ps : List Point) → Rises ps → BeginsBy (λ p. p.time) t ps → BeginsBy (λ p. p.time) t (used_points (Some u) ps)
  begins_before t [] r h = tt
  begins_before t (p ∷ ps) r h = by (ltb p.time u) refl
    where
      by : (b : Bool) → ltb p.time u ≡ b → BeginsBy (λ p. p.time) t (cond b (p ∷ used_points (Some u) ps) (used_points (Some u) ps))
      by true e = h
      by false e = subst (BeginsBy (λ (p : Point). p.time) t) (sym (none_used ps (after_all p.time ps r u (ltb-false p.time u e)))) tt

-- what is used begins as early
pub begins_used : (recovery : Option ℕ) (t : ℕ) (ps : List Point) → Rises ps → BeginsBy (λ p. p.time) t ps → BeginsBy (λ p. p.time) t (used_points recovery ps)
begins_used None t ps r h = subst (BeginsBy (λ (p : Point). p.time) t) (sym (all_used ps)) h
begins_used (Some u) t ps r h = begins_before u t ps r h
