-- Where no early defect applies: what the base asks of the targets.
use Rattle.std.proofs.Common.{◌≡◌, ℕ, ◌<◌, List, [], ◌∷◌, length, get_or, subst, refl, inl, inr, arith}
use Rattle.std.specs.List.{AllByRecursion}
use Rattle.std.proofs.ByRecursion.{All-from_get_or}
use Rattle.std.proofs.lemmas.List.{get_or_default}
use Rattle.std.proofs.lemmas.Bool.{cases_lt}
use Rattle.timeline.specs.declared.target.Target.{Target}
use Rattle.figure.specs.declared.point.Point.{Point}
use Rattle.figure.specs.Defects.{Missed, MissedByTargets}
use Rattle.delivery.specs.Limits.{BeginsBy, RisingTargets, no_target}
use Rattle.delivery.proofs.Courses.{origin}
use Rattle.delivery.proofs.Ends.{all_up}

-- targets that rise and do not miss a time begin by it
module _ (gs : List Target) (rising : RisingTargets gs) where
  begun : (t : ℕ) → (0 < length gs → Missed gs t → ⊥) → BeginsBy (λ g. g.time) t gs
  begun t hit = by gs refl
    where
      by : (hs : List Target) → hs ≡ gs → BeginsBy (λ g. g.time) t hs
      by [] e = tt
      by (h ∷ hs) e = elim (cases_lt t h.time) [
        | inl lt ↦ absurd (hit (subst (λ (ks : List Target). 0 < length ks) e (omega arith)) (inl (all_up (λ g. g.time) no_target gs rising (λ (m : ℕ). t < m) (λ m n le less. omega arith) (subst (λ (ks : List Target). t < (get_or ks 0 no_target).time) e lt))))
        | inr le ↦ le
      ]

  module _ (T : ℕ) (ps : List Point) (hit : MissedByTargets gs T ps → ⊥) where
    pub at_disturbance : BeginsBy (λ g. g.time) T gs
    at_disturbance = begun T (λ some m. hit (some, inl m))

    pub at_each : AllByRecursion (λ p. BeginsBy (λ g. g.time) p.time gs) ps
    at_each = All-from_get_or (λ (p : Point). BeginsBy (λ (g : Target). g.time) p.time gs) ps origin
        (λ k lt. begun (get_or ps k origin).time (λ some m. hit (some, inr (k, lt, λ q. subst (λ (p : Point). Missed gs p.time) (get_or_default ps k origin q lt) m))))
