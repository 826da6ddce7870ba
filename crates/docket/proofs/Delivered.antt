-- The disturbance that is worked out of sound samples is theirs, and no other is.
use Rattle.std.proofs.Common.{◌≡◌, List, Some, sym, subst}
use Rattle.recording.specs.declared.sample.Sample.{Sample}
use Rattle.disturbance.specs.declared.disturbance.Disturbance.{Disturbance}
use Rattle.disturbance.specs.Disturbance.{Disturbed, Answers, disturbance_of}
use Rattle.disturbance.specs.Trace.{Sound}
use Rattle.disturbance.proofs.Found.{disturbance_laws_lem}

pub disturbed : (xs : List Sample) (d : Disturbance) → Sound xs → disturbance_of xs ≡ Some d → Disturbed xs d
disturbed xs d sound found = subst (Answers xs) found (disturbance_laws_lem.answers xs sound)

pub found_in : (xs : List Sample) (d : Disturbance) → Sound xs → Disturbed xs d → disturbance_of xs ≡ Some d
found_in xs d sound is = sym (disturbance_laws_lem.only xs (Some d) sound is)
