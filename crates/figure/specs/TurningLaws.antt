-- Low and high are treated alike: what is asked and its mirror image have one answer.
use Rattle.std.specs.Prelude.{◌≡◌, ℕ, ◌↔◌, List, map, neg_ℤ, Result}
use Rattle.exact.specs.Fractions.{Fraction}
use Rattle.recording.specs.declared.refusal.Refusal.{Refusal}
use Rattle.recording.specs.declared.sample.Sample.{Sample}
use Rattle.timeline.specs.declared.target.Target.{Target}
use Rattle.timeline.specs.Orders.{Sound}
use Rattle.timeline.specs.Targets.{targets}
use Rattle.disturbance.specs.declared.direction.Direction.{Direction}
use Rattle.disturbance.specs.declared.disturbance.Disturbance.{Disturbance}
use Rattle.disturbance.specs.Passing.{turned}
use Rattle.disturbance.specs.Turning.{Mirrorable, mirrored_record, opposite}
use Rattle.response.specs.declared.service.Side.{Side}
use Rattle.response.specs.declared.service.Side.TheVariants.{Raise, Lower}
use Rattle.response.specs.declared.service.Service.{Service}
use Rattle.response.specs.declared.service.Service.TheVariants.{R6, R60, R5, L6, L60, L5}
use Rattle.response.specs.Services.{direction_of, listed}
use Rattle.figure.specs.declared.point.Point.{Point}
use Rattle.figure.specs.declared.report.Report.{Report}
use Rattle.figure.specs.Points.{course}
use Rattle.figure.specs.Steps.{Rounding, Case, trajectory, base_push}
use Rattle.figure.specs.Asked.{Asked, for_service}
use Rattle.figure.specs.Exactness.{ExactDelivery}
use Rattle.figure.specs.Reports.{Delivers}

-- a target, mirrored: at the same time the power the other way
abbrev pub mirrored_target : Target → Target
mirrored_target g = record { time = g.time; power = neg_ℤ g.power }

abbrev pub mirrored_targets : List Target → List Target
mirrored_targets gs = map mirrored_target gs

-- a case in the other direction, with the mirrored targets
abbrev pub with_mirrored_targets : Case → Case
with_mirrored_targets c = record c { direction = turned c.direction; targets = mirrored_targets c.targets }

-- the other side
abbrev pub other_side : Side → Side
other_side Raise = Lower
other_side Lower = Raise

-- the service of the other side with the same windows
abbrev pub other_service : Service → Service
other_service R6 = L6
other_service R60 = L60
other_service R5 = L5
other_service L6 = R6
other_service L60 = R60
other_service L5 = R5

-- what is asked, mirrored: every power of the targets' table the other way, and the other side; all else as it is
abbrev pub mirrored_asked : Asked → Asked
mirrored_asked a = record a { table = mirrored_targets a.table; side = other_side a.side }

-- a service asked of a record, and the other side's service asked with mirrored targets of the mirrored record, have one
-- answer: R6 on the one has the answer of L6 on the other, for the same amount
abbrev pub ServicesAnswer : Type 0
ServicesAnswer = (xs : List Sample) (d : Disturbance) (a : Asked) (s : Service) (r : Result Report Refusal)
    → Mirrorable xs
    → (Delivers xs d (for_service s a) r
    ↔ Delivers (mirrored_record xs) (opposite d) (for_service (other_service s) (mirrored_asked a)) r)

pub record TurningLaws : Type 0 where
  -- the mirrored record has, in the other direction, the very points of the record
  pub points_turn : (d : Direction) (xs : List Sample) → Mirrorable xs
      → course (turned d) (mirrored_record xs) ≡ course d xs
  -- the mirrored targets have, in the other direction, the trajectory of the targets, whatever the rounding
  pub trajectory_turns : (r : Rounding) (c : Case) (t : ℕ) → trajectory r (with_mirrored_targets c) t ≡ trajectory r c t
  -- and raise the push of a base point by as much
  pub base_push_turns : (r : Rounding) (c : Case) (p : Point) → base_push r (with_mirrored_targets c) p ≡ base_push r c p
  -- a table of targets is sound exactly if the mirrored one is
  pub sound_targets_turn : (count : ℕ) (table : List Target)
      → (Sound targets count table ↔ Sound targets count (mirrored_targets table))
  -- the other side belongs to the other direction
  pub sides_turn : (side : Side) → direction_of (other_side side) ≡ turned (direction_of side)
  -- what is asked of a record, and the same mirrored of the mirrored record, have one answer: the same report, or the
  -- same refusal
  pub answers_turn : (xs : List Sample) (d : Disturbance) (a : Asked) (r : Result Report Refusal) → Mirrorable xs
      → (Delivers xs d a r ↔ Delivers (mirrored_record xs) (opposite d) (mirrored_asked a) r)
  -- and one exact delivery
  pub exact_delivery_turns : (xs : List Sample) (d : Disturbance) (a : Asked) (x : Fraction) → Mirrorable xs
      → (ExactDelivery xs d a x ↔ ExactDelivery (mirrored_record xs) (opposite d) (mirrored_asked a) x)
  -- the service of the other side has the same group and so the same windows
  pub services_turn : (s : Service)
      → ((listed (other_service s)).side ≡ other_side (listed s).side) × ((listed (other_service s)).group ≡ (listed s).group)
  -- so the same said with services: one has the answer that the other side's has on the mirrored record
  pub services_answer : ServicesAnswer
