-- The services, each with its code, its side and its group.
use Rattle.std.specs.Prelude.{◌≡◌, ◌≢◌, ℕ, List, Result, MatchResult, codes}
use Rattle.recording.specs.declared.refusal.Reason.TheVariants.{UnknownCode}
use Rattle.recording.specs.declared.refusal.Refusal.{Refusal}
use Rattle.recording.specs.Refusals.{refusal}
use Rattle.disturbance.specs.declared.direction.Direction.{Direction}
use Rattle.disturbance.specs.declared.direction.Direction.TheVariants.{Low, High}
use Rattle.response.specs.declared.group.Group.{Group}
use Rattle.response.specs.declared.group.Group.TheVariants.{Fast, Slow, Delayed}
use Rattle.response.specs.declared.service.Side.{Side}
use Rattle.response.specs.declared.service.Side.TheVariants.{Raise, Lower}
use Rattle.response.specs.declared.service.Service.{Service}
use Rattle.response.specs.declared.service.Service.TheVariants.{R6, R60, R5, L6, L60, L5}

-- raise belongs to low disturbances, lower to high ones
abbrev pub direction_of : Side → Direction
direction_of Raise = Low
direction_of Lower = High

-- a line of the list
pub record Listing : Type 0 where
  pub code : List ℕ
  pub side : Side
  pub group : Group

-- a code, a side and a group
abbrev line : List ℕ → Side → Group → Listing
line c s g = record { code = c; side = s; group = g }

-- the list of services
abbrev pub listed : Service → Listing
listed R6 = line (codes "R6") Raise Fast
listed R60 = line (codes "R60") Raise Slow
listed R5 = line (codes "R5") Raise Delayed
listed L6 = line (codes "L6") Lower Fast
listed L60 = line (codes "L60") Lower Slow
listed L5 = line (codes "L5") Lower Delayed

-- what is answered to a text that is no service's code
abbrev pub unknown : Refusal
unknown = refusal UnknownCode 0 0

-- r is the service with this code, or `unknown` where no service has it
abbrev pub KnownBy : List ℕ → Result Service Refusal → Type 0
KnownBy code r = MatchResult r (λ s. code ≡ (listed s).code) (λ e. ((s : Service) → code ≢ (listed s).code) × (e ≡ unknown))

-- no two services have one code
abbrev pub Apart : Type 0
Apart = (s t : Service) → (listed s).code ≡ (listed t).code → s ≡ t
