-- What is asked of a delivery, and the times that follow from it.
use Rattle.std.specs.Prelude.{◌≡◌, ℕ, List, take, ℤ, Some, None, Option}
use Rattle.exact.specs.First.{FirstOrNone}
use Rattle.recording.specs.declared.sample.Sample.{Sample}
use Rattle.timeline.specs.declared.target.Target.{Target}
use Rattle.disturbance.specs.declared.disturbance.Disturbance.{Disturbance}
use Rattle.disturbance.specs.Recovery.{Recovered}
use Rattle.disturbance.specs.Trigger.{Triggered}
use Rattle.response.specs.declared.group.Row.{Row}
use Rattle.response.specs.declared.service.Service.{Service}
use Rattle.response.specs.declared.service.Side.{Side}
use Rattle.response.specs.declared.settings.Settings.{Settings}
use Rattle.response.specs.declared.setup.Trigger.{Trigger}
use Rattle.response.specs.Groups.{row_of}
use Rattle.response.specs.Services.{listed}
use Rattle.figure.specs.declared.point.Point.{Point}
use Rattle.figure.specs.declared.request.Request.{Request}
use Rattle.figure.specs.declared.span.Span.{Span}
use Rattle.figure.specs.Points.{course}
use Rattle.figure.specs.Steps.{Weights, Case, base_points}
use Rattle.figure.specs.Windows.{shift_of, placed, on_clock, unless_empty}

-- what is asked beside a record and its disturbance: the settings, the meaning of the response rule, the targets' table
-- with its count, the side and the row of windows of a service, and the enabled amount
pub record Asked : Type 0 where
  pub settings : Settings
  pub trigger : Option Trigger
  pub weight : Weights
  pub table : List Target
  pub count : ℕ
  pub side : Side
  pub row : Row
  pub amount : ℤ

-- the same of another side, over another row of windows
abbrev pub with_row : Side → Row → Asked → Asked
with_row side row a = record a { side = side; row = row }

-- the same of the side and over the row that a service is listed with
abbrev pub for_service : Service → Asked → Asked
for_service s a = with_row (listed s).side (row_of (listed s).group) a

-- what a request asks, by what its rule means
abbrev pub asked : {R : Type 0} → (R → Option Trigger) → (R → Weights) → Request R → Asked
asked triggers weighs q = record {
  settings = q.settings.now;
  trigger = triggers q.rule.now;
  weight = weighs q.rule.now;
  table = q.targets.now;
  count = q.count;
  side = (listed q.enablement.service).side;
  row = row_of (listed q.enablement.service).group;
  amount = q.enablement.watts;
}

abbrev pub points_of : List Sample → Disturbance → List Point
points_of xs d = course d.direction xs

-- the counted targets; with targets means that there is one
abbrev pub targets_of : Asked → List Target
targets_of a = take a.count a.table

abbrev pub base_samples : List Sample → Disturbance → Asked → List Point
base_samples xs d a = base_points d.time a.settings.base (points_of xs d)

-- S is the trigger time: the first whole millisecond, or none, at which the rule's trigger is reached; none without a trigger
abbrev pub TriggerTime : List Sample → Disturbance → Option ℕ → Option Trigger → Option ℕ → Type 0
TriggerTime xs d recovery None S = S ≡ None
TriggerTime xs d recovery (Some g) S = FirstOrNone (Triggered xs d recovery g.dip) S

-- the recovery, and the trigger time of what is asked
pub record Times (xs : List Sample) (d : Disturbance) (a : Asked) (recovery S : Option ℕ) : Type 0 where
  pub recovers : FirstOrNone (Recovered xs d) recovery
  pub triggers : TriggerTime xs d recovery a.trigger S

-- the shift, where there is one
abbrev pub shift_in : Disturbance → Asked → Option ℕ → Option ℤ
shift_in d a S = shift_of a.settings.response.rate.mhz_per_s d.time a.trigger S

-- the windows at a shift
abbrev pub first_span : Disturbance → Asked → Option ℕ → ℤ → Span
first_span d a recovery shift = placed d.time shift recovery a.row.first

abbrev pub second_span : Disturbance → Asked → Option ℕ → ℤ → Span
second_span d a recovery shift = placed d.time shift recovery a.row.second

-- what the steps are worked out from
abbrev pub case_of : List Sample → Disturbance → Asked → Option ℕ → ℤ → Case
case_of xs d a recovery shift = record {
  points = points_of xs d;
  direction = d.direction;
  targets = targets_of a;
  disturbance = d.time;
  base = a.settings.base;
  weight = a.weight;
  recovery = recovery;
  first = on_clock (first_span d a recovery shift);
  second = unless_empty (second_span d a recovery shift);
}
