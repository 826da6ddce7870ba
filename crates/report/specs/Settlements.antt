-- What a docket of its own delivers of a recording: a new docket is loaded with the members, closed, and delivered on for every service.
use Rattle.std.specs.Prelude.{◌≡◌, ℕ, List, [], ◌∷◌, map, pos, Ok, Err, Option, Result, MatchResult}
use Rattle.std.specs.List.{AllZip}
use Rattle.recording.specs.declared.refusal.Refusal.{Refusal}
use Rattle.recording.specs.declared.sample.Sample.{Sample}
use Rattle.recording.specs.declared.interface.Member.{Member}
use Rattle.disturbance.specs.declared.disturbance.Disturbance.{Disturbance}
use Rattle.response.specs.declared.service.Service.{Service}
use Rattle.response.specs.declared.service.Service.TheVariants.{R6, R60, R5, L6, L60, L5}
use Rattle.response.specs.declared.settings.Settings.{Settings}
use Rattle.response.specs.declared.setup.Trigger.{Trigger}
use Rattle.figure.specs.Steps.{Weights}
use Rattle.docket.specs.Accepted.{load_edit, Closes}
use Rattle.response.specs.Groups.{row_of}
use Rattle.response.specs.Services.{listed}
use Rattle.figure.specs.Asked.{Asked}
use Rattle.docket.specs.Deliveries.{Delivered}
use Rattle.docket.specs.Calls.{Meaning, of_open, of_closed, load, close, deliver}
use Rattle.calls.specs.declared.answer.Answer.{Answer}
use Rattle.calls.specs.declared.answer.Answer.TheVariants.{Counted, Closed, Reported, Reopened, Refused}
use Rattle.report.specs.declared.settlement.Delivery.{Delivery}

-- the services, in the order in which they are told
abbrev pub services : List Service
services = R6 ∷ L6 ∷ R60 ∷ L60 ∷ R5 ∷ L5 ∷ []

-- what is asked for a service with no targets and nothing enabled
abbrev pub bare : Settings → Option Trigger → Weights → Service → Asked
bare settings trigger weight service = record {
  settings = settings;
  trigger = trigger;
  weight = weight;
  table = [];
  count = 0;
  side = (listed service).side;
  row = row_of (listed service).group;
  amount = pos 0;
}

-- the calls in turn: load of the members, close, and a delivery for every service
abbrev pub in_turn : List Member → (Service → Asked) → List Meaning
in_turn ms asks = of_open (load ms) ∷ of_open close ∷ map (λ s. of_closed (deliver (asks s))) services

-- an answer to a delivery
abbrev pub OfDelivery : Answer → Type 0
OfDelivery (Reported report) = Unit {0}
OfDelivery (Refused f) = Unit {0}
OfDelivery (Counted n) = ⊥
OfDelivery (Closed d) = ⊥
OfDelivery Reopened = ⊥

-- the samples that a new docket with so many places accepts of the members
abbrev pub taken : ℕ → List Member → List Sample
taken places ms = (load_edit places [] ms).samples

-- what load and then close answer: what close does on the samples that are accepted, unless the load is refused
abbrev pub LoadsAndCloses : ℕ → List Member → Result Disturbance Refusal → Type 0
LoadsAndCloses places ms o =
    MatchResult (load_edit places [] ms).answer (λ count. Closes (taken places ms) o) (λ why. o ≡ Err why)

-- d tells what is delivered for the service s on the samples xs
pub record Tells (xs : List Sample) (asks : Service → Asked) (s : Service) (d : Delivery) : Type 0 where
  pub service : d.service ≡ s
  pub answer : Delivered xs (asks s) d.answer

-- the members are settled: each service in turn is delivered on the samples that are accepted, or load or close is refused
abbrev pub Settles : ℕ → List Member → (Service → Asked) → Result (List Delivery) Refusal → Type 0
Settles places ms asks (Ok deliveries) =
    ((disturbance : Disturbance) × LoadsAndCloses places ms (Ok disturbance))
    × AllZip (Tells (taken places ms) asks) services deliveries
Settles places ms asks (Err f) = LoadsAndCloses places ms (Err f)
