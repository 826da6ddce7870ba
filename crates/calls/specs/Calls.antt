-- What a call of a list means, by what recordings and rules mean.
use Rattle.std.specs.Prelude.{List, Option}
use Rattle.recording.specs.declared.interface.Member.{Member}
use Rattle.response.specs.declared.setup.Trigger.{Trigger}
use Rattle.figure.specs.Steps.{Weights}
use Rattle.figure.specs.Asked.{asked}
use Rattle.docket.specs.Calls.{Meaning, of_open, of_closed, put, load, amend, strike, close, deliver, reopen}
use Rattle.calls.specs.declared.call.Call.{Call}
use Rattle.calls.specs.declared.call.Call.TheVariants.{Put, Load, Amend, Strike, Close, Deliver, Reopen}

abbrev pub meaning_of
    : {R P : Type 0} → (R → List Member) → (P → Option Trigger) → (P → Weights) → Call R P → Meaning
meaning_of members triggers weighs (Put r) = of_open (put r)
meaning_of members triggers weighs (Load r) = of_open (load (members r.now))
meaning_of members triggers weighs (Amend i r) = of_open (amend i r)
meaning_of members triggers weighs (Strike i) = of_open (strike i)
meaning_of members triggers weighs Close = of_open close
meaning_of members triggers weighs (Deliver q) = of_closed (deliver (asked triggers weighs q))
meaning_of members triggers weighs Reopen = of_closed reopen
