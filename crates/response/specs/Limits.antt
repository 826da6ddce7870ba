-- The limits of the settings, and of what a response rule is asked and answers. Dips are in mHz, rates in mHz/s, times in ms.
use Rattle.std.specs.Prelude.{◌≡◌, ℕ, ◌<◌, ◌≤◌, Result, MatchResult}
use Rattle.recording.specs.declared.refusal.Reason.TheVariants.{SettingOutside}
use Rattle.recording.specs.declared.refusal.Refusal.{Refusal}
use Rattle.recording.specs.Refusals.{refusal}

-- from one limit to the other, both included
abbrev pub Within : ℕ → ℕ → ℕ → Type 0
Within low high x = (low ≤ x) × (x ≤ high)

-- a ramp rate
abbrev pub IsRate : ℕ → Type 0
IsRate x = Within 1 10000 x

-- a reference dip
abbrev pub IsReference : ℕ → Type 0
IsReference x = Within 160 2000 x

-- a dead band
abbrev pub IsDeadBand : ℕ → Type 0
IsDeadBand x = Within 0 150 x

-- a dip that triggers a response, as the switch dip does
abbrev pub IsTrigger : ℕ → Type 0
IsTrigger x = Within 151 2000 x

-- a base window, from begin to end, both before the disturbance
abbrev pub IsBase : ℕ → ℕ → Type 0
IsBase begin end = Within 1 60000 begin × (end < begin)

-- an offset from the disturbance
abbrev pub IsOffset : ℕ → Type 0
IsOffset x = x ≤ 1200000

-- what is answered to a setting outside its limits
abbrev pub outside : Refusal
outside = refusal SettingOutside 0 0

-- what is asked for is granted exactly where it is within its limits, and P then holds of the value; anywhere else the answer is `outside`
abbrev pub Granted : {X : Type 0} → Result X Refusal → (within : Type 0) → (X → Type 0) → Type 0
Granted r within P = MatchResult r (λ x. within × P x) (λ e. ¬ within × (e ≡ outside))
