-- Every reason for a refusal, with its number, its layer and its field.
use Rattle.std.specs.Prelude.{ℕ}
use Rattle.recording.specs.declared.refusal.Layer.{Layer}
use Rattle.recording.specs.declared.refusal.Layer.TheVariants.{Recording, Reading, Docket, Delivery, Setup}
use Rattle.recording.specs.declared.refusal.Field.{Field}
use Rattle.recording.specs.declared.refusal.Field.TheVariants.{Time, Frequency, Power}
use Rattle.recording.specs.declared.refusal.Reason.{Reason}
use Rattle.recording.specs.declared.refusal.Reason.TheVariants.{OtherTable, BeyondEnd, BeyondCount, CutRecord, OutsideLimits, Full, OutOfOrder, NoDisturbance, AmountOutside, OtherDirection, OtherTargets, NoBaseSample, OutsideTargets, NoTriggerTime, EmptyFirstWindow, WindowOutside, WideGap, SettingOutside, UnknownCode}
use Rattle.recording.specs.declared.refusal.Refusal.{Refusal}

-- a line of the list
pub record Listing : Type 0 where
  pub number : ℕ
  pub layer : Layer
  pub field : ℕ

abbrev pub field_number : Field → ℕ
field_number Time = 1
field_number Frequency = 2
field_number Power = 3

abbrev line : ℕ → Layer → Listing
line n l = record { number = n; layer = l; field = 0 }

-- the list of refusals
abbrev pub listed : Reason → Listing
listed OtherTable = line 1 Docket
listed BeyondEnd = line 2 Recording
listed BeyondCount = line 2 Docket
listed CutRecord = line 3 Recording
listed (OutsideLimits f) = record { number = 4; layer = Reading; field = field_number f }
listed Full = line 5 Docket
listed OutOfOrder = line 6 Docket
listed NoDisturbance = line 7 Docket
listed AmountOutside = line 8 Delivery
listed OtherDirection = line 9 Delivery
listed OtherTargets = line 10 Delivery
listed NoBaseSample = line 11 Delivery
listed OutsideTargets = line 12 Delivery
listed NoTriggerTime = line 13 Delivery
listed EmptyFirstWindow = line 14 Delivery
listed WindowOutside = line 15 Delivery
listed WideGap = line 16 Delivery
listed SettingOutside = line 17 Setup
listed UnknownCode = line 18 Setup

-- a refusal by its reason, place and byte position
abbrev pub refusal : Reason → ℕ → ℕ → Refusal
refusal why place position = record { reason = why; place = place; position = position }
