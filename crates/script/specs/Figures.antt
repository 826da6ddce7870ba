-- The figures of a line: numbers in decimal digits, which a sign may lead, floats and bytes in hexadecimal ones.
use Rattle.std.specs.Prelude.{◌≡◌, ℕ, ℤ, ◌^◌, ◌%◌, ◌<◌, ◌≤◌, List, length, from_bits}
use Rattle.std.specs.Float.{binary32}
use Rattle.std.specs.Float.Ieee.{Float}
use Rattle.std.specs.Int.{w32, w64}
use Rattle.std.specs.Int.RustNames.{FitsSigned}
use Rattle.std.specs.List.{AllPass}
use Rattle.std.specs.Char.{is_ascii_hexdigit}
use Rattle.std.specs.Str.Parse.{IsNumeral, digits_value, signed_digits_value, without_leading_plus, without_leading_sign}
use Rattle.recording.specs.declared.reading.Reading.{Reading}
use Rattle.recording.specs.declared.reading.Reading.TheVariants.{Whole, Floating}
use Rattle.timeline.specs.declared.target.Target.{Target}

-- ---- numbers without a minus
-- decimal digits, which a plus may lead
abbrev pub number_of : List ℕ → ℕ
number_of word = digits_value 10 (without_leading_plus word)

-- they write a number of at most so many bits
abbrev pub IsUnsigned : ℕ → List ℕ → Type 0
IsUnsigned bits word = IsNumeral 10 (without_leading_plus word) × (number_of word < 2 ^ bits)

-- a time, a frequency or a setting
abbrev pub IsNumber : List ℕ → Type 0
IsNumber word = IsUnsigned 32 word

-- a place
abbrev pub IsPlace : List ℕ → Type 0
IsPlace word = IsUnsigned 64 word

-- the places of a table, as many as a docket may hold samples at most
abbrev pub IsTable : List ℕ → Type 0
IsTable word = IsPlace word × (number_of word ≤ 4096)

-- ---- numbers with a sign
abbrev pub power_of : List ℕ → ℤ
power_of word = signed_digits_value 10 word

abbrev pub IsPower : List ℕ → Type 0
IsPower word = IsNumeral 10 (without_leading_sign word) × FitsSigned w32 (power_of word)

abbrev pub amount_of : List ℕ → ℤ
amount_of word = signed_digits_value 10 word

abbrev pub IsAmount : List ℕ → Type 0
IsAmount word = IsNumeral 10 (without_leading_sign word) × FitsSigned w64 (amount_of word)

-- ---- floats and bytes
-- the float whose 32 bits the hexadecimal digits write
abbrev pub float_of : List ℕ → Float
float_of word = from_bits binary32 (digits_value 16 (without_leading_plus word))

abbrev pub IsBits : List ℕ → Type 0
IsBits word = IsNumeral 16 (without_leading_plus word) × (digits_value 16 (without_leading_plus word) < 2 ^ 32)

-- two hexadecimal digits a byte
abbrev pub IsBytes : List ℕ → Type 0
IsBytes word = (length word % 2 ≡ 0) × AllPass is_ascii_hexdigit word

-- ---- entries and readings
abbrev pub IsTarget : List ℕ → List ℕ → Type 0
IsTarget time power = IsNumber time × IsPower power

abbrev pub target_of : List ℕ → List ℕ → Target
target_of time power = record { time = number_of time; power = power_of power }

abbrev pub IsWhole : List ℕ → List ℕ → List ℕ → Type 0
IsWhole time frequency power = IsNumber time × IsNumber frequency × IsPower power

abbrev pub whole_of : List ℕ → List ℕ → List ℕ → Reading
whole_of time frequency power = Whole (record { time = number_of time; frequency = number_of frequency; power = power_of power })

abbrev pub IsFloating : List ℕ → List ℕ → List ℕ → Type 0
IsFloating time frequency power = IsNumber time × IsBits frequency × IsBits power

abbrev pub floating_of : List ℕ → List ℕ → List ℕ → Reading
floating_of time frequency power = Floating (record { time = number_of time; frequency = float_of frequency; power = float_of power })
