-- The mean of the entries of a list, and the trapezoid average of entries that carry a time; what both give where the value is level.
use Rattle.std.specs.Prelude.{ℕ, ◌-◌, ◌*◌, ◌<◌, ◌≤◌, List, [], ◌∷◌, ◌++◌, length, ℤ, pos, ◌+ℤ◌, ◌*ℤ◌}
use Rattle.exact.specs.Fractions.{Fraction, whole, ◌⊕◌, ◌·◌, ◌÷◌, Equal}
use Rattle.exact.specs.Lines.{line}

-- the sum of the values
abbrev pub sum_of : {A : Type 0} → (A → Fraction) → List A → Fraction
sum_of value [] = whole (pos 0)
sum_of value (a ∷ rest) = value a ⊕ sum_of value rest

-- their mean, each entry counting once
abbrev pub mean : {A : Type 0} → (A → Fraction) → List A → Fraction
mean value entries = sum_of value entries ÷ length entries

-- twice the area of one trapezoid
abbrev pub trapezoid : ℕ → Fraction → ℕ → Fraction → Fraction
trapezoid t v t' v' = (v ⊕ v') · (t' - t)

-- twice the area of those from v at t through the entries to v' at t'
abbrev pub trapezoids : {A : Type 0} → (A → ℕ) → (A → Fraction) → ℕ → Fraction → List A → ℕ → Fraction → Fraction
trapezoids time value t v [] t' v' = trapezoid t v t' v'
trapezoids time value t v (a ∷ rest) t' v' = trapezoid t v (time a) (value a) ⊕ trapezoids time value (time a) (value a) rest t' v'

-- the trapezoid average from t to t'
abbrev pub average : {A : Type 0} → (A → ℕ) → (A → Fraction) → ℕ → Fraction → List A → ℕ → Fraction → Fraction
average time value t v rest t' v' = trapezoids time value t v rest t' v' ÷ (2 * (t' - t))

-- times that do not fall, from t through the entries to t'
abbrev pub Climbs : {A : Type 0} → (A → ℕ) → ℕ → List A → ℕ → Type 0
Climbs time t [] t' = t ≤ t'
Climbs time t (a ∷ rest) t' = (t ≤ time a) × Climbs time (time a) rest t'

-- A level value stays what it is. Every entry has the value v, so an entry is given by its time alone:
-- the mean of the entries is v, the straight line through them is v at every time, and the trapezoid average from any time to a later one is v.
pub record Levels : Type 0 where
  pub mean_level : (v : Fraction) (times : List ℕ) → 0 < length times → Equal (mean (λ _. v) times) v
  pub line_level : (v : Fraction) (times : List ℕ) (u : ℕ) → 0 < length times → Equal (line (λ s. s) (λ _. v) times u) v
  pub average_level : (v : Fraction) (t : ℕ) (times : List ℕ) (t' : ℕ) → t < t' → Climbs (λ s. s) t times t' → Equal (average (λ s. s) (λ _. v) t v times t' v) v

-- the value at the time s of what is b at the time 0 and changes by c each millisecond
abbrev pub evenly : ℤ → ℤ → ℕ → Fraction
evenly b c s = whole (b +ℤ c *ℤ pos s)

pub record EvenChanges : Type 0 where
  -- what changes evenly averages to the middle of its two ends, wherever the entries between stand
  pub average_is_middle : (b c : ℤ) (t : ℕ) (times : List ℕ) (t' : ℕ) → t < t' → Climbs (λ s. s) t times t'
      → Equal (average (λ s. s) (evenly b c) t (evenly b c t) times t' (evenly b c t')) ((evenly b c t ⊕ evenly b c t') ÷ 2)
  -- the mean of two lists joined weighs the mean of each by its length
  pub means_join : (xs ys : List Fraction) → 0 < length xs → 0 < length ys
      → Equal (mean (λ x. x) (xs ++ ys) · length (xs ++ ys)) (mean (λ x. x) xs · length xs ⊕ mean (λ x. x) ys · length ys)
