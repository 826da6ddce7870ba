-- Dips and frequencies of the line in terms of heights.
use Rattle.std.proofs.Common.{◌≡◌, ℕ, ◌+◌, ◌-◌, ◌*◌, ◌<◌, ◌≤◌, true, false, List, ℤ, pos, ◌+ℤ◌, ◌-ℤ◌, ◌*ℤ◌, ◌≤ℤ◌, ◌<ℤ◌, ap, arith}
use borrow.Author.Differences.{up, down}
use Rattle.std.proofs.lemmas.Int.{ints}
use Rattle.exact.proofs.Lines.{under_in, under_out, over_in, over_out, least_in, least_out}
use Rattle.recording.specs.declared.sample.Sample.{Sample}
use Rattle.disturbance.specs.declared.direction.Direction.{Direction}
use Rattle.disturbance.specs.declared.direction.Direction.TheVariants.{Low, High}
use Rattle.disturbance.specs.Trace.{at, Sound}
use Rattle.disturbance.specs.Direction.{dip}
use Rattle.disturbance.specs.Line.{Under, Over, AtLeast, LineAt}
use Rattle.disturbance.specs.Passing.{turned, Passes}

-- two samples, and a time after the one and not after the other
pub record Between (a b : Sample) (t : ℕ) : Type 0 where
  pub after : a.time < t
  pub until : t ≤ b.time
  pub first : a.frequency ≤ 100000
  pub second : b.frequency ≤ 100000

between_rises : {a b : Sample} {t : ℕ} → Between a b t → a.time < b.time
between_rises w = omega (arith, w.after, w.until)

-- the line, taken as often as there are milliseconds from a to b: each end counts by the time to the other
abbrev pub along : (ℕ → ℤ) → Sample → Sample → ℕ → ℤ
along value a b t = value a.frequency *ℤ pos (b.time - t) +ℤ value b.frequency *ℤ pos (t - a.time)

module _ (value : ℕ → ℤ) (level : ℕ) (a b : Sample) (t : ℕ) (w : Between a b t) where
  pub under_sum : Under value level a b t → along value a b t <ℤ pos (level * (b.time - a.time))
  under_sum h = under_out (value a.frequency) (value b.frequency) a.time b.time t level (between_rises w) (omega (arith, w.after)) w.until h

  pub sum_under : along value a b t <ℤ pos (level * (b.time - a.time)) → Under value level a b t
  sum_under h = under_in (value a.frequency) (value b.frequency) a.time b.time t level (between_rises w) (omega (arith, w.after)) w.until h

  pub over_sum : Over value level a b t → pos (level * (b.time - a.time)) <ℤ along value a b t
  over_sum h = over_out (value a.frequency) (value b.frequency) a.time b.time t level (between_rises w) (omega (arith, w.after)) w.until h

  pub sum_over : pos (level * (b.time - a.time)) <ℤ along value a b t → Over value level a b t
  sum_over h = over_in (value a.frequency) (value b.frequency) a.time b.time t level (between_rises w) (omega (arith, w.after)) w.until h

  pub least_sum : AtLeast value level a b t → pos (level * (b.time - a.time)) ≤ℤ along value a b t
  least_sum h = least_out (value a.frequency) (value b.frequency) a.time b.time t level (between_rises w) (omega (arith, w.after)) w.until h

  pub sum_least : pos (level * (b.time - a.time)) ≤ℤ along value a b t → AtLeast value level a b t
  sum_least h = least_in (value a.frequency) (value b.frequency) a.time b.time t level (between_rises w) (omega (arith, w.after)) w.until h

-- a difference times a natural
sub_times : (m n k : ℕ) → (pos m -ℤ pos n) *ℤ pos k +ℤ pos (n * k) ≡ pos (m * k)
sub_times m n k =
    let z : ℤ = pos m -ℤ pos n in
    let e : up z + n ≡ m + down z = omega (arith, ints) in
    omega (arith, ints, ap (λ i. i * k) e)

pub rest_times : (f k : ℕ) → f ≤ 100000 → (100000 - f) * k + f * k ≡ 100000 * k
rest_times f k le = let r = 100000 - f in let e : r + f ≡ 100000 = omega arith in omega (arith, ap (λ i. i * k) e)

-- dips as sums of products, for times p and q that make up n
module _ (f g p q n l : ℕ) (e : n ≡ p + q) where
  pub span_of : (m : ℕ) → m * n ≡ m * p + m * q
  span_of m = omega (arith, ap (λ i. m * i) e)

  less : l ≤ 50000 → (50000 - l) * n + l * n ≡ 50000 * n
  less le = let k = 50000 - l in let s : k + l ≡ 50000 = omega arith in omega (arith, ap (λ i. i * n) s)

  low_under : l ≤ 50000 → ((pos 50000 -ℤ pos f) *ℤ pos p +ℤ (pos 50000 -ℤ pos g) *ℤ pos q) <ℤ pos (l * n) → (50000 - l) * n + 1 ≤ f * p + g * q
  low_under le h = omega (arith, ints, sub_times 50000 f p, sub_times 50000 g q, less le, span_of 50000)

  low_under_back : l ≤ 50000 → (50000 - l) * n + 1 ≤ f * p + g * q → ((pos 50000 -ℤ pos f) *ℤ pos p +ℤ (pos 50000 -ℤ pos g) *ℤ pos q) <ℤ pos (l * n)
  low_under_back le h = omega (arith, ints, sub_times 50000 f p, sub_times 50000 g q, less le, span_of 50000)

  high_under : l ≤ 50000 → f ≤ 100000 → g ≤ 100000 → ((pos f -ℤ pos 50000) *ℤ pos p +ℤ (pos g -ℤ pos 50000) *ℤ pos q) <ℤ pos (l * n) → (50000 - l) * n + 1 ≤ (100000 - f) * p + (100000 - g) * q
  high_under le hf hg h = omega (arith, ints, sub_times f 50000 p, sub_times g 50000 q, rest_times f p hf, rest_times g q hg, less le, span_of 50000)

  high_under_back : l ≤ 50000 → f ≤ 100000 → g ≤ 100000 → (50000 - l) * n + 1 ≤ (100000 - f) * p + (100000 - g) * q → ((pos f -ℤ pos 50000) *ℤ pos p +ℤ (pos g -ℤ pos 50000) *ℤ pos q) <ℤ pos (l * n)
  high_under_back le hf hg h = omega (arith, ints, sub_times f 50000 p, sub_times g 50000 q, rest_times f p hf, rest_times g q hg, less le, span_of 50000)

  low_least : f ≤ 100000 → g ≤ 100000 → pos (l * n) ≤ℤ ((pos 50000 -ℤ pos f) *ℤ pos p +ℤ (pos 50000 -ℤ pos g) *ℤ pos q) → (50000 + l) * n + 0 ≤ (100000 - f) * p + (100000 - g) * q
  low_least hf hg h = omega (arith, ints, sub_times 50000 f p, sub_times 50000 g q, rest_times f p hf, rest_times g q hg, span_of 50000)

  low_least_back : f ≤ 100000 → g ≤ 100000 → (50000 + l) * n + 0 ≤ (100000 - f) * p + (100000 - g) * q → pos (l * n) ≤ℤ ((pos 50000 -ℤ pos f) *ℤ pos p +ℤ (pos 50000 -ℤ pos g) *ℤ pos q)
  low_least_back hf hg h = omega (arith, ints, sub_times 50000 f p, sub_times 50000 g q, rest_times f p hf, rest_times g q hg, span_of 50000)

  high_least : pos (l * n) ≤ℤ ((pos f -ℤ pos 50000) *ℤ pos p +ℤ (pos g -ℤ pos 50000) *ℤ pos q) → (50000 + l) * n + 0 ≤ f * p + g * q
  high_least h = omega (arith, ints, sub_times f 50000 p, sub_times g 50000 q, span_of 50000)

  high_least_back : (50000 + l) * n + 0 ≤ f * p + g * q → pos (l * n) ≤ℤ ((pos f -ℤ pos 50000) *ℤ pos p +ℤ (pos g -ℤ pos 50000) *ℤ pos q)
  high_least_back h = omega (arith, ints, sub_times f 50000 p, sub_times g 50000 q, span_of 50000)

-- the dip of the line is under a level just where the line has passed above it on the other side
pub dip_under : (d : Direction) (l : ℕ) (a b : Sample) (t : ℕ) → l ≤ 50000 → Between a b t → Under (dip d) l a b t → Passes (turned d) (50000 - l) true a b t
dip_under Low l a b t le w h = low_under _ _ _ _ _ l (omega arith) le (under_sum (dip Low) l a b t w h)
dip_under High l a b t le w h = high_under _ _ _ _ _ l (omega arith) le w.first w.second (under_sum (dip High) l a b t w h)

pub dip_under_back : (d : Direction) (l : ℕ) (a b : Sample) (t : ℕ) → l ≤ 50000 → Between a b t → Passes (turned d) (50000 - l) true a b t → Under (dip d) l a b t
dip_under_back Low l a b t le w h = sum_under (dip Low) l a b t w (low_under_back _ _ _ _ _ l (omega arith) le h)
dip_under_back High l a b t le w h = sum_under (dip High) l a b t w (high_under_back _ _ _ _ _ l (omega arith) le w.first w.second h)

pub dip_least : (d : Direction) (l : ℕ) (a b : Sample) (t : ℕ) → Between a b t → AtLeast (dip d) l a b t → Passes d (50000 + l) false a b t
dip_least Low l a b t w h = low_least _ _ _ _ _ l (omega arith) w.first w.second (least_sum (dip Low) l a b t w h)
dip_least High l a b t w h = high_least _ _ _ _ _ l (omega arith) (least_sum (dip High) l a b t w h)

pub dip_least_back : (d : Direction) (l : ℕ) (a b : Sample) (t : ℕ) → Between a b t → Passes d (50000 + l) false a b t → AtLeast (dip d) l a b t
dip_least_back Low l a b t w h = sum_least (dip Low) l a b t w (low_least_back _ _ _ _ _ l (omega arith) w.first w.second h)
dip_least_back High l a b t w h = sum_least (dip High) l a b t w (high_least_back _ _ _ _ _ l (omega arith) h)

-- what holds of the line in other words
pub line_as : {P Q : Sample → Sample → ℕ → Type 0} (xs : List Sample) → Sound xs → ((a b : Sample) (t : ℕ) → Between a b t → P a b t → Q a b t) → (t : ℕ) → LineAt P xs t → LineAt Q xs t
line_as xs s to t l =
    let more = l.there in
    let w : Between (at xs (l.place - 1)) (at xs l.place) t =
    record { after = l.after; until = l.until; first = omega (arith, (s.1 (l.place - 1) (omega arith)).2); second = omega (arith, (s.1 l.place l.there).2) } in
    record { place = l.place; later = l.later; there = l.there; after = l.after; until = l.until; holds = to _ _ t w l.holds }
