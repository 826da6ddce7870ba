-- The line from a sample inside to one outside.
use Rattle.std.proofs.Common.{◌≡◌, ℕ, ◌+◌, ◌-◌, ◌*◌, ◌<◌, ◌≤◌, true, cond, ◌&&◌, ltb, leb, pos, ◌+ℤ◌, ◌*ℤ◌, ◌<ℤ◌, is_some, List, length, Some, None, Option, refl, subst, inl, inr, mul-le-mul_right, arith, MatchOption}
use Rattle.std.proofs.lemmas.Int.{ints}
use Rattle.std.proofs.lemmas.Bool.{some_since, cond_both, and_parts, and_cases, ltb-true, ltb-false, leb-true, leb-false}
use Rattle.exact.specs.First.{First, FirstOrNone}
use Rattle.recording.specs.declared.sample.Sample.{Sample}
use Rattle.disturbance.specs.declared.direction.Direction.{Direction}
use Rattle.disturbance.specs.declared.direction.Direction.TheVariants.{Low, High}
use Rattle.disturbance.specs.Trace.{at, Sound}
use Rattle.disturbance.specs.Band.{lowest, highest, Inside, Beyond, Outside}
use Rattle.disturbance.specs.Passing.{Passes, PassedBetween}
use Rattle.disturbance.specs.Disturbance.{LeavesBy, leaves_to, leaving_time, timed, leaving}
use Rattle.disturbance.proofs.Heights.{Between, rest_times, under_sum, sum_under, over_sum, sum_over}
use Rattle.disturbance.proofs.Quotients.{past_edge}
use Rattle.disturbance.proofs.Times.{next_time}
use Rattle.disturbance.proofs.Scans.{ReachedBetween, between_as}

-- for times p and q that make up n
module _ (f g p q n : ℕ) (e : n ≡ p + q) where
  under_low : f ≤ 100000 → g ≤ 100000 → (pos f *ℤ pos p +ℤ pos g *ℤ pos q) <ℤ pos (49850 * n) → 50150 * n + 1 ≤ (100000 - f) * p + (100000 - g) * q
  under_low hf hg h = omega (arith, ints, rest_times f p hf, rest_times g q hg)

  low_under : f ≤ 100000 → g ≤ 100000 → 50150 * n + 1 ≤ (100000 - f) * p + (100000 - g) * q → (pos f *ℤ pos p +ℤ pos g *ℤ pos q) <ℤ pos (49850 * n)
  low_under hf hg h = omega (arith, ints, rest_times f p hf, rest_times g q hg)

  over_high : pos (50150 * n) <ℤ (pos f *ℤ pos p +ℤ pos g *ℤ pos q) → 50150 * n + 1 ≤ f * p + g * q
  over_high h = omega (arith, ints)

  high_over : 50150 * n + 1 ≤ f * p + g * q → pos (50150 * n) <ℤ (pos f *ℤ pos p +ℤ pos g *ℤ pos q)
  high_over h = omega (arith, ints)

  not_over : f ≤ 50150 → g ≤ 50150 → pos (50150 * n) <ℤ (pos f *ℤ pos p +ℤ pos g *ℤ pos q) → ⊥
  not_over hf hg h = omega (arith, ints, mul-le-mul_right p hf, mul-le-mul_right q hg)

  not_under : 49850 ≤ f → 49850 ≤ g → (pos f *ℤ pos p +ℤ pos g *ℤ pos q) <ℤ pos (49850 * n) → ⊥
  not_under hf hg h = omega (arith, ints, mul-le-mul_right p hf, mul-le-mul_right q hg)

-- from inside to outside the line is outside on that side
pub outside_passes : (d : Direction) (a b : Sample) (t : ℕ) → Inside a → Beyond d b → Between a b t → Outside a b t → Passes d highest true a b t
outside_passes Low a b t i o w (inl under) = under_low _ _ _ _ _ (omega arith) w.first w.second (under_sum pos lowest a b t w under)
outside_passes Low a b t i o w (inr over) = absurd (not_over _ _ _ _ _ (omega arith) i.1 (omega arith) (over_sum pos highest a b t w over))
outside_passes High a b t i o w (inl under) = absurd (not_under _ _ _ _ _ (omega arith) i.0 (omega arith) (under_sum pos lowest a b t w under))
outside_passes High a b t i o w (inr over) = over_high _ _ _ _ _ (omega arith) (over_sum pos highest a b t w over)

pub passes_outside : (d : Direction) (a b : Sample) (t : ℕ) → Between a b t → Passes d highest true a b t → Outside a b t
passes_outside Low a b t w h = inl (sum_under pos lowest a b t w (low_under _ _ _ _ _ (omega arith) w.first w.second h))
passes_outside High a b t w h = inr (sum_over pos highest a b t w (high_over _ _ _ _ _ (omega arith) h))

-- the side of a sample is one
pub side_unique : (d e : Direction) (s : Sample) → Beyond d s → Beyond e s → d ≡ e
side_unique Low Low s p q = refl
side_unique Low High s p q = absurd (omega arith)
side_unique High Low s p q = absurd (omega arith)
side_unique High High s p q = refl

-- an outside sample is not inside
pub beyond_outside : (d : Direction) (s : Sample) → Beyond d s → Inside s → ⊥
beyond_outside Low s o i = omega arith
beyond_outside High s o i = omega arith

-- the way from a sample inside to one outside
pub record Way (d : Direction) (a b : Sample) : Type 0 where
  pub times : a.time < b.time
  pub high : b.frequency ≤ 52000
  pub inside : Inside a
  pub beyond : Beyond d b

-- of neighbours in a sound trace the order and the limits are known
pub way : (xs : List Sample) (s : Sound xs) (k : ℕ) (d : Direction) → 1 ≤ k → k < length xs → Inside (at xs (k - 1)) → Beyond d (at xs k) → Way d (at xs (k - 1)) (at xs k)
way xs s k d one there inside beyond = record { times = next_time xs s k one there; high = (s.1 k there).2; inside = inside; beyond = beyond }

-- past the edge of the band, after sample a
abbrev pub PastEdge : Direction → Sample → Sample → ℕ → Type 0
PastEdge d a b = PassedBetween d highest true a b (a.time + 1)

-- outside, after sample a and not after sample b
abbrev pub OutsideBetween : Sample → Sample → ℕ → Type 0
OutsideBetween a b t = (a.time < t) × (t ≤ b.time) × Outside a b t

-- the time worked out is the first past the edge
edge_reached : (d : Direction) (a b : Sample) → Way d a b → First (ReachedBetween d highest true a b (a.time + 1)) (leaving_time d a b)
edge_reached Low a b w =
    let near : highest - (100000 - a.frequency) ≡ a.frequency - lowest = omega (arith, w.inside.0, w.inside.1) in
    let far : 100000 - b.frequency - (100000 - a.frequency) ≡ a.frequency - b.frequency = omega (arith, w.inside.1, w.beyond) in
    simp (near, far) at (past_edge a.time (100000 - a.frequency) b.time (100000 - b.frequency) highest w.times (omega (arith, w.inside.0)) (omega (arith, w.beyond)))
edge_reached High a b w = past_edge a.time a.frequency b.time b.frequency highest w.times w.inside.1 w.beyond

pub edge_first : (d : Direction) (a b : Sample) → Way d a b → First (PastEdge d a b) (leaving_time d a b)
edge_first d a b w = between_as d highest true a b (a.time + 1) (a.time + 1) (omega arith) (Some (leaving_time d a b)) (edge_reached d a b w)

module _ (d : Direction) (a b : Sample) (w : Way d a b) where
  between : (t : ℕ) → a.time < t → t ≤ b.time → Between a b t
  between t after until = record { after = after; until = until; first = omega (arith, w.inside.1); second = omega (arith, w.high) }

  pub edge_outside : (t : ℕ) → First (PastEdge d a b) t → First (OutsideBetween a b) t
  edge_outside t f =
      record {
        holds = (f.holds.1, f.holds.2, passes_outside d a b t (between t f.holds.1 f.holds.2) f.holds.3);
        earlier = λ u less h. f.earlier u less (omega (arith, h.0), h.0, h.1, outside_passes d a b u w.inside w.beyond (between u h.0 h.1) h.2);
      }

  pub leaving_some : (o : Option ℕ) → FirstOrNone (PastEdge d a b) o → is_some o ≡ true
  leaving_some o h = some_since o ((u : ℕ) → PastEdge d a b u → ⊥) (λ t. First (PastEdge d a b) t) h (λ none. none (leaving_time d a b) (edge_first d a b w).holds)

  pub leaving_from : (o : Option ℕ) (t : ℕ) → o ≡ Some t → FirstOrNone (PastEdge d a b) o → First (OutsideBetween a b) t
  leaving_from o t e h = edge_outside t (subst (λ p. FirstOrNone (PastEdge d a b) p) e h)

-- what is worked out for two neighbours
module _ (a b : Sample) where
  abbrev pub Leads : Option Direction → Type 0
  Leads o = MatchOption o (Inside a → Inside b) (λ d. Inside a × Beyond d b)

  outside_side : Inside a → Leads (cond (ltb b.frequency lowest) (Some Low) (cond (ltb highest b.frequency) (Some High) None))
  outside_side i =
      cond_both (ltb b.frequency lowest) (Some Low) (cond (ltb highest b.frequency) (Some High) None) Leads (λ e. (i, ltb-true _ _ e))
      (λ e. cond_both (ltb highest b.frequency) (Some High) None Leads (λ g. (i, ltb-true _ _ g)) (λ g _. (ltb-false _ _ e, ltb-false _ _ g)))

  pub leads : Leads (leaves_to a b)
  leads =
      cond_both (leb lowest a.frequency && leb a.frequency highest) (cond (ltb b.frequency lowest) (Some Low) (cond (ltb highest b.frequency) (Some High) None)) None Leads
      (λ e. let both = and_parts _ _ e in outside_side (leb-true _ _ both.0, leb-true _ _ both.1))
      (λ e i. elim (and_cases (leb lowest a.frequency) (leb a.frequency highest) e) [ inl low ↦ absurd (omega (arith, leb-false _ _ low)) | inr high ↦ absurd (omega (arith, leb-false _ _ high)) ])

  timed_leaves : a.time < b.time → b.frequency ≤ 52000 → (o : Option Direction) → Leads o → MatchOption (timed a b o) (Inside a → Inside b) (λ d. LeavesBy a b d)
  timed_leaves times high None h = h
  timed_leaves times high (Some d) h =
      let w : Way d a b = record { times = times; high = high; inside = h.0; beyond = h.1 } in
      record { inside = h.0; side = h.1; line = edge_outside d a b w (leaving_time d a b) (edge_first d a b w) }

  pub leaving_is : a.time < b.time → b.frequency ≤ 52000 → MatchOption (leaving a b) (Inside a → Inside b) (λ d. LeavesBy a b d)
  leaving_is times high = timed_leaves times high (leaves_to a b) leads
