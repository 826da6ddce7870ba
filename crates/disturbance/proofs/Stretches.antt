-- Neighbouring samples, one pair after the other.
use Rattle.std.proofs.Common.{◌≡◌, ℕ, ◌+◌, ◌-◌, ◌<◌, ◌≤◌, List, length, drop, Some, None, Option, Bor, sym, subst, ap, ◌∙◌, inl, inr, arith}
use Rattle.std.specs.declared.slice.Windows.{Windows}
use Rattle.std.specs.Slice.Iter.{windows_size, windows_rest, windows_steps}
use Rattle.std.proofs.lemmas.Iterator.{window_more}
use Rattle.std.proofs.lemmas.Bool.{cases_lt}
use Rattle.recording.specs.declared.sample.Sample.{Sample}
use Rattle.disturbance.specs.declared.stretch.Stretch.{Stretch}
use Rattle.disturbance.specs.Trace.{at, Sound, Within}
use Rattle.disturbance.specs.Stretches.{FoundAt, NoneBefore}
use Rattle.disturbance.proofs.Times.{next_time}

-- the pair is samples k - 1 and k
pub record PairAt (xs : List Sample) (k : ℕ) (pair : List Sample) : Type 0 where
  pub later : 1 ≤ k
  pub there : k < length xs
  pub before : at pair 0 ≡ at xs (k - 1)
  pub after : at pair 1 ≡ at xs k

-- what is left of the windows is the end of the samples
pub record Left (xs : List Sample) (s : Windows Sample) : Type 0 where
  pub pairs : windows_size s ≡ 2
  pub fewer : length (windows_rest s) ≤ length xs
  pub end : windows_rest s ≡ drop (length xs - length (windows_rest s)) xs

-- the place of the next pair's later sample
abbrev pub next_place : List Sample → Windows Sample → ℕ
next_place xs s = length xs - length (windows_rest s) + 1

-- one pair more: what it is, what is left after it and the place of the next
pub record Turn (xs : List Sample) (s t : Windows Sample) (pair : List Sample) : Type 0 where
  pub found : PairAt xs (next_place xs s) pair
  pub left : Left xs t
  pub next : next_place xs t ≡ next_place xs s + 1

pub turn : (xs : List Sample) (s t : Windows Sample) (r : Option (Bor (List Sample))) (w : Bor (List Sample)) → r ≡ Some w → windows_steps s r t → Left xs s → Turn xs s t w.now
turn xs s t r w is steps l =
    let m = window_more xs s t r w is steps (omega (arith, l.pairs)) l.fewer l.end in
    let first : length xs - length (windows_rest s) + 0 ≡ next_place xs s - 1 = omega arith in
    record {
      found = record {
        later = omega arith;
        there = omega (arith, m.2, l.pairs, l.fewer);
        before = m.3 0 _ (omega (arith, l.pairs)) ∙ ap (at xs) first;
        after = m.3 1 _ (omega (arith, l.pairs));
      };
      left = record { pairs = steps.0 ∙ l.pairs; fewer = omega (arith, m.0, l.fewer); end = m.1 };
      next = omega (arith, m.0, l.fewer, m.2, l.pairs);
    }

module _ {xs : List Sample} {k : ℕ} {pair : List Sample} (s : Sound xs) (p : PairAt xs k pair) where
  pub pair_rises : (at pair 0).time < (at pair 1).time
  pair_rises = omega (arith, next_time xs s k p.later p.there, ap (λ x. x.time) p.before, ap (λ x. x.time) p.after)

  pub before_within : Within (at pair 0)
  before_within = subst Within (sym p.before) (s.1 (k - 1) (omega (arith, p.there)))

  pub after_within : Within (at pair 1)
  after_within = subst Within (sym p.after) (s.1 k p.there)

-- nothing is found up to one place more
pub none_more : {T : Type 0} {finds : Stretch → Option T → Type 0} {xs : List Sample} (n m : ℕ) → m ≡ n + 1 → NoneBefore finds xs n → FoundAt finds xs n None → NoneBefore finds xs m
none_more {finds = finds} {xs = xs} n m e below here k one lt =
    elim (cases_lt k n) [
      | inl less ↦ below k one less
      | inr more ↦ let same : n ≡ k = omega arith in subst (λ j. FoundAt finds xs j None) same here
    ]

-- what finds says of a stretch holds at its place
pub found_as : {T : Type 0} {finds : Stretch → Option T → Type 0} {xs : List Sample} {k : ℕ} {o : Option T} (P : Sample → Sample → Option T → Type 0)
    → ((s : Stretch) (p : Option T) → finds s p → P s.before s.after p)
    → FoundAt finds xs k o → P (at xs (k - 1)) (at xs k) o
found_as {xs = xs} {k = k} {o = o} P says f =
    subst (λ b. P b (at xs k) o) f.before (subst (λ a. P f.stretch.before a o) f.after (says f.stretch o f.found))
