-- The disturbance, found place by place: it is one, and the only one.
use Rattle.std.proofs.Common.{◌≡◌, ℕ, zero, suc, ◌+◌, ◌-◌, ◌<◌, ◌≤◌, List, length, Some, None, Option, refl, ap, ◌∙◌, subst, arith, below_more, MatchOption}
use Rattle.std.specs.Option.{option_or}
use Rattle.exact.specs.First.{First}
use Rattle.exact.proofs.First.{first_unique}
use Rattle.recording.specs.declared.sample.Sample.{Sample}
use Rattle.disturbance.specs.declared.disturbance.Disturbance.{Disturbance}
use Rattle.disturbance.specs.Trace.{at, Sound}
use Rattle.disturbance.specs.Band.{Inside, Beyond, Outside}
use Rattle.disturbance.specs.Disturbance.{Leaves, LeavesBy, OutsideAfter, Disturbed, Answers, leaving, disturbance_from, disturbance_of, DisturbanceLaws}
use Rattle.disturbance.proofs.Times.{next_time}
use Rattle.disturbance.proofs.Scans.{line_here}
use Rattle.disturbance.proofs.Leaving.{side_unique, beyond_outside, leaving_is}

-- ---- at most one
same_parts : (d e : Disturbance) → d.time ≡ e.time → d.direction ≡ e.direction → d ≡ e
same_parts d e p q = ap (λ t. record { time = t; direction = d.direction }) p ∙ ap (λ s. record { time = e.time; direction = s }) q

pub disturbed_unique : (xs : List Sample) (d e : Disturbance) → Disturbed xs d → Disturbed xs e → d ≡ e
disturbed_unique xs d e p q =
    let same : p.place ≡ q.place = first_unique p.leaves q.leaves in
    same_parts d e
    (first_unique (subst (λ k. First (OutsideAfter xs k) d.time) same p.line) q.line)
    (side_unique d.direction e.direction (at xs q.place) (subst (λ k. Beyond d.direction (at xs k)) same p.side) q.side)

pub answers_unique : (xs : List Sample) (o p : Option Disturbance) → Answers xs o → Answers xs p → o ≡ p
answers_unique xs None None h k = refl
answers_unique xs None (Some e) h k = absurd (h k.place k.leaves.holds)
answers_unique xs (Some d) None h k = absurd (k h.place h.leaves.holds)
answers_unique xs (Some d) (Some e) h k = ap Some (disturbed_unique xs d e h k)

-- ---- at the first place that leaves
module _ (xs : List Sample) (s : Sound xs) where
  pub disturbed_at : (k : ℕ) (d : Disturbance) → 1 ≤ k → k < length xs → ((j : ℕ) → j < k → Leaves xs j → ⊥) → LeavesBy (at xs (k - 1)) (at xs k) d → Disturbed xs d
  disturbed_at k d one there below h =
      let f = h.line in
      record {
        place = k;
        leaves = record { holds = record { later = one; there = there; inside = h.inside; outside = beyond_outside d.direction (at xs k) h.side }; earlier = below };
        side = h.side;
        line = record {
          holds = (f.holds.0, record { place = k; later = one; there = there; after = f.holds.0; until = f.holds.1; holds = f.holds.2 });
          earlier = λ u less l. let until : u ≤ (at xs k).time = omega (arith, f.holds.1) in f.earlier u less (l.0, until, line_here xs s Outside u k l.1 there l.0 until);
        };
      }

  -- a place that does not leave
  pub not_leaving : (k : ℕ) → (Inside (at xs (k - 1)) → Inside (at xs k)) → Leaves xs k → ⊥
  not_leaving k h l = l.outside (h l.inside)

  option_or_answers : {N : Type 0} {F : Disturbance → Type 0} (o rest : Option Disturbance) → MatchOption o N F → ((d : Disturbance) → F d → Disturbed xs d) → (N → Answers xs rest) → Answers xs (option_or o rest)
  option_or_answers (Some d) rest h found none = found d h
  option_or_answers None rest h found none = none h

  from_place : (left k : ℕ) → 1 ≤ k → left ≡ length xs - k → ((j : ℕ) → j < k → Leaves xs j → ⊥) → Answers xs (disturbance_from xs k left)
  unfolding disturbance_from
  from_place zero k one e below = λ j l. below j (omega (arith, l.there)) l
  from_place (suc left) k one e below =
      let there : k < length xs = omega arith in
      option_or_answers (leaving (at xs (k - 1)) (at xs k)) (disturbance_from xs (k + 1) left) (leaving_is (at xs (k - 1)) (at xs k) (next_time xs s k one there) (s.1 k there).2)
      (λ d h. disturbed_at k d one there below h)
      (λ h. from_place left (k + 1) (omega arith) (omega arith) (below_more _ _ below (not_leaving k h)))

  pub worked_out : Answers xs (disturbance_of xs)
  unfolding disturbance_of
  worked_out = from_place (length xs - 1) 1 (omega arith) (omega arith) (λ j lt l. omega (arith, l.later))

pub disturbance_laws_lem : DisturbanceLaws
disturbance_laws_lem = record {
  answers = worked_out;
  only = λ xs o s h. answers_unique xs o (disturbance_of xs) h (worked_out xs s);
  same = disturbed_unique;
}
