use Rattle.std.proofs.Common.{◌≡◌, ℕ, ◌-◌, ltb, take, Some, subst, arith, rules, of_calls}
use Rattle.std.proofs.lemmas.List.Sorted.{IsPartitionedBy-ltb, IsPartitionPoint-from_clause}
use Rattle.figure.specs.Points.{course}
use Rattle.figure.specs.Steps.{used_points}
use Rattle.delivery.proofs.Using.{times_rise, first_used}
use Rattle.delivery.proofs.points.before.Goals as goal

pub returns : goal.returns
returns c =
    let xs = c.args.trace.samples.now in
    let point = IsPartitionPoint-from_clause (λ s. ltb s.time c.args.time) xs c.partition_point-count.result c.partition_point-count.ensures.partitioned
    (IsPartitionedBy-ltb (λ s. s.time) xs c.args.time (times_rise xs c.args.trace.sound.0)) (λ a r f k. search (rules, of_calls)) in
    let same : c.partition_point-count.result ≡ c.partition_point-count.result - 0 = omega arith in
    λ d. subst (λ (n : ℕ). course d (take n xs) ≡ used_points (Some c.args.time) (course d xs)) same (first_used c.args.time d xs c.partition_point-count.result point.0 point.1)
