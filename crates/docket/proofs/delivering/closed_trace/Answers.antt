-- A table that is the docket's has its disturbance.
use Rattle.std.proofs.Common.{◌≡◌, ℕ, ◌-◌, true, false, Some, sym, refl, ap, subst, arith, take, ◌∙◌}
use Rattle.timeline.specs.Orders.{Sound}
use Rattle.timeline.specs.Samples.{samples}
use Rattle.timeline.proofs.Orders.{decides_sound}
use Rattle.timeline.proofs.Faults.{sound_allowed}
use Rattle.disturbance.specs.Disturbance.{disturbance_of}
use Rattle.docket.proofs.CloseRule.{trace_sound}
use Rattle.docket.proofs.Delivered.{disturbed, found_in}
use Rattle.docket.proofs.delivering.closed_trace.Goals as goal

pub returns-then-has_disturbance : goal.returns-then-has_disturbance
returns-then-has_disturbance c =
    let t = c.args.table.now in
    let s : Sound samples c.args.count t = (decides_sound samples c.args.count t).0 (sym (sound_allowed samples c.args.count t c.in_ok-check_table.ensures.allowed_or_other_table)) in
    let all : c.args.count - 0 ≡ c.args.count = omega arith in
    let found = subst (λ (n : ℕ). disturbance_of (take n t) ≡ Some c.args.disturbance) all (c.has_disturbance.ensures.0 c.if-has_disturbance.true) in
    (record { sound = s; disturbed = disturbed (take c.args.count t) c.args.disturbance (trace_sound _ s.ordered) found }, ap (λ (n : ℕ). take n t) all)

pub returns-else-has_disturbance : goal.returns-else-has_disturbance
returns-else-has_disturbance c =
    let t = c.args.table.now in
    let all : c.args.count ≡ c.args.count - 0 = omega arith in (
      λ b.
          let found = subst (λ (n : ℕ). disturbance_of (take n t) ≡ Some c.args.disturbance) all (found_in (take c.args.count t) c.args.disturbance (trace_sound _ b.sound.ordered) b.disturbed) in
          absurd (let e : false ≡ true = sym c.if-has_disturbance.false ∙ c.has_disturbance.ensures.1 found in cc),
      refl,
    )
