use Rattle.std.proofs.Common.{◌≤◌, List, sym, subst, w64, SFits, to_z, of_z, rules}
use Rattle.std.proofs.lemmas.Int.{to_z-of_z}
use Rattle.figure.specs.declared.span.Span.{Span}
use Rattle.figure.specs.Defects.{MissedByTargets}
use Rattle.delivery.specs.declared.footing.Footing.{Footing}
use Rattle.delivery.specs.Footings.{points_on}
use Rattle.timeline.specs.declared.target.Target.{Target}
use Rattle.response.specs.declared.group.Row.{Row}
use Rattle.response.specs.declared.service.Side.{Side}
use Rattle.figure.specs.declared.request.Request.{Request}
use Rattle.figure.specs.Asked.{Asked, asked, with_row}
use Rattle.delivery.proofs.Parts.{early_cleared, spans_cleared}
use Rattle.delivery.proofs.Answering.{shift_lost, shift_found, shifts, refused_early, refused_never, refused_late, reported, fills}
use Rattle.delivery.proofs.deliver.deliver_over.Given as given
use Rattle.delivery.proofs.deliver.deliver_over.Goals as goal

-- what is asked of the call
abbrev asks : (g : given.Over) → Request g.row.R.Denot → Side → Row → Asked
asks g request side row = with_row side row (asked g.R.ResponseRule.triggers g.R.ResponseRule.weighs request)

pub returns-in_err-counted : goal.returns-in_err-counted
returns-in_err-counted g c =
    let w : SFits w64 c.args.request.enablement.watts = search rules in
    refused_early c.args.trace.samples.now c.args.disturbance (asks g c.args.request c.args.side c.args.row) _ _ _ _ _ c.trigger-trigger.ensures.answers_the_trigger_or_none c.base.ensures.answers_the_base_window (to_z-of_z w64 c.args.request.enablement.watts w) c.recovery-recovered.ensures.first_time_of_recovery_or_none c.reached-triggered.ensures _ _ c.in_err-counted.ensures.defect c.from_residual.ensures.1

pub returns-in_err-shifted_by : goal.returns-in_err-shifted_by
returns-in_err-shifted_by g c =
    let w : SFits w64 c.args.request.enablement.watts = search rules in
    let a = (asks g c.args.request c.args.side c.args.row) in
    let lost = shift_lost _ _ _ c.shift.ensures.is c.in_err-shifted_by.was in
    let none = shifts c.args.trace.samples.now c.args.disturbance a _ _ _ _ _ c.trigger-trigger.ensures.answers_the_trigger_or_none c.base.ensures.answers_the_base_window (to_z-of_z w64 c.args.request.enablement.watts w) c.recovery-recovered.ensures.first_time_of_recovery_or_none c.reached-triggered.ensures lost.0 in
    refused_never c.args.trace.samples.now c.args.disturbance a _ _ _ _ _ c.trigger-trigger.ensures.answers_the_trigger_or_none c.base.ensures.answers_the_base_window (to_z-of_z w64 c.args.request.enablement.watts w) c.recovery-recovered.ensures.first_time_of_recovery_or_none c.reached-triggered.ensures c.in_ok-counted.ensures.defect _ _ (none, lost.1) c.from_residual-in_err-shifted_by.ensures.1

pub returns-in_err-span_defect : goal.returns-in_err-span_defect
returns-in_err-span_defect g c =
    let w : SFits w64 c.args.request.enablement.watts = search rules in
    let z : SFits w64 c.in_ok-shifted_by.shifted_by = search rules in
    let a = (asks g c.args.request c.args.side c.args.row) in
    let shifted = shifts c.args.trace.samples.now c.args.disturbance a _ _ _ _ _ c.trigger-trigger.ensures.answers_the_trigger_or_none c.base.ensures.answers_the_base_window (to_z-of_z w64 c.args.request.enablement.watts w) c.recovery-recovered.ensures.first_time_of_recovery_or_none c.reached-triggered.ensures (shift_found _ _ _ c.shift.ensures.is c.in_ok-shifted_by.was) in
    refused_late c.args.trace.samples.now c.args.disturbance a _ _ _ _ _ c.trigger-trigger.ensures.answers_the_trigger_or_none c.base.ensures.answers_the_base_window (to_z-of_z w64 c.args.request.enablement.watts w) c.recovery-recovered.ensures.first_time_of_recovery_or_none c.reached-triggered.ensures c.in_ok-counted.ensures.defect c.in_ok-shifted_by.shifted_by shifted _ (simp (to_z-of_z w64 c.in_ok-shifted_by.shifted_by z) at c.placed_row-spans.ensures.first) (simp (to_z-of_z w64 c.in_ok-shifted_by.shifted_by z) at c.placed_row-spans.ensures.second) c.placed_row-spans.ensures.widest
    _ _ c.in_err-span_defect.ensures c.from_residual-in_err-span_defect.ensures.1

pub basis-counted_from-requires : goal.basis-counted_from-requires
basis-counted_from-requires g c =
    let footing : Footing = record { trace = c.args.trace; disturbance = c.args.disturbance; window = c.base.result } in
    let none = early_cleared footing c.args.request.targets.now c.args.request.count c.args.side (to_z w64 (of_z w64 c.args.request.enablement.watts)) c.in_ok-counted.ensures.defect in
    record { some = none.base; reached = subst (λ (gs : List Target). MissedByTargets gs c.args.disturbance.time (points_on footing) → ⊥) (sym c.in_ok-counted.ensures.counted) none.reached }

pub window_values-values-requires : goal.window_values-values-requires
window_values-values-requires g c =
    let none = spans_cleared c.args.trace.samples.now c.placed_row-spans.result.widest_gap c.placed_row-spans.result.first c.placed_row-spans.result.second c.in_ok-span_defect.ensures in
    record {
      times = (subst (λ (w : Span). w.multiplier ≤ 2) (sym c.placed_row-spans.ensures.first) c.requires.first.times.1, subst (λ (w : Span). w.multiplier ≤ 2) (sym c.placed_row-spans.ensures.second) c.requires.second.times.1);
      stand = (none.full, (none.within_first, none.within_second));
    }

pub returns : goal.returns
returns g c =
    let w : SFits w64 c.args.request.enablement.watts = search rules in
    let z : SFits w64 c.in_ok-shifted_by.shifted_by = search rules in
    let a = (asks g c.args.request c.args.side c.args.row) in
    let shifted = shifts c.args.trace.samples.now c.args.disturbance a _ _ _ _ _ c.trigger-trigger.ensures.answers_the_trigger_or_none c.base.ensures.answers_the_base_window (to_z-of_z w64 c.args.request.enablement.watts w) c.recovery-recovered.ensures.first_time_of_recovery_or_none c.reached-triggered.ensures (shift_found _ _ _ c.shift.ensures.is c.in_ok-shifted_by.was) in
    let first = simp (to_z-of_z w64 c.in_ok-shifted_by.shifted_by z) at c.placed_row-spans.ensures.first in
    let second = simp (to_z-of_z w64 c.in_ok-shifted_by.shifted_by z) at c.placed_row-spans.ensures.second in
    reported c.args.trace.samples.now c.args.disturbance a _ _ _ _ _ c.trigger-trigger.ensures.answers_the_trigger_or_none c.base.ensures.answers_the_base_window (to_z-of_z w64 c.args.request.enablement.watts w) c.recovery-recovered.ensures.first_time_of_recovery_or_none c.reached-triggered.ensures c.in_ok-counted.ensures.defect c.in_ok-shifted_by.shifted_by shifted _ first second c.placed_row-spans.ensures.widest _ c.in_ok-span_defect.ensures
    (fills c.args.trace.samples.now c.args.disturbance a _ _ c.basis-counted_from.result _ c.in_ok-counted.counted.all.now _ _ c.base.ensures.answers_the_base_window first second c.basis-counted_from.ensures.time c.in_ok-counted.ensures.counted c.basis-counted_from.ensures.base _ _ c.window_values-values.ensures.first c.window_values-values.ensures.second _ (to_z-of_z w64 c.args.request.enablement.watts w) c.judged.ensures)
