use Rattle.std.proofs.Common.{sym}
use Rattle.std.proofs.lemmas.Bool.Decides.{not_from_Decides}
use Rattle.delivery.proofs.Signs.{decides_le_z}
use Rattle.delivery.proofs.Clocked.{on_clock_lem, valued}
use Rattle.delivery.proofs.values.window_values.Goals as goal

pub on_clock-requires : goal.on_clock-requires
on_clock-requires g c = on_clock_lem c.args.trace.samples.now c.args.trace.sound c.args.spans.first c.requires.stand.0 c.requires.stand.1.0

pub window_value-first-requires : goal.window_value-first-requires
window_value-first-requires g c =
    valued c.args.trace.samples.now c.args.trace.sound c.args.spans.first c.requires.stand.0 c.requires.stand.1.0 c.args.direction c.args.recovery c.on_clock.result c.on_clock.ensures c.requires.times.0 _ (c.used-before.ensures c.args.direction)

pub on_clock-requires-else-is_empty : goal.on_clock-requires-else-is_empty
on_clock-requires-else-is_empty g c =
    let full = not_from_Decides _ (decides_le_z c.args.spans.second.end c.args.spans.second.start) (sym c.if-is_empty.ensures) in
    on_clock_lem c.args.trace.samples.now c.args.trace.sound c.args.spans.second full c.requires.stand.1.1

pub window_value-requires : goal.window_value-requires
window_value-requires g c =
    let full = not_from_Decides _ (decides_le_z c.args.spans.second.end c.args.spans.second.start) (sym c.if-is_empty.ensures) in
    valued c.args.trace.samples.now c.args.trace.sound c.args.spans.second full c.requires.stand.1.1 c.args.direction c.args.recovery c.on_clock-else-is_empty.result c.on_clock-else-is_empty.ensures c.requires.times.1 _ (c.used-before.ensures c.args.direction)
