use Rattle.std.proofs.Common.{◌-◌, ◌^◌, ◌<◌, length, pos, ◌<ℤ◌, sym, subst, inl, inr, w64, SFits, rules}
use Rattle.std.proofs.lemmas.Int.{to_z-of_z, to_z_pos}
use Rattle.std.proofs.lemmas.Bool.Decides.{not_from_Decides}
use Rattle.recording.specs.declared.sample.Sample.{Sample}
use Rattle.delivery.proofs.Signs.{decides_lt_z, decides_le_z}
use Rattle.delivery.proofs.Ends.{found_at}
use Rattle.delivery.proofs.Reaching.{nothing, before_first, after_last, beyond_ends}
use Rattle.delivery.proofs.spans.is_beyond.Goals as goal

pub returns-then-span-first : goal.returns-then-span-first
returns-then-span-first c =
    let xs = c.args.trace.samples.now in
    let s : SFits w64 c.args.span.start = search rules in
    let first = found_at xs 0 c.in-Some-Some.first.now nothing c.in-Some-Some.ensures.value in
    let t : c.in-Some-Some.first.now.time < 2 ^ 63 = search rules in
    let lt : c.args.span.start <ℤ pos c.in-Some-Some.first.now.time = (decides_lt_z _ _).0 (simp (to_z-of_z, to_z_pos) at c.if-span-first.true) in
    (λ e. before_first xs c.args.trace.sound c.args.span (not_from_Decides _ (decides_le_z c.args.span.end c.args.span.start) (sym c.if-is_empty.ensures)) (subst (λ (a : Sample). c.args.span.start <ℤ pos a.time) (sym first.1) lt), λ h. c.if-span-first.true)

pub returns-else-span-first : goal.returns-else-span-first
returns-else-span-first c =
    let xs = c.args.trace.samples.now in
    let s : SFits w64 c.args.span.start = search rules in
    let e : SFits w64 c.args.span.end = search rules in
    let first = found_at xs 0 c.in-Some-Some.first.now nothing c.in-Some-Some.ensures.value in
    let last = found_at xs (length xs - 1) c.in-Some-Some.last.now nothing c.in-Some-Some.ensures'.value in
    let t : c.in-Some-Some.first.now.time < 2 ^ 63 = search rules in
    let u : c.in-Some-Some.last.now.time < 2 ^ 63 = search rules in
    let no = not_from_Decides _ (decides_lt_z c.args.span.start (pos c.in-Some-Some.first.now.time)) (simp (to_z-of_z, to_z_pos) at c.if-span-first.false) in
    simp (to_z-of_z, to_z_pos) (
      λ q. after_last xs c.args.trace.sound c.args.span (not_from_Decides _ (decides_le_z c.args.span.end c.args.span.start) (sym c.if-is_empty.ensures)) (subst (λ (a : Sample). pos a.time <ℤ c.args.span.end) (sym last.1) ((decides_lt_z _ _).0 q)),
      λ h. elim (beyond_ends xs c.args.trace.sound c.args.span first.0 h) [
        | inl a ↦ absurd (no (subst (λ (b : Sample). c.args.span.start <ℤ pos b.time) first.1 a))
        | inr a ↦ (decides_lt_z _ _).1 (subst (λ (b : Sample). pos b.time <ℤ c.args.span.end) last.1 a)
      ],
    )
