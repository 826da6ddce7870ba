use Rattle.std.proofs.Common.{ℕ, ◌-◌, ◌<◌, length, sym, subst, inl, inr, arith}
use Rattle.std.specs.List.{AllByRecursion}
use Rattle.std.proofs.lemmas.Bool.{ltb-true, lt-ltb}
use Rattle.timeline.specs.declared.target.Target.{Target}
use Rattle.delivery.specs.Limits.{no_target}
use Rattle.delivery.proofs.Ends.{found_at, all_up, all_down, at_first, at_last}
use Rattle.delivery.proofs.targets.Targets.miss.Goals as goal

pub returns-then-time-first : goal.returns-then-time-first
returns-then-time-first c =
    let gs = c.args.self.all.now in
    let first = found_at gs 0 c.in-Some-Some.first.now no_target c.in-Some-Some.ensures.value in
    let lt = subst (λ (g : Target). c.args.time < g.time) (sym first.1) c.if-time-first.true in
    (λ e. (first.0, inl (all_up (λ g. g.time) no_target gs c.args.self.rising (λ (t : ℕ). c.args.time < t) (λ m n le h. omega arith) lt)), λ h. lt-ltb _ _ c.if-time-first.true)

pub returns-else-time-first : goal.returns-else-time-first
returns-else-time-first c =
    let gs = c.args.self.all.now in
    let first = found_at gs 0 c.in-Some-Some.first.now no_target c.in-Some-Some.ensures.value in
    let last = found_at gs (length gs - 1) c.in-Some-Some.last.now no_target c.in-Some-Some.ensures'.value in
    let ends : c.in-Some-Some.last.now.time < c.args.time → AllByRecursion (λ g. g.time < c.args.time) gs =
    λ lt. all_down (λ g. g.time) no_target gs c.args.self.rising (λ (t : ℕ). t < c.args.time) (λ m n le h. omega arith) (subst (λ (g : Target). g.time < c.args.time) (sym last.1) lt) in (
      λ e. (first.0, inr (ends (ltb-true _ _ e))),
      λ h. elim h.1 [
        | inl late ↦
            let lt = subst (λ (g : Target). c.args.time < g.time) first.1 (at_first (λ g. g.time) no_target gs c.args.self.rising h.0 (λ (t : ℕ). c.args.time < t) late) in
            absurd (omega (arith, lt, c.if-time-first.false))
        | inr early ↦ lt-ltb _ _ (subst (λ (g : Target). g.time < c.args.time) last.1 (at_last (λ g. g.time) no_target gs c.args.self.rising h.0 (λ (t : ℕ). t < c.args.time) early))
      ],
    )
