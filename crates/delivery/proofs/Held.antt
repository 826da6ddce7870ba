-- Signed numbers as code holds them in 128 bits.
use Rattle.std.proofs.Common.{◌≡◌, ℕ, ◌^◌, ◌<◌, ℤ, pos, ◌+ℤ◌, ◌*ℤ◌, sym, ap, ◌∙◌, subst, arith, w64, SFits, to_z, of_z}
use mir.Syntax.{w128}
use Rattle.std.proofs.lemmas.Int.{to_z-of_z, ints}
use Rattle.exact.specs.Limits.{Within}
use Rattle.exact.proofs.Limits.{within_out, within_more, within-*, within_fits}
use Rattle.delivery.specs.Limits.{widest_height, widest_power}

-- r is held as it is, within A
pub record Held (A : ℕ) (r e : ℤ) : Type 0 where
  pub is : to_z w128 (of_z w128 r) ≡ e
  pub within : Within A (to_z w128 (of_z w128 r))

pub held : {A : ℕ} {r e : ℤ} → A < 2 ^ 127 → r ≡ e → Within A r → Held A r e
held {A} {r} lt f h = let q = to_z-of_z w128 r (within_fits lt h) in record { is = q ∙ f; within = subst (Within A) (sym q) h }

-- the sum of a and r, which is within A
pub record HeldSum (A : ℕ) (a r e : ℤ) : Type 0 where
  pub fits : SFits w128 (a +ℤ to_z w128 (of_z w128 r))
  pub is : to_z w128 (of_z w128 (a +ℤ to_z w128 (of_z w128 r))) ≡ e
  pub within : Within A (to_z w128 (of_z w128 (a +ℤ to_z w128 (of_z w128 r))))

pub held_sum : {A : ℕ} {a r e x : ℤ} → A < 2 ^ 127 → to_z w128 (of_z w128 r) ≡ x → a +ℤ x ≡ e → Within A (a +ℤ x) → HeldSum A a r e
held_sum {A} {a} {r} {e} {x} lt q f h =
    let g : a +ℤ to_z w128 (of_z w128 r) ≡ a +ℤ x = ap (λ (k : ℤ). a +ℤ k) q in
    let fits = subst (SFits w128) (sym g) (within_fits lt h) in
    let is = to_z-of_z w128 (a +ℤ to_z w128 (of_z w128 r)) fits ∙ g in
    record { fits = fits; is = is ∙ f; within = subst (Within A) (sym is) h }

-- watts in hundredths
pub hundred : {r p : ℤ} → r ≡ to_z w64 (of_z w64 p) *ℤ pos 100 → Within widest_power p → Held widest_height r (p *ℤ pos 100)
hundred {r} {p} e h =
    let l = within_out h in
    let small : SFits w64 p = omega (arith, ints) in
    let f : r ≡ p *ℤ pos 100 = simp to_z-of_z at e in
    held (omega arith) f (subst (Within widest_height) (sym f) (within_more (omega arith) (within-* 100 h)))
