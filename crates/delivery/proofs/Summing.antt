-- Adding up the trapezoids of a window, point by point.
use Rattle.std.proofs.Common.{◌≡◌, ℕ, ◌+◌, ◌-◌, ◌*◌, ◌<◌, ◌≤◌, Bool, true, false, cond, ◌&&◌, ltb, List, [], ◌∷◌, drop, ℤ, pos, ◌+ℤ◌, ◌*ℤ◌, ap, ◌∙◌, subst, arith}
use lib.IntN.{+ℤ_assoc, +ℤ_idl}
use Rattle.std.specs.List.{AllByRecursion}
use Rattle.std.proofs.ByRecursion.{All-weaker}
use Rattle.std.proofs.lemmas.Bool.{lt-ltb, le-ltb}
use Rattle.exact.specs.Wholes.{twice_area}
use Rattle.exact.specs.Limits.{Within}
use Rattle.exact.proofs.Limits.{within_in, within_more, within-+, within-*}
use Rattle.figure.specs.declared.point.Point.{Point}
use Rattle.figure.specs.Points.{After, Rises}
use Rattle.figure.specs.Steps.{inside}
use Rattle.figure.proofs.Rising.{after_rises}
use Rattle.delivery.proofs.Courses.{after_strict}
use Rattle.delivery.specs.Limits.{widest_response, widest_strip}

pub strip_within : (v w : ℤ) (k : ℕ) → Within widest_response v → Within widest_response w → Within (widest_strip * k) ((v +ℤ w) *ℤ pos k)
strip_within v w k h h' = within_more (omega arith) (within-* k (within-+ h h'))

-- after i points the sum stands at v0 at t0, on its way from v at t to v' at t'
pub record Summed (z : Point → ℤ) (ps : List Point) (t t' : ℕ) (v v' : ℤ) (i t0 : ℕ) (v0 sum : ℤ) : Type 0 where
  pub adds : sum +ℤ twice_area (λ p. p.time) z t0 v0 (inside t t' (drop i ps)) t' v' ≡ twice_area (λ p. p.time) z t v (inside t t' ps) t' v'
  pub rises : Rises (drop i ps)
  pub ahead : AllByRecursion (λ p. t < p.time → t0 < p.time) (drop i ps)
  pub from : t ≤ t0
  pub upto : t0 ≤ t'
  pub level : Within widest_response v0
  pub limit : Within (widest_strip * (t0 - t)) sum

module _ (z : Point → ℤ) (ps : List Point) (t t' : ℕ) (v v' : ℤ) where
  all_ahead : (ks : List Point) → AllByRecursion (λ p. t < p.time → t < p.time) ks
  all_ahead [] = tt
  all_ahead (p ∷ ks) = ((λ h. h), all_ahead ks)

  pub start : Rises ps → t ≤ t' → Within widest_response v → Summed z ps t t' v v' 0 t v (pos 0)
  start r le w = record { adds = +ℤ_idl _; rises = r; ahead = all_ahead ps; from = omega arith; upto = le; level = w; limit = within_in (omega arith) (omega arith) }

  module _ (i t0 : ℕ) (v0 sum : ℤ) (h : Summed z ps t t' v v' i t0 v0 sum) where
    -- the next point is p
    module _ (p : Point) (opens : drop i ps ≡ p ∷ drop (i + 1) ps) where
      abbrev Adds : List Point → Type 0
      Adds ks = sum +ℤ twice_area (λ p. p.time) z t0 v0 ks t' v' ≡ twice_area (λ p. p.time) z t v (inside t t' ps) t' v'

      next : (b : Bool) → (ltb t p.time && ltb p.time t') ≡ b → Adds (cond b (p ∷ inside t t' (drop (i + 1) ps)) (inside t t' (drop (i + 1) ps)))
      next b e = subst (λ (x : Bool). Adds (cond x (p ∷ inside t t' (drop (i + 1) ps)) (inside t t' (drop (i + 1) ps)))) e (subst (λ (ks : List Point). Adds (inside t t' ks)) opens h.adds)

      pub later : After p.time (drop (i + 1) ps)
      later = subst Rises opens h.rises

      pub here : (t < p.time → t0 < p.time) × AllByRecursion (λ p. t < p.time → t0 < p.time) (drop (i + 1) ps)
      here = subst (AllByRecursion (λ (p : Point). t < p.time → t0 < p.time)) opens h.ahead

      -- p stands before the window
      pub passed : p.time ≤ t → Summed z ps t t' v v' (i + 1) t0 v0 sum
      passed le = record { adds = next false (ap (λ (x : Bool). x && ltb p.time t') (le-ltb t p.time le)); rises = after_rises _ _ later; ahead = here.1; from = h.from; upto = h.upto; level = h.level; limit = h.limit }

      -- p stands in the window, and w is its value
      module _ (lo : t < p.time) (hi : p.time < t') (w : ℤ) (e : w ≡ z p) (small : Within widest_response w) where
        pub turn : Summed z ps t t' v v' (i + 1) p.time w (sum +ℤ (v0 +ℤ w) *ℤ pos (p.time - t0))
        turn = record {
          adds = rw e (+ℤ_assoc sum _ _ ∙ next true (ap (λ (x : Bool). x && ltb p.time t') (lt-ltb t p.time lo) ∙ lt-ltb p.time t' hi));
          rises = after_rises _ _ later;
          ahead = All-weaker (λ q. p.time < q.time) _ (λ q k _. k) _ (after_strict _ _ later);
          from = omega arith;
          upto = omega arith;
          level = small;
          limit = within_more (omega (arith, h.from, here.0 lo)) (within-+ h.limit (strip_within v0 w (p.time - t0) h.level small));
        }

    -- no point of the window is left
    pub end : inside t t' (drop i ps) ≡ [] → sum +ℤ (v0 +ℤ v') *ℤ pos (t' - t0) ≡ twice_area (λ p. p.time) z t v (inside t t' ps) t' v'
    end e = subst (λ (ks : List Point). sum +ℤ twice_area (λ p. p.time) z t0 v0 ks t' v' ≡ twice_area (λ p. p.time) z t v (inside t t' ps) t' v') e h.adds

    pub end_within : Within widest_response v' → Within (widest_strip * (t' - t)) (sum +ℤ (v0 +ℤ v') *ℤ pos (t' - t0))
    end_within w = within_more (omega (arith, h.from, h.upto)) (within-+ h.limit (strip_within v0 v' (t' - t0) h.level w))
