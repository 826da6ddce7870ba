-- The push of a base point, and the loop that adds the pushes up.
use Rattle.std.proofs.Common.{◌≡◌, ℕ, ◌+◌, ◌*◌, ◌^◌, ◌<◌, ◌≤◌, Bool, true, false, cond, eqb, List, [], ◌∷◌, length, get_or, drop, ℤ, pos, ◌+ℤ◌, ◌-ℤ◌, ◌*ℤ◌, sym, refl, ap, ◌∙◌, subst, arith, w32, w64, SFits, to_z, of_z}
use lib.IntN.{+ℤ_assoc, +ℤ_idl, +ℤ_idr}
use mir.Syntax.{w128}
use borrow.Author.Differences.{ints, neg_is}
use Rattle.std.specs.Int.{int_max}
use Rattle.std.specs.List.{AllByRecursion}
use Rattle.std.proofs.lemmas.Int.{clamps, to_z-of_z}
use Rattle.std.proofs.lemmas.List.{drop_all, get_or_default}
use Rattle.std.proofs.lemmas.Bool.{eqb-false}
use Rattle.exact.specs.Fractions.{whole, frac}
use Rattle.exact.specs.Rounding.{half_up}
use Rattle.exact.specs.Averages.{sum_of, mean}
use Rattle.exact.specs.Wholes.{Is}
use Rattle.exact.specs.Limits.{Within}
use Rattle.exact.proofs.Wholes.{is_whole, is-⊕, is_none, is_rise, half_up_mean_of}
use Rattle.exact.proofs.Limits.{within_in, within_out, within_more, within-+, within--, half_up_within}
use Rattle.timeline.specs.declared.target.Target.{Target}
use Rattle.disturbance.specs.declared.direction.Direction.{Direction}
use Rattle.disturbance.specs.declared.direction.Direction.TheVariants.{Low, High}
use Rattle.disturbance.specs.Direction.{push}
use Rattle.figure.specs.declared.point.Point.{Point}
use Rattle.figure.specs.Steps.{Case, power, to_half_up, trajectory, push_with, base_push, is_base, base_points}
use Rattle.delivery.specs.Limits.{Aimed, BeginsBy, no_target, widest_base, widest_dividend, widest_height, widest_power, widest_rise}
use Rattle.delivery.proofs.Held.{Held, held, HeldSum, held_sum, hundred}

-- ---- one push
pub turned_within : {A : ℕ} (d : Direction) (power : ℤ) → Within A power → Within A (push d power)
turned_within Low power h = h
turned_within High power h = let l = within_out h in within_in (omega (arith, neg_is power)) (omega (arith, neg_is power))

-- the power of target i, turned and in hundredths: q is what it is turned to, r the hundredths
pub aimed : (d : Direction) (gs : List Target) (i : ℕ) (g : Target) {q r : ℤ} → i < length gs → ((k : ℕ) → k < length gs → Aimed (get_or gs k no_target)) → q ≡ push d (to_z w32 (of_z w32 (get_or gs i g).power)) → r ≡ to_z w64 (of_z w64 q) *ℤ pos 100 → Held widest_height r (push d (get_or gs i g).power *ℤ pos 100)
aimed d gs i g {q} {r} lt h e f =
    let w = subst (λ (t : Target). Within widest_power t.power) (get_or_default gs i no_target g lt) (h i lt).power_within in
    let l = within_out w in
    let small : SFits w32 (get_or gs i g).power = omega (arith, ints) in
    let e' : q ≡ push d (get_or gs i g).power = e ∙ ap (push d) (to_z-of_z w32 (get_or gs i g).power small) in
    hundred (f ∙ ap (λ (x : ℤ). to_z w64 (of_z w64 x) *ℤ pos 100) e') (turned_within d _ w)

-- z is the power of p
module _ (c : Case) (p : Point) (z : ℤ) (is : whole z ≡ power p) where
  pub level_is : length c.targets ≡ 0 → Is (base_push to_half_up c p) z 1
  level_is none = by c.targets none
    where
      by : (gs : List Target) → length gs ≡ 0 → Is (push_with to_half_up c gs p) z 1
      by [] none = subst (λ x. Is x z 1) is (is_whole z)
      by (g ∷ gs) none = absurd (omega arith)

  pub raised_is : (a b : ℤ) → 0 < length c.targets → whole a ≡ trajectory to_half_up c c.disturbance → whole b ≡ trajectory to_half_up c p.time → Is (base_push to_half_up c p) (z +ℤ int_max (a -ℤ b) (pos 0)) 1
  raised_is a b some there here = by c.targets some
    where
      by : (gs : List Target) → 0 < length gs → Is (push_with to_half_up c gs p) (z +ℤ int_max (a -ℤ b) (pos 0)) 1
      by [] some = absurd (omega arith)
      by (g ∷ gs) some = rw (← is, ← there, ← here) (is-⊕ (is_whole z) (is_rise a b))

pub rise_within : (a b : ℤ) → Within widest_height a → Within widest_height b → Within widest_rise (int_max (a -ℤ b) (pos 0))
rise_within a b h k = let l = within_out (within-- h k) in within_in (omega (arith, ints, clamps)) (omega (arith, ints, clamps))

-- ---- the sum of the pushes of the base points
pub some_there : (n : ℕ) → eqb n 0 ≡ false → 0 < n
some_there n e = omega (arith, eqb-false n 0 e)

pub some_kept : (ps : List Point) → (ps ≡ [] → ⊥) → 0 < length ps
some_kept [] h = absurd (h refl)
some_kept (p ∷ ps) h = omega arith

-- after i points, of which `count` count
pub record Added (c : Case) (i count : ℕ) (sum : ℤ) : Type 0 where
  pub adds : (n : ℤ) → Is (sum_of (base_push to_half_up c) (base_points c.disturbance c.base (drop i c.points))) n 1 → Is (sum_of (base_push to_half_up c) (base_points c.disturbance c.base c.points)) (sum +ℤ n) 1
  pub counts : count + length (base_points c.disturbance c.base (drop i c.points)) ≡ length (base_points c.disturbance c.base c.points)
  pub each : AllByRecursion (λ p. BeginsBy (λ g. g.time) p.time c.targets) (base_points c.disturbance c.base (drop i c.points))
  pub few : count ≤ i
  pub limit : Within (widest_base * count) sum

pub start : {c : Case} → AllByRecursion (λ p. BeginsBy (λ g. g.time) p.time c.targets) (base_points c.disturbance c.base c.points) → Added c 0 0 (pos 0)
start h = record { adds = λ n k. rw (+ℤ_idl n) k; counts = omega arith; each = h; few = omega arith; limit = within_in (omega arith) (omega arith) }

module _ {c : Case} {i count : ℕ} {sum : ℤ} (h : Added c i count sum) where
  abbrev counted : List Point → List Point
  counted ks = base_points c.disturbance c.base ks

  abbrev Counts : ℕ → List Point → Type 0
  Counts n ks = n + length ks ≡ length (counted c.points)

  abbrev Knows : Point → Type 0
  Knows p = BeginsBy (λ g. g.time) p.time c.targets

  abbrev Adds : ℤ → List Point → Type 0
  Adds n ks = Is (sum_of (base_push to_half_up c) ks) n 1

  -- the next point is p
  module _ {p : Point} (opens : drop i c.points ≡ p ∷ drop (i + 1) c.points) where
    -- what is left, by whether p counts
    left : (b : Bool) → is_base c.disturbance c.base p.time ≡ b → counted (drop i c.points) ≡ cond b (p ∷ counted (drop (i + 1) c.points)) (counted (drop (i + 1) c.points))
    left b e = ap counted opens ∙ ap (λ (x : Bool). cond x (p ∷ counted (drop (i + 1) c.points)) (counted (drop (i + 1) c.points))) e

    pub passed : false ≡ is_base c.disturbance c.base p.time → Added c (i + 1) count sum
    passed e = let l = left false (sym e) in
        record { adds = λ n k. h.adds n (subst (Adds n) (sym l) k); counts = subst (Counts count) l h.counts; each = subst (AllByRecursion Knows) l h.each; few = omega (arith, h.few); limit = h.limit }

    module _ (e : true ≡ is_base c.disturbance c.base p.time) where
      known : AllByRecursion Knows (p ∷ counted (drop (i + 1) c.points))
      known = subst (AllByRecursion Knows) (left true (sym e)) h.each

      pub this : BeginsBy (λ g. g.time) p.time c.targets
      this = known.0

      -- z is its push
      module _ {z : ℤ} (is : Is (base_push to_half_up c p) z 1) (small : Within widest_base z) where
        turn : Added c (i + 1) (count + 1) (sum +ℤ z)
        turn = let l = left true (sym e) in
            record {
              adds = λ n k. rw (+ℤ_assoc sum z n) (h.adds (z +ℤ n) (subst (Adds (z +ℤ n)) (sym l) (is-⊕ is k)));
              counts = let k = subst (Counts count) l h.counts in omega arith;
              each = known.1;
              few = omega (arith, h.few);
              limit = within_more (omega arith) (within-+ h.limit small);
            }

        -- the sum as code holds it
        module _ (le : count + 1 ≤ 2 ^ 64) where
          pub sum_more : HeldSum widest_dividend sum z (sum +ℤ z)
          sum_more = held_sum (omega arith) (held {A = widest_base} (omega arith) refl small).is refl (within_more (omega arith) turn.limit)

          pub again : Added c (i + 1) (count + 1) (to_z w128 (of_z w128 (sum +ℤ to_z w128 (of_z w128 z))))
          again = subst (λ (x : ℤ). Added c (i + 1) (count + 1) x) (sym sum_more.is) turn

  -- after the last point, where some point counts
  module _ (le : length c.points ≤ i) (some : 0 < length (base_points c.disturbance c.base c.points)) where
    none_left : counted (drop i c.points) ≡ []
    none_left = ap counted (drop_all i c.points le)

    count_is : count ≡ length (counted c.points)
    count_is = let k = subst (Counts count) none_left h.counts in omega arith

    sum_is : Adds sum (counted c.points)
    sum_is = subst (λ (n : ℤ). Adds n (counted c.points)) (+ℤ_idr sum) (h.adds (pos 0) (subst (Adds (pos 0)) (sym none_left) (is_none (base_push to_half_up c))))

    pub counts_some : 0 < count
    counts_some = omega (arith, count_is)

    -- r is half-up of the mean
    pub mean_held : {r : ℤ} → r ≡ half_up (frac sum count) → Held widest_base r (half_up (mean (base_push to_half_up c) (base_points c.disturbance c.base c.points)))
    mean_held e = held (omega arith) (e ∙ ap (λ (k : ℕ). half_up (frac sum k)) count_is ∙ sym (half_up_mean_of (base_push to_half_up c) (counted c.points) sum some sum_is)) (subst (Within widest_base) (sym e) (half_up_within widest_base count sum counts_some h.limit))

  pub wide : count ≤ 2 ^ 64 → Within widest_dividend sum
  wide le = within_more (omega arith) h.limit
