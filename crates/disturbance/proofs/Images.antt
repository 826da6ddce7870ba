-- Records that are each other's mirror images: the same times, frequencies as far to the other side of nominal, and powers the other way.
use Rattle.std.proofs.Common.{◌≡◌, ℕ, zero, suc, ◌+◌, ◌-◌, ◌*◌, ◌<◌, ◌≤◌, List, [], ◌∷◌, length, ℤ, pos, ◌+ℤ◌, ◌*ℤ◌, ◌<ℤ◌, neg_ℤ, Some, None, Option, sym, refl, ap, ◌∙◌, subst, inl, inr, add-one, arith}
use Rattle.std.specs.Option.{option_or}
use Rattle.std.specs.Prelude.{option_map}
use Rattle.std.specs.List.{AllZip}
use Rattle.std.proofs.Math.IntN.{neg_ℤ-neg_ℤ}
use Rattle.std.proofs.lemmas.Int.{ints}
use Rattle.std.proofs.lemmas.List.Elements.{AllZip-get_or, length_all_zip}
use Rattle.exact.specs.Fractions.{Fraction, whole, ◌≼◌, ◌≺◌}
use Rattle.exact.proofs.First.{first_as}
use Rattle.recording.specs.declared.sample.Sample.{Sample}
use Rattle.disturbance.specs.declared.direction.Direction.{Direction}
use Rattle.disturbance.specs.declared.direction.Direction.TheVariants.{Low, High}
use Rattle.disturbance.specs.declared.disturbance.Disturbance.{Disturbance}
use Rattle.disturbance.specs.Trace.{at}
use Rattle.disturbance.specs.Band.{lowest, highest, Inside, Beyond, Outside}
use Rattle.disturbance.specs.Direction.{dip, push}
use Rattle.disturbance.specs.Disturbance.{Leaves, OutsideAfter, Disturbed, Undisturbed, leaves_to, leaving_time, timed, leaving, disturbance_from, disturbance_of}
use Rattle.disturbance.specs.Line.{line, LineAt}
use Rattle.disturbance.specs.Passing.{turned}
use Rattle.disturbance.specs.Recovery.{recovery_dip, Recovered}
use Rattle.disturbance.specs.Trigger.{Triggered}
use Rattle.disturbance.specs.Turning.{HasMirror, mirrored, mirrored_record, Mirrorable, opposite, TurningLaws}
use Rattle.disturbance.proofs.Heights.{Between, under_sum, sum_under, over_sum, sum_over}
use Rattle.disturbance.proofs.Leaving.{side_unique, beyond_outside, Leads, leads}

-- two samples are each other's mirror image
pub record Images (s t : Sample) : Type 0 where
  pub time : s.time ≡ t.time
  pub frequency : s.frequency + t.frequency ≡ 100000
  pub power : t.power ≡ neg_ℤ s.power

-- mirror images, the other way round
turn : (s t : Sample) → Images s t → Images t s
turn s t h = record { time = sym h.time; frequency = omega (arith, h.frequency); power = sym (ap neg_ℤ h.power ∙ neg_ℤ-neg_ℤ s.power) }

pub turn_each : (xs ys : List Sample) → AllZip Images xs ys → AllZip Images ys xs
turn_each [] [] h = tt
turn_each [] (y ∷ ys) h = absurd h
turn_each (x ∷ xs) [] h = absurd h
turn_each (x ∷ xs) (y ∷ ys) h = (turn x y h.0, turn_each xs ys h.1)

-- a sample and its mirrored one
images_mirrored : (s : Sample) → HasMirror s.frequency → Images s (mirrored s)
images_mirrored s le = record { time = refl; frequency = omega (arith, le); power = refl }

pub images_record : (xs : List Sample) → Mirrorable xs → AllZip Images xs (mirrored_record xs)
images_record [] h = tt
images_record (s ∷ xs) h = (images_mirrored s (h 0 (omega arith)), images_record xs (λ k less. simp add-one at (h (k + 1) (omega arith))))

-- ---- directions
pub turned_twice : (d : Direction) → turned (turned d) ≡ d
turned_twice Low = refl
turned_twice High = refl

pub opposite_twice : (d : Disturbance) → opposite (opposite d) ≡ d
opposite_twice d = ap (λ side. record { time = d.time; direction = side }) (turned_twice d.direction)

pub dip_image : (d : Direction) (s t : Sample) → Images s t → dip d s.frequency ≡ dip (turned d) t.frequency
dip_image Low s t h = omega (arith, ints, h.frequency)
dip_image High s t h = omega (arith, ints, h.frequency)

pub push_turned : (d : Direction) (p : ℤ) → push (turned d) (neg_ℤ p) ≡ push d p
push_turned Low p = neg_ℤ-neg_ℤ p
push_turned High p = refl

pub push_image : (d : Direction) (s t : Sample) → Images s t → push d s.power ≡ push (turned d) t.power
push_image d s t h = sym (ap (push (turned d)) h.power ∙ push_turned d s.power)

-- ---- the band
inside_image : (s t : Sample) → Images s t → Inside s → Inside t
inside_image s t h i = (omega (arith, h.frequency, i.1), omega (arith, h.frequency, i.0))

beyond_image : (d : Direction) (s t : Sample) → Images s t → Beyond d s → Beyond (turned d) t
beyond_image Low s t h b = omega (arith, h.frequency, b)
beyond_image High s t h b = omega (arith, h.frequency, b)

-- for times p and q that make up n, and frequencies with their mirrored ones
both_times : (f g p : ℕ) → f + g ≡ 100000 → f * p + g * p ≡ 100000 * p
both_times f g p e = omega (arith, ap (λ i. i * p) e)

module _ (f g f' g' p q n : ℕ) (e : n ≡ p + q) (first : f + f' ≡ 100000) (second : g + g' ≡ 100000) where
  under_over : (pos f *ℤ pos p +ℤ pos g *ℤ pos q) <ℤ pos (49850 * n) → pos (50150 * n) <ℤ (pos f' *ℤ pos p +ℤ pos g' *ℤ pos q)
  under_over h = omega (arith, ints, both_times f f' p first, both_times g g' q second)

  over_under : pos (50150 * n) <ℤ (pos f *ℤ pos p +ℤ pos g *ℤ pos q) → (pos f' *ℤ pos p +ℤ pos g' *ℤ pos q) <ℤ pos (49850 * n)
  over_under h = omega (arith, ints, both_times f f' p first, both_times g g' q second)

between_images : (a b x y : Sample) (t : ℕ) → Images a x → Images b y → a.time < t → t ≤ b.time → Between a b t
between_images a b x y t h k after until = record { after = after; until = until; first = omega (arith, h.frequency); second = omega (arith, k.frequency) }

outside_image : (a b x y : Sample) (t : ℕ) → Images a x → Images b y → a.time < t → t ≤ b.time → Outside a b t → Outside x y t
outside_image a b x y t h k after until outside =
    let w = between_images a b x y t h k after until in
    let v = between_images x y a b t (turn a x h) (turn b y k) (omega (arith, h.time)) (omega (arith, k.time)) in
    let e : b.time - a.time ≡ (b.time - t) + (t - a.time) = omega arith in
    elim outside [
      | inl under ↦
          let s = under_over a.frequency b.frequency x.frequency y.frequency (b.time - t) (t - a.time) (b.time - a.time) e h.frequency k.frequency (under_sum pos lowest a b t w under) in
          inr (sum_over pos highest x y t v (rw (← h.time, ← k.time) s))
      | inr over ↦
          let s = over_under a.frequency b.frequency x.frequency y.frequency (b.time - t) (t - a.time) (b.time - a.time) e h.frequency k.frequency (over_sum pos highest a b t w over) in
          inl (sum_under pos lowest x y t v (rw (← h.time, ← k.time) s))
    ]

-- ---- records
module _ (xs ys : List Sample) (h : AllZip Images xs ys) where
  pub image_at : (k : ℕ) → k < length xs → Images (at xs k) (at ys k)
  image_at k there = AllZip-get_or Images xs ys k _ _ h there

  pub same_length : length xs ≡ length ys
  same_length = length_all_zip Images xs ys h

  -- what holds of the line of a record holds of the line of its image
  line_image : {P Q : Sample → Sample → ℕ → Type 0} (t : ℕ) → ((a b x y : Sample) → Images a x → Images b y → a.time < t → t ≤ b.time → P a b t → Q x y t) → LineAt P xs t → LineAt Q ys t
  line_image t over l =
      let earlier = image_at (l.place - 1) (omega arith) in
      let here = image_at l.place l.there in
      record {
        place = l.place;
        later = l.later;
        there = omega (arith, same_length, l.there);
        after = omega (arith, earlier.time, l.after);
        until = omega (arith, here.time, l.until);
        holds = over _ _ _ _ earlier here l.after l.until l.holds;
      }

  -- so with what is said of dips alone
  dips_image : (P : Fraction → Type 0) (d : Direction) (t : ℕ) → LineAt (λ a b u. P (line (dip d) a b u)) xs t → LineAt (λ a b u. P (line (dip (turned d)) a b u)) ys t
  dips_image P d t =
      line_image t
      (λ a b x y first second after until p.
      let e = dip_image d a x first in
      let f = dip_image d b y second in
      let same : line (dip d) a b t ≡ line (dip (turned d)) x y t = cc (e, f, first.time, second.time) in
      subst P same p)

  pub recovered_image : (d : Disturbance) (t : ℕ) → Recovered xs d t → Recovered ys (opposite d) t
  recovered_image d t r = (r.0, dips_image (λ x. x ≺ whole (pos recovery_dip)) d.direction t r.1)

  pub triggered_image : (d : Disturbance) (recovery : Option ℕ) (trigger t : ℕ) → Triggered xs d recovery trigger t → Triggered ys (opposite d) recovery trigger t
  triggered_image d recovery trigger t r = (r.0, r.1, dips_image (λ x. whole (pos trigger) ≼ x) d.direction t r.2)

  -- ---- the disturbance
  leaves_image : (k : ℕ) → Leaves xs k → Leaves ys k
  leaves_image k l =
      let earlier = image_at (k - 1) (omega (arith, l.there)) in
      let here = image_at k l.there in
      record {
        later = l.later;
        there = omega (arith, same_length, l.there);
        inside = inside_image _ _ earlier l.inside;
        outside = λ i. l.outside (inside_image _ _ (turn _ _ here) i);
      }

  outside_after_image : (k t : ℕ) → k < length xs → OutsideAfter xs k t → OutsideAfter ys k t
  outside_after_image k t there o =
      (omega (arith, (image_at (k - 1) (omega (arith, there))).time, o.0), line_image t (λ a b x y first second after until p. outside_image a b x y t first second after until p) o.1)

module _ (xs ys : List Sample) (h : AllZip Images xs ys) where
  pub disturbed_image : (d : Disturbance) → Disturbed xs d → Disturbed ys (opposite d)
  disturbed_image d p =
      let back = turn_each xs ys h in
      let there = p.leaves.holds.there in
      let there' : p.place < length ys = omega (arith, same_length xs ys h, there) in
      record {
        place = p.place;
        leaves = first_as (leaves_image xs ys h) (leaves_image ys xs back) p.leaves;
        line = first_as (λ t. outside_after_image xs ys h p.place t there) (λ t. outside_after_image ys xs back p.place t there') p.line;
        side = beyond_image d.direction _ _ (image_at xs ys h p.place there) p.side;
      }

  pub undisturbed_image : Undisturbed xs → Undisturbed ys
  undisturbed_image none k l = none k (leaves_image ys xs (turn_each xs ys h) k l)

-- ---- the disturbance, worked out
same_leads : (a b : Sample) (o p : Option Direction) → Leads a b o → Leads a b p → o ≡ p
same_leads a b None None h k = refl
same_leads a b None (Some e) h k = absurd (beyond_outside e b k.1 (h k.0))
same_leads a b (Some d) None h k = absurd (beyond_outside d b h.1 (k h.0))
same_leads a b (Some d) (Some e) h k = ap Some (side_unique d e b h.1 k.1)

leads_image : (a b x y : Sample) (o : Option Direction) → Images a x → Images b y → Leads a b o → Leads x y (option_map turned o)
leads_image a b x y None h k l = λ i. inside_image b y k (l (inside_image x a (turn a x h) i))
leads_image a b x y (Some d) h k l = (inside_image a x h l.0, beyond_image d b y k l.1)

leaves_to_image : (a b x y : Sample) → Images a x → Images b y → leaves_to x y ≡ option_map turned (leaves_to a b)
leaves_to_image a b x y h k = same_leads x y (leaves_to x y) (option_map turned (leaves_to a b)) (leads x y) (leads_image a b x y (leaves_to a b) h k (leads a b))

leaving_time_image : (d : Direction) (a b x y : Sample) → Images a x → Images b y → leaving_time (turned d) x y ≡ leaving_time d a b
leaving_time_image Low a b x y h k =
    let near : highest - x.frequency ≡ a.frequency - lowest = omega (arith, h.frequency) in
    let far : y.frequency - x.frequency ≡ a.frequency - b.frequency = omega (arith, h.frequency, k.frequency) in
    cc (near, far, h.time, k.time)
leaving_time_image High a b x y h k =
    let near : x.frequency - lowest ≡ highest - a.frequency = omega (arith, h.frequency) in
    let far : x.frequency - y.frequency ≡ b.frequency - a.frequency = omega (arith, h.frequency, k.frequency) in
    cc (near, far, h.time, k.time)

timed_image : (a b x y : Sample) → Images a x → Images b y → (o : Option Direction) → timed x y (option_map turned o) ≡ option_map opposite (timed a b o)
timed_image a b x y h k None = refl
timed_image a b x y h k (Some d) = ap (λ t. Some (record { time = t; direction = turned d })) (leaving_time_image d a b x y h k)

leaving_image : (a b x y : Sample) → Images a x → Images b y → leaving x y ≡ option_map opposite (leaving a b)
leaving_image a b x y h k = ap (timed x y) (leaves_to_image a b x y h k) ∙ timed_image a b x y h k (leaves_to a b)

option_or_image : (o p : Option Disturbance) → option_or (option_map opposite o) (option_map opposite p) ≡ option_map opposite (option_or o p)
option_or_image None p = refl
option_or_image (Some d) p = refl

module _ (xs ys : List Sample) (h : AllZip Images xs ys) where
  from_image : (left k : ℕ) → 1 ≤ k → (0 < left → k + left ≤ length xs) → disturbance_from ys k left ≡ option_map opposite (disturbance_from xs k left)
  unfolding disturbance_from
  from_image zero k one within = refl
  from_image (suc left) k one within =
      let le : k + suc left ≤ length xs = within (omega arith) in
      let here = leaving_image (at xs (k - 1)) (at xs k) (at ys (k - 1)) (at ys k) (image_at xs ys h (k - 1) (omega arith)) (image_at xs ys h k (omega arith)) in
      let rest = from_image left (k + 1) (omega arith) (λ more. omega arith) in
      ap (λ o. option_or o (disturbance_from ys (k + 1) left)) here
      ∙ ap (option_or (option_map opposite (leaving (at xs (k - 1)) (at xs k)))) rest
      ∙ option_or_image (leaving (at xs (k - 1)) (at xs k)) (disturbance_from xs (k + 1) left)

  pub worked_out_image : disturbance_of ys ≡ option_map opposite (disturbance_of xs)
  unfolding disturbance_of
  worked_out_image = ap (λ n. disturbance_from ys 1 (n - 1)) (sym (same_length xs ys h)) ∙ from_image (length xs - 1) 1 (omega arith) (λ more. omega arith)

-- ---- the laws
twice : (s : Sample) → HasMirror s.frequency → mirrored (mirrored s) ≡ s
twice s le =
    let f : 100000 - (100000 - s.frequency) ≡ s.frequency = omega (arith, le) in
    let p = neg_ℤ-neg_ℤ s.power in
    λ i. record { time = s.time; frequency = f i; power = p i }

module _ (xs : List Sample) (h : Mirrorable xs) where
  images : AllZip Images xs (mirrored_record xs)
  images = images_record xs h

  back : AllZip Images (mirrored_record xs) xs
  back = turn_each xs (mirrored_record xs) images

  -- from the mirrored record: a disturbance turned twice is the disturbance
  again : (P : Disturbance → Type 0) (d : Disturbance) → P (opposite (opposite d)) → P d
  again P d = subst P (opposite_twice d)

pub turning_laws_lem : TurningLaws
turning_laws_lem = record {
  sound_has_mirror = λ xs sound k there. omega (arith, (sound.1 k there).2);
  mirrored_twice = twice;
  dip_turns = λ d f le. sym (dip_image d (record { time = 0; frequency = f; power = pos 0 }) (record { time = 0; frequency = 100000 - f; power = pos 0 }) (record { time = refl; frequency = omega (arith, le); power = refl }));
  push_turns = push_turned;
  disturbance_turns = λ xs d h. (disturbed_image xs (mirrored_record xs) (images xs h) d, λ p. again xs h (Disturbed xs) d (disturbed_image (mirrored_record xs) xs (back xs h) (opposite d) p));
  no_disturbance_turns = λ xs h. (undisturbed_image xs (mirrored_record xs) (images xs h), undisturbed_image (mirrored_record xs) xs (back xs h));
  worked_out_turns = λ xs h. worked_out_image xs (mirrored_record xs) (images xs h);
  recovery_turns = λ xs d t h. (recovered_image xs (mirrored_record xs) (images xs h) d t, λ r. again xs h (λ e. Recovered xs e t) d (recovered_image (mirrored_record xs) xs (back xs h) (opposite d) t r));
  trigger_turns = λ xs d recovery trigger t h. (triggered_image xs (mirrored_record xs) (images xs h) d recovery trigger t, λ r. again xs h (λ e. Triggered xs e recovery trigger t) d (triggered_image (mirrored_record xs) xs (back xs h) (opposite d) recovery trigger t r));
}
