-- The points of a record place by place, and in order of their times.
use Rattle.std.proofs.Common.{◌≡◌, ℕ, ◌+◌, ◌<◌, ◌≤◌, List, [], ◌∷◌, length, get_or, drop, pos, sym, ap, ◌∙◌, subst, arith}
use Rattle.std.specs.List.{AllByRecursion}
use Rattle.std.proofs.lemmas.List.{length-map, get_or-map, drop_more}
use Rattle.std.proofs.ByRecursion.{All-get_or, All-weaker}
use Rattle.recording.specs.declared.sample.Sample.{Sample}
use Rattle.disturbance.specs.declared.direction.Direction.{Direction}
use Rattle.figure.specs.declared.point.Point.{Point}
use Rattle.figure.specs.Points.{turned, course, After, Rises}
use Rattle.delivery.specs.Limits.{Tame, BeginsBy}

-- points of a sound record
pub record Usable (points : List Point) : Type 0 where
  pub tame : AllByRecursion Tame points
  pub rises : Rises points

-- where no point is
abbrev pub origin : Point
origin = record { time = 0; dip = pos 0; push = pos 0 }

-- ---- the point p is the sample at place i, turned
module _ (d : Direction) (xs : List Sample) (i : ℕ) (lt : i < length xs) (x : Sample) (p : Point) (e : p ≡ turned d (get_or xs i x)) where
  inside : i < length (course d xs)
  inside = omega (arith, length-map xs (turned d))

  same : p ≡ get_or (course d xs) i origin
  same = e ∙ sym (get_or-map (turned d) xs i x origin lt)

  pub opens : drop i (course d xs) ≡ p ∷ drop (i + 1) (course d xs)
  opens = drop_more (course d xs) i origin inside ∙ ap (λ (q : Point). q ∷ drop (i + 1) (course d xs)) (sym same)

  pub holds_at : (P : Point → Type 0) → AllByRecursion P (course d xs) → P p
  holds_at P h = subst P (sym same) (All-get_or P (course d xs) i origin inside h)

pub passed_all : (d : Direction) (xs : List Sample) (i : ℕ) → length xs ≤ i → length (course d xs) ≤ i
passed_all d xs i le = omega (arith, length-map xs (turned d))

-- ---- times that rise
after_from : (t : ℕ) (ps : List Point) → After t ps → (l : ℕ) → l ≤ t → AllByRecursion (λ p. l < p.time) ps
after_from t [] h l le = tt
after_from t (p ∷ ps) h l le = (omega (arith, h.0), after_from p.time ps h.1 l (omega (arith, h.0)))

pub after_strict : (t : ℕ) (ps : List Point) → After t ps → AllByRecursion (λ p. t < p.time) ps
after_strict t ps h = after_from t ps h t (omega arith)

pub after_all : (t : ℕ) (ps : List Point) → After t ps → (l : ℕ) → l ≤ t → AllByRecursion (λ p. l ≤ p.time) ps
after_all t ps h l le = All-weaker (λ p. l < p.time) _ (λ p k. omega arith) ps (after_from t ps h l le)

-- ---- entries that begin by a time
pub begins_later : {X : Type 0} (time : X → ℕ) (t u : ℕ) (xs : List X) → t ≤ u → BeginsBy time t xs → BeginsBy time u xs
begins_later time t u [] le h = tt
begins_later time t u (x ∷ xs) le h = omega arith
