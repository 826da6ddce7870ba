-- Points whose times rise: those of a sound record, those that are kept of them, and those inside a window.
use Rattle.std.proofs.Common.{◌≡◌, ℕ, ◌+◌, ◌<◌, ◌≤◌, max, Bool, true, false, cond, ◌&&◌, ltb, List, [], ◌∷◌, filter, refl, add-one, arith}
use Rattle.std.proofs.lemmas.Bool.{ltb-true, and_parts}
use Rattle.exact.specs.Averages.{Climbs}
use Rattle.recording.specs.declared.sample.Sample.{Sample}
use Rattle.disturbance.specs.declared.direction.Direction.{Direction}
use Rattle.disturbance.specs.Trace.{Rising, Sound}
use Rattle.figure.specs.declared.point.Point.{Point}
use Rattle.figure.specs.Points.{course, After, Rises}
use Rattle.figure.specs.Steps.{inside}

-- ---- of a sound record
pub rising_rest : (s : Sample) (xs : List Sample) → Rising (s ∷ xs) → Rising xs
rising_rest s xs rising k less = rw (add-one k) (simp add-one at (rising (k + 1) (omega arith)))

module _ (d : Direction) where
  after_course : (s : Sample) (xs : List Sample) → Rising (s ∷ xs) → After s.time (course d xs)
  after_course s [] rising = tt
  after_course s (x ∷ xs) rising = (rising 0 (omega arith), after_course x xs (rising_rest s (x ∷ xs) rising))

  pub rises_course : (xs : List Sample) → Sound xs → Rises (course d xs)
  rises_course [] sound = tt
  rises_course (s ∷ xs) sound = after_course s xs sound.0

-- ---- of those that are kept
after_lower : (m l : ℕ) (ps : List Point) → l ≤ m → After m ps → After l ps
after_lower m l [] le h = tt
after_lower m l (p ∷ ps) le h = (omega arith, h.1)

pub after_rises : (t : ℕ) (ps : List Point) → After t ps → Rises ps
after_rises t [] h = tt
after_rises t (p ∷ ps) h = h.1

module _ (test : Point → Bool) where
  after_step : (l : ℕ) (p : Point) (ks : List Point) (b : Bool) → l < p.time → After p.time ks → After l (cond b (p ∷ ks) ks)
  after_step l p ks true less h = (less, h)
  after_step l p ks false less h = after_lower p.time l ks (omega arith) h

  pub after_kept : (l : ℕ) (ps : List Point) → After l ps → After l (filter test ps)
  after_kept l [] h = tt
  after_kept l (p ∷ ps) h = after_step l p (filter test ps) (test p) h.0 (after_kept p.time ps h.1)

  rises_step : (p : Point) (ks : List Point) (b : Bool) → After p.time ks → Rises (cond b (p ∷ ks) ks)
  rises_step p ks true h = h
  rises_step p ks false h = after_rises p.time ks h

  pub rises_kept : (ps : List Point) → Rises ps → Rises (filter test ps)
  rises_kept [] h = tt
  rises_kept (p ∷ ps) h = rises_step p (filter test ps) (test p) (after_kept p.time ps h)

-- ---- of those inside a window: t is the last time so far, and l that of the last point passed
module _ (start end : ℕ) where
  abbrev Onwards : ℕ → List Point → Type 0
  Onwards l ks = (t : ℕ) → t ≤ max start l → t ≤ end → Climbs (λ p. p.time) t ks end

  onwards_step : (l : ℕ) (p : Point) (ks : List Point) → l ≤ p.time → Onwards p.time ks
      → (b : Bool) → (ltb start p.time && ltb p.time end) ≡ b → Onwards l (cond b (p ∷ ks) ks)
  onwards_step l p ks le h true e t before upto =
      let within = and_parts (ltb start p.time) (ltb p.time end) e in
      let after = ltb-true start p.time within.0 in
      let until = ltb-true p.time end within.1 in
      (omega arith, h p.time (omega arith) (omega arith))
  onwards_step l p ks le h false e t before upto = h t (omega arith) upto

  onwards_after : (l : ℕ) (ps : List Point) → After l ps → Onwards l (inside start end ps)
  onwards_after l [] h = λ t before upto. upto
  onwards_after l (p ∷ ps) h = onwards_step l p (inside start end ps) (omega arith) (onwards_after p.time ps h.1) (ltb start p.time && ltb p.time end) refl

  onwards_rises : (ps : List Point) → Rises ps → Onwards 0 (inside start end ps)
  onwards_rises [] h = λ t before upto. upto
  onwards_rises (p ∷ ps) h = onwards_step 0 p (inside start end ps) (omega arith) (onwards_after p.time ps h) (ltb start p.time && ltb p.time end) refl

  pub inside_climbs : (ps : List Point) → Rises ps → start ≤ end → Climbs (λ p. p.time) start (inside start end ps) end
  inside_climbs ps h le = onwards_rises ps h start (omega arith) le
