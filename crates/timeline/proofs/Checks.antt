-- The first fault of a checking order, by tests that tell.
use Rattle.std.proofs.Common.{◌≡◌, ℕ, Bool, true, false, cond, ◌⊎◌, List, [], ◌∷◌, ◌++◌, map, Some, None, Ok, Err, is_ok, Decides, Option, Result, MatchResult, sym, refl, ap, ◌∙◌, inl, inr, arith}
use Rattle.std.proofs.lemmas.Bool.Decides.{not_from_Decides}
use Rattle.timeline.specs.Checks.{Fault, FirstFault, Check, fault_of, TheFirst, first_of, unless, Allows}

-- there is one first fault
pub first_fault_once : {A : Type 0} (fs : List (Fault A)) (r s : Option A) → FirstFault fs r → FirstFault fs s → s ≡ r
first_fault_once [] r s p q = q ∙ sym p
first_fault_once (f ∷ fs) r s (inl p) (inl q) = q.1 ∙ sym p.1
first_fault_once (f ∷ fs) r s (inl p) (inr q) = absurd (q.0 p.0)
first_fault_once (f ∷ fs) r s (inr p) (inl q) = absurd (p.0 q.0)
first_fault_once (f ∷ fs) r s (inr p) (inr q) = first_fault_once fs r s p.1 q.1

-- each test tells whether its fault applies
abbrev pub Told : {A : Type 0} → List (Check A) → Type 0
Told [] = Unit {0}
Told (c ∷ cs) = Decides c.test c.Applies × Told cs

first_by : {A : Type 0} (c : Check A) (cs : List (Check A)) (b : Bool) → Decides b c.Applies → FirstFault (map fault_of cs) (first_of cs) → FirstFault (map fault_of (c ∷ cs)) (cond b (Some c.answer) (first_of cs))
first_by c cs true d rest = inl (d.0 refl, refl)
first_by c cs false d rest = inr (not_from_Decides false d refl, rest)

first_is : {A : Type 0} (cs : List (Check A)) → Told cs → FirstFault (map fault_of cs) (first_of cs)
first_is [] t = refl
first_is (c ∷ cs) t = first_by c cs c.test t.0 (first_is cs t.1)

pub the_first : {A : Type 0} (cs : List (Check A)) → Told cs → TheFirst cs (first_of cs)
the_first cs t = record { is = first_is cs t; only = λ s p. first_fault_once (map fault_of cs) (first_of cs) s (first_is cs t) p }

-- no test found its fault
abbrev pub NoneFound : {A : Type 0} → List (Check A) → Type 0
NoneFound [] = Unit {0}
NoneFound (c ∷ cs) = (c.test ≡ false) × NoneFound cs

none_found_by : {A : Type 0} (c : Check A) (cs : List (Check A)) (b : Bool) → cond b (Some c.answer) (first_of cs) ≡ None → (b ≡ false) × (first_of cs ≡ None)
none_found_by c cs true e = let z : ◌≡◌ {A = ℕ} 0 1 = cc in absurd (omega arith)
none_found_by c cs false e = (refl, e)

pub none_found : {A : Type 0} (cs : List (Check A)) → first_of cs ≡ None → NoneFound cs
none_found [] e = tt
none_found (c ∷ cs) e = let p = none_found_by c cs c.test e in (p.0, none_found cs p.1)

-- ---- a call that is allowed, and one that is refused
-- a call that gives a value met no fault, whatever its fault is told as
pub no_fault : {A F G : Type 0} (fault : Option F) (value given : A) (r : Result A F) (told : Result A G) → r ≡ unless fault value → is_ok told ≡ is_ok r → told ≡ Ok given → fault ≡ None
no_fault None value given r told e v h = refl
no_fault (Some why) value given r told e v h = let no : is_ok told ≡ false = v ∙ ap is_ok e in let yes : is_ok told ≡ true = ap is_ok h in grind arith

pub ok_none : {A F : Type 0} (fault : Option F) (value given : A) → Ok given ≡ unless fault value → fault ≡ None
ok_none None value given e = refl
ok_none (Some why) value given e = let z : ◌≡◌ {A = ℕ} 0 1 = cc in absurd (omega arith)

pub ok_same : {A F : Type 0} (fault : Option F) (value given : A) → Ok given ≡ unless fault value → given ≡ value
ok_same None value given e = cc
ok_same (Some why) value given e = let z : ◌≡◌ {A = ℕ} 0 1 = cc in absurd (omega arith)

pub err_some : {A F : Type 0} (fault : Option F) (value : A) (why : F) → Err why ≡ unless fault value → fault ≡ Some why
err_some None value why e = let z : ◌≡◌ {A = ℕ} 0 1 = cc in absurd (omega arith)
err_some (Some other) value why e = cc

-- the same is allowed by other checks that come to the same; its value is let go
pub done_as : {A F : Type 0} (cs ds : List (Check F)) (value : A) (r : Result A F) → first_of cs ≡ first_of ds → Told ds → Allows cs value r → MatchResult r (λ _. Allows ds (tt {0}) (Ok (tt {0}))) (λ why. Allows ds (tt {0}) (Err why))
done_as cs ds value (Ok given) e t a =
    let none : first_of ds ≡ None = sym e ∙ ok_none (first_of cs) value given a.answer in
    record { first = the_first ds t; answer = ap (λ o. unless o (tt {0})) (sym none) }
done_as cs ds value (Err why) e t a =
    let some : first_of ds ≡ Some why = sym e ∙ err_some (first_of cs) value why a.answer in
    record { first = the_first ds t; answer = ap (λ o. unless o (tt {0})) (sym some) }

-- ---- faults in turn
-- one fault for another that applies exactly if it does, and what follows for what follows
pub fault_over : {A B W F G : Type 0} → (A → B) → (B → A) → (F → G) → (A × W) ⊎ ((A → ⊥) × F) → (B × W) ⊎ ((B → ⊥) × G)
fault_over to from rest (inl f) = inl (to f.0, f.1)
fault_over to from rest (inr f) = inr (λ b. f.0 (from b), rest f.1)

-- the first fault of a list is the first of a longer one, and where none applies the first comes after it
pub first_in_front : {A : Type 0} (fs gs : List (Fault A)) (why : A) → FirstFault fs (Some why) → FirstFault (fs ++ gs) (Some why)
first_in_front [] gs why e = let z : ◌≡◌ {A = ℕ} 0 1 = cc in absurd (omega arith)
first_in_front (f ∷ fs) gs why h = fault_over (λ p. p) (λ p. p) (first_in_front fs gs why) h

pub first_behind : {A : Type 0} (fs gs : List (Fault A)) (r : Option A) → FirstFault fs None → FirstFault gs r → FirstFault (fs ++ gs) r
first_behind [] gs r e h = h
first_behind (f ∷ fs) gs r (inl p) h = let q = p.1 in let z : ◌≡◌ {A = ℕ} 0 1 = cc in absurd (omega arith)
first_behind (f ∷ fs) gs r (inr p) h = inr (p.0, first_behind fs gs r p.1 h)
