-- A checking order: faults in turn, of which the first that applies gives the answer.
use Rattle.std.specs.Prelude.{◌≡◌, Bool, cond, ◌⊎◌, List, [], ◌∷◌, map, Some, None, Ok, Err, Option, Result}

-- a fault: when it applies, and the answer that it gives
pub record Fault (A : Type 0) : Type 1 where
  pub Applies : Type 0
  pub answer : A

-- r is the answer of the first fault that applies, or none where none does
abbrev pub FirstFault : {A : Type 0} → List (Fault A) → Option A → Type 0
FirstFault [] r = r ≡ None
FirstFault (f ∷ fs) r = (f.Applies × (r ≡ Some f.answer)) ⊎ ((f.Applies → ⊥) × FirstFault fs r)

-- a check: a fault, and the test that tells whether it applies
pub record Check (A : Type 0) : Type 1 where
  pub Applies : Type 0
  pub test : Bool
  pub answer : A

-- the fault of a check, without its test
abbrev pub fault_of : {A : Type 0} → Check A → Fault A
fault_of c = record { Applies = c.Applies; answer = c.answer }

-- r is the answer of the first check whose fault applies, or none where none does, and there is no other
pub record TheFirst {A : Type 0} (cs : List (Check A)) (r : Option A) : Type 0 where
  pub is : FirstFault (map fault_of cs) r
  pub only : (s : Option A) → FirstFault (map fault_of cs) s → s ≡ r

-- that answer, by the tests
abbrev pub first_of : {A : Type 0} → List (Check A) → Option A
first_of [] = None
first_of (c ∷ cs) = cond c.test (Some c.answer) (first_of cs)

-- a value, unless there is a fault
abbrev pub unless : {A F : Type 0} → Option F → A → Result A F
unless None value = Ok value
unless (Some why) value = Err why

-- r is the value where no fault applies, and else the answer of the first that does; there is no other such answer
pub record Allows {A F : Type 0} (cs : List (Check F)) (value : A) (r : Result A F) : Type 0 where
  pub first : TheFirst cs (first_of cs)
  pub answer : r ≡ unless (first_of cs) value
