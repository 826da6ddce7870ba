use Rattle.std.proofs.Common.{◌≡◌, ℕ, suc, zero, ◌+◌, ◌<◌, Bool, true, false, not, ◌&&◌, ltb, List, [], ◌∷◌, length, get_or, is_some, Some, None, Option, Decides, refl, sym, ◌∙◌, add-one, arith, rules}
use Rattle.std.specs.List.{IsAllAdjacentAnswer}
use Rattle.std.proofs.lemmas.Bool.Decides.{Decides-and, Decides-ltb, same_from_decides}
use Rattle.std.proofs.lemmas.List.Sorted.{answers_always}
use Rattle.timeline.specs.Entries.{Kind}
use Rattle.timeline.specs.Orders.{Ordered}
use Rattle.timeline.proofs.order.are_ordered.Goals as goal

-- the test that there is none
decides_none : {A : Type 0} (o : Option A) → Decides (not (is_some o)) (o ≡ None)
decides_none None = (λ _. refl, λ _. refl)
decides_none (Some x) = (λ e. cc, λ e. cc)

module _ {E : Type 0} (kind : Kind E) where
  -- the test that an entry may come after another
  abbrev follows : E → E → Bool
  follows before entry = not (is_some (kind.outside entry)) && ltb (kind.time before) (kind.time entry)

  abbrev Follows : E → E → Type 0
  Follows before entry = (kind.outside entry ≡ None) × (kind.time before < kind.time entry)

  decides_follows : (before entry : E) → Decides (follows before entry) (Follows before entry)
  decides_follows before entry = Decides-and _ _ (decides_none (kind.outside entry)) (Decides-ltb (kind.time before) (kind.time entry))

  within_all : (xs : List E) → ((d : E) → 0 < length xs → kind.outside (get_or xs 0 d) ≡ None) → ((i : ℕ) (d : E) → i + 1 < length xs → Follows (get_or xs i d) (get_or xs (i + 1) d)) → (i : ℕ) (d : E) → i < length xs → kind.outside (get_or xs i d) ≡ None
  within_all xs first each zero d h = first d h
  within_all xs first each (suc i) d h = rw add-one at ((each i d (omega arith)).0)

  ordered_decided : (xs : List E) (r : Bool) → ((d : E) → 0 < length xs → kind.outside (get_or xs 0 d) ≡ None) → IsAllAdjacentAnswer (λ x y b. b ≡ follows x y) xs r → Decides r (Ordered kind xs)
  ordered_decided xs true first h =
      let each : (i : ℕ) (d : E) → i + 1 < length xs → Follows (get_or xs i d) (get_or xs (i + 1) d) = λ i d there. (decides_follows _ _).0 (sym (h i d there)) in
      (λ _. record { within = within_all xs first each; rising = λ i d there. (each i d there).1 }, λ _. refl)
  ordered_decided [] false first h = (λ e. cc, λ o. absurd (omega (arith, h.1)))
  ordered_decided (x ∷ xs) false first h =
      (λ e. cc, λ o. h.2 x ∙ (decides_follows _ _).1 (o.within (h.0 + 1) x h.1, o.rising h.0 x h.1))

pub returns-then-is_none_or : goal.returns-then-is_none_or
returns-then-is_none_or g c =
    let kind = g.E.Entry.kind in
    ordered_decided kind c.args.entries.now c.is_sorted_by.result (λ d there. search rules) (c.is_sorted_by.ensures.cases (follows kind) (answers_always _ _ _ (λ f a r g' h. same_from_decides _ _ (search rules) (decides_follows kind a.0.now a.1.0.now))))
