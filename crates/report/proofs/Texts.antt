-- The text of six deliveries.
use Rattle.std.proofs.Common.{◌≡◌, ℕ, List, [], ◌∷◌, ◌++◌, length, get_or, ap, sym, ◌∙◌, append-nil}
use Rattle.report.specs.declared.settlement.Delivery.{Delivery}
use Rattle.report.specs.Texts.{delivery_text, deliveries_text}
use Rattle.report.proofs.Settlements.{six_places}

-- six deliveries told by their places
abbrev pub by_places : List Delivery → (a b c d e f : Delivery) → List ℕ
by_places ds a b c d e f = delivery_text (get_or ds 0 a) ++ (delivery_text (get_or ds 1 b) ++ (delivery_text (get_or ds 2 c) ++ (delivery_text (get_or ds 3 d) ++ (delivery_text (get_or ds 4 e) ++ delivery_text (get_or ds 5 f)))))

pub six_lines : (ds : List Delivery) → length ds ≡ 6 → (a b c d e f : Delivery) → by_places ds a b c d e f ≡ deliveries_text ds
six_lines ds six a b c d e f =
    let last : delivery_text (get_or ds 5 f) ≡ deliveries_text (get_or ds 5 f ∷ []) = sym (append-nil (delivery_text (get_or ds 5 f))) in
    let lines : by_places ds a b c d e f ≡ deliveries_text (get_or ds 0 a ∷ get_or ds 1 b ∷ get_or ds 2 c ∷ get_or ds 3 d ∷ get_or ds 4 e ∷ get_or ds 5 f ∷ []) =
    ap (λ text. delivery_text (get_or ds 0 a) ++ (delivery_text (get_or ds 1 b) ++ (delivery_text (get_or ds 2 c) ++ (delivery_text (get_or ds 3 d) ++ (delivery_text (get_or ds 4 e) ++ text))))) last in
    lines ∙ ap deliveries_text (six_places ds a b c d e f six)
