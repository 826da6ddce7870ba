-- The text of a settlement, or of the refusal in its place.
use Rattle.std.specs.Prelude.{ℕ, List, [], ◌∷◌, ◌++◌, Ok, Err, codes, decimal, Result}
use Rattle.std.specs.Fmt.{signed_decimal}
use Rattle.recording.specs.declared.refusal.Refusal.{Refusal}
use Rattle.recording.specs.Refusals.{listed as reasons}
use Rattle.response.specs.Services.{listed as coded}
use Rattle.figure.specs.declared.report.Report.{Report}
use Rattle.figure.specs.Verdicts.{word}
use Rattle.report.specs.declared.settlement.Delivery.{Delivery}

-- "refused" and the number
abbrev pub refusal_text : Refusal → List ℕ
refusal_text f = codes "refused " ++ decimal (reasons f.reason).number

-- the watts delivered and the verdict, or the refusal
abbrev pub answer_text : Result Report Refusal → List ℕ
answer_text (Ok report) = signed_decimal report.delivery ++ (codes " " ++ word report.verdict)
answer_text (Err f) = refusal_text f

-- a line: the code of the service and what is answered
abbrev pub delivery_text : Delivery → List ℕ
delivery_text d = (coded d.service).code ++ (codes " " ++ (answer_text d.answer ++ codes "\n"))

-- their lines in order
abbrev pub deliveries_text : List Delivery → List ℕ
deliveries_text [] = []
deliveries_text (d ∷ ds) = delivery_text d ++ deliveries_text ds

-- a header and the lines, or one line for the refusal alone
abbrev pub outcome_text : Result (List Delivery) Refusal → List ℕ
outcome_text (Ok ds) = codes "service watts verdict\n" ++ deliveries_text ds
outcome_text (Err f) = refusal_text f ++ codes "\n"
