-- The texts of replies.
use Rattle.std.specs.Prelude.{ℕ, ℤ, List, ◌++◌, Some, None, Option, codes, decimal}
use Rattle.std.specs.Fmt.{signed_decimal}
use Rattle.recording.specs.declared.refusal.Layer.{Layer}
use Rattle.recording.specs.declared.refusal.Layer.TheVariants.{Recording, Reading, Docket, Delivery, Setup}
use Rattle.recording.specs.declared.refusal.Refusal.{Refusal}
use Rattle.recording.specs.Refusals.{listed}
use Rattle.disturbance.specs.Direction.{word as direction_word}
use Rattle.figure.specs.declared.report.Report.{Report}
use Rattle.figure.specs.Verdicts.{word as verdict_word}
use Rattle.calls.specs.declared.answer.Answer.{Answer}
use Rattle.calls.specs.declared.answer.Answer.TheVariants.{Counted, Closed, Reported, Reopened, Refused}
use Rattle.replay.specs.declared.reply.Reply.{Reply}
use Rattle.replay.specs.declared.reply.Reply.TheVariants.{Told, Done, NotOffered, NoCall}

-- ---- figures that may be absent
abbrev pub time_text : Option ℕ → List ℕ
time_text (Some ms) = decimal ms
time_text None = codes "none"

abbrev pub watts_text : Option ℤ → List ℕ
watts_text (Some watts) = signed_decimal watts
watts_text None = codes "none"

-- ---- answers
abbrev pub layer_word : Layer → List ℕ
layer_word Recording = codes "recording"
layer_word Reading = codes "reading"
layer_word Docket = codes "docket"
layer_word Delivery = codes "delivery"
layer_word Setup = codes "setup"

abbrev pub report_text : Report → List ℕ
report_text r = codes "report disturbance " ++ (decimal r.disturbance ++ (codes " recovery " ++ (time_text r.recovery ++ (codes " first " ++ (signed_decimal r.first ++ (codes " second " ++ (watts_text r.second ++ (codes " delivery " ++ (signed_decimal r.delivery ++ (codes " verdict " ++ verdict_word r.verdict))))))))))

abbrev pub refusal_text : Refusal → List ℕ
refusal_text f = codes "refused " ++ (decimal (listed f.reason).number ++ (codes " layer " ++ (layer_word (listed f.reason).layer ++ (codes " place " ++ (decimal f.place ++ (codes " position " ++ (decimal f.position ++ (codes " field " ++ decimal (listed f.reason).field))))))))

abbrev pub answer_text : Answer → List ℕ
answer_text (Counted count) = codes "count " ++ decimal count
answer_text (Closed d) = codes "closed " ++ (decimal d.time ++ (codes " " ++ direction_word d.direction))
answer_text (Reported report) = report_text report
answer_text Reopened = codes "reopened"
answer_text (Refused f) = refusal_text f

-- ---- a reply to the line with this number
abbrev pub numbered_text : ℕ → Reply → List ℕ
numbered_text line (Told answer) = answer_text answer ++ codes "\n"
numbered_text line Done = codes "done\n"
numbered_text line NotOffered = codes "line " ++ (decimal line ++ codes " is not offered\n")
numbered_text line NoCall = codes "line " ++ (decimal line ++ codes " is no call\n")
