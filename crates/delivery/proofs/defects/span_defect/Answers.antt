use Rattle.std.proofs.Common.{false, sym, refl, inr}
use Rattle.std.proofs.lemmas.Bool.Decides.{not_from_Decides}
use Rattle.delivery.proofs.Signs.{decides_le_z}
use Rattle.delivery.proofs.defects.span_defect.Goals as goal

pub returns : goal.returns
returns c =
    inr (
      not_from_Decides _ (decides_le_z c.args.spans.first.end c.args.spans.first.start) (sym c.if-is_empty.ensures),
      inr (
        not_from_Decides false c.if-is_one_beyond.ensures refl,
        inr (not_from_Decides false c.if-is_gapped.ensures refl, refl),
      ),
    )
