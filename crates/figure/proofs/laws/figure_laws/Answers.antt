use Rattle.figure.proofs.Meanings.{base_is_signed, ramp_is_first, empty_by_recovery, level_value, level_value_of_any_points}
use Rattle.figure.proofs.Barred.{refused_by_defects}
use Rattle.figure.proofs.Once.{one_answer, one_exact_delivery}
use Rattle.figure.proofs.Faithful.{reports_are_faithful}
use Rattle.figure.proofs.AfterRecovery.{power_after_recovery}
use Rattle.figure.proofs.laws.figure_laws.Goals as goal

pub returns : goal.returns
returns c = record {
  the_laws_of_the_figure_hold = record {
    base_is_signed = base_is_signed;
    ramp_is_first = ramp_is_first;
    empty_by_recovery = empty_by_recovery;
    level_value = level_value;
    level_value_of_any_points = level_value_of_any_points;
    one_answer = one_answer;
    one_exact_delivery = one_exact_delivery;
    refused_by_defects = refused_by_defects;
    reports_are_faithful = reports_are_faithful;
    power_after_recovery = power_after_recovery;
  };
}
