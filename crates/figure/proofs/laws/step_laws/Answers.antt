use Rattle.figure.proofs.Targets.{trajectory_laws, raised_laws}
use Rattle.figure.proofs.Bases.{counted_laws, base_laws, exact_base_laws, base_is_mean}
use Rattle.figure.proofs.Responses.{response_laws, value_laws}
use Rattle.figure.proofs.Lesser.{lesser_of_both}
use Rattle.figure.proofs.laws.step_laws.Goals as goal

pub returns : goal.returns
returns c = record {
  steps_mean_their_rules = record {
    of_trajectory = trajectory_laws;
    of_raised_pushes = raised_laws;
    of_base_samples = counted_laws;
    base_is_mean = base_is_mean;
    of_base = base_laws;
    of_exact_base = exact_base_laws;
    of_response = response_laws;
    of_values = value_laws;
    lesser_of_both = lesser_of_both;
  };
}
