use Rattle.figure.proofs.WindowValues.{steady_roundings, ends_of_windows, values_of_windows}
use Rattle.figure.proofs.WindowPlaces.{used_points_are, places_of_windows}
use Rattle.figure.proofs.WindowDefects.{empty_windows, outside_windows, sharing_samples, wide_gaps}
use Rattle.figure.proofs.laws.window_laws.Goals as goal

pub returns : goal.returns
returns c = record {
  windows_mean_their_rules = record {
    used_points = used_points_are;
    steady_roundings = steady_roundings;
    ends_of_windows = ends_of_windows;
    values_of_windows = values_of_windows;
    places_of_windows = places_of_windows;
    empty_windows = empty_windows;
    outside_windows = outside_windows;
    sharing_samples = sharing_samples;
    wide_gaps = wide_gaps;
  };
}
