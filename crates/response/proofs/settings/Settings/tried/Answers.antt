use Rattle.std.proofs.Common.{rules}
use Rattle.response.proofs.Trials.{tried_with}
use Rattle.response.proofs.settings.Settings.tried.Goals as goal

pub returns-clause-answered_with_the_trial_window_or_refused : goal.returns-clause-answered_with_the_trial_window_or_refused
returns-clause-answered_with_the_trial_window_or_refused g c = tried_with _ _ c.in_ok-window.window _ (search rules) (search rules) c.in_trial.ensures.answered_with_the_trial_window
