-- Plans, and what is asked with one.
use Rattle.std.specs.Prelude.{pos, List, replicate}
use Rattle.timeline.specs.declared.target.Target.{Target}
use Rattle.response.specs.declared.chosen.Rule.{Rule}
use Rattle.response.specs.declared.chosen.Rule.TheVariants as rule
use Rattle.response.specs.declared.settings.Settings.{Settings}
use Rattle.response.specs.Chosen.{triggers_of, weighs_of}
use Rattle.response.specs.Groups.{row_of}
use Rattle.response.specs.Services.{listed}
use Rattle.figure.specs.declared.request.Enablement.{Enablement}
use Rattle.figure.specs.Asked.{Asked}
use Rattle.script.specs.declared.command.Choice.{Choice}
use Rattle.script.specs.declared.command.Choice.TheVariants.{Variable, Switching}
use Rattle.replay.specs.declared.plan.Plan.{Plan}

abbrev pub blank : Target
blank = record { time = 0; power = pos 0 }

-- a new targets' table, with as many places as there may be targets
abbrev pub blank_targets : List Target
blank_targets = replicate 16 blank

-- no targets, and the variable rule
abbrev pub empty_plan : Plan
empty_plan = record { targets = blank_targets; count = 0; rule = Variable }

-- a rule that is chosen, with the numbers of settings
abbrev pub rule_by : Choice → Settings → Rule
rule_by Variable s = rule.Variable (record { response = s.response; rate = s.response.rate })
rule_by Switching s = rule.Switching (record { response = s.response })

-- what is asked under settings and a plan, for what is enabled
abbrev pub asked_under : Settings → Plan → Enablement → Asked
asked_under s p enablement = record {
  settings = s;
  trigger = triggers_of (rule_by p.rule s);
  weight = weighs_of (rule_by p.rule s);
  table = p.targets;
  count = p.count;
  side = (listed enablement.service).side;
  row = row_of (listed enablement.service).group;
  amount = enablement.watts;
}
