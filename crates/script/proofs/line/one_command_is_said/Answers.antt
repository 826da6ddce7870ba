use Rattle.script.proofs.OneCommand.{says_one}
use Rattle.script.proofs.line.one_command_is_said.Goals as goal

pub returns : goal.returns
returns c = record { words_say_one_command_at_most = says_one }
