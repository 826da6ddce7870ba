-- The pieces of `split` are the line cut at each space.
use Rattle.std.proofs.Common.{lit<}
use Rattle.std.proofs.lemmas.Iterator.Splits.{YieldsList-from_str_split}
use Rattle.std.proofs.lemmas.Iterator.Consumers.{map_from_collect}
use Rattle.script.proofs.line.words.Goals as goal

pub returns : goal.returns
returns c = record { the_line_cut_at_its_spaces = map_from_collect _ c.collect.ensures.ran (YieldsList-from_str_split 32 c.args.line.now (lit< tt) c.split.ensures.text c.split.ensures.has_more c.split.ensures.pattern) }
