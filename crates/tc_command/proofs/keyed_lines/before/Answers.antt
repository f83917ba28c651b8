use Rattle.std.proofs.lemmas.Bool.Decides.{Decides-eqb}
use Rattle.std.proofs.lemmas.Slice.Eq.{strip_suffix_is}
use Rattle.tc_command.proofs.KeyedLineLemmas.{some_stripped}
use Rattle.tc_command.proofs.keyed_lines.before.Goals as goal

pub returns : goal.returns
returns c = some_stripped _ _ c.strip_suffix.result (strip_suffix_is Decides-eqb c.args.line.now c.args.end.now c.strip_suffix.result c.strip_suffix.ensures.cases)
