use Rattle.tc_gen.proofs.LineLengths.{generated_count, generated_short}
use Rattle.tc_gen.proofs.OneLine.{lines_of_input}
use Rattle.tc_gen.proofs.laws.generated_lines.Goals as goal

pub returns : goal.returns
returns c = record { lines = lines_of_input; count = generated_count; short = generated_short }
