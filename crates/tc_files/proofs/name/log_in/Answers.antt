use Rattle.std.proofs.Common.{rules, sym, ◌∙◌}
use Rattle.tc_files.proofs.NameLemmas.{no_log, a_log}
use Rattle.tc_files.proofs.name.log_in.Goals as goal

pub returns-in_err-generation : goal.returns-in_err-generation
returns-in_err-generation c =
    rw c.from_residual.ensures (no_log c.numbers_are_printed.ensures c.args.text.now (sym c.number_between.ensures ∙ c.in_err-generation.was))

pub returns : goal.returns
returns c = a_log c.numbers_are_printed.ensures c.args.text.now c.in_ok-generation.generation (search rules)
