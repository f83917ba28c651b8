use Rattle.std.proofs.Common.{◌∙◌, ap, ap₂}
use Rattle.std.proofs.lemmas.Result.{IfOk-weaker}
use Rattle.clap.specs.Words.{with_subcommand}
use Rattle.clap.specs.Simple.{on_top}
use Rattle.tc_words.specs.Grammar.{grammar}
use Rattle.tc_words.proofs.GrammarLemmas.{name_left_out, needing_subcommand, subcommand_needed, without_name}
use Rattle.tc_words.proofs.grammar.command_line.Goals as goal

pub returns : goal.returns
unfolding grammar
returns c =
    let unnamed = name_left_out _ _ c.no_binary_name.ensures ∙ ap (on_top without_name) c.new.ensures.app in
    let top = subcommand_needed _ _ c.subcommand_required.ensures ∙ ap (on_top needing_subcommand) unnamed in
    let one = c.in_ok-subcommand.ensures.shape c.in_ok-run.ensures.local ∙ ap₂ with_subcommand top c.in_ok-run.ensures.shape in
    let two = c.in_ok-subcommand-2.ensures.shape c.in_ok-demo.ensures.local ∙ ap₂ with_subcommand one c.in_ok-demo.ensures.shape in
    IfOk-weaker c.subcommand-3.result _ _ (λ m h. h.shape c.in_ok-check.ensures.local ∙ ap₂ with_subcommand two c.in_ok-check.ensures.shape)
    c.subcommand-3.ensures
