use Rattle.std.proofs.Common.{◌∙◌, ap}
use Rattle.std.specs.Prelude.{option_and_then}
use Rattle.clap.proofs.WalkLemmas.{first_value-rows}
use Rattle.clap.specs.Words.{found_of}
use Rattle.tc_number.specs.Number.{number_between}
use Rattle.tc_words.specs.Grammar.{commands_name}
use Rattle.tc_words.proofs.asked.commands_in.Goals as goal

pub returns-in-Some : goal.returns-in-Some
returns-in-Some c = c.number_between.ensures
    ∙ ap (λ o. option_and_then (number_between 1 1000000) o) (c.in-Some.ensures ∙ first_value-rows (found_of c.args.demo.now) commands_name)

pub returns-in-None : goal.returns-in-None
returns-in-None c = ap (λ o. option_and_then (number_between 1 1000000) o) (c.in-None.ensures ∙ first_value-rows (found_of c.args.demo.now) commands_name)
