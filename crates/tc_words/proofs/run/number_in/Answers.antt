use Rattle.std.proofs.Common.{◌∙◌, ap}
use Rattle.std.specs.Option.{option_map_or}
use Rattle.clap.proofs.WalkLemmas.{first_value-rows}
use Rattle.clap.specs.Words.{found_of}
use Rattle.tc_number.specs.Number.{number_between}
use Rattle.tc_words.proofs.run.number_in.Goals as goal

pub returns-in-Some : goal.returns-in-Some
returns-in-Some c = c.number_between.ensures
    ∙ ap (λ o. option_map_or (number_between c.args.least c.args.most) o c.args.default) (c.in-Some.ensures ∙ first_value-rows (found_of c.args.run.now) c.args.name.now)

pub returns-in-None : goal.returns-in-None
returns-in-None c =
    ap (λ o. option_map_or (number_between c.args.least c.args.most) o c.args.default) (c.in-None.ensures ∙ first_value-rows (found_of c.args.run.now) c.args.name.now)
