use Rattle.tc_words.proofs.GrammarLemmas.{refused, taken}
use Rattle.tc_words.proofs.grammar.matches_of.Goals as goal

pub returns-clause-taken : goal.returns-clause-taken
returns-clause-taken c =
    let parse = c.try_get_matches_from in
    taken parse.result _ _ c.in_ok-command_line.ensures parse.ensures.kinds parse.ensures.matches

pub returns-clause-refused : goal.returns-clause-refused
returns-clause-refused c =
    let parse = c.try_get_matches_from in refused parse.result _ _ c.in_ok-command_line.ensures parse.ensures.kinds
