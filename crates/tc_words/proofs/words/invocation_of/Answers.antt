use Rattle.std.proofs.Common.{◌∙◌, sym}
use Rattle.tc_words.proofs.OptionsLemmas.{is_asked, not_memory, nothing_asked, options_answered, usage_answered}
use Rattle.tc_words.proofs.words.invocation_of.Goals as goal

pub returns-in_err-matches-clause-usage : goal.returns-in_err-matches-clause-usage
returns-in_err-matches-clause-usage c = λ usage.
    nothing_asked _ (c.in_err-matches.ensures.refused (not_memory c.from_residual.result _ c.from_residual.ensures.1 usage))

pub returns : goal.returns
returns c =
    let same = is_asked _ _ c.in_ok-matches.ensures.taken ∙ sym c.invocation_in.ensures in
    record {
      ok = options_answered _ _ _ _ c.ok_or.ensures.value same;
      usage = usage_answered _ _ _ _ c.ok_or.ensures.value same;
    }
