use Rattle.tc_words.proofs.CheckLemmas.{is_check, no_check}
use Rattle.tc_words.proofs.OptionsLemmas.{usage_kind}
use Rattle.tc_words.proofs.words.check_of.Goals as goal

pub returns-in-Ok-clause-ok : goal.returns-in-Ok-clause-ok
returns-in-Ok-clause-ok c = (is_check _ _ _ c.in-Ok.ensures.taken c.check_in.ensures).0

pub returns-in-Ok-clause-apart : goal.returns-in-Ok-clause-apart
returns-in-Ok-clause-apart c = (is_check _ _ _ c.in-Ok.ensures.taken c.check_in.ensures).1

pub returns-in-Usage-clause-ok : goal.returns-in-Usage-clause-ok
returns-in-Usage-clause-ok c = no_check _ (c.in-Err.ensures.refused (usage_kind _ _ c.from.ensures c.in-Usage.is))
