use Rattle.std.proofs.Common.{rules, ◌∙◌, refl}
use Rattle.tc_number.proofs.NumberLemmas.{parsed}
use Rattle.tc_number.proofs.number.number.Goals as goal

pub returns-then-not-has_leading_zero : goal.returns-then-not-has_leading_zero
returns-then-not-has_leading_zero c =
    c.ok.ensures.value ∙ parsed c.args.text.now _ _ c.parse.ensures.value.0 refl (search rules) (search rules)
