use Rattle.std.proofs.Common.{◌≡◌, sym, ◌∙◌, Some, None, arith}
use Rattle.std.proofs.lemmas.Str.Pattern.{split_parts}
use Rattle.tc_files.proofs.NameLemmas.{no_component, a_component}
use Rattle.tc_files.proofs.name.component_in.Goals as goal

pub returns-in_err-from : goal.returns-in_err-from
returns-in_err-from c =
    rw c.from_residual.ensures (no_component c.numbers_are_printed.ensures c.args.text.now c.split_once.result c.split_once.ensures.cases (rw c.in_err-from.was tt))

pub returns-in_err-from-2 : goal.returns-in_err-from-2
returns-in_err-from-2 c =
    rw c.from_residual-in_err-from-2.ensures (no_component c.numbers_are_printed.ensures c.args.text.now (Some (c.in_ok-from.from, c.in_ok-from.to)) c.in_ok-from.ensures.cases
    (λ from first.
    let bad : Some from ≡ None = sym first ∙ sym c.number_between.ensures ∙ c.in_err-from-2.was in
    absurd (cc)))

pub returns-in_err-to : goal.returns-in_err-to
returns-in_err-to c =
    rw c.from_residual-in_err-to.ensures (no_component c.numbers_are_printed.ensures c.args.text.now (Some (c.in_ok-from.from, c.in_ok-from.to)) c.in_ok-from.ensures.cases
    (λ from first.
    let same : Some c.in_ok-from-2.from ≡ Some from = sym c.in_ok-from-2.was ∙ c.number_between.ensures ∙ first in
    let is : c.in_ok-from-2.from ≡ from = cc in
    rw (← is) (sym c.number_between-2.ensures ∙ c.in_err-to.was)))

pub returns : goal.returns
returns c =
    a_component c.numbers_are_printed.ensures c.args.text.now c.in_ok-from.from.now c.in_ok-from.to.now c.in_ok-from-2.from c.in_ok-to.to
    (split_parts 45 c.args.text.now (Some (c.in_ok-from.from, c.in_ok-from.to)) c.in_ok-from.ensures.cases (omega arith)).0
    (sym c.number_between.ensures ∙ c.in_ok-from-2.was)
    (sym c.number_between-2.ensures ∙ c.in_ok-to.was)
