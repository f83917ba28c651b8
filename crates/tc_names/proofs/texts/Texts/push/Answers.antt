use Rattle.std.proofs.Common.{◌∙◌, ◌++◌, ◌∷◌, [], ap}
use Rattle.tc_names.proofs.Cuts.{cut-push, ends-push}
use Rattle.tc_names.proofs.texts.Texts.push.Goals as goal

pub invariant_of-self-2 : goal.invariant_of-self-2
invariant_of-self-2 c = rw (c.in_ok-append.ensures.bytes, c.in_ok-append.ensures.ends) (ends-push 0 c.self.inside.ends.items c.self.inside.bytes.items c.args.text.now c.self.invariant)

pub returns-clause-ok : goal.returns-clause-ok
returns-clause-ok c =
    rw (c.in_ok-append.ensures.bytes, c.in_ok-append.ensures.ends) (
    cut-push 0 c.self.inside.ends.items c.self.inside.bytes.items c.args.text.now c.self.invariant
    ∙ ap (λ texts. texts ++ c.args.text.now ∷ []) c.self.view_is)
