use Rattle.std.proofs.Common.{rules, ◌≡◌, ◌∙◌, Some, ◌∷◌, ◌++◌, ap}
use Rattle.std.proofs.lemmas.Bool.Decides.{Decides-eqb}
use Rattle.std.proofs.lemmas.Slice.Eq.{strip_prefix_is}
use Rattle.tc_compact.proofs.outline.Outline.skips_alike.Goals as goal

pub returns-clause-tags : goal.returns-clause-tags
returns-clause-tags c = λ _.
    let first : c.args.self.now.tags ≡ c.in-Some.tag ∷ c.in-Some.behind.now = search rules in
    let front : c.in-Some.behind.now ≡ c.args.tags.now ++ c.in-Some-strip_prefix.rest.now = strip_prefix_is Decides-eqb c.in-Some.behind.now c.args.tags.now (Some c.in-Some-strip_prefix.rest) c.in-Some-strip_prefix.ensures.cases in
    first ∙ ap (λ t. t ∷ c.in-Some.behind.now) c.if-tag-ne-OBJECT_TAG.false ∙ ap (λ ns. 6 ∷ ns) front
