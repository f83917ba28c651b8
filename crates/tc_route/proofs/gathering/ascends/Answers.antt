use Rattle.std.proofs.Common.{sym, subst}
use Rattle.std.proofs.lemmas.List.{drop_all}
use Rattle.tc_route.specs.Meaning.{rendered_in}
use Rattle.tc_route.proofs.OrderedMerge.{AscendFrom, ascends_from}
use Rattle.tc_route.proofs.gathering.ascends.Goals as goal

pub returns : goal.returns
returns c = λ _.
    let l = c.loop-placed in
    let none_left = sym (drop_all l.placed-index c.args.replies.now c.loop-placed-test.false) in
    ascends_from 0 (rendered_in c.args.replies.now) (l.invariant (subst (λ xs. AscendFrom l.least (rendered_in xs)) none_left tt))
