use Rattle.std.proofs.Common.{◌∙◌, ap, sym, map}
use Rattle.std.specs.Prelude.{fold}
use Rattle.tc_route.specs.Gathered.{gathered_rendered, with_rendered}
use Rattle.tc_route.specs.Meaning.{rendered_in}
use Rattle.tc_route.proofs.RepliesPut.{Ascends-gathered, gathered_more}
use Rattle.tc_route.proofs.gathering.gather.Goals as goal

pub with_part-requires : goal.with_part-requires
with_part-requires c = rw c.loop-part.invariant (Ascends-gathered (map rendered_in c.loop-part.yielded))

pub loop-part-preserved : goal.loop-part-preserved
loop-part-preserved c =
    c.in_ok-all.ensures ∙ ap (λ all. fold with_rendered all (rendered_in c.into_inner.result.items)) c.loop-part.invariant
    ∙ ap (λ part. fold with_rendered (gathered_rendered (map rendered_in c.loop-part.yielded)) (rendered_in part)) c.into_inner.ensures
    ∙ sym (gathered_more c.loop-part.yielded c.in-Some.part)
