use Rattle.std.proofs.Common.{◌∙◌, ap, sym, map}
use Rattle.tc_model.specs.Keyed.{on_value}
use Rattle.tc_command.specs.Replies.{rendered_of}
use Rattle.tc_route.specs.Gathered.{with_rendered}
use Rattle.tc_route.specs.Meaning.{placed_of}
use Rattle.tc_route.proofs.RepliesPut.{Ascends-replies, fold_more}
use Rattle.tc_route.proofs.gathering.take_in.Goals as goal

pub put-requires : goal.put-requires
put-requires c =
    rw c.loop-placed.invariant (Ascends-replies (map (on_value rendered_of) c.args.all.now.entries) (map placed_of c.loop-placed.yielded) c.requires)

pub loop-placed-preserved : goal.loop-placed-preserved
loop-placed-preserved c =
    let placed = c.in-Some.placed in
    c.in_ok-put.ensures ∙ ap (λ all. with_rendered all (placed_of placed)) c.loop-placed.invariant
    ∙ sym (fold_more with_rendered placed_of (map (on_value rendered_of) c.args.all.now.entries) c.loop-placed.yielded placed)
