use Rattle.std.proofs.Common.{◌≡◌, map}
use Rattle.std.specs.Prelude.{fold}
use Rattle.tc_model.specs.Keyed.{on_value}
use Rattle.tc_command.specs.Replies.{rendered_of}
use Rattle.tc_route.specs.Gathered.{with_rendered}
use Rattle.tc_route.specs.Meaning.{placed_of}
use Rattle.tc_route.proofs.gathering.take_in.Given as goal

abbrev pub invariant-loop-placed : goal.invariant-loop-placed
invariant-loop-placed l = map (on_value rendered_of) l.all.entries ≡ fold with_rendered (map (on_value rendered_of) l.initial.all.entries) (map placed_of l.yielded)
