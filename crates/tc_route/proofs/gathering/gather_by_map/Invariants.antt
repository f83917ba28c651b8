use Rattle.std.proofs.Common.{◌≡◌, ◌++◌, map}
use Rattle.tc_model.specs.Keyed.{on_value}
use Rattle.tc_command.specs.Replies.{rendered_of}
use Rattle.tc_route.specs.Meaning.{rendered_in}
use Rattle.tc_route.proofs.gathering.gather_by_map.Given as goal

abbrev pub invariant-loop-at : goal.invariant-loop-at
invariant-loop-at l = (l.initial.at-iterator ≡ l.yielded ++ l.at-iterator) × (rendered_in l.replies.items ≡ map (on_value rendered_of) l.yielded)
