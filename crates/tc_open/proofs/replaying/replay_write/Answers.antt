use Rattle.std.proofs.Common.{option_map}
use Rattle.tc_value.specs.ShapeMeaning.{shape_tree}
use Rattle.tc_open.proofs.replaying.replay_write.Goals as goal

pub returns-in_ok-upsert-in-Upsert-clause-replayed : goal.returns-in_ok-upsert-in-Upsert-clause-replayed
returns-in_ok-upsert-in-Upsert-clause-replayed g c =
    rw c.in-Upsert.is (option_map shape_tree c.in_ok-below-in-Upsert.below, c.in_ok-below-in-Upsert.ensures.handed, rw (← c.in_ok-copy-in-Upsert.ensures.same) c.in_ok-upsert-in-Upsert.ensures.ok)

pub returns-in_ok-delete-in-Delete-clause-replayed : goal.returns-in_ok-delete-in-Delete-clause-replayed
returns-in_ok-delete-in-Delete-clause-replayed g c =
    rw c.in-Delete.is (option_map shape_tree c.in_ok-below-in-Delete.below, c.in_ok-below-in-Delete.ensures.handed, c.in_ok-delete-in-Delete.ensures.ok)
