use Rattle.std.proofs.Common.{◌+◌, ◌*◌}
use Rattle.schema_rows.proofs.chance.+choosing.Given as goal

abbrev pub decreases-push_object : goal.decreases-push_object
decreases-push_object l = 3 * l.depth + 2

abbrev pub decreases-push_member : goal.decreases-push_member
decreases-push_member l = 3 * l.depth + 1

abbrev pub decreases-push_value : goal.decreases-push_value
decreases-push_value l = 3 * l.depth

abbrev pub decreases-push_array : goal.decreases-push_array
decreases-push_array l = 3 * l.depth + 1
