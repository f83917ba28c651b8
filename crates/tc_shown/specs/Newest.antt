-- The table of the newest write of each key.
use Rattle.std.specs.Prelude.{List, [], None, fold}
use Rattle.tc_log.specs.declared.write.Write.{Write}
use Rattle.tc_log.specs.declared.write.Write.TheVariants.{Upsert, Delete}
use Rattle.tc_log.specs.Writes.{key_of}
use Rattle.tc_memory.specs.Table.{Kept, Table, live, gone_over}
use Rattle.tc_model.specs.Document.{ShapeTree, null_kind}
use Rattle.tc_model.specs.Keyed.{with_value}
use Rattle.tc_model.specs.Tree.{leaf}

-- in place of the shape of the document that a deletion takes out, which a table keeps and rows do not ask for
abbrev pub any_shape : ShapeTree
any_shape = leaf null_kind

-- what a table keeps of a write
abbrev pub left_by : Write → Kept
left_by (Upsert key bytes) = record { held = live bytes; below = None }
left_by (Delete key) = gone_over any_shape

abbrev pub with_write : Table → Write → Table
with_write t w = with_value (key_of w) (left_by w) t

-- the table of these writes, the oldest first, of which each takes the place of the one before to its key
abbrev pub newest_of : List Write → Table
newest_of ws = fold with_write [] ws
