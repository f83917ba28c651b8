-- The definitions, computed on a small world of two partitions.
use Rattle.std.specs.Prelude.{◌≡◌, ℕ, [], ◌∷◌, None, false, codes, refl, pos}
use Rattle.std.proofs.Common.{arith}
use Rattle.std.specs.Str.{chars}
use Rattle.tc_model.specs.Tree.{leaf, object, no_members, member}
use Rattle.tc_model.specs.Document.{Document, integer}
use Rattle.tc_request_model.specs.Request.{upsert, delete, query, scan, collect, Ask, to_name, no_scan, busy}
use Rattle.tc_request_model.specs.Reply.{upserted, rows, started, collected, turned_down}
use Rattle.tc_plain_model.specs.Store.{empty}
use Rattle.tc_plain_model.specs.Room.{Limits}
use Rattle.tc_run_model.specs.World.{World, first_world, after_all}
use Rattle.tc_run_model.specs.Replies.{reply_to, AreReplies}

abbrev ample : Limits
ample = record { names = 1000000; docs = 4000000000 }

abbrev two : World
two = first_world ample (empty ∷ empty ∷ [])

-- the object whose member `n` is this number
abbrev n_is : ℕ → Document
n_is n = object (member (codes "n") (leaf (integer (pos n))) no_members)

-- the members `n`
abbrev all_n : Ask
all_n = record { path = to_name (codes "n") ∷ []; equal_to = None }

pub rows_of_two_partitions :
    reply_to (query all_n) (after_all (upsert 2 (n_is 2) ∷ upsert 1 (n_is 1) ∷ upsert 4 (n_is 4) ∷ delete 2 ∷ []) two)
    ≡ rows (record { key = 1; values = leaf (integer (pos 1)) ∷ [] } ∷ record { key = 4; values = leaf (integer (pos 4)) ∷ [] } ∷ [])
unfolding chars
rows_of_two_partitions = refl

-- a scan may be answered over any prefix behind its line: here the second partition's write is left out
pub a_scan_beside_writes :
    AreReplies (upsert 2 (n_is 2) ∷ scan all_n ∷ upsert 1 (n_is 1) ∷ scan all_n ∷ collect ∷ collect ∷ []) two
    (upserted 2 false ∷ started ∷ upserted 1 false ∷ turned_down busy
    ∷ collected (record { key = 2; values = leaf (integer (pos 2)) ∷ [] } ∷ []) (1 ∷ 0 ∷ []) ∷ turned_down no_scan ∷ [])
unfolding chars
a_scan_beside_writes = (
  refl,
  (
    refl,
    (
      refl,
      (
        refl,
        (
          record {
            upto = 1 ∷ 0 ∷ [];
            may_cover = ((omega arith, (omega arith, tt)), (omega arith, (omega arith, tt)));
            is_over = refl;
          },
          (refl, tt),
        ),
      ),
    ),
  ),
)
