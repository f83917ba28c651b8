use Rattle.std.proofs.Common.{◌≡◌, ◌+◌, ◌*◌, ◌≤◌, ℕ, length, map}
use Rattle.json.specs.Json.{items, members, value, parse_map}
use Rattle.serde_json.specs.Read.{converted}
use Rattle.tc_model.specs.Tree.{no_members, items_of, items_depth, members_depth}
use Rattle.tc_value.specs.Meaning.{tree_of, member_of}
use Rattle.tc_doc_reader.specs.Tokens.{items_in, with_members, members_in, spare_levels}
use Rattle.tc_doc_reader.proofs.TokenLaws.{items_before}
use Rattle.tc_doc_reader.proofs.reading.+reading.Given as goal

abbrev pub decreases-read_items : goal.decreases-read_items
decreases-read_items l = 2 * l.room + 1

abbrev pub decreases-read_members : goal.decreases-read_members
decreases-read_members l = 2 * l.room + 1

abbrev pub decreases-read_next : goal.decreases-read_next
decreases-read_next l = 2 * l.room

abbrev pub invariant-read_items-items : goal.invariant-read_items-items
invariant-read_items-items l =
    (n : ℕ) × (length l.reader ≤ n)
    × (converted items_in (items (value (l.room + spare_levels)) (length l.initial.reader) l.initial.reader) ≡ parse_map (items_before (map tree_of l.found.items)) (converted items_in (items (value (l.room + spare_levels)) n l.reader)))
    × (length l.reader ≤ length l.initial.reader)
    × (items_depth (items_of (map tree_of l.found.items)) ≤ l.room)

abbrev pub decreases-read_items-items : goal.decreases-read_items-items
decreases-read_items-items l = length l.reader

abbrev pub invariant-read_members-members : goal.invariant-read_members-members
invariant-read_members-members l =
    (n : ℕ) × (length l.reader ≤ n)
    × (converted (λ ms. members_in ms no_members) (members (value (l.room + spare_levels)) (length l.initial.reader) l.initial.reader) ≡ converted (λ ms. members_in ms (with_members (map member_of l.found.items) no_members)) (members (value (l.room + spare_levels)) n l.reader))
    × (length l.reader ≤ length l.initial.reader)
    × (members_depth (with_members (map member_of l.found.items) no_members) ≤ l.room)

abbrev pub decreases-read_members-members : goal.decreases-read_members-members
decreases-read_members-members l = length l.reader
