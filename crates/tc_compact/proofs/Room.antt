-- A record needs no more room in a dictionary than it has bytes.
use Rattle.std.proofs.Common.{◌≡◌, ◌+◌, ◌≤◌, List, length, true, arith}
use Rattle.tc_model.specs.Document.{Name}
use Rattle.tc_model.specs.Dictionary.{all_learned}
use Rattle.tc_model.proofs.LearnedNames.{length-all_learned-most}
use Rattle.tc_record.specs.Borrowed.{Record, Spells}
use Rattle.tc_compact.specs.Slots.{names_in}
use Rattle.tc_compact.proofs.Compacts.{names_lie}

pub room_by_bytes : (r : Record) (known : List Name) → Spells r → r.named ≡ true → length (all_learned known (names_in r.tokens)) ≤ length known + length r.bytes
room_by_bytes r known spells named = omega (arith, length-all_learned-most known (names_in r.tokens), (names_lie r spells named).few)
