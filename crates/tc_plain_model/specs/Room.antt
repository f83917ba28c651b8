-- How many names and documents a partition has room for.
use Rattle.std.specs.Prelude.{ℕ, Bool, not, ◌&&◌, nat_lt, nat_le, length, List, is_some}
use Rattle.tc_model.specs.Document.{Name, Document}
use Rattle.tc_plain_model.specs.Store.{Store, stored, names_with}

-- how many names a partition takes, and how many documents it stores
pub record Limits : Type 0 where
  pub names : ℕ
  pub docs : ℕ

-- a document has names that are not taken, and with them there are too many
abbrev pub lacks_names : Limits → Document → List Name → Bool
lacks_names limits d taken = nat_lt (length taken) (length (names_with d taken)) && nat_lt limits.names (length (names_with d taken))

-- a key has no document, and there is no room for one more
abbrev pub lacks_room : Limits → ℕ → Store → Bool
lacks_room limits n s = not (is_some (stored n s)) && nat_le limits.docs (length s.pairs)
