-- The writes of a partition, and what they leave of the documents that were stored before.
use Rattle.std.specs.Prelude.{ℕ, List, fold, Option, Some, None}
use Rattle.tc_model.specs.Document.{Document}
use Rattle.tc_model.specs.Keyed.{Keyed, with_value, without_key}

-- stored keys and documents, in ascending key
abbrev pub Pairs : Type 0
Pairs = Keyed Document

-- a key, and the document that is set there, or none where the key's document is taken out
abbrev pub Write : Type 0
Write = ℕ × Option Document

abbrev pub set : ℕ → Document → Write
set n d = (n, Some d)

abbrev pub unset : ℕ → Write
unset n = (n, None)

abbrev pub after_write : Pairs → Write → Pairs
after_write ps (n, Some d) = with_value n d ps
after_write ps (n, None) = without_key n ps

-- what writes leave, one after the other
abbrev pub after_writes : Pairs → List Write → Pairs
after_writes ps ws = fold after_write ps ws
