-- The components of a partition as a list, of which the oldest comes first: what it holds, and which lists are lawful.
use Rattle.std.specs.Prelude.{◌≡◌, ◌<◌, ◌≤◌, ◌^◌, ◌+◌, ◌⊎◌, ℕ, List, [], ◌∷◌, length, Option, None}
use Rattle.std.specs.Option.{option_or}
use Rattle.tc_model.specs.Document.{Name, Document}
use Rattle.tc_model.specs.Dictionary.{Extends}
use Rattle.tc_model.specs.Keyed.{value_of, values_in}
use Rattle.tc_schema_model.specs.Counted.{Counted, nothing}
use Rattle.tc_schema_model.specs.Stands.{StandsFor}
use Rattle.tc_plain_model.specs.Writes.{Pairs, after_writes}
use Rattle.tc_lsm_model.specs.Contents.{Partition, Content, IsContent}

-- ---- what a list holds

-- what is stored once the entries of these lie over what was there: an entry hides all older ones of its key
abbrev pub held_over : Pairs → List Content → Pairs
held_over pairs [] = pairs
held_over pairs (c ∷ cs) = held_over (after_writes pairs c.entries) cs

-- the live documents: of each key the newest entry, where that is a document
abbrev pub live : List Content → Pairs
live cs = held_over [] cs

-- the newest entry of a key, if there is one
abbrev pub newest_entry : ℕ → List Content → Option (Option Document)
newest_entry key [] = None
newest_entry key (c ∷ cs) = option_or (newest_entry key cs) (value_of key c.entries)

-- The names, the schema and the last generation are those of the newest, or else what stands before the list.
abbrev pub newest_names : List Name → List Content → List Name
newest_names names [] = names
newest_names names (c ∷ cs) = newest_names c.names cs

abbrev pub newest_schema : Counted → List Content → Counted
newest_schema schema [] = schema
newest_schema schema (c ∷ cs) = newest_schema c.schema cs

abbrev pub last_after : ℕ → List Content → ℕ
last_after generation [] = generation
last_after generation (c ∷ cs) = last_after c.to cs

-- before a whole list there is nothing
abbrev pub names_of : List Content → List Name
names_of cs = newest_names [] cs

abbrev pub schema_of : List Content → Counted
schema_of cs = newest_schema nothing cs

abbrev pub last_of : List Content → ℕ
last_of cs = last_after 0 cs

-- the generations lie within those of one of these contents
abbrev pub Covers : List Content → ℕ → ℕ → Type 0
Covers [] from to = ⊥
Covers (c ∷ cs) from to = ((c.from ≤ from) × (to ≤ c.to)) ⊎ Covers cs from to

-- ---- lawful lists

-- A content goes on behind a generation, over what the older ones hold and over their names: it begins at the next
-- generation, its names extend theirs, and its schema counts the documents that are live with it.
pub record GoesOn (part : Partition) (generation : ℕ) (pairs : Pairs) (names : List Name) (c : Content) : Type 0 where
  pub content : IsContent c
  pub here : c.part ≡ part
  pub next : c.from ≡ generation + 1
  pub extends : Extends c.names names
  pub stands : StandsFor c.names c.schema (values_in (after_writes pairs c.entries))
  pub room : length (after_writes pairs c.entries) < 2 ^ 32

-- each goes on behind those before it
abbrev pub GoOn : Partition → ℕ → Pairs → List Name → List Content → Type 0
GoOn part generation pairs names [] = Unit {0}
GoOn part generation pairs names (c ∷ cs) = GoesOn part generation pairs names c × GoOn part c.to (after_writes pairs c.entries) c.names cs

-- the contents tile the generations from 1 on, and each has the names and the schema of what is live up to it
abbrev pub IsList : Partition → List Content → Type 0
IsList part cs = GoOn part 0 [] [] cs
