-- What directories and tables show of keys, without a read: the newest entry decides.
use Rattle.std.specs.Prelude.{◌≡◌, ℕ, nat_lt, if◌then◌else◌, List, [], ◌++◌, length, map, flat_map, slice_get, Option, Some, None, IfSome, option_map}
use Rattle.std.specs.Option.{option_or}
use Rattle.tc_compact.specs.Meant.{IsRecordUnder}
use Rattle.tc_component.specs.declared.slot.Slot.{Slot}
use Rattle.tc_component.specs.Fetching.{length_at, record_at}
use Rattle.tc_component.specs.Loading.{ComponentState}
use Rattle.tc_list.specs.declared.whereabouts.Whereabouts.TheVariants.{At, Absent}
use Rattle.tc_list.specs.Lookups.{IsWhere}
use Rattle.tc_component.specs.declared.found.Place.{Place}
use Rattle.tc_memory.specs.Table.{Held, gone, live, Table}
use Rattle.tc_model.specs.Document.{Document, null}
use Rattle.tc_model.specs.Keyed.{Ascends, value_of, on_value}
use Rattle.tc_model.specs.Tree.{leaf}
use Rattle.tc_plain_model.specs.Writes.{Pairs, Write, after_writes}
use Rattle.tc_record.specs.Record.{IsRecordOf}

-- ---- one key

-- what a table holds of a key, and what one holds that may be missing
abbrev pub held_in : ℕ → Table → Option Held
held_in key t = option_map (λ k. k.held) (value_of key t)

abbrev pub held_sealed : ℕ → Option Table → Option Held
held_sealed key None = None
held_sealed key (Some t) = held_in key t

-- what the newer of two tables holds that has the key
abbrev pub held_newest : ℕ → Option Table → Table → Option Held
held_newest key sealed active = option_or (held_in key active) (held_sealed key sealed)

-- No table has the key, and the newest component that has it has a record of it.
pub record IsListed {F : Type 0} (components : List (ComponentState F)) (sealed : Option Table) (active : Table) (key : ℕ) : Type 0 where
  pub untabled : held_newest key sealed active ≡ None
  pub component : ℕ
  pub place : Place
  pub listed : IsWhere components key (At component place)

-- The document is that of a record of an entry's length, under the names of its component; and this is the record in the file, if
-- that tells.
pub record IsReadOf {F : Type 0} (told : F → Option (List ℕ)) (component : ComponentState F) (place : Place) (document : Document) : Type 0 where
  pub bytes : List ℕ
  pub long : length bytes ≡ length_at component.index.slots place.at
  pub spells : IsRecordUnder component.index.names document bytes
  pub stands : IfSome (told component.file) (λ whole. bytes ≡ record_at component.index.slots place.at whole)

-- so by the newest entry that components have of a key
pub record IsListedAs {F : Type 0} (told : F → Option (List ℕ)) (components : List (ComponentState F)) (key : ℕ) (document : Document) : Type 0 where
  pub at : ℕ
  pub place : Place
  pub newest : IsWhere components key (At at place)
  pub component : ComponentState F
  pub here : slice_get components at ≡ Some component
  pub read : IsReadOf told component place document

-- The document that a key has by its newest entry, whatever the files tell: none where that says that the key is gone or there is
-- no entry, that of the record which a table keeps, and else that of a record which was read.
abbrev pub MayHave : {F : Type 0} → (F → Option (List ℕ)) → Option Held → List (ComponentState F) → ℕ → Option Document → Type 0
MayHave told (Some gone) components key document = document ≡ None
MayHave told (Some (live bytes)) components key document = (d : Document) × IsRecordOf d bytes × (document ≡ Some d)
MayHave told None components key None = IsWhere components key Absent
MayHave told None components key (Some d) = IsListedAs told components key d

-- ---- all keys

-- documents by key, where each key has what it may have
pub record MayHold {F : Type 0} (told : F → Option (List ℕ)) (components : List (ComponentState F)) (sealed : Option Table) (active : Table) (pairs : Pairs) : Type 0 where
  pub ascend : Ascends pairs
  pub each : (key : ℕ) → MayHave told (held_newest key sealed active) components key (value_of key pairs)

-- in place of a document that was not read
abbrev pub unread : Document
unread = leaf null

abbrev pub shown_slot : Slot → Write
shown_slot s = (s.key, if nat_lt 0 s.length then Some unread else None)

abbrev pub shown_held : Held → Option Document
shown_held gone = None
shown_held (live bytes) = Some unread

abbrev pub shown_listed : {F : Type 0} → List (ComponentState F) → List Write
shown_listed cs = flat_map (λ c. map shown_slot c.index.slots) cs

abbrev pub shown_table : Table → List Write
shown_table t = map (on_value (λ k. shown_held k.held)) t

abbrev pub shown_sealed : Option Table → List Write
shown_sealed None = []
shown_sealed (Some t) = shown_table t

-- which keys have a document
abbrev pub shown : {F : Type 0} → List (ComponentState F) → Option Table → Table → Pairs
shown cs sealed active = after_writes [] (shown_listed cs ++ (shown_sealed sealed ++ shown_table active))

-- how many keys have a document
abbrev pub live_keys : {F : Type 0} → List (ComponentState F) → Option Table → Table → ℕ
live_keys cs sealed active = length (shown cs sealed active)
