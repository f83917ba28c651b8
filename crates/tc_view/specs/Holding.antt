-- Which documents a view shows, and which histories show the documents that a partition holds.
use Rattle.std.specs.Prelude.{◌≡◌, ◌<◌, ℕ, List, [], ◌∷◌, length, map, take, All, Option, None, Some}
use Rattle.std.specs.Arc.{arc_value}
use Rattle.std.specs.List.{AllZip}
use mathlib.Core.List.{IsPrefix}
use Rattle.tc_model.specs.Document.{Name}
use Rattle.tc_model.specs.Dictionary.{Extends}
use Rattle.tc_plain_model.specs.Writes.{Pairs, Write, after_writes}
use Rattle.tc_lsm_model.specs.Contents as documents
use Rattle.tc_lsm_model.specs.Lists.{live, IsList}
use Rattle.tc_lsm_model.specs.Tables as tables
use Rattle.tc_memory.specs.Table.{Table}
use Rattle.tc_memory.specs.DocumentTables.{IsTableOf}
use Rattle.tc_log.specs.Writes.{IsWrite}
use Rattle.tc_component.specs.Loading.{ComponentState}
use Rattle.tc_list.specs.Intervals.{Follow}
use Rattle.tc_component.specs.Loaded.{IsLoadedOf}
use Rattle.tc_machine.specs.Logs.{kept_write}
use Rattle.tc_machine.specs.Writes.{IsStorableWrite}
use Rattle.tc_view.specs.declared.change.Change.{Change}
use Rattle.tc_view.specs.declared.change.Change.TheVariants.{Writes, Placed as PlacedBy}
use Rattle.tc_view.specs.declared.happened.Happened.{Happened}
use Rattle.tc_view.specs.Changes.{Showing, writes_in, writes_of, shown_after}

-- ---- documents

-- where no table is sealed there is no entry
abbrev pub IsSealedOf : tables.Table → Option Table → Type 0
IsSealedOf t None = t ≡ []
IsSealedOf t (Some kept) = IsTableOf t kept

-- The files of components tell contents that make a list, and these documents are live in it.
pub record ListHolds {F : Type 0} (told : F → Option (List ℕ)) (list : List (ComponentState F)) (pairs : Pairs) : Type 0 where
  pub part : documents.Partition
  pub contents : List documents.Content
  pub is_list : IsList part contents
  pub loaded : AllZip (IsLoadedOf told) list contents
  pub is : pairs ≡ live contents

-- A view shows these documents: they are what the sealed table, and then the writes, leave of those in the list.
pub record Holds {F : Type 0} (told : F → Option (List ℕ)) (s : Showing F) (pairs : Pairs) : Type 0 where
  pub listed : Pairs
  pub list : ListHolds told s.list listed
  pub table : tables.Table
  pub sealed : IsSealedOf table s.sealed
  pub kept : All IsStorableWrite (tables.writes_of table)
  pub writes : List Write
  pub storable : All IsStorableWrite writes
  pub written : s.written ≡ map kept_write writes
  pub is : pairs ≡ after_writes (tables.over listed table) writes

-- From a partition that held `start` the writes were made, and each beginning of the history, but the empty one, shows what its
-- writes leave.
pub record HoldsWrites {F W : Type 0} (told : F → Option (List ℕ)) (start : Pairs) (writes : List Write) (history : List (Happened F W)) : Type 0 where
  pub written : writes_of history ≡ map kept_write writes
  pub storable : All IsStorableWrite writes
  pub each : (front : List (Happened F W)) → IsPrefix front history → 0 < length front → Holds told (shown_after front) (after_writes start (take (length (writes_of front)) writes))

-- ---- lists

-- the names of each component go on from those of the one before
abbrev pub Extend : {F : Type 0} → List Name → List (ComponentState F) → Type 0
Extend names [] = Unit {0}
Extend names (c ∷ cs) = Extends c.index.names names × Extend c.index.names cs

-- the intervals follow each other from generation 1 on, and the names extend each other
pub record IsListed {F : Type 0} (list : List (ComponentState F)) : Type 0 where
  pub follow : Follow 0 list
  pub names : Extend [] list

-- ---- changes

-- what may be published: writes that a log takes, and components that can be listed
abbrev pub Fits : {F W : Type 0} → Change F W → Type 0
Fits (Writes chunk) = All IsWrite (writes_in chunk)
Fits (PlacedBy list sealed) = IsListed (arc_value list)
