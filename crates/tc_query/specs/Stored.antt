-- What components, a sealed table and an active table hold together, where the files tell what was written.
use Rattle.std.specs.Prelude.{◌≡◌, ℕ, List, Option, Some, None}
use Rattle.std.specs.List.{AllZip}
use Rattle.tc_component.specs.Loaded.{IsLoadedOf}
use Rattle.tc_component.specs.Loading.{ComponentState}
use Rattle.tc_lsm_model.specs.Contents.{Partition, Content}
use Rattle.tc_lsm_model.specs.Lists.{live, IsList}
use Rattle.tc_lsm_model.specs.Tables as documents
use Rattle.tc_memory.specs.DocumentTables.{IsTableOf}
use Rattle.tc_memory.specs.Table as memory
use Rattle.tc_plain_model.specs.Writes.{Pairs}

-- what is stored with a table over it, if there is one
abbrev pub over_sealed : Pairs → Option documents.Table → Pairs
over_sealed pairs None = pairs
over_sealed pairs (Some t) = documents.over pairs t

-- a table, if there is one, keeps these documents
abbrev pub IsSealedOf : Option documents.Table → Option memory.Table → Type 0
IsSealedOf None None = Unit {0}
IsSealedOf None (Some kept) = ⊥
IsSealedOf (Some t) None = ⊥
IsSealedOf (Some t) (Some kept) = IsTableOf t kept

-- The components were loaded of the contents of a list, and the tables keep documents. What is stored is what is live in the
-- list, with the sealed table over it, and the active one over both.
pub record Holds {F : Type 0} (told : F → Option (List ℕ)) (components : List (ComponentState F)) (sealed : Option memory.Table) (active : memory.Table) (pairs : Pairs) : Type 0 where
  pub part : Partition
  pub contents : List Content
  pub list : IsList part contents
  pub loaded : AllZip (IsLoadedOf told) components contents
  pub below : Option documents.Table
  pub sealed_is : IsSealedOf below sealed
  pub newest : documents.Table
  pub active_is : IsTableOf newest active
  pub stored : pairs ≡ documents.over (over_sealed (live contents) below) newest
