-- Writes that go into a memory table over components, one after the other.
use Rattle.std.specs.Prelude.{◌≡◌, ℕ, List, [], ◌∷◌, Option, None, is_some}
use Rattle.std.specs.List.{AllZip}
use Rattle.tc_model.specs.Document.{ShapeTree}
use Rattle.tc_model.specs.Keyed.{value_of}
use Rattle.tc_log.specs.Writes.{key_of}
use Rattle.tc_log.specs.declared.write.Write.{Write}
use Rattle.tc_log.specs.declared.write.Write.TheVariants.{Upsert, Delete}
use Rattle.tc_memory.specs.Table.{Table, upserted, deleted}
use Rattle.tc_component.specs.Loaded.{IsLoadedOf}
use Rattle.tc_component.specs.Loading.{ComponentState}
use Rattle.tc_lsm_model.specs.Contents.{Content, Partition}
use Rattle.tc_lsm_model.specs.Lists.{live, IsList}
use Rattle.tc_lsm_model.specs.Tables.{shape_in}
use Rattle.tc_list.specs.declared.whereabouts.Whereabouts.{Whereabouts}
use Rattle.tc_part.specs.Below.{IsFoundAt}
use Rattle.tc_open.specs.LastWrites.{is_listed}

-- A shape is handed in where a component has a document of the key; where the files are told it is that of the live one.
pub record HandsBelow {F : Type 0} (content : F → Option (List ℕ)) (list : List (ComponentState F)) (key : ℕ) (handed : Option ShapeTree) : Type 0 where
  pub at : Whereabouts
  pub found : IsFoundAt list key at
  pub there : is_some handed ≡ is_listed at
  pub shape : (part : Partition) (cs : List Content) → IsList part cs → AllZip (IsLoadedOf content) list cs → handed ≡ shape_in (live cs) key

-- the call of the memory table
abbrev pub put_in : Write → Option ShapeTree → Table → Table
put_in (Upsert key bytes) handed t = upserted key bytes handed t
put_in (Delete key) handed t = deleted key handed t

-- a write goes in, and where its key has no entry, so does the shape of what is below
abbrev pub Replayed : {F : Type 0} → (F → Option (List ℕ)) → List (ComponentState F) → Write → Table → Table → Type 0
Replayed content list w old new = (handed : Option ShapeTree) × (value_of (key_of w) old ≡ None → HandsBelow content list (key_of w) handed) × (new ≡ put_in w handed old)

abbrev pub Replays : {F : Type 0} → (F → Option (List ℕ)) → List (ComponentState F) → List Write → Table → Table → Type 0
Replays content list [] old new = new ≡ old
Replays content list (w ∷ ws) old new = (between : Table) × Replayed content list w old between × Replays content list ws between new
