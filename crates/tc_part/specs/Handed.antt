-- The shape that a write hands to the active table, over every store.
use Rattle.std.specs.Prelude.{◌≡◌, ℕ, true, List, Option, Some, None, option_map}
use Rattle.tc_model.specs.Document.{Document, ShapeTree, document_shape}
use Rattle.tc_log.specs.declared.write.Write as log
use Rattle.tc_log.specs.declared.write.Write.TheVariants.{Upsert, Delete}
use Rattle.tc_memory.specs.Table.{Held, Table, upserted, deleted}
use Rattle.tc_component.specs.Loading.{ComponentState}
use Rattle.tc_query.specs.Shown.{MayHave}
use Rattle.tc_part_model.specs.PartState.{PartState}
use Rattle.tc_part.specs.declared.staging.Staged.{Staged}
use Rattle.tc_part.specs.declared.staging.Staged.TheVariants.{Done}
use Rattle.tc_part.specs.Below.{held_at, sealed_held}

-- The shape of the document that a key has by its newest entry below the active table, or none where it has none there. A
-- component's document is that of a record which was read.
abbrev pub IsShapeBelow : {F : Type 0} → (F → Option (List ℕ)) → Option Table → List (ComponentState F) → ℕ → Option ShapeTree → Type 0
IsShapeBelow told sealed components key shape = (d : Option Document) × MayHave told (sealed_held key sealed) components key d × (shape ≡ option_map document_shape d)

-- An entry of the active table keeps its own shape, so that none is handed in. A new one gets that of what is below.
abbrev pub IsHandedBy : {F : Type 0} → Option Held → (F → Option (List ℕ)) → Option Table → List (ComponentState F) → ℕ → Option ShapeTree → Type 0
IsHandedBy (Some held) told sealed components key shape = shape ≡ None
IsHandedBy None told sealed components key shape = IsShapeBelow told sealed components key shape

abbrev pub IsHanded : {F : Type 0} → (F → Option (List ℕ)) → Table → Option Table → List (ComponentState F) → ℕ → Option ShapeTree → Type 0
IsHanded told active sealed components key shape = IsHandedBy (held_at key active) told sealed components key shape

-- a call of the active table leaves this one, with the shape that is handed in
abbrev pub HandsIn : {S D F W : Type 0} → (F → Option (List ℕ)) → ℕ → (Option ShapeTree → Table → Table) → PartState S D F W → Table → Type 0
HandsIn told key call old active = (shape : Option ShapeTree) × IsHanded told old.active old.sealed old.list key shape × (active ≡ call shape old.active)

-- what a staged write hands in
abbrev pub KeepsShape : {S D F W : Type 0} → (F → Option (List ℕ)) → Staged → log.Write → PartState S D F W → Table → Type 0
KeepsShape told (Done was_live) (Upsert key bytes) old active = HandsIn told key (upserted key bytes) old active
KeepsShape told (Done true) (Delete key) old active = HandsIn told key (deleted key) old active
KeepsShape _ _ _ _ _ = Unit {0}
