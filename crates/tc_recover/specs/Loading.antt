-- The components that count, loaded of their files, the oldest first: what is read of them, or the first refusal.
use Rattle.std.specs.Prelude.{◌≡◌, ◌⊎◌, ◌&&◌, Contains, length, true, false, bytes_eq, ℕ, Bool, if◌then◌else◌, List, [], ◌∷◌, ◌++◌, Option, None, Some, unwrap_or, Result, Ok, Err}
use Rattle.tc_model.specs.Document.{Name}
use Rattle.tc_model.specs.Dictionary.{Extends}
use Rattle.tc_lsm_model.specs.Contents.{Partition}
use Rattle.tc_names.specs.Section.{section}
use Rattle.tc_store.specs.declared.file_name.FileName.{FileName}
use Rattle.tc_store.specs.declared.file_name.FileName.TheVariants.{Component}
use Rattle.tc_store.specs.declared.damage.Damage.TheVariants.{Bytes, Files}
use Rattle.tc_store.specs.Disk.{Picture, bytes_at, same_name}
use Rattle.tc_store.specs.Judging.{damage}
use Rattle.tc_component.specs.Layout.{names_place, file_size}
use Rattle.tc_component.specs.Loading.{ComponentState}
use Rattle.tc_component.specs.Reading.{file_judged}
use Rattle.tc_component.specs.Spelling.{Index, IsIndex, name_of, sizes_in}
use Rattle.tc_recover.specs.declared.cause.FilesCause.{FilesCause}
use Rattle.tc_recover.specs.declared.cause.FilesCause.TheVariants.{Damaged, Layout}
use Rattle.tc_recover.specs.declared.interval.Interval.{Interval}
use Rattle.tc_recover.specs.declared.taken.Taken.{Taken}
use Rattle.tc_recover.specs.Loads.{file_then}
use Rattle.tc_recover.specs.Refusals.{Refusal, breaks, strays, stray}

-- ---- judging

-- the newer dictionary begins with the older one
abbrev pub begins_with : List Name → List Name → Bool
begins_with newer [] = true
begins_with [] (name ∷ older) = false
begins_with (first ∷ newer) (name ∷ older) = bytes_eq first name && begins_with newer older

-- what was judged, and then
abbrev pub then_judged : {A B : Type 0} → Result A Refusal → (A → Result B Refusal) → Result B Refusal
then_judged (Ok x) f = f x
then_judged (Err refusal) f = Err refusal

abbrev pub unless : {A : Type 0} → Option Refusal → A → Result A Refusal
unless None x = Ok x
unless (Some refusal) x = Err refusal

-- the bytes of a file of this name as a component of the partition: its bytes first, and then its numbers
abbrev pub own_judged : Partition → FileName → List ℕ → Result Index Refusal
own_judged part name bytes = file_then name (file_judged name bytes) (λ c. unless (stray part c.head.number c.head.count) c)

-- its names go on from older ones, or else they are damaged
abbrev pub names_judged : List Name → FileName → Index → Result Index Refusal
names_judged older name c = if begins_with c.names older then Ok c else Err (breaks name (damage (names_place (sizes_in c)) (section c.names)))

abbrev pub component_judged : Partition → List Name → FileName → List ℕ → Result Index Refusal
component_judged part older name bytes = then_judged (own_judged part name bytes) (names_judged older name)

-- the name of the file of a tile
abbrev pub tile_name : Interval → FileName
tile_name tile = Component tile.from tile.to

-- the components of the tiles, the oldest first, behind those before, of which the newest has these names
abbrev pub components_judged : Partition → Picture → List Interval → List Name → List Index → Result (List Index) Refusal
components_judged part picture [] names before = Ok before
components_judged part picture (tile ∷ tiles) names before =
    then_judged (component_judged part names (tile_name tile) (unwrap_or (bytes_at picture (tile_name tile)) [])) (λ c. components_judged part picture tiles c.names (before ++ c ∷ []))

-- ---- files

-- the file is open, and called as that of the tile
abbrev pub is_file_of : {F W : Type 0} → Interval → Taken F W → Bool
is_file_of tile t = t.open && same_name (tile_name tile) t.name

-- the files of the tiles, where both stand in their order
abbrev pub files_of : {F W : Type 0} → List Interval → List (Taken F W) → List F
files_of tiles [] = []
files_of [] (t ∷ ts) = []
files_of (tile ∷ tiles) (t ∷ ts) = if is_file_of tile t then t.file ∷ files_of tiles ts else files_of (tile ∷ tiles) ts

-- the other files
abbrev pub left_of : {F W : Type 0} → List Interval → List (Taken F W) → List (Taken F W)
left_of tiles [] = []
left_of [] (t ∷ ts) = t ∷ ts
left_of (tile ∷ tiles) (t ∷ ts) = if is_file_of tile t then left_of tiles ts else t ∷ left_of (tile ∷ tiles) ts

-- the interval of a component
abbrev pub interval_of : {F : Type 0} → ComponentState F → Interval
interval_of c = record { from = c.index.head.from; to = c.index.head.to }

-- ---- causes, also of files that tell nothing

-- bytes that break the rules of a component: those at the place in some whole of its length
abbrev pub IsHarm : {F W : Type 0} → (F → ℕ) → Taken F W → ℕ → List ℕ → Type 0
IsHarm size t place bytes = (whole : List ℕ) × (length whole ≡ size t.file) × (file_judged t.name whole ≡ Err (damage place bytes))

-- the names of some component of its length, which do not go on from others
pub record HasOtherNames {F W : Type 0} (size : F → ℕ) (t : Taken F W) (place : ℕ) (bytes : List ℕ) : Type 0 where
  pub index : Index
  pub lawful : IsIndex index
  pub named : t.name ≡ name_of index.head
  pub sized : file_size (sizes_in index) ≡ size t.file
  pub others : (older : List Name) × (Extends index.names older → ⊥)
  pub place_is : place ≡ names_place (sizes_in index)
  pub bytes_are : bytes ≡ section index.names

-- of a file that is loaded
abbrev pub IsLoadDamage : {F W : Type 0} → (F → ℕ) → Partition → Taken F W → FilesCause → Type 0
IsLoadDamage size part t (Damaged (Bytes name place bytes)) = (t.name ≡ name) × (IsHarm size t place bytes ⊎ HasOtherNames size t place bytes)
IsLoadDamage size part t (Damaged (Files names)) = ⊥
IsLoadDamage size part t (Layout found found_of) = stray part found found_of ≡ Some (strays found found_of)
IsLoadDamage _ _ _ _ = Unit {0}

-- of the file of one of the tiles
pub record IsTileDamage {F W : Type 0} (size : F → ℕ) (part : Partition) (tiles : List Interval) (files : List (Taken F W)) (cause : FilesCause) : Type 0 where
  pub file : Taken F W
  pub tile : Interval
  pub there : Contains files file
  pub counts : Contains tiles tile
  pub is_of : is_file_of tile file ≡ true
  pub harm : IsLoadDamage size part file cause

abbrev pub IsLoadCause : {F W : Type 0} → (F → ℕ) → Partition → List Interval → List (Taken F W) → FilesCause → Type 0
IsLoadCause size part tiles files (Damaged damage) = IsTileDamage size part tiles files (Damaged damage)
IsLoadCause size part tiles files (Layout found found_of) = IsTileDamage size part tiles files (Layout found found_of)
IsLoadCause _ _ _ _ _ = Unit {0}
