-- What it means that components are right, and by what they are wrong.
use Rattle.std.specs.Prelude.{◌≡◌, ◌<◌, ◌≤◌, ◌^◌, ℕ, List, [], ◌∷◌, ◌++◌, length, slice_get, Option, Some}
use Rattle.std.specs.List.{AllZip}
use Rattle.tc_bytes.specs.Counts.{Rose}
use Rattle.tc_model.specs.Keyed.{values_in}
use Rattle.tc_lsm_model.specs.Contents.{Partition, Content}
use Rattle.tc_lsm_model.specs.Lists.{live, IsList}
use Rattle.tc_store.specs.Counted.{Counts}
use Rattle.tc_component.specs.declared.slot.Slot.{Slot}
use Rattle.tc_component.specs.Fetching.{record_at, record_place}
use Rattle.tc_component.specs.Loaded.{IsLoadedOf}
use Rattle.tc_component.specs.Loading.{ComponentState}
use Rattle.tc_component.specs.Spelling.{Index}
use Rattle.tc_difference.specs.Differences.{IsFirstDifference}
use Rattle.tc_difference.specs.Found.{found_meant}
use Rattle.tc_audit.specs.Stored.{IsStoredIn}
use Rattle.tc_audit.specs.Told.{bytes_told, AreStoredUpTo}
use Rattle.tc_audit.specs.declared.verdict.Wrong.{Wrong}
use Rattle.tc_audit.specs.declared.verdict.Wrong.TheVariants.{Record, Documents, Count}

-- ---- right

-- the components are loaded of contents that make a list
pub record AreRight {F : Type 0} (told : F → Option (List ℕ)) (part : Partition) (list : List (ComponentState F)) (cs : List Content) : Type 0 where
  pub loaded : AllZip (IsLoadedOf told) list cs
  pub listed : IsList part cs

-- ---- wrong

-- the record of the entry at a position is the first that is none of a document as it is stored
pub record IsFirstHarm (c : Index) (whole : List ℕ) (place : ℕ) (bytes : List ℕ) : Type 0 where
  pub at : ℕ
  pub slot : Slot
  pub here : slice_get c.slots at ≡ Some slot
  pub some : 0 < slot.length
  pub place_is : place ≡ record_place c.slots at
  pub bytes_are : bytes ≡ record_at c.slots at whole
  pub harmed : IsStoredIn c.version c.names bytes → ⊥
  pub first : AreStoredUpTo c whole at

-- the component is loaded of a content, with which so much is live as is said
pub record LoadsAs {F : Type 0} (told : F → Option (List ℕ)) (cs : List Content) (c : ComponentState F) (P : Content → List Content → Type 0) : Type 0 where
  pub content : Content
  pub loaded : IsLoadedOf told c content
  pub holds : P content (cs ++ content ∷ [])

-- What is wrong with a component behind those of a list: its first record that is none, or else that too many documents are
-- live with it, or else the first place where its schema does not count those that are.
abbrev pub IsWrongBehind : {F : Type 0} → (F → Option (List ℕ)) → List Content → ComponentState F → Wrong → Type 0
IsWrongBehind told cs c (Record at place bytes) = (at ≡ length cs) × IsFirstHarm c.index (bytes_told told c) place bytes
IsWrongBehind told cs c (Documents at) = (at ≡ length cs) × LoadsAs told cs c (λ content all. 2 ^ 32 ≤ length (live all))
IsWrongBehind told cs c (Count at first) =
    (at ≡ length cs) × LoadsAs told cs c (λ content all. (length (live all) < 2 ^ 32) × IsFirstDifference content.names content.schema (values_in (live all)) (found_meant first))

-- what is wrong with components: those before one are right, and that one is wrong
pub record IsReason {F : Type 0} (told : F → Option (List ℕ)) (part : Partition) (list : List (ComponentState F)) (w : Wrong) : Type 0 where
  pub older : List (ComponentState F)
  pub component : ComponentState F
  pub newer : List (ComponentState F)
  pub parts : list ≡ older ++ component ∷ newer
  pub contents : List Content
  pub right : AreRight told part older contents
  pub wrong : IsWrongBehind told contents component w

-- ---- faults

-- faults do not fall, and rose where a call failed for one
pub record IsWatched (Failed : Type 0) (old new : Counts) : Type 0 where
  pub faults : old.faults ≤ new.faults
  pub cause : Failed → Rose old.faults new.faults
