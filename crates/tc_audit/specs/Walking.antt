-- How far the entries of a component are counted.
use Rattle.std.specs.Prelude.{◌≡◌, ◌<◌, ◌≤◌, ◌+◌, ◌*◌, ◌^◌, ◌⊎◌, ℕ, List, length, take, flat_map, option_to_list, Option, Some}
use Rattle.std.specs.List.{AllByRecursion, AllZip}
use Rattle.tc_model.specs.Dictionary.{Extends}
use Rattle.tc_model.specs.Document.{Name, Document}
use Rattle.tc_model.specs.Keyed.{value_of, values_in}
use Rattle.tc_lsm_model.specs.Contents.{Partition, Content}
use Rattle.tc_lsm_model.specs.Lists.{live}
use Rattle.tc_plain_model.specs.Writes.{Pairs, Write, after_writes}
use Rattle.tc_model.specs.Kinds.{Kind}
use Rattle.tc_schema_model.specs.Counted.{Counted, documents_of, IsCanonical, shows, total_at}
use Rattle.tc_schema_model.specs.Occurrences.{Path, count}
use Rattle.tc_schema_model.specs.Stands.{StandsFor}
use Rattle.tc_component.specs.Cursors.{CursorState, HoldsPart}
use Rattle.tc_component.specs.Fetching.{record_at, record_place}
use Rattle.tc_component.specs.Loading.{ComponentState}
use Rattle.tc_component.specs.Spelling.{Index, Holds}
use Rattle.tc_difference.specs.Differences.{IsFirstDifference}
use Rattle.tc_difference.specs.Found.{found_meant}
use Rattle.tc_audit.specs.declared.verdict.Wrong.{Wrong}
use Rattle.tc_audit.specs.declared.verdict.Wrong.TheVariants.{Record, Documents, Count}
use Rattle.tc_audit.specs.Reasons.{AreRight}
use Rattle.tc_audit.specs.Stored.{IsStoredIn}
use Rattle.tc_audit.specs.Told.{content_in, AreStoredUpTo}

-- what a component's file tells
abbrev pub Tells : {F : Type 0} → (F → Option (List ℕ)) → ComponentState F → List ℕ → Type 0
Tells told c whole = (told c.file ≡ Some whole) × Holds whole c.index

-- the names of each component stand in front of these
abbrev pub AreInFront : {F : Type 0} → List (ComponentState F) → List Name → Type 0
AreInFront components names = AllByRecursion (λ c. Extends names c.index.names) components

-- how many writes set a document
abbrev pub documents_among : List Write → ℕ
documents_among ws = length (flat_map (λ w. option_to_list w.1) ws)

-- after is counted what before is without a document, if there is one, and with one
abbrev pub IsLessBy : Option Document → List Name → Counted → Counted → Type 0
IsLessBy gone names before after = (path : Path) (t : Kind) → shows names after path t + count (option_to_list gone) path t ≡ shows names before path t

abbrev pub IsMoreBy : Option Document → List Name → Counted → Counted → Type 0
IsMoreBy new names before after = (path : Path) (t : Kind) → shows names after path t ≡ shows names before path t + count (option_to_list new) path t

-- after is counted what before is with one in place of another
abbrev pub IsChangedBy : Option Document → Option Document → List Name → Counted → Counted → Type 0
IsChangedBy gone new names before after = (path : Path) (t : Kind) → shows names after path t + count (option_to_list gone) path t ≡ shows names before path t + count (option_to_list new) path t

-- Whatever is counted is in the one form, and there is room for the documents of so many entries as may be counted.
pub record IsCounting (names : List Name) (schema : Counted) (gained : ℕ) : Type 0 where
  pub canonical : IsCanonical (length names) schema
  pub room : gained ≤ 2 ^ 32 → (path : Path) → total_at names schema path < 2 ^ 63 + gained * 2 ^ 30

-- The first so many entries have stored records, so many of them have a document, and where those are few what is counted
-- stands for what is live with these entries over what was stored.
pub record IsUpTo (c : Index) (whole : List ℕ) (pairs : Pairs) (at : ℕ) (schema : Counted) (gained : ℕ) : Type 0 where
  pub stored : AreStoredUpTo c whole at
  pub gained_is : gained ≡ documents_among (take at (content_in c whole).entries)
  pub stands : gained ≤ 2 ^ 32 → StandsFor c.names schema (values_in (after_writes pairs (take at (content_in c whole).entries)))

-- each component has a cursor, which holds bytes of its file, if that tells
abbrev pub HoldParts : {F : Type 0} → (F → Option (List ℕ)) → List (ComponentState F) → List CursorState → Type 0
HoldParts told components cursors = AllZip (λ c k. HoldsPart (told c.file) k) components cursors

-- the record of the entry at a position is none of a document as it is stored
abbrev pub IsHarmAt : ℕ → Index → ℕ → List ℕ → Wrong → Type 0
IsHarmAt component c at whole w = (w ≡ Record component (record_place c.slots at) (record_at c.slots at whole)) × (IsStoredIn c.version c.names (record_at c.slots at whole) → ⊥)

-- Over older components that are right, what is counted does not stand for pairs that have the value of a key as these have it. So
-- what a stop tells here of the key's older record is never told of files that stay as they are.
pub record IsNeverTold {F : Type 0} (told : F → Option (List ℕ)) (older : List (ComponentState F)) (key : ℕ) (names : List Name) (schema : Counted) (gained : ℕ) : Type 0 where
  pub few : gained ≤ 2 ^ 32
  pub never : (part : Partition) (cs : List Content) (ps : Pairs) → AreRight told part older cs → value_of key ps ≡ value_of key (live cs) → StandsFor names schema (values_in ps) → ⊥

-- what is found where all records are stored ones: too many documents, or else a schema that counts otherwise
abbrev pub IsMiscount : ℕ → Index → Counted → ℕ → Wrong → Type 0
IsMiscount component c schema gained (Record at place bytes) = ⊥
IsMiscount component c schema gained (Documents at) = (at ≡ component) × ((2 ^ 32 ≤ gained) ⊎ (2 ^ 32 ≤ documents_of schema))
IsMiscount component c schema gained (Count at first) =
    (at ≡ component) × (gained < 2 ^ 32) × (documents_of schema < 2 ^ 32) × ((docs : List Document) → StandsFor c.names schema docs → IsFirstDifference c.names c.schema docs (found_meant first))

-- a component's file tells its bytes, and the entry at a position has the stored record of a document there
pub record IsStoredAt {F : Type 0} (told : F → Option (List ℕ)) (c : ComponentState F) (at : ℕ) (d : Document) (whole : List ℕ) : Type 0 where
  pub tells : told c.file ≡ Some whole
  pub stored : IsStoredIn c.index.version c.index.names (record_at c.index.slots at whole)
  pub is : stored.document ≡ d
