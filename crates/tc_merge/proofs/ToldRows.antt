-- The rows that the component of a content tells are the content's.
use Rattle.std.proofs.Common.{◌≡◌, ◌∙◌, ◌<◌, ℕ, false, List, [], ◌∷◌, ◌++◌, Option, None, Some, length, take, drop, inl, inr, refl, ap, subst, arith, append_assoc}
use Rattle.std.specs.Prelude.{◌==◌, if◌then◌else◌, All, IfSome, unwrap_or}
use Rattle.std.proofs.lemmas.Bool.Decides.{nat_tests}
use Rattle.std.proofs.lemmas.List.{take_at, drop_at}
use Rattle.std.proofs.lemmas.List.Elements.{All-nil, All-cons, All-head, All-tail}
use Rattle.tc_model.specs.Dictionary.{IsDictionary, Extends}
use Rattle.tc_model.specs.Document.{Name, Document}
use Rattle.tc_record.specs.Record.{NumberedTree, IsNumberedRecordIn, IsNumberedRecordOf, packed_record_of, IsRecordOf, record_of}
use Rattle.tc_names.specs.Section.{section}
use Rattle.tc_schema_model.specs.SchemaTree.{schema_tree}
use Rattle.tc_schema_model.specs.SchemaBytes.{schema_bytes}
use Rattle.tc_compact.specs.Compacted.{compacted, IsCompactedIn}
use Rattle.tc_compact.specs.Repacked.{repacked}
use Rattle.tc_plain_model.specs.Writes.{Write}
use Rattle.tc_lsm_model.specs.Contents.{Content}
use Rattle.tc_lsm_model.specs.Contents as contents
use Rattle.tc_component.specs.Loading.{ComponentState}
use Rattle.tc_component.specs.Reading.{front_of, version_of}
use Rattle.tc_component.specs.Rows.{record_in, row_of, rows_as, rows_of, component_index, IsShortWrite}
use Rattle.tc_component.specs.Spelling.{IsVersion, written_version, records, slots_of, directory, head_bytes, sizes_in, Index}
use Rattle.tc_component.proofs.EntryRecords.{kept, long_record}
use Rattle.tc_component.proofs.Versions.{told_version}
use Rattle.tc_component.specs.Loaded.{IsLoadedOf}
use Rattle.tc_merge.specs.Merging.{rewritten, held_in, rows_in, rows_told}

-- what is written now of a record of form 1
abbrev pub RecordsRepack : Type 0
RecordsRepack = (n : NumberedTree) (bytes : List ℕ) → IsNumberedRecordOf n bytes → repacked bytes ≡ packed_record_of n

-- and so of a record of the form of each version
rewritten_is : RecordsRepack → (version : ℕ) → IsVersion version → (n : NumberedTree) (bytes : List ℕ) → IsNumberedRecordIn version n bytes → rewritten version bytes ≡ packed_record_of n
rewritten_is repack version (inl one) n bytes is = ap (λ v. rewritten v bytes) one ∙ repack n bytes (subst (λ v. IsNumberedRecordIn v n bytes) one is)
rewritten_is repack version (inr two) n bytes is = ap (λ v. rewritten v bytes) two ∙ spelled n bytes (subst (λ v. IsNumberedRecordIn v n bytes) two is)
  where
    spelled : (n : NumberedTree) (bytes : List ℕ) → IsNumberedRecordIn 2 n bytes → bytes ≡ packed_record_of n
    spelled n bytes is = is.spelled

-- a record that is there has a byte, and this is written of it now
abbrev IsThere : ℕ → List Name → Write → Type 0
IsThere version names w = IfSome w.1 (λ d. (0 < length (record_in version names d)) × (rewritten version (record_in version names d) ≡ record_in written_version names d))

there : RecordsRepack → (version : ℕ) → IsVersion version → (names : List Name) (w : Write) → IsDictionary names → contents.IsEntry names w → IsShortWrite w → IsThere version names w
there repack version told names (key, None) dictionary is short = tt
there repack version told names (key, Some d) dictionary is short =
    let k = kept version told names key d dictionary is short in
    (omega (arith, long_record version told names d k), rewritten_is repack version told (compacted names d) (record_in version names d) k.compact.numbered)

all_there : RecordsRepack → (version : ℕ) → IsVersion version → (names : List Name) (ws : List Write) → IsDictionary names → All (contents.IsEntry names) ws → All IsShortWrite ws → All (IsThere version names) ws
all_there repack version told names [] dictionary is short = All-nil (IsThere version names)
all_there repack version told names (w ∷ ws) dictionary is short =
    All-cons (IsThere version names) w ws (there repack version told names w dictionary (All-head (contents.IsEntry names) w ws is) (All-head IsShortWrite w ws short))
    (all_there repack version told names ws dictionary (All-tail (contents.IsEntry names) w ws is) (All-tail IsShortWrite w ws short))

held_again : (version : ℕ) (bytes more : List ℕ) → 0 < length bytes → held_in version (length bytes) (bytes ++ more) ≡ Some (rewritten version bytes)
held_again version bytes more some =
    let not_none : (length bytes == 0) ≡ false = grind (arith, nat_tests) in
    ap (λ b. if b then None else Some (rewritten version (take (length bytes) (bytes ++ more)))) not_none ∙ ap (λ bs. Some (rewritten version bs)) (take_at bytes more (length bytes) refl)

-- the records behind one another are those of the rows
rows_again : (version : ℕ) (names : List Name) (ws : List Write) (more : List ℕ) → All (IsThere version names) ws
    → rows_in version (slots_of (rows_as version names ws)) (records (rows_as version names ws) ++ more) ≡ rows_of names ws
rows_again version names [] more all = refl
rows_again version names ((key, None) ∷ ws) more all = ap (λ rows. (key, None) ∷ rows) (rows_again version names ws more (All-tail (IsThere version names) (key, None) ws all))
rows_again version names ((key, Some d) ∷ ws) more all =
    let own = record_in version names d in
    let slots = slots_of (rows_as version names ws) in
    let rest = records (rows_as version names ws) in
    let first = All-head (IsThere version names) (key, Some d) ws all in
    let parts : (own ++ rest) ++ more ≡ own ++ (rest ++ more) = append_assoc own rest more in
    ap (λ bytes. (key, held_in version (length own) bytes) ∷ rows_in version slots (drop (length own) bytes)) parts
    ∙ ap (λ held. (key, held) ∷ rows_in version slots (drop (length own) (own ++ (rest ++ more)))) (held_again version own (rest ++ more) first.0 ∙ ap Some first.1)
    ∙ ap (λ bytes. (key, Some (record_in written_version names d)) ∷ rows_in version slots bytes) (drop_at own (rest ++ more) (length own) refl)
    ∙ ap (λ rows. (key, Some (record_in written_version names d)) ∷ rows) (rows_again version names ws more (All-tail (IsThere version names) (key, Some d) ws all))

pub told_rows : {F : Type 0} (content : F → Option (List ℕ)) → RecordsRepack → (m : ComponentState F) (c : Content) → IsLoadedOf content m c → rows_told content m ≡ rows_of c.names c.entries
told_rows content repack m c loaded =
    let is = loaded.is in
    let version = version_of loaded.bytes in
    let index = component_index version c in
    let rows = rows_as version c.names c.entries in
    ap (λ (i : Index). rows_in i.version i.slots (drop 61 (unwrap_or (content m.file) []))) loaded.index
    ∙ ap (λ o. rows_in version index.slots (drop 61 (unwrap_or o []))) loaded.tells
    ∙ ap (λ bytes. rows_in version index.slots (drop 61 bytes)) is.spelled
    ∙ ap (rows_in version index.slots) (drop_at (1 ∷ head_bytes version index.head (sizes_in index)) (records rows ++ (directory index.slots ++ (section index.names ++ schema_bytes (schema_tree index.schema)))) 61 refl)
    ∙ rows_again version c.names c.entries _ (all_there repack version (told_version (front_of loaded.bytes)) c.names c.entries is.content.dictionary is.content.entries is.records)

-- ---- under the names of a newer one

-- what a dictionary that goes on says of a record
abbrev pub RecordsStay : Type 0
RecordsStay = (d : Document) (whole bytes : List ℕ) (names newer : List Name) → IsRecordOf d whole → IsCompactedIn written_version names d bytes → IsDictionary newer → Extends newer names → IsCompactedIn written_version newer d bytes

one_row : RecordsStay → (names newer : List Name) (w : Write) → IsDictionary names → contents.IsEntry names w → IsShortWrite w → IsDictionary newer → Extends newer names → row_of names w ≡ row_of newer w
one_row stay names newer (key, None) dictionary is short known extends = refl
one_row stay names newer (key, Some d) dictionary is short known extends =
    let k = kept written_version (inr refl) names key d dictionary is short in
    let own = record_in written_version names d in
    let newer_is : IsCompactedIn written_version newer d own = stay d (record_of d) own names newer k.whole k.compact known extends in
    ap (λ bytes. (key, Some bytes)) newer_is.numbered.spelled

pub same_rows : RecordsStay → (names newer : List Name) (ws : List Write) → IsDictionary names → All (contents.IsEntry names) ws → All IsShortWrite ws → IsDictionary newer → Extends newer names
    → rows_of names ws ≡ rows_of newer ws
same_rows stay names newer [] dictionary is short known extends = refl
same_rows stay names newer (w ∷ ws) dictionary is short known extends =
    ap (λ row. row ∷ rows_of names ws) (one_row stay names newer w dictionary (All-head (contents.IsEntry names) w ws is) (All-head IsShortWrite w ws short) known extends)
    ∙ ap (λ rows. row_of newer w ∷ rows) (same_rows stay names newer ws dictionary (All-tail (contents.IsEntry names) w ws is) (All-tail IsShortWrite w ws short) known extends)
