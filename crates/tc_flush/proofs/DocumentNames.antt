-- The names of documents, learned by a dictionary, leave a dictionary.
use Rattle.std.proofs.Common.{◌≡◌, ◌<◌, ◌≤◌, ◌^◌, ◌+◌, ℕ, List, [], ◌∷◌, ◌++◌, length, length-append, refl, subst, arith, Option, Some, None}
use Rattle.std.specs.Prelude.{IsUtf8, All, IfSome}
use Rattle.std.specs.List.{AllByRecursion}
use Rattle.std.proofs.lemmas.List.Elements.{All-nil, All-cons, All-head, All-tail}
use Rattle.tc_model.specs.Dictionary.{number_of, learned, all_learned, Extends, IsName, IsDictionary}
use Rattle.tc_model.specs.Document.{Name, Document, Scalar, ShapeTree, document_shape, scalar_kind, IsDocument, IsScalar, AreItemsOf, AreMembersOf}
use Rattle.tc_model.specs.ShapeNames.{names_within, names_of_items, names_of_members}
use Rattle.tc_model.specs.Tree.{leaf, array, object, Items, no_items, item, Members, no_members, member, items_relabel, members_relabel}
use Rattle.tc_model.specs.Stored.{IsStorable}
use Rattle.tc_model.proofs.DictionaryGrowth.{IsDictionary-push, learned-known, learned-new, Extends-same, Extends-trans}
use Rattle.tc_model.proofs.LearnedNames.{length-all_learned, Extends-all_learned}
use Rattle.tc_record.specs.Record.{record_of, IsRecordOf}
use Rattle.tc_lsm_model.specs.Tables as documents
use Rattle.tc_lsm_model.specs.Tables.{shapes_held}
use Rattle.tc_memory.specs.Table.{Table, IsTable, IsLawfulKept, IsLawfulEntry}
use Rattle.tc_memory.specs.DocumentTables.{kept_held, kept_slot, kept_table, IsStoredAt, IsTableOf}
use Rattle.tc_flush.specs.Recounting.{names_with}
use Rattle.tc_flush.proofs.KeptEntries.{recorded}

pub append : (P : Name → Type 0) (xs ys : List Name) → AllByRecursion P xs → AllByRecursion P ys → AllByRecursion P (xs ++ ys)
append P [] ys first rest = rest
append P (x ∷ xs) ys first rest = (first.0, append P xs ys first.1 rest)

mutual
  pub texts_within : (d : Document) → IsDocument d → AllByRecursion IsUtf8 (names_within (document_shape d))
  texts_within (leaf s) is = tt
  texts_within (array xs) is = item_texts xs is
  texts_within (object ms) is = member_texts ms is.1

  item_texts : (xs : Items Name Scalar) → AreItemsOf IsScalar xs → AllByRecursion IsUtf8 (names_of_items (items_relabel (λ name. name) scalar_kind xs))
  item_texts no_items is = tt
  item_texts (item d xs) is = append IsUtf8 (names_within (document_shape d)) (names_of_items (items_relabel (λ name. name) scalar_kind xs)) (texts_within d is.0) (item_texts xs is.1)

  member_texts : (ms : Members Name Scalar) → AreMembersOf IsScalar ms → AllByRecursion IsUtf8 (names_of_members (members_relabel (λ name. name) scalar_kind ms))
  member_texts no_members is = tt
  member_texts (member name d ms) is =
      (is.0, append IsUtf8 (names_within (document_shape d)) (names_of_members (members_relabel (λ name. name) scalar_kind ms)) (texts_within d is.1) (member_texts ms is.2))

pub names_from_texts : (names : List Name) → AllByRecursion IsUtf8 names → All (λ name. length name < 2 ^ 32) names → AllByRecursion IsName names
names_from_texts [] texts short = tt
names_from_texts (name ∷ names) texts short =
    (record { text = texts.0; short = All-head (λ name. length name < 2 ^ 32) name names short }, names_from_texts names texts.1 (All-tail (λ name. length name < 2 ^ 32) name names short))

pub IsDictionary-learned : (names : List Name) (name : Name) → IsDictionary names → IsName name → length (learned names name) < 2 ^ 32 → IsDictionary (learned names name)
IsDictionary-learned names name dictionary is few = step (number_of names name) refl
  where
    new : length (names ++ name ∷ []) < 2 ^ 32 → length names + 1 < 2 ^ 32
    new few = omega (arith, few, length-append names (name ∷ []))

    step : (o : Option ℕ) → number_of names name ≡ o → IsDictionary (learned names name)
    step None unknown = rw (learned-new names name unknown) (IsDictionary-push names name dictionary is unknown (new (subst (λ ns. length ns < 2 ^ 32) (learned-new names name unknown) few)))
    step (Some id) known = rw (learned-known names name id known) dictionary

pub IsDictionary-all_learned : (names wanted : List Name) → IsDictionary names → AllByRecursion IsName wanted → length (all_learned names wanted) < 2 ^ 32 → IsDictionary (all_learned names wanted)
IsDictionary-all_learned names [] dictionary each few = dictionary
IsDictionary-all_learned names (name ∷ wanted) dictionary each few =
    IsDictionary-all_learned (learned names name) wanted (IsDictionary-learned names name dictionary each.0 (omega (arith, few, length-all_learned (learned names name) wanted))) each.1 few

-- ---- shape by shape

abbrev HasNames : ShapeTree → Type 0
HasNames s = AllByRecursion IsName (names_within s)

pub length-names_with : (names : List Name) (shapes : List ShapeTree) → length names ≤ length (names_with names shapes)
length-names_with names [] = omega arith
length-names_with names (s ∷ shapes) = omega (arith, length-all_learned names (names_within s), length-names_with (all_learned names (names_within s)) shapes)

IsDictionary-names_with : (names : List Name) (shapes : List ShapeTree) → IsDictionary names → All HasNames shapes → length (names_with names shapes) < 2 ^ 32 → IsDictionary (names_with names shapes)
IsDictionary-names_with names [] dictionary each few = dictionary
IsDictionary-names_with names (s ∷ shapes) dictionary each few =
    IsDictionary-names_with (all_learned names (names_within s)) shapes
    (IsDictionary-all_learned names (names_within s) dictionary (All-head HasNames s shapes each) (omega (arith, few, length-names_with (all_learned names (names_within s)) shapes)))
    (All-tail HasNames s shapes each) few

pub Extends-names_with : (names : List Name) (shapes : List ShapeTree) → Extends (names_with names shapes) names
Extends-names_with names [] = Extends-same names
Extends-names_with names (s ∷ shapes) =
    Extends-trans (names_with names (s ∷ shapes)) (all_learned names (names_within s)) names (Extends-names_with (all_learned names (names_within s)) shapes) (Extends-all_learned names (names_within s))

-- the names of a recorded document are short
abbrev pub ShortNames : Type 0
ShortNames = (d : Document) (whole : List ℕ) → IsRecordOf d whole → All (λ name. length name < 2 ^ 32) (names_within (document_shape d))

names_held : ShortNames → (t : documents.Table) → All IsStoredAt t → All IsLawfulEntry (kept_table t) → All HasNames (shapes_held t)
names_held short [] stored lawful = All-nil HasNames
names_held short (e ∷ t) stored lawful =
    step e.1.held (All-head IsStoredAt e t stored) (All-head IsLawfulEntry (e.0, kept_slot e.1) (kept_table t) lawful).lawful
    (names_held short t (All-tail IsStoredAt e t stored) (All-tail IsLawfulEntry (e.0, kept_slot e.1) (kept_table t) lawful))
  where
    step : (o : Option Document) → IfSome o (λ d. IsDocument d × IsStorable d) → IsLawfulKept (kept_held o) e.1.below → All HasNames (shapes_held t)
        → All HasNames (shapes_held ((e.0, record { held = o; below = e.1.below }) ∷ t))
    step None stored lawful rest = rest
    step (Some d) stored lawful rest =
        All-cons HasNames (document_shape d) (shapes_held t)
        (names_from_texts (names_within (document_shape d)) (texts_within d stored.0) (short d (record_of d) (recorded d (record_of d) stored.0 stored.1 refl lawful.is_record.short))) rest

-- so the names of a table's documents leave a dictionary
pub dictionary_held : ShortNames → (names : List Name) (t : documents.Table) (kept : Table) → IsTable kept → IsTableOf t kept → IsDictionary names → length (names_with names (shapes_held t)) < 2 ^ 32 → IsDictionary (names_with names (shapes_held t))
dictionary_held short names t kept table of dictionary few =
    IsDictionary-names_with names (shapes_held t) dictionary (names_held short t of.stored (subst (All IsLawfulEntry) of.is table.entries)) few
