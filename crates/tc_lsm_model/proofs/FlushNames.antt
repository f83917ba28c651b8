-- The names after writes: they go on from the older ones, and know the documents that were written.
use Rattle.std.proofs.Common.{◌≡◌, ◌≤◌, ℕ, List, [], ◌∷◌, ◌++◌, length, bytes_eq, ap, ◌∙◌, Option, Some, None}
use Rattle.std.specs.Prelude.{All, unwrap_or}
use Rattle.std.specs.List.{IsDistinct}
use Rattle.std.proofs.lemmas.List.Elements.{All-nil, All-cons, All-head, All-tail}
use Rattle.tc_model.specs.Document.{Name, Document, document_shape}
use Rattle.tc_model.specs.Dictionary.{Extends}
use Rattle.tc_model.specs.Keyed.{Ascends, value_of, values_in}
use Rattle.tc_model.specs.KnownNames.{HasNumber, HasEach}
use Rattle.tc_model.specs.ShapeNames.{names_within, names_of_documents}
use Rattle.tc_model.proofs.KeyedOrder.{sorted_nil}
use Rattle.tc_model.proofs.KeyedEquality.{each_found, of_found}
use Rattle.tc_model.proofs.LearnedNames.{Extends-all_learned, distinct-all_learned, all_numbered, all_of_first, all_of_rest, length-all_learned-among}
use Rattle.tc_plain_model.specs.Writes.{Pairs, Write, after_writes}
use Rattle.tc_plain_model.specs.Store.{names_after}
use Rattle.tc_plain_model.proofs.WriteLookups.{value_of-after_ascending}
use Rattle.tc_lsm_model.specs.Contents.{Partition, Content}
use Rattle.tc_lsm_model.specs.Lists.{live, names_of, IsList}
use Rattle.tc_lsm_model.specs.Tables.{Table, writes_of, over}
use Rattle.tc_lsm_model.proofs.ListNames.{AreNamesIn, KnowsWritten, named-after_writes, named-Extends, named-live}
use Rattle.tc_lsm_model.proofs.TableLaws.{Ascends-writes_of}

-- ---- the names of documents, together and one by one

one_by_one : (names : List Name) (p : Pairs) → HasEach names (names_of_documents (values_in p)) → All (AreNamesIn names) p
one_by_one names [] has = All-nil (AreNamesIn names)
one_by_one names (e ∷ p) has =
    All-cons (AreNamesIn names) e p (all_of_first (HasNumber names) (names_within (document_shape e.1)) (names_of_documents (values_in p)) has)
    (one_by_one names p (all_of_rest (HasNumber names) (names_within (document_shape e.1)) (names_of_documents (values_in p)) has))

HasEach-append : (names xs ys : List Name) → HasEach names xs → HasEach names ys → HasEach names (xs ++ ys)
HasEach-append names [] ys first rest = rest
HasEach-append names (x ∷ xs) ys first rest = (first.0, HasEach-append names xs ys first.1 rest)

together : (names : List Name) (p : Pairs) → All (AreNamesIn names) p → HasEach names (names_of_documents (values_in p))
together names [] all = tt
together names (e ∷ p) all =
    HasEach-append names (names_within (document_shape e.1)) (names_of_documents (values_in p)) (All-head (AreNamesIn names) e p all) (together names p (All-tail (AreNamesIn names) e p all))

-- ---- after writes

pub Extends-names_after : (names : List Name) (ws : List Write) → Extends (names_after names ws) names
Extends-names_after names ws = Extends-all_learned names (names_of_documents (values_in (after_writes [] ws)))

pub distinct-names_after : (names : List Name) (ws : List Write) → IsDistinct bytes_eq names → IsDistinct bytes_eq (names_after names ws)
distinct-names_after names ws distinct = distinct-all_learned names (names_of_documents (values_in (after_writes [] ws))) distinct

-- they know each document that is written
pub known-names_after : (names : List Name) (ws : List Write) → Ascends ws → All (KnowsWritten (names_after names ws)) ws
known-names_after names ws up =
    each_found (KnowsWritten (names_after names ws)) ws up (λ k v there. step k v (value_of-after_ascending k [] ws sorted_nil up ∙ ap (λ o. unwrap_or o None) there))
  where
    step : (k : ℕ) (v : Option Document) → value_of k (after_writes [] ws) ≡ v → KnowsWritten (names_after names ws) (k, v)
    step k None there = tt
    step k (Some d) there =
        of_found (AreNamesIn (names_after names ws)) (after_writes [] ws) k d
        (one_by_one (names_after names ws) (after_writes [] ws) (all_numbered names (names_of_documents (values_in (after_writes [] ws))))) there

-- and over a list each document that is live
pub live-names_after : (part : Partition) (cs : List Content) (t : Table) → IsList part cs → Ascends t → All (AreNamesIn (names_after (names_of cs) (writes_of t))) (over (live cs) t)
live-names_after part cs t all up =
    let names = names_after (names_of cs) (writes_of t) in
    named-after_writes names (live cs) (writes_of t) (known-names_after (names_of cs) (writes_of t) (Ascends-writes_of t up))
    (named-Extends names (names_of cs) (live cs) (Extends-names_after (names_of cs) (writes_of t)) (named-live part cs all))

-- they are no more than those of a dictionary that goes on and knows what is written
pub few-names_after : (names more : List Name) (ws : List Write) → IsDistinct bytes_eq names → Extends more names → All (KnowsWritten more) ws → length (names_after names ws) ≤ length more
few-names_after names more ws distinct extends knows =
    length-all_learned-among more names (names_of_documents (values_in (after_writes [] ws))) distinct extends
    (together more (after_writes [] ws) (named-after_writes more [] ws knows (All-nil (AreNamesIn more))))
