-- The count of documents goes on by each write.
use Rattle.std.proofs.Common.{◌≡◌, ◌∙◌, ◌==◌, ◌+◌, ◌-◌, ℕ, Bool, true, false, if◌then◌else◌, is_some, List, [], ◌∷◌, ◌++◌, map, length, Option, None, Some, refl, sym, subst, ap, append_assoc, append-nil}
use Rattle.std.specs.Prelude.{option_map, unwrap_or}
use Rattle.std.specs.BTreeMap.{insert_entry, is_at}
use Rattle.std.specs.List.{AllZip}
use Rattle.std.specs.Map.{lookup}
use Rattle.std.specs.Ordering.{nat_cmp}
use mathlib.Core.List.{map-append, map-id}
use Rattle.tc_log.specs.declared.write.Write.{Write as LogWrite}
use Rattle.tc_log.specs.declared.write.Write.TheVariants.{Delete, Upsert}
use Rattle.tc_model.specs.Document.{Document}
use Rattle.tc_model.specs.Keyed.{Ascends, Keyed, on_value, value_of, with_value}
use Rattle.tc_model.proofs.KeyedLookups.{value_of-with_value}
use Rattle.tc_model.proofs.KeyedMaps.{map-insert_entry, option_map-lookup}
use Rattle.tc_plain_model.specs.Writes.{Pairs, Write, after_write, after_writes}
use Rattle.tc_plain_model.proofs.WriteLaws.{after_writes-append}
use Rattle.tc_plain_model.proofs.WriteLookups.{Ascends-after_writes, value_of-after_write}
use Rattle.tc_lsm_model.specs.Contents.{Content, Partition}
use Rattle.tc_lsm_model.specs.Lists.{IsList, live}
use Rattle.tc_lsm_model.proofs.ListLaws.{Ascends-live}
use Rattle.tc_component.specs.Loading.{ComponentState}
use Rattle.tc_list.specs.Contents.{Shows}
use Rattle.tc_machine.specs.Logs.{all_writes, kept_write}
use Rattle.tc_part_model.specs.Staging.{counted_with}
use Rattle.tc_part_model.proofs.StoredCounts.{write_counted}
use Rattle.tc_check.specs.Counting.{CountsOver, IsCount, writes_in}
use Rattle.tc_check.specs.declared.counting.Counting.{Counting}

-- ---- the map

entries_seen : (es : Keyed Bool) → map (on_value (λ (b : Bool). b)) es ≡ es
entries_seen es = map-id es

pub written_at : (key : ℕ) (es : Keyed Bool) (found : Option Bool) → lookup (is_at (nat_cmp key)) es ≡ found → value_of key es ≡ found
written_at key es found is = ap (value_of key) (sym (entries_seen es)) ∙ (sym (option_map-lookup (λ (b : Bool). b) key es) ∙ same (lookup (is_at (nat_cmp key)) es) ∙ is)
  where
    same : (o : Option Bool) → option_map (λ (b : Bool). b) o ≡ o
    same None = refl
    same (Some b) = refl

pub written_with : (key : ℕ) (b : Bool) (es : Keyed Bool) → insert_entry nat_cmp es key b ≡ with_value key b es
written_with key b es = sym (entries_seen (insert_entry nat_cmp es key b)) ∙ (map-insert_entry (λ (x : Bool). x) key b es ∙ ap (with_value key b) (entries_seen es))

-- ---- one write

-- the key of a write has what the write says, and each other key what it had
step : (same : Bool) (held : Option Document) (there : Option Document) (written : Option Bool) (before : Bool) → is_some there ≡ unwrap_or written before
    → is_some (if same then held else there) ≡ unwrap_or (if same then Some (is_some held) else written) before
step true held there written before is = refl
step false held there written before is = is

pub write_counts : (pairs : Pairs) (before : List Write) (w : Write) (old new : Counting) (stored : Bool) → Ascends pairs → IsCount pairs before old → stored ≡ unwrap_or (value_of w.0 old.written.entries) (is_some (value_of w.0 pairs))
    → new.documents ≡ counted_with w stored old.documents → new.written.entries ≡ with_value w.0 (is_some w.1) old.written.entries → IsCount pairs (before ++ w ∷ []) new
write_counts pairs before w old new stored up count stored_is documents written =
    let there : Pairs = after_writes pairs before in
    let ascends : Ascends there = Ascends-after_writes pairs before up in
    let after : after_writes pairs (before ++ w ∷ []) ≡ after_write there w = after_writes-append pairs before (w ∷ []) in
    let had : is_some (value_of w.0 there) ≡ stored = count.written_are w.0 ∙ sym stored_is in
    record {
      documents_are = documents ∙ (ap (counted_with w stored) count.documents_are ∙ (ap (λ (b : Bool). counted_with w b (length there)) (sym had) ∙ (sym (write_counted w there ascends) ∙ ap (λ (ps : Pairs). length ps) (sym after))));
      written_are = λ key.
          ap (λ (ps : Pairs). is_some (value_of key ps)) after
          ∙ (ap is_some (value_of-after_write key there w ascends) ∙ (step (key == w.0) w.1 (value_of key there) (value_of key old.written.entries) (is_some (value_of key pairs)) (count.written_are key)
          ∙ ap (λ (o : Option Bool). unwrap_or o (is_some (value_of key pairs))) (sym (ap (value_of key) written ∙ value_of-with_value key w.0 (is_some w.1) old.written.entries))));
    }

-- what is answered of a write, without its document
pub upsert_is : (key : ℕ) (bytes : List ℕ) (w : Write) → Upsert key bytes ≡ kept_write w → (key ≡ w.0) × (true ≡ is_some w.1)
upsert_is key bytes (k, Some d) same = let keys : key ≡ k = cc in (keys, refl)
upsert_is key bytes (k, None) same = absurd (cc)

pub delete_is : (key : ℕ) (w : Write) → Delete key ≡ kept_write w → (key ≡ w.0) × (false ≡ is_some w.1)
delete_is key (k, Some d) same = absurd (cc)
delete_is key (k, None) same = let keys : key ≡ k = cc in (keys, refl)

pub counted_as : (w : Write) (stored stores : Bool) (n : ℕ) → stores ≡ is_some w.1 → counted_with w stored n ≡ (if stores then (if stored then n else n + 1) else (if stored then n - 1 else n))
counted_as (k, Some d) true stores n same = rw same refl
counted_as (k, Some d) false stores n same = rw same refl
counted_as (k, None) true stores n same = rw same refl
counted_as (k, None) false stores n same = rw same refl

-- what the steps of a write make of the count
pub one_counts : {F : Type 0} (list : List (ComponentState F)) (write : LogWrite) (old new : Counting) (key : ℕ) (stored stores : Bool) → ((w : Write) → write ≡ kept_write w → (key ≡ w.0) × (stores ≡ is_some w.1))
    → ((part : Partition) (cs : List Content) → IsList part cs → AllZip Shows list cs → stored ≡ unwrap_or (value_of key old.written.entries) (is_some (value_of key (live cs))))
    → ((w : Write) → stores ≡ is_some w.1 → new.documents ≡ counted_with w stored old.documents) → new.written.entries ≡ insert_entry nat_cmp old.written.entries key stores → CountsOver list (write ∷ []) old new
one_counts list write old new key stored stores changes was counts made part cs before [] is_list shows same count = absurd (cc)
one_counts list write old new key stored stores changes was counts made part cs before (w ∷ v ∷ ws) is_list shows same count = absurd (cc)
one_counts list write old new key stored stores changes was counts made part cs before (w ∷ []) is_list shows same count =
    let is : write ≡ kept_write w = cc in
    let change = changes w is in
    let was_stored = subst (λ k. stored ≡ unwrap_or (value_of k old.written.entries) (is_some (value_of k (live cs)))) change.0 (was part cs is_list shows) in
    let entries : new.written.entries ≡ with_value w.0 (is_some w.1) old.written.entries =
    made ∙ (written_with key stores old.written.entries ∙ (ap (λ k. with_value k stores old.written.entries) change.0 ∙ ap (λ b. with_value w.0 b old.written.entries) change.1)) in
    write_counts (live cs) before w old new stored (Ascends-live cs) count was_stored (counts w change.1) entries

-- ---- some writes, and then others

pub record IsSplit (ws : List Write) (xs ys : List LogWrite) : Type 0 where
  pub front : List Write
  pub back : List Write
  pub parts : ws ≡ front ++ back
  pub first : xs ≡ map kept_write front
  pub second : ys ≡ map kept_write back

pub split : (xs ys : List LogWrite) (ws : List Write) → xs ++ ys ≡ map kept_write ws → IsSplit ws xs ys
split [] ys ws same = record { front = []; back = ws; parts = refl; first = refl; second = same }
split (x ∷ xs) ys [] same = absurd (cc)
split (x ∷ xs) ys (w ∷ ws) same =
    let here : x ≡ kept_write w = cc in
    let further : xs ++ ys ≡ map kept_write ws = cc in
    let rest = split xs ys ws further in
    record { front = w ∷ rest.front; back = rest.back; parts = ap (λ vs. w ∷ vs) rest.parts; first = ap (λ z. z ∷ xs) here ∙ ap (λ zs. kept_write w ∷ zs) rest.first; second = rest.second }

pub counts_both : {F : Type 0} (list : List (ComponentState F)) (xs ys : List LogWrite) (a b c : Counting) → CountsOver list xs a b → CountsOver list ys b c → CountsOver list (xs ++ ys) a c
counts_both list xs ys a b c one two = λ part cs before ws is_list shows same count.
    let parts = split xs ys ws same in
    let middle = one part cs before parts.front is_list shows parts.first count in
    let end = two part cs (before ++ parts.front) parts.back is_list shows parts.second middle in
    subst (λ (all : List Write). IsCount (live cs) all c) (append_assoc before parts.front parts.back ∙ ap (λ vs. before ++ vs) (sym parts.parts)) end

pub counts_none : {F : Type 0} (list : List (ComponentState F)) (a : Counting) → CountsOver list [] a a
counts_none list a part cs before [] is_list shows same count = subst (λ (all : List Write). IsCount (live cs) all a) (sym (append-nil before)) count
counts_none list a part cs before (w ∷ ws) is_list shows same count = absurd (cc)

-- what is left decides: the count over all ends as the count over the rest does
abbrev pub EndsAs : {F : Type 0} → List (ComponentState F) → List LogWrite → List LogWrite → Counting → Counting → Type 0
EndsAs list all rest first now = (end : Counting) → CountsOver list rest now end → CountsOver list all first end

pub ends_further : {F : Type 0} (list : List (ComponentState F)) (all front behind : List LogWrite) (first now next : Counting) → CountsOver list front now next → EndsAs list all (front ++ behind) first now → EndsAs list all behind first next
ends_further list all front behind first now next counts ends = λ end rest. ends end (counts_both list front behind now next end counts rest)

-- ---- all logs

pub writes_kept : (kept : List (List Write)) → writes_in (map (map kept_write) kept) ≡ map kept_write (all_writes kept)
writes_kept [] = refl
writes_kept (ws ∷ kept) = ap (λ more. map kept_write ws ++ more) (writes_kept kept) ∙ sym (map-append kept_write ws (all_writes kept))

pub none_written : (pairs : Pairs) (counting : Counting) → counting.documents ≡ length pairs → counting.written.entries ≡ [] → IsCount pairs [] counting
none_written pairs counting documents none = record { documents_are = documents; written_are = λ key. ap (λ (es : Keyed Bool). unwrap_or (value_of key es) (is_some (value_of key pairs))) (sym none) }
