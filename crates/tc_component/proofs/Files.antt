-- The laws of whole components: what is spelled is read, and what is read is spelled so.
use Rattle.std.proofs.Common.{◌≡◌, ◌∙◌, ◌<◌, ◌≤◌, ◌+◌, ◌*◌, ◌==◌, ◌&&◌, ℕ, suc, Bool, true, false, List, [], ◌∷◌, ◌++◌, Some, inl, inr, Result, Ok, length, take, drop, refl, sym, ap, subst, arith, append_assoc, append-nil, length-append}
use Rattle.std.proofs.lemmas.Bool.{eqb-true}
use Rattle.std.proofs.lemmas.Bool.Decides.{nat_tests}
use Rattle.std.proofs.lemmas.Option.{same_Some}
use Rattle.std.proofs.lemmas.List.{nil_from_length, take_at, drop_at}
use Rattle.tc_bytes.specs.Codec.{IsBytes, IsCodec}
use Rattle.tc_bytes.specs.Reading.{passing_at}
use Rattle.tc_bytes.proofs.Codecs.{passing_codec}
use Rattle.tc_bytes.proofs.Fields.{IsBytes-drop, IsBytes-take}
use Rattle.tc_bytes.proofs.Whole.{whole_found}
use Rattle.tc_model.specs.Document.{Name}
use Rattle.tc_names.specs.Section.{section, read_section}
use Rattle.tc_names.proofs.Spelling.{dictionary_codec}
use Rattle.tc_schema_model.specs.Counted.{Counted}
use Rattle.tc_schema_model.specs.SchemaTree.{schema_tree}
use Rattle.tc_schema_model.specs.SchemaBytes.{schema_bytes}
use Rattle.tc_schema.specs.Reading.{read_schema}
use Rattle.tc_schema.proofs.SchemaCodec.{schema_found}
use Rattle.tc_store.specs.Judging.{Damage, damage, or_damage, judged_then}
use Rattle.tc_store.specs.declared.file_name.FileName.{FileName}
use Rattle.tc_store.specs.declared.file_name.FileName.TheVariants.{Component, Log}
use Rattle.tc_store.proofs.Judged.{judged_parts, or_damage_parts, same_Ok}
use Rattle.tc_component.specs.Found.{AreSizes, FrontFound, RestFound}
use Rattle.tc_component.specs.declared.head.Head.{Head}
use Rattle.tc_component.specs.declared.head.Sizes.{Sizes}
use Rattle.tc_component.specs.declared.slot.Slot.{Slot}
use Rattle.tc_component.specs.Layout.{number_end, directory_place, names_place, schema_place, file_size}
use Rattle.tc_component.specs.Spelling.{IsVersion, head_bytes, IsHead, directory, lengths_of, Index, sizes_of, sizes_in, file_with, IsIndex, name_of, Holds}
use Rattle.tc_component.specs.Reading.{version_told, head_at, is_named, is_header_of, front_of, front_judged, directory_read, rest_judged, file_judged}
use Rattle.tc_component.proofs.Written.{directory_length}
use Rattle.tc_component.proofs.Versions.{told_version, holds_version}
use Rattle.tc_component.proofs.Sections.{names_read, schema_read}
use Rattle.tc_component.proofs.Heads.{head_codec}
use Rattle.tc_component.proofs.Directories.{directory_found, directory_again}

-- ---- headers

named_codec : (version : ℕ) → IsVersion version → (name : FileName) (size : ℕ) → IsCodec (passing_at (is_header_of name size) (head_at version)) (λ h. head_bytes version h.0 h.1) (λ h. (IsHead h.0 × AreSizes h.1) × (is_header_of name size h ≡ true))
named_codec version told name size = passing_codec (is_header_of name size) (head_codec version told)

-- what the fourth byte tells is the version of each header
told_again : (version : ℕ) (head : Head) (sizes : Sizes) → IsVersion version → version_told (head_bytes version head sizes) ≡ version
told_again version head sizes (inl is) = subst (λ (v : ℕ). version_told (head_bytes v head sizes) ≡ v) (sym is) refl
told_again version head sizes (inr is) = subst (λ (v : ℕ). version_told (head_bytes v head sizes) ≡ v) (sym is) refl

both_true : (a b : Bool) → (a && b) ≡ true → (a ≡ true) × (b ≡ true)
both_true true b is = (refl, is)
both_true false b is = absurd (cc)

true_both : (a b : Bool) → a ≡ true → b ≡ true → (a && b) ≡ true
true_both a b one two = rw (one, two) refl

name_is : (name : FileName) (head : Head) → is_named name head ≡ true → name ≡ name_of head
name_is (Component from to) head is =
    let both = both_true (head.from == from) (head.to == to) is in
    rw (eqb-true head.from from both.0, eqb-true head.to to both.1) refl
name_is (Log generation) head is = absurd (cc)

name_test : (head : Head) → is_named (name_of head) head ≡ true
name_test head =
    let from : (head.from == head.from) ≡ true = grind (arith, nat_tests) in
    let to : (head.to == head.to) ≡ true = grind (arith, nat_tests) in
    true_both (head.from == head.from) (head.to == head.to) from to

pub head_length : (version : ℕ) (head : Head) (sizes : Sizes) → length (head_bytes version head sizes) ≡ 60
head_length version head sizes = refl

pub front_found : (name : FileName) (size : ℕ) (front : List ℕ) (h : Head × Sizes) → IsBytes front → length front ≤ 60 → front_judged name size front ≡ Ok h → FrontFound (version_told front) name size front h
front_found name size front h each short judged =
    let version = version_told front in
    let told = told_version front in
    let parts = judged_parts (or_damage (passing_at (is_header_of name size) (head_at version) front) (damage 1 front)) _ h judged in
    let here = (named_codec version told name size).found front parts.0.0 parts.0.1 each (or_damage_parts (passing_at (is_header_of name size) (head_at version) front) (damage 1 front) parts.0 parts.1) in
    let none : parts.0.1 ≡ [] = nil_from_length parts.0.1 (omega (arith, ap length here.0, length-append (head_bytes version parts.0.0.0 parts.0.0.1) parts.0.1, head_length version parts.0.0.0 parts.0.0.1, short)) in
    let tests = both_true (is_named name parts.0.0.0) (file_size parts.0.0.1 == size) here.2.1 in
    subst (FrontFound version name size front) (same_Ok _ h parts.2) (record {
      is_version = told;
      head = here.2.0.0;
      sizes = here.2.0.1;
      named = name_is name parts.0.0.0 tests.0;
      sized = eqb-true (file_size parts.0.0.1) size tests.1;
      spelled = here.0 ∙ ap (λ (rest : List ℕ). head_bytes version parts.0.0.0 parts.0.0.1 ++ rest) none ∙ append-nil (head_bytes version parts.0.0.0 parts.0.0.1);
    })

pub front_again : (version : ℕ) (name : FileName) (size : ℕ) (front : List ℕ) (h : Head × Sizes) → FrontFound version name size front h → front_judged name size front ≡ Ok h
front_again version name size front h is =
    let sized : (file_size h.1 == size) ≡ true = let same = is.sized in grind (arith, nat_tests) in
    let test : is_header_of name size h ≡ true = true_both (is_named name h.0) (file_size h.1 == size) (rw is.named (name_test h.0)) sized in
    let told : version_told front ≡ version = ap version_told is.spelled ∙ told_again version h.0 h.1 is.is_version in
    let read : passing_at (is_header_of name size) (head_at version) (head_bytes version h.0 h.1 ++ []) ≡ Some (h, []) = (named_codec version is.is_version name size).again h [] ((is.head, is.sizes), test) in
    let passes : passing_at (is_header_of name size) (head_at (version_told front)) front ≡ Some (h, []) =
    ap (λ (v : ℕ). passing_at (is_header_of name size) (head_at v) front) told ∙ ap (passing_at (is_header_of name size) (head_at version)) (is.spelled ∙ sym (append-nil (head_bytes version h.0 h.1))) ∙ read in
    rw passes refl

-- ---- what stands behind the records

pub rest_found : (version : ℕ) (h : Head × Sizes) (rest : List ℕ) (c : Index) → IsBytes rest → rest_judged version h rest ≡ Ok c → RestFound version h rest c
rest_found version h rest c each judged =
    let own = take (h.1.entries * 12) rest in
    let named = take h.1.names (drop (h.1.entries * 12) rest) in
    let counted = drop (h.1.entries * 12 + h.1.names) rest in
    let one = judged_parts (or_damage (directory_read h.1.entries h.1.records [] own) (damage (directory_place h.1) own)) _ c judged in
    let two = judged_parts (or_damage (read_section named) (damage (names_place h.1) named)) _ c one.2 in
    let three = judged_parts (or_damage (read_schema (length two.0) counted) (damage (schema_place h.1) counted)) _ c two.2 in
    let slots = directory_found h.1.entries h.1.records own one.0 (IsBytes-take (h.1.entries * 12) rest each) (or_damage_parts (directory_read h.1.entries h.1.records [] own) _ one.0 one.1) in
    let names = whole_found dictionary_codec named two.0 (IsBytes-take h.1.names (drop (h.1.entries * 12) rest) (IsBytes-drop (h.1.entries * 12) rest each)) (or_damage_parts (read_section named) _ two.0 two.1) in
    let schema = schema_found (length two.0) counted three.0 names.1.few (IsBytes-drop (h.1.entries * 12 + h.1.names) rest each) (or_damage_parts (read_schema (length two.0) counted) _ three.0 three.1) in
    subst (RestFound version h rest) (same_Ok _ c three.2) (record { version_is = refl; head = refl; slots = slots; names_are = names.1; names = names.0; schema_is = schema.1; schema = schema.0 })

rest_read : (version : ℕ) (h : Head × Sizes) (rest : List ℕ) (slots : List Slot) (names : List Name) (schema : Counted) → directory_read h.1.entries h.1.records [] (take (h.1.entries * 12) rest) ≡ Some slots
    → read_section (take h.1.names (drop (h.1.entries * 12) rest)) ≡ Some names → read_schema (length names) (drop (h.1.entries * 12 + h.1.names) rest) ≡ Some schema
    → rest_judged version h rest ≡ Ok (record { version = version; head = h.0; slots = slots; names = names; schema = schema })
rest_read version h rest slots names schema one two three = rw (one, two, three) refl

pub rest_again : (version : ℕ) (h : Head × Sizes) (rest : List ℕ) (c : Index) → RestFound version h rest c → rest_judged version h rest ≡ Ok c
rest_again version h rest c is =
    let one : directory_read h.1.entries h.1.records [] (take (h.1.entries * 12) rest) ≡ Some c.slots =
    subst (λ (count : ℕ). directory_read count h.1.records [] (take (h.1.entries * 12) rest) ≡ Some c.slots) is.slots.count_is
    (ap (directory_read (length c.slots) h.1.records []) is.slots.spelled ∙ directory_again h.1.records c.slots is.slots.each is.slots.ascend is.slots.sum) in
    let two : read_section (take h.1.names (drop (h.1.entries * 12) rest)) ≡ Some c.names = names_read (take h.1.names (drop (h.1.entries * 12) rest)) c.names is.names is.names_are in
    let three : read_schema (length c.names) (drop (h.1.entries * 12 + h.1.names) rest) ≡ Some c.schema = ap (read_schema (length c.names)) is.schema ∙ schema_read (length c.names) (schema_bytes (schema_tree c.schema)) c.schema is.names_are.few refl is.schema_is in
    rest_read version h rest c.slots c.names c.schema one two three
    ∙ ap (λ (head : Head). Ok (record { version = version; head = head; slots = c.slots; names = c.names; schema = c.schema })) (sym is.head)
    ∙ ap (λ (v : ℕ). Ok (record { version = v; head = c.head; slots = c.slots; names = c.names; schema = c.schema })) (sym is.version_is)

-- ---- whole files

-- what stands behind the records
behind : Index → List ℕ
behind c = directory c.slots ++ (section c.names ++ schema_bytes (schema_tree c.schema))

file_length : (c : Index) (rs : List ℕ) → length rs ≡ lengths_of c.slots → length (file_with c rs) ≡ file_size (sizes_in c)
file_length c rs sized =
    let ds = directory c.slots in
    let ns = section c.names in
    let ss = schema_bytes (schema_tree c.schema) in
    let hs = head_bytes c.version c.head (sizes_of c.slots c.names c.schema) in
    omega (arith, sized, head_length c.version c.head (sizes_of c.slots c.names c.schema), directory_length c.slots, length-append hs (rs ++ (ds ++ (ns ++ ss))), length-append rs (ds ++ (ns ++ ss)), length-append ds (ns ++ ss), length-append ns ss)

front_spelled : (c : Index) (rs : List ℕ) → front_of (file_with c rs) ≡ head_bytes c.version c.head (sizes_in c)
front_spelled c rs = take_at (head_bytes c.version c.head (sizes_of c.slots c.names c.schema)) (rs ++ (directory c.slots ++ (section c.names ++ schema_bytes (schema_tree c.schema)))) 60 (head_length c.version c.head (sizes_of c.slots c.names c.schema))

rest_spelled : (c : Index) (rs : List ℕ) → length rs ≡ lengths_of c.slots → drop (directory_place (sizes_in c)) (file_with c rs) ≡ behind c
unfolding behind
rest_spelled c rs sized =
    let hs = head_bytes c.version c.head (sizes_of c.slots c.names c.schema) in
    let front = (1 ∷ hs) ++ rs in
    let all : file_with c rs ≡ front ++ (directory c.slots ++ (section c.names ++ schema_bytes (schema_tree c.schema))) = sym (append_assoc (1 ∷ hs) rs (directory c.slots ++ (section c.names ++ schema_bytes (schema_tree c.schema)))) in
    ap (drop (61 + lengths_of c.slots)) all ∙ drop_at front (directory c.slots ++ (section c.names ++ schema_bytes (schema_tree c.schema))) (61 + lengths_of c.slots)
    (omega (arith, sized, length-append (1 ∷ hs) rs, head_length c.version c.head (sizes_of c.slots c.names c.schema)))

rest_of_content : (c : Index) → IsIndex c → RestFound c.version (c.head, sizes_in c) (behind c) c
unfolding behind
rest_of_content c is =
    let ds = directory c.slots in
    let ns = section c.names in
    let ss = schema_bytes (schema_tree c.schema) in
    let long : length ds ≡ length c.slots * 12 = directory_length c.slots in
    record {
      version_is = refl;
      head = refl;
      slots = record { spelled = take_at ds (ns ++ ss) (length c.slots * 12) long; count_is = refl; each = is.each; ascend = is.ascend; sum = refl };
      names_are = is.names;
      names = ap (take (length ns)) (drop_at ds (ns ++ ss) (length c.slots * 12) long) ∙ take_at ns ss (length ns) refl;
      schema_is = is.schema;
      schema = ap (drop (length c.slots * 12 + length ns)) (sym (append_assoc ds ns ss)) ∙ drop_at (ds ++ ns) ss (length c.slots * 12 + length ns) (omega (arith, long, length-append ds ns));
    }

small_sizes : (sizes : Sizes) (size : ℕ) → size ≡ file_size sizes → size < number_end → AreSizes sizes
small_sizes sizes size is short = record { records = omega (arith, is, short); entries = omega (arith, is, short); names = omega (arith, is, short); schema = omega (arith, is, short) }

-- the front of a file that holds something
holds_front : (bytes : List ℕ) (c : Index) → Holds bytes c → front_of bytes ≡ head_bytes c.version c.head (sizes_in c)
holds_front bytes c holds = ap front_of holds.spelled ∙ front_spelled c holds.records

-- what is spelled is read
pub judged_spelled : (name : FileName) (bytes : List ℕ) (c : Index) → Holds bytes c → name ≡ name_of c.head → file_judged name bytes ≡ Ok c
judged_spelled name bytes c holds named =
    let rs = holds.records in
    let long : length bytes ≡ file_size (sizes_in c) = ap length holds.spelled ∙ file_length c rs holds.sized in
    let small : AreSizes (sizes_in c) = small_sizes (sizes_in c) (length bytes) long holds.short in
    let found : FrontFound c.version name (length bytes) (front_of bytes) (c.head, sizes_in c) =
    record { is_version = holds.is.version; head = holds.is.head; sizes = small; named = named; sized = sym long; spelled = holds_front bytes c holds } in
    let one : front_judged name (length bytes) (front_of bytes) ≡ Ok (c.head, sizes_in c) = front_again c.version name (length bytes) (front_of bytes) (c.head, sizes_in c) found in
    let rest : drop (directory_place (sizes_in c)) bytes ≡ behind c = ap (drop (directory_place (sizes_in c))) holds.spelled ∙ rest_spelled c rs holds.sized in
    let two : rest_judged c.version (c.head, sizes_in c) (drop (directory_place (sizes_in c)) bytes) ≡ Ok c =
    ap (rest_judged c.version (c.head, sizes_in c)) rest ∙ rest_again c.version (c.head, sizes_in c) (behind c) c (rest_of_content c holds.is) in
    ap (λ (r : Result (Head × Sizes) Damage). judged_then r (λ h. rest_judged (version_told (front_of bytes)) h (drop (directory_place h.1) bytes))) one
    ∙ ap (λ (v : ℕ). rest_judged v (c.head, sizes_in c) (drop (directory_place (sizes_in c)) bytes)) (holds_version bytes c holds)
    ∙ two

-- ---- the parts of a file that holds something

header_read : (bytes : List ℕ) (c : Index) → Holds bytes c → head_at (version_told (front_of bytes)) (front_of bytes) ≡ Some ((c.head, sizes_in c), [])
header_read bytes c holds =
    let long : length bytes ≡ file_size (sizes_in c) = ap length holds.spelled ∙ file_length c holds.records holds.sized in
    ap (λ (v : ℕ). head_at v (front_of bytes)) (holds_version bytes c holds)
    ∙ ap (head_at c.version) (holds_front bytes c holds ∙ sym (append-nil (head_bytes c.version c.head (sizes_in c))))
    ∙ (head_codec c.version holds.is.version).again (c.head, sizes_in c) [] (holds.is.head, small_sizes (sizes_in c) (length bytes) long holds.short)

-- a file has one header
pub one_head : (bytes : List ℕ) (c d : Index) → Holds bytes c → Holds bytes d → c.head ≡ d.head
one_head bytes c d one two =
    ap (λ (read : (Head × Sizes) × List ℕ). read.0.0) (same_Some ((c.head, sizes_in c), []) ((d.head, sizes_in d), []) (sym (header_read bytes c one) ∙ header_read bytes d two))

pub records_spelled : (c : Index) (rs : List ℕ) → drop 61 (file_with c rs) ≡ rs ++ (directory c.slots ++ (section c.names ++ schema_bytes (schema_tree c.schema)))
records_spelled c rs =
    let hs = head_bytes c.version c.head (sizes_of c.slots c.names c.schema) in
    drop_at (1 ∷ hs) (rs ++ (directory c.slots ++ (section c.names ++ schema_bytes (schema_tree c.schema)))) 61 (ap suc (head_length c.version c.head (sizes_of c.slots c.names c.schema)))

pub records_read : (c : Index) (rs bytes : List ℕ) → bytes ≡ file_with c rs → length rs ≡ lengths_of c.slots → take (lengths_of c.slots) (drop 61 bytes) ≡ rs
records_read c rs bytes spelled sized =
    ap (λ (all : List ℕ). take (lengths_of c.slots) (drop 61 all)) spelled ∙ ap (take (lengths_of c.slots)) (records_spelled c rs)
    ∙ take_at rs (directory c.slots ++ (section c.names ++ schema_bytes (schema_tree c.schema))) (lengths_of c.slots) sized
