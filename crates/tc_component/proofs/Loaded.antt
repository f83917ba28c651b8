-- What is loaded of a component, by what was read of its file.
use Rattle.std.proofs.Common.{◌≡◌, ◌∙◌, ◌<◌, ◌≤◌, ◌+◌, ◌*◌, ◌-◌, ℕ, zero, suc, true, List, [], ◌∷◌, ◌++◌, Option, None, Some, Result, Ok, Err, length, take, drop, min, replicate, refl, sym, ap, subst, arith, inl, inr, append_assoc, append-nil, length-append}
use Rattle.std.specs.Prelude.{IfSome}
use Rattle.std.proofs.lemmas.Bool.{cases_lt, eqb-true}
use Rattle.std.proofs.lemmas.List.{take-append-drop, take_at, take_all, drop_at, drop-drop, length-take-le, length-take, length-drop, length-replicate, nil_from_length}
use Rattle.tc_bytes.specs.Codec.{IsBytes}
use Rattle.tc_bytes.proofs.Fields.{IsBytes-drop, IsBytes-take}
use Rattle.tc_model.specs.Document.{Name}
use Rattle.tc_names.specs.Section.{section}
use Rattle.tc_schema_model.specs.Counted.{Counted}
use Rattle.tc_schema_model.specs.SchemaTree.{schema_tree}
use Rattle.tc_schema_model.specs.SchemaBytes.{schema_bytes}
use Rattle.tc_store.specs.Gate.{is_open_file}
use Rattle.tc_store.specs.Judging.{Damage, damage, judged_then, Judges, IfDamaged}
use Rattle.tc_store.proofs.Judged.{judged_parts}
use Rattle.tc_store.specs.declared.damage.ReadFault.{ReadFault}
use Rattle.tc_store.specs.declared.damage.ReadFault.TheVariants.{Disk, Damaged, Memory}
use Rattle.tc_store.specs.declared.file_name.FileName.{FileName}
use Rattle.tc_component.specs.declared.head.Head.{Head}
use Rattle.tc_component.specs.declared.head.Sizes.{Sizes}
use Rattle.tc_component.specs.Found.{FrontFound, RestFound}
use Rattle.tc_component.specs.Layout.{number_end, directory_place}
use Rattle.tc_component.specs.Loading.{same_pair}
use Rattle.tc_component.specs.Spelling.{Row, records, head_bytes, IsVersion, IsHead, directory, Index, index_of, file_bytes_as, sizes_of, IsIndex, name_of, Holds}
use Rattle.tc_component.specs.Reading.{version_told, front_of, front_judged, rest_judged, file_judged, head_judged}
use Rattle.tc_component.proofs.Written.{records_length}
use Rattle.tc_component.proofs.Files.{front_found, rest_found, head_length}

-- ---- what is read of a file that tells

told_file : (name : FileName) (size : ℕ) (front : List ℕ) (h : Head × Sizes) (rest bytes : List ℕ) → size ≡ length bytes → front ≡ front_of bytes → front_judged name size front ≡ Ok h
    → rest ≡ take (size - directory_place h.1) (drop (directory_place h.1) bytes) → file_judged name bytes ≡ rest_judged (version_told front) h rest
told_file name size front h rest bytes sized front_is first rest_is =
    let all : take (size - directory_place h.1) (drop (directory_place h.1) bytes) ≡ drop (directory_place h.1) bytes =
    take_all (size - directory_place h.1) (drop (directory_place h.1) bytes) (omega (arith, sized, length-drop (directory_place h.1) bytes)) in
    let one : front_judged name (length bytes) (front_of bytes) ≡ Ok h = ap (λ (n : ℕ). front_judged name n (front_of bytes)) (sym sized) ∙ ap (front_judged name size) (sym front_is) ∙ first in
    ap (λ (r : Result (Head × Sizes) Damage). judged_then r (λ h. rest_judged (version_told (front_of bytes)) h (drop (directory_place h.1) bytes))) one
    ∙ ap (λ (f : List ℕ). rest_judged (version_told f) h (drop (directory_place h.1) bytes)) (sym front_is)
    ∙ ap (rest_judged (version_told front) h) (sym (rest_is ∙ all))

-- a header that is refused, whatever else would be judged of the file
pub head_answers : {X Y : Type 0} (view : X → Y) (next : List ℕ → Head × Sizes → Result Y Damage) (name : FileName) (size : ℕ) (front : List ℕ) (content : Option (List ℕ)) (fault : ReadFault)
    → IfSome content (λ bytes. size ≡ length bytes) → IfSome content (λ bytes. front ≡ front_of bytes) → Judges same_pair (Err fault) (front_judged name size front)
    → IfSome content (λ bytes. Judges view (Err fault) (judged_then (front_judged name (length bytes) (front_of bytes)) (next bytes)))
head_answers view next name size front None fault sized front_is judged = tt
head_answers view next name size front (Some bytes) Disk sized front_is judged = tt
head_answers view next name size front (Some bytes) Memory sized front_is judged = tt
head_answers {Y = Y} view next name size front (Some bytes) (Damaged place kept) sized front_is judged =
    ap (λ (r : Result (Head × Sizes) Damage). judged_then r (next bytes)) (ap (λ (n : ℕ). front_judged name n (front_of bytes)) (sym sized) ∙ ap (front_judged name size) (sym front_is) ∙ judged)

-- and one that is not
pub head_told : (name : FileName) (size : ℕ) (front : List ℕ) (h : Head × Sizes) (content : Option (List ℕ)) → IfSome content (λ bytes. size ≡ length bytes) → IfSome content (λ bytes. front ≡ front_of bytes) → front_judged name size front ≡ Ok h
    → IfSome content (λ bytes. head_judged name bytes ≡ Ok h.0)
head_told name size front h None sized front_is judged = tt
head_told name size front h (Some bytes) sized front_is judged =
    ap (λ (r : Result (Head × Sizes) Damage). judged_then r (λ h. Ok h.0)) (ap (λ (n : ℕ). front_judged name n (front_of bytes)) (sym sized) ∙ ap (front_judged name size) (sym front_is) ∙ judged)

-- what stands behind the records, refused or not
pub rest_answers : {X Z : Type 0} (view : X → Index) (other : Z → Index) (name : FileName) (size : ℕ) (front : List ℕ) (h : Head × Sizes) (rest : List ℕ) (content : Option (List ℕ)) (fault : ReadFault)
    → IfSome content (λ bytes. size ≡ length bytes) → IfSome content (λ bytes. front ≡ front_of bytes) → front_judged name size front ≡ Ok h
    → IfSome content (λ bytes. rest ≡ take (size - directory_place h.1) (drop (directory_place h.1) bytes)) → Judges view (Err fault) (rest_judged (version_told front) h rest) → IfSome content (λ bytes. Judges other (Err fault) (file_judged name bytes))
rest_answers view other name size front h rest None fault sized front_is first rest_is judged = tt
rest_answers view other name size front h rest (Some bytes) Disk sized front_is first rest_is judged = tt
rest_answers view other name size front h rest (Some bytes) Memory sized front_is first rest_is judged = tt
rest_answers view other name size front h rest (Some bytes) (Damaged place kept) sized front_is first rest_is judged = told_file name size front h rest bytes sized front_is first rest_is ∙ judged

pub all_answers : (name : FileName) (size : ℕ) (front : List ℕ) (h : Head × Sizes) (rest : List ℕ) (c : Index) (content : Option (List ℕ)) → IfSome content (λ bytes. size ≡ length bytes) → IfSome content (λ bytes. front ≡ front_of bytes)
    → front_judged name size front ≡ Ok h → IfSome content (λ bytes. rest ≡ take (size - directory_place h.1) (drop (directory_place h.1) bytes)) → rest_judged (version_told front) h rest ≡ Ok c → IfSome content (λ bytes. file_judged name bytes ≡ Ok c)
all_answers name size front h rest c None sized front_is first rest_is judged = tt
all_answers name size front h rest c (Some bytes) sized front_is first rest_is judged = told_file name size front h rest bytes sized front_is first rest_is ∙ judged

-- ---- damage of a file that does not tell: that of some file of its length

-- this front in a file of a length
padded : (front : List ℕ) (n : ℕ) → length front ≡ min n 60 → take 60 (front ++ replicate (n - length front) 0) ≡ front
padded front n long = elim (cases_lt 60 n) [
  | inl more ↦ take_at front (replicate (n - length front) 0) 60 (omega (arith, long, more))
  | inr few ↦
      let none : ◌≡◌ {A = List ℕ} (replicate (n - length front) 0) [] = nil_from_length (replicate (n - length front) 0) (omega (arith, length-replicate {A = ℕ} (n - length front) 0, long, few)) in
      ap (λ (bytes : List ℕ). take 60 (front ++ bytes)) none ∙ take_all 60 (front ++ []) (omega (arith, long, length-append front [])) ∙ append-nil front
]

front_of_length : (front : List ℕ) (size : ℕ) → length front ≡ min (size - min size 1) 60 → (whole : List ℕ) × (length whole ≡ size) × (front_of whole ≡ front)
front_of_length front zero long =
    let none : front ≡ [] = nil_from_length front (omega (arith, long)) in ([], refl, sym none)
front_of_length front (suc n) long =
    let short : length front ≡ min n 60 = omega (arith, long) in
    (0 ∷ (front ++ replicate (n - length front) 0), omega (arith, short, length-append front (replicate (n - length front) 0), length-replicate {A = ℕ} (n - length front) 0), padded front n short)

pub head_damaged : {Y : Type 0} (X : Type 0) (next : List ℕ → Head × Sizes → Result Y Damage) (name : FileName) (size : ℕ) (front : List ℕ) (fault : ReadFault) → length front ≡ min (size - min size 1) 60
    → Judges same_pair (Err fault) (front_judged name size front)
    → IfDamaged {X = X} (Err fault) (λ place kept. (whole : List ℕ) × (length whole ≡ size) × (judged_then (front_judged name (length whole) (front_of whole)) (next whole) ≡ Err (damage place kept)))
head_damaged X next name size front Disk long judged = tt
head_damaged X next name size front Memory long judged = tt
head_damaged X next name size front (Damaged place kept) long judged =
    let some = front_of_length front size long in (
      some.0,
      some.1,
      ap (λ (r : Result (Head × Sizes) Damage). judged_then r (next some.0))
          (ap (λ (n : ℕ). front_judged name n (front_of some.0)) some.1 ∙ ap (front_judged name size) some.2 ∙ judged),
    )

pub rest_damaged : {X : Type 0} (Z : Type 0) (view : X → Index) (name : FileName) (size : ℕ) (front : List ℕ) (h : Head × Sizes) (rest : List ℕ) (fault : ReadFault) → FrontFound (version_told front) name size front h → front_judged name size front ≡ Ok h
    → length rest ≡ size - directory_place h.1 → Judges view (Err fault) (rest_judged (version_told front) h rest)
    → IfDamaged {X = Z} (Err fault) (λ place kept. (whole : List ℕ) × (length whole ≡ size) × (file_judged name whole ≡ Err (damage place kept)))
rest_damaged Z view name size front h rest Disk found first long judged = tt
rest_damaged Z view name size front h rest Memory found first long judged = tt
rest_damaged Z view name size front h rest (Damaged place kept) found first long judged =
    let zeros : List ℕ = replicate h.1.records 0 in
    let whole = 0 ∷ (front ++ (zeros ++ rest)) in
    let sixty : length front ≡ 60 = ap length found.spelled ∙ head_length (version_told front) h.0 h.1 in
    let filled : length zeros ≡ h.1.records = length-replicate {A = ℕ} h.1.records 0 in
    let sized : length whole ≡ size = omega (arith, found.sized, long, sixty, filled, length-append front (zeros ++ rest), length-append zeros rest) in
    let front_is : front_of whole ≡ front = take_at front (zeros ++ rest) 60 sixty in
    let rest_is : drop (directory_place h.1) whole ≡ rest =
    ap (drop (directory_place h.1)) (sym (append_assoc (0 ∷ front) zeros rest)) ∙ drop_at ((0 ∷ front) ++ zeros) rest (directory_place h.1) (omega (arith, sixty, filled, length-append (0 ∷ front) zeros)) in
    let one : front_judged name (length whole) (front_of whole) ≡ Ok h = ap (λ (n : ℕ). front_judged name n (front_of whole)) sized ∙ ap (front_judged name size) front_is ∙ first in (
      whole,
      sized,
      ap (λ (r : Result (Head × Sizes) Damage). judged_then r (λ h. rest_judged (version_told (front_of whole)) h (drop (directory_place h.1) whole))) one
          ∙ ap (λ (f : List ℕ). rest_judged (version_told f) h (drop (directory_place h.1) whole)) front_is
          ∙ ap (rest_judged (version_told front) h) rest_is ∙ judged,
    )

-- what a `?` hands on
pub damaged_out : {Z : Type 0} (r : Result Z ReadFault) (fault : ReadFault) (P : ℕ → List ℕ → Type 0) → (y : ReadFault) × (r ≡ Err y) × (y ≡ fault) → IfDamaged {X = Z} (Err fault) P → IfDamaged r P
damaged_out {Z} r fault P p holds = subst (λ (s : Result Z ReadFault). IfDamaged s P) (sym (p.1 ∙ ap Err p.2)) holds

-- ---- what is loaded is lawful

same_sizes : (one two : Sizes) → one.records ≡ two.records → one.entries ≡ two.entries → one.names ≡ two.names → one.schema ≡ two.schema → one ≡ two
same_sizes one two records entries names schema =
    ap (λ (n : ℕ). sizes n one.entries one.names one.schema) records ∙ ap (λ (n : ℕ). sizes two.records n one.names one.schema) entries
    ∙ ap (λ (n : ℕ). sizes two.records two.entries n one.schema) names ∙ ap (λ (n : ℕ). sizes two.records two.entries two.names n) schema
  where
    sizes : ℕ → ℕ → ℕ → ℕ → Sizes
    sizes r e n s = record { records = r; entries = e; names = n; schema = s }

pub loaded_sizes : (version : ℕ) (h : Head × Sizes) (rest : List ℕ) (c : Index) → RestFound version h rest c → length rest ≡ h.1.entries * 12 + h.1.names + h.1.schema → h.1 ≡ sizes_of c.slots c.names c.schema
loaded_sizes version h rest c found long =
    let n = h.1.entries * 12 in
    let names : length (take h.1.names (drop n rest)) ≡ h.1.names = length-take-le h.1.names (drop n rest) (omega (arith, long, length-drop n rest)) in
    let schema : length (drop (n + h.1.names) rest) ≡ h.1.schema = omega (arith, long, length-drop (n + h.1.names) rest) in
    same_sizes h.1 (sizes_of c.slots c.names c.schema) (sym found.slots.sum) (sym found.slots.count_is) (sym names ∙ ap length found.names) (sym schema ∙ ap length found.schema)

pub loaded_lawful : (version : ℕ) (name : FileName) (size : ℕ) (front : List ℕ) (h : Head × Sizes) (rest : List ℕ) (c : Index) → FrontFound version name size front h → RestFound version h rest c → IsIndex c × (name ≡ name_of c.head)
loaded_lawful version name size front h rest c front_is found = (
  record { version = subst IsVersion (sym found.version_is) front_is.is_version; head = subst IsHead (sym found.head) front_is.head; each = found.slots.each; ascend = found.slots.ascend; names = found.names_are; schema = found.schema_is },
  front_is.named ∙ ap name_of (sym found.head),
)

-- ---- what a file holds

pub written_holds : (version : ℕ) (head : Head) (rows : List Row) (names : List Name) (schema : Counted) → IsIndex (index_of version head rows names schema) → length (file_bytes_as version head rows names schema) < number_end
    → Holds (file_bytes_as version head rows names schema) (index_of version head rows names schema)
written_holds version head rows names schema is short = record { is = is; records = records rows; sized = sym (records_length rows); spelled = refl; short = short }

-- the parts of a file that was judged right
record Judged (name : FileName) (bytes : List ℕ) (c : Index) : Type 0 where
  h : Head × Sizes
  front : FrontFound (version_told (front_of bytes)) name (length bytes) (front_of bytes) h
  rest : RestFound (version_told (front_of bytes)) h (drop (directory_place h.1) bytes) c

judged : (name : FileName) (bytes : List ℕ) (c : Index) → IsBytes bytes → file_judged name bytes ≡ Ok c → Judged name bytes c
judged name bytes c each is =
    let version = version_told (front_of bytes) in
    let parts = judged_parts (front_judged name (length bytes) (front_of bytes)) (λ h. rest_judged version h (drop (directory_place h.1) bytes)) c is in
    let short : length (front_of bytes) ≤ 60 = omega (arith, length-take 60 (drop 1 bytes)) in
    record {
      h = parts.0;
      front = front_found name (length bytes) (front_of bytes) parts.0 (IsBytes-take 60 (drop 1 bytes) (IsBytes-drop 1 bytes each)) short parts.1;
      rest = rest_found version parts.0 (drop (directory_place parts.0.1) bytes) c (IsBytes-drop (directory_place parts.0.1) bytes each) parts.2;
    }

pub judged_named : (name : FileName) (bytes : List ℕ) (c : Index) → IsBytes bytes → file_judged name bytes ≡ Ok c → name ≡ name_of c.head
judged_named name bytes c each is =
    let j = judged name bytes c each is in (loaded_lawful (version_told (front_of bytes)) name (length bytes) (front_of bytes) j.h (drop (directory_place j.h.1) bytes) c j.front j.rest).1

rest_joined : (version : ℕ) (h : Head × Sizes) (tail : List ℕ) (c : Index) → RestFound version h tail c → tail ≡ directory c.slots ++ (section c.names ++ schema_bytes (schema_tree c.schema))
rest_joined version h tail c found =
    let n = h.1.entries * 12 in
    let behind : drop n tail ≡ section c.names ++ schema_bytes (schema_tree c.schema) =
    sym (take-append-drop h.1.names (drop n tail)) ∙ ap (λ (bytes : List ℕ). bytes ++ drop h.1.names (drop n tail)) found.names ∙ ap (λ (bytes : List ℕ). section c.names ++ bytes) (drop-drop h.1.names n tail ∙ found.schema) in
    sym (take-append-drop n tail) ∙ ap (λ (bytes : List ℕ). bytes ++ drop n tail) found.slots.spelled ∙ ap (λ (bytes : List ℕ). directory c.slots ++ bytes) behind

opened_parts : (bytes : List ℕ) → is_open_file bytes ≡ true → bytes ≡ 1 ∷ (front_of bytes ++ drop 61 bytes)
opened_parts [] opened = absurd (cc)
opened_parts (gate ∷ []) opened = absurd (cc)
opened_parts (gate ∷ next ∷ more) opened = ap (λ (g : ℕ). g ∷ next ∷ more) (eqb-true gate 1 opened) ∙ ap (λ (bytes : List ℕ). 1 ∷ bytes) (sym (take-append-drop 60 (next ∷ more)))

pub judged_holds : (name : FileName) (bytes : List ℕ) (c : Index) → IsBytes bytes → is_open_file bytes ≡ true → length bytes < number_end → file_judged name bytes ≡ Ok c → Holds bytes c
judged_holds name bytes c each opened short is =
    let j = judged name bytes c each is in
    let h = j.h in
    let tail = drop (directory_place h.1) bytes in
    let rs = take h.1.records (drop 61 bytes) in
    let long : length tail ≡ h.1.entries * 12 + h.1.names + h.1.schema = omega (arith, length-drop (directory_place h.1) bytes, j.front.sized) in
    let version = version_told (front_of bytes) in
    let sizes : h.1 ≡ sizes_of c.slots c.names c.schema = loaded_sizes version h tail c j.rest long in
    let behind : drop 61 bytes ≡ rs ++ tail = sym (take-append-drop h.1.records (drop 61 bytes)) ∙ ap (λ (more : List ℕ). rs ++ more) (drop-drop h.1.records 61 bytes) in
    let head : front_of bytes ≡ head_bytes c.version c.head (sizes_of c.slots c.names c.schema) =
    j.front.spelled ∙ ap (λ (v : ℕ). head_bytes v h.0 h.1) (sym j.rest.version_is) ∙ ap (λ (q : Head). head_bytes c.version q h.1) (sym j.rest.head) ∙ ap (head_bytes c.version c.head) sizes in
    record {
      is = (loaded_lawful version name (length bytes) (front_of bytes) h tail c j.front j.rest).0;
      records = rs;
      sized = length-take-le h.1.records (drop 61 bytes) (omega (arith, length-drop 61 bytes, j.front.sized)) ∙ sym j.rest.slots.sum;
      spelled = opened_parts bytes opened ∙ ap (λ (bytes' : List ℕ). 1 ∷ bytes') (ap (λ (front : List ℕ). front ++ drop 61 bytes) head
          ∙ ap (λ (more : List ℕ). head_bytes c.version c.head (sizes_of c.slots c.names c.schema) ++ more) (behind ∙ ap (λ (more : List ℕ). rs ++ more) (rest_joined version h tail c j.rest)));
      short = short;
    }
