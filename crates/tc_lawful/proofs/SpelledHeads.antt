-- A header that is judged right is spelled in front of its file.
use Rattle.std.proofs.Common.{◌≡◌, ◌∙◌, ◌<◌, ◌≤◌, ◌==◌, ℕ, Bool, true, false, List, [], ◌∷◌, ◌++◌, Option, None, Some, Result, Ok, Err, length, drop, refl, sym, ap, subst, arith, append_assoc}
use Rattle.std.specs.Prelude.{◌&&◌, if◌then◌else◌}
use Rattle.std.specs.Int.{w32, w64, to_be_bytes}
use Rattle.std.proofs.lemmas.Bool.{and_parts, eqb-true}
use Rattle.std.proofs.lemmas.Bool.Decides.{nat_tests}
use Rattle.std.proofs.lemmas.List.{take-append-drop}
use Rattle.std.proofs.lemmas.Option.{same_Some}
use Rattle.tc_bytes.specs.Codec.{IsBytes}
use Rattle.tc_bytes.specs.Reading.{number_at, passing_at}
use Rattle.tc_bytes.proofs.Codecs.{pair_codec, passing_codec, then_parts}
use Rattle.tc_bytes.proofs.Fields.{number_codec_32, number_codec_64}
use Rattle.tc_store.specs.declared.file_name.FileName.{FileName}
use Rattle.tc_store.specs.declared.file_name.FileName.TheVariants.{Component, Log}
use Rattle.tc_store.specs.Gate.{is_open_file}
use Rattle.tc_store.specs.Judging.{Damage, damage, or_damage}
use Rattle.tc_store.proofs.Judged.{judged_parts, or_damage_parts, same_Ok}
use Rattle.tc_component.specs.declared.head.Head.{Head}
use Rattle.tc_component.specs.declared.head.Sizes.{Sizes}
use Rattle.tc_component.specs.Layout.{file_size, number_end}
use Rattle.tc_component.specs.Reading.{version_told, version_of, front_of, front_judged, head_at, head_judged, interval_at, is_header_of, is_interval, is_magic, is_named, sizes_at}
use Rattle.tc_component.specs.Spelling.{IsHead, head_bytes, magic_of, sizes_bytes}
use Rattle.tc_log.specs.declared.head.LogHead.{LogHead}
use Rattle.tc_log.specs.Reading as log
use Rattle.tc_lsm_model.specs.Contents.{Partition}
use Rattle.tc_machine.specs.Components.{HasComponentHead, component_head}
use Rattle.tc_machine.specs.Logs.{HasLogHead, log_head}
use Rattle.tc_recover.specs.Refusals.{Refusal, head_refused, refused_then, stray, strays}

-- ---- what was judged, taken apart

-- what passes a test is what was there
pub passed : {A : Type 0} (test : Bool) (x y : A) → ◌≡◌ {A = Option A} (if test then Some x else None) (Some y) → (test ≡ true) × (x ≡ y)
passed true x y same = (refl, same_Some x y same)
passed false x y same = absurd (cc)

refused_parts : {A : Type 0} (name : FileName) (judged : Result A Damage) (next : A → Option Refusal) → refused_then name judged next ≡ None → (x : A) × (judged ≡ Ok x) × (next x ≡ None)
refused_parts name (Ok x) next none = (x, refl, none)
refused_parts name (Err d) next none = absurd (cc)

-- numbers that are not refused are the partition's
pub own_numbers : (part : Partition) (number count : ℕ) → stray part number count ≡ None → (number ≡ part.number) × (count ≡ part.count)
own_numbers part number count none = cases ((number == part.number) && (count == part.count)) refl
  where
    cases : (own : Bool) → (number == part.number) && (count == part.count) ≡ own → (number ≡ part.number) × (count ≡ part.count)
    cases true own = let both = and_parts (number == part.number) (count == part.count) own in (eqb-true number part.number both.0, eqb-true count part.count both.1)
    cases false other =
        let there : stray part number count ≡ Some (strays number count) = rw other refl in
        absurd (cc)

-- ---- headers of components

-- the header of a file of this name and length
pub record IsFront (name : FileName) (size : ℕ) (front : List ℕ) (head : Head) (sizes : Sizes) : Type 0 where
  pub rest : List ℕ
  pub read : head_at (version_told front) front ≡ Some ((head, sizes), rest)
  pub named : is_named name head ≡ true
  pub sized : file_size sizes ≡ size

pub front_parts : (name : FileName) (size : ℕ) (front : List ℕ) (h : Head × Sizes) → front_judged name size front ≡ Ok h → IsFront name size front h.0 h.1
front_parts name size front h judged =
    let version = version_told front in
    let parts = judged_parts (or_damage (passing_at (is_header_of name size) (head_at version) front) (damage 1 front)) _ h judged in
    let read = then_parts (head_at version front) _ parts.0 (or_damage_parts (passing_at (is_header_of name size) (head_at version) front) (damage 1 front) parts.0 parts.1) in
    let fits = passed (is_header_of name size read.0.0) read.0 parts.0 read.2 in
    let both = and_parts (is_named name read.0.0.0) (file_size read.0.0.1 == size) fits.0 in
    let same : read.0.0 ≡ h = ap (λ (q : (Head × Sizes) × List ℕ). q.0) fits.1 ∙ same_Ok parts.0.0 h parts.2 in
    subst (λ (g : Head × Sizes). IsFront name size front g.0 g.1) same (record { rest = read.0.1; read = read.1; named = both.0; sized = eqb-true (file_size read.0.0.1) size both.1 })

-- four lengths, one behind the other
sizes_spelled : (bytes : List ℕ) (q : Sizes × List ℕ) → IsBytes bytes → sizes_at bytes ≡ Some q → bytes ≡ sizes_bytes q.0 ++ q.1
sizes_spelled bytes q each read =
    let r = then_parts (number_at w64 bytes) _ q read in
    let e = then_parts (number_at w64 r.0.1) _ q r.2 in
    let n = then_parts (number_at w64 e.0.1) _ q e.2 in
    let s = then_parts (number_at w64 n.0.1) _ q n.2 in
    let one = number_codec_64.found bytes r.0.0 r.0.1 each r.1 in
    let two = number_codec_64.found r.0.1 e.0.0 e.0.1 one.1 e.1 in
    let three = number_codec_64.found e.0.1 n.0.0 n.0.1 two.1 n.1 in
    let four = number_codec_64.found n.0.1 s.0.0 s.0.1 three.1 s.1 in
    subst (λ (p : Sizes × List ℕ). bytes ≡ sizes_bytes p.0 ++ p.1) (same_Some _ q s.2)
    (one.0 ∙ ap (λ (more : List ℕ). to_be_bytes w64 r.0.0 ++ more) (two.0 ∙ ap (λ (more : List ℕ). to_be_bytes w64 e.0.0 ++ more) (three.0 ∙ ap (λ (more : List ℕ). to_be_bytes w64 n.0.0 ++ more) four.0)))

-- what is read as a header is spelled so, and may be one
record IsSpelled (version : ℕ) (bytes : List ℕ) (q : (Head × Sizes) × List ℕ) : Type 0 where
  head : IsHead q.0.0
  spelled : bytes ≡ head_bytes version q.0.0 q.0.1 ++ q.1

head_spelled : (version : ℕ) (bytes : List ℕ) (q : (Head × Sizes) × List ℕ) → IsBytes bytes → head_at version bytes ≡ Some q → IsSpelled version bytes q
head_spelled version bytes q each read =
    let m = then_parts (passing_at (is_magic version) (number_at w32) bytes) _ q read in
    let n = then_parts (number_at w32 m.0.1) _ q m.2 in
    let c = then_parts (number_at w32 n.0.1) _ q n.2 in
    let i = then_parts (interval_at c.0.1) _ q c.2 in
    let s = then_parts (sizes_at i.0.1) _ q i.2 in
    let one = (passing_codec (is_magic version) number_codec_32).found bytes m.0.0 m.0.1 each m.1 in
    let two = number_codec_32.found m.0.1 n.0.0 n.0.1 one.1 n.1 in
    let three = number_codec_32.found n.0.1 c.0.0 c.0.1 two.1 c.1 in
    let four = (passing_codec is_interval (pair_codec number_codec_64 (λ from fits. number_codec_64))).found c.0.1 i.0.0 i.0.1 three.1 i.1 in
    let five = sizes_spelled i.0.1 s.0 four.1 s.1 in
    let within : is_interval (i.0.0.0, i.0.0.1) ≡ true = four.2.1 in
    let first : 0 < i.0.0.0 = grind (arith, nat_tests) in
    let order : i.0.0.0 ≤ i.0.0.1 = grind (arith, nat_tests) in
    let last : i.0.0.1 < number_end = grind (arith, nat_tests) in
    let magic_is : m.0.0 ≡ magic_of version = eqb-true m.0.0 (magic_of version) one.2.1 in
    subst (IsSpelled version bytes) (same_Some _ q s.2) (record {
      head = record { number = two.2; count = three.2; first = first; order = order; last = last };
      spelled = one.0 ∙ ap (λ (k : ℕ). to_be_bytes w32 k ++ m.0.1) magic_is
          ∙ ap (λ (more : List ℕ). to_be_bytes w32 (magic_of version) ++ more) (two.0
          ∙ ap (λ (more : List ℕ). to_be_bytes w32 n.0.0 ++ more) (three.0 ∙ ap (λ (more : List ℕ). to_be_bytes w32 c.0.0 ++ more) (four.0 ∙ ap (λ (more : List ℕ). (to_be_bytes w64 i.0.0.0 ++ to_be_bytes w64 i.0.0.1) ++ more) five)));
    })

begins_open : (bytes : List ℕ) → is_open_file bytes ≡ true → bytes ≡ 1 ∷ drop 1 bytes
begins_open [] opened = absurd (cc)
begins_open (gate ∷ []) opened = absurd (cc)
begins_open (gate ∷ next ∷ more) opened = ap (λ (g : ℕ). g ∷ next ∷ more) (eqb-true gate 1 opened)

pub named_so : (from to : ℕ) (head : Head) → is_named (Component from to) head ≡ true → (head.from ≡ from) × (head.to ≡ to)
named_so from to head named = let both = and_parts (head.from == from) (head.to == to) named in (eqb-true head.from from both.0, eqb-true head.to to both.1)

same_head : (head : Head) (part : Partition) (from to : ℕ) → head.number ≡ part.number → head.count ≡ part.count → head.from ≡ from → head.to ≡ to → head ≡ component_head part from to
same_head head part from to number count first last =
    let whole : head ≡ record { number = head.number; count = head.count; from = head.from; to = head.to } = refl in
    cc

-- an open file of which the header is not refused has the header of its name
pub component_heads : (part : Partition) (from to : ℕ) (bytes : List ℕ) → is_open_file bytes ≡ true → IsBytes (front_of bytes) → length bytes < number_end → head_refused part (Component from to) bytes ≡ None → HasComponentHead part from to bytes
component_heads part from to bytes opened each short none =
    let name = Component from to in
    let parts = refused_parts name (head_judged name bytes) _ none in
    let judged = judged_parts (front_judged name (length bytes) (front_of bytes)) _ parts.0 parts.1 in
    let head : judged.0.0 ≡ parts.0 = same_Ok judged.0.0 parts.0 judged.2 in
    let own = own_numbers part parts.0.number parts.0.count parts.2 in
    let front = front_parts name (length bytes) (front_of bytes) judged.0 judged.1 in
    let named = named_so from to judged.0.0 front.named in
    let version = version_of bytes in
    let spelled = head_spelled version (front_of bytes) (judged.0, front.rest) each front.read in
    let is : judged.0.0 ≡ component_head part from to =
    same_head judged.0.0 part from to (ap (λ (h : Head). h.number) head ∙ own.0) (ap (λ (h : Head). h.count) head ∙ own.1) named.0 named.1 in
    record {
      is_head = subst IsHead is spelled.head;
      sizes = judged.0.1;
      rest = front.rest ++ drop 60 (drop 1 bytes);
      spelled = begins_open bytes opened
          ∙ ap (λ (behind : List ℕ). 1 ∷ behind) (sym (take-append-drop 60 (drop 1 bytes)) ∙ ap (λ (f : List ℕ). f ++ drop 60 (drop 1 bytes)) (spelled.spelled ∙ ap (λ (h : Head). head_bytes version h judged.0.1 ++ front.rest) is)
          ∙ append_assoc (head_bytes version (component_head part from to) judged.0.1) front.rest (drop 60 (drop 1 bytes)));
      adds_up = sym front.sized;
      short = short;
    }

-- ---- headers of logs

-- what is judged to be the header of a generation is read there
pub log_front_parts : (generation : ℕ) (front : List ℕ) (head : LogHead) → log.front_judged generation front ≡ Ok head → (rest : List ℕ) × (log.head_at front ≡ Some (head, rest)) × (head.generation ≡ generation)
log_front_parts generation front head judged =
    let parts = judged_parts (or_damage (passing_at (log.is_of generation) log.head_at front) (damage 1 front)) _ head judged in
    let read = then_parts (log.head_at front) _ parts.0 (or_damage_parts (passing_at (log.is_of generation) log.head_at front) (damage 1 front) parts.0 parts.1) in
    let fits = passed (log.is_of generation read.0.0) read.0 parts.0 read.2 in
    let same : read.0.0 ≡ head = ap (λ (q : LogHead × List ℕ). q.0) fits.1 ∙ same_Ok parts.0.0 head parts.2 in
    let named : read.0.0.generation ≡ generation = eqb-true read.0.0.generation generation fits.0 in
    (read.0.1, read.1 ∙ ap (λ (h : LogHead). Some (h, read.0.1)) same, ap (λ (h : LogHead). h.generation) (sym same) ∙ named)

same_log_head : (head : LogHead) (part : Partition) (generation : ℕ) → head.number ≡ part.number → head.count ≡ part.count → head.generation ≡ generation → head ≡ log_head part generation
same_log_head head part generation number count named =
    let whole : head ≡ record { number = head.number; count = head.count; generation = head.generation } = refl in
    cc

pub log_heads : (part : Partition) (generation : ℕ) (bytes : List ℕ) → head_refused part (Log generation) bytes ≡ None → HasLogHead part generation bytes
log_heads part generation bytes none =
    let parts = refused_parts (Log generation) (log.front_judged generation (log.front_of bytes)) _ none in
    let own = own_numbers part parts.0.number parts.0.count parts.2 in
    let read = log_front_parts generation (log.front_of bytes) parts.0 parts.1 in
    parts.1 ∙ ap Ok (same_log_head parts.0 part generation own.0 own.1 read.2)
