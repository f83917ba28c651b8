-- What is spelled as the header of a component is read of it, whatever stands behind it. (The crate of components has the
-- codec of its headers, and keeps it to itself.)
use Rattle.std.proofs.Common.{◌≡◌, ◌∙◌, ◌<◌, ℕ, true, List, [], ◌++◌, Some, Ok, length, refl, sym, ap, arith, append-nil}
use Rattle.std.specs.Prelude.{◌==◌}
use Rattle.std.specs.Int.{w32, w64, to_be_bytes}
use Rattle.std.proofs.lemmas.Bool.{and_from}
use Rattle.std.proofs.lemmas.Bool.Decides.{nat_tests}
use Rattle.std.proofs.lemmas.List.{take_at}
use Rattle.tc_bytes.specs.Reading.{number_at, passing_at}
use Rattle.tc_bytes.proofs.Codecs.{passing_codec}
use Rattle.tc_bytes.proofs.Fields.{number_codec_32, number_codec_64}
use Rattle.tc_lsm_model.specs.Contents.{Partition}
use Rattle.tc_store.specs.declared.file_name.FileName.TheVariants.{Component}
use Rattle.tc_component.specs.Layout.{file_size, number_end}
use Rattle.tc_component.specs.Reading.{version_told, version_of, front_of, front_judged, head_at, head_judged, interval_at, is_header_of, is_interval, is_magic, is_named, sizes_at}
use Rattle.tc_component.specs.Spelling.{IsHead, IsVersion, head_bytes, magic_of, name_of, sizes_bytes}
use Rattle.tc_component.specs.declared.head.Head.{Head}
use Rattle.tc_component.specs.declared.head.Sizes.{Sizes}
use Rattle.tc_component.proofs.Versions.{magic_again, magic_small, told_version}
use Rattle.tc_machine.specs.Components.{HasComponentHead, component_head}

sizes_parts : (bytes r s t : List ℕ) (sizes : Sizes) → number_at w64 bytes ≡ Some (sizes.records, r) → number_at w64 r ≡ Some (sizes.entries, s) → number_at w64 s ≡ Some (sizes.names, t) → number_at w64 t ≡ Some (sizes.schema, [])
    → sizes_at bytes ≡ Some (sizes, [])
sizes_parts bytes r s t sizes one two three four = rw (one, two, three, four) refl

interval_parts : (bytes r rest : List ℕ) (from to : ℕ) → number_at w64 bytes ≡ Some (from, r) → number_at w64 r ≡ Some (to, rest) → is_interval (from, to) ≡ true → interval_at bytes ≡ Some ((from, to), rest)
interval_parts bytes r rest from to one two test = rw (one, two, test) refl

head_parts : (version : ℕ) (bytes r s t u : List ℕ) (head : Head) (sizes : Sizes) → passing_at (is_magic version) (number_at w32) bytes ≡ Some (magic_of version, r) → number_at w32 r ≡ Some (head.number, s) → number_at w32 s ≡ Some (head.count, t)
    → interval_at t ≡ Some ((head.from, head.to), u) → sizes_at u ≡ Some (sizes, []) → head_at version bytes ≡ Some ((head, sizes), [])
head_parts version bytes r s t u head sizes one two three four five = rw (one, two, three, four, five) refl

sizes_again : (sizes : Sizes) → file_size sizes < number_end → sizes_at (sizes_bytes sizes) ≡ Some (sizes, [])
sizes_again sizes short =
    let s = to_be_bytes w64 sizes.schema in
    let n = to_be_bytes w64 sizes.names ++ s in
    let e = to_be_bytes w64 sizes.entries ++ n in
    let last : number_at w64 s ≡ Some (sizes.schema, []) = ap (number_at w64) (sym (append-nil s)) ∙ number_codec_64.again sizes.schema [] (omega (arith, short)) in
    sizes_parts (to_be_bytes w64 sizes.records ++ e) e n s sizes (number_codec_64.again sizes.records e (omega (arith, short))) (number_codec_64.again sizes.entries n (omega (arith, short))) (number_codec_64.again sizes.names s (omega (arith, short))) last

head_again : (version : ℕ) → IsVersion version → (head : Head) (sizes : Sizes) → IsHead head → file_size sizes < number_end → head_at version (head_bytes version head sizes) ≡ Some ((head, sizes), [])
head_again version told head sizes is short =
    let first = is.first in
    let order = is.order in
    let last = is.last in
    let test : is_interval (head.from, head.to) ≡ true = grind (arith, nat_tests) in
    let u = sizes_bytes sizes in
    let v = to_be_bytes w64 head.to ++ u in
    let t = to_be_bytes w64 head.from ++ v in
    let s = to_be_bytes w32 head.count ++ t in
    let r = to_be_bytes w32 head.number ++ s in
    head_parts version (to_be_bytes w32 (magic_of version) ++ r) r s t u head sizes ((passing_codec (is_magic version) number_codec_32).again (magic_of version) r (magic_small version told, magic_again version))
    (number_codec_32.again head.number s is.number) (number_codec_32.again head.count t is.count)
    (interval_parts t v u head.from head.to (number_codec_64.again head.from v (omega (arith, order, last))) (number_codec_64.again head.to u (omega (arith, last))) test) (sizes_again sizes short)

judged_by : (head : Head) (sizes : Sizes) (size : ℕ) (front : List ℕ) → head_at (version_told front) front ≡ Some ((head, sizes), []) → file_size sizes ≡ size → front_judged (name_of head) size front ≡ Ok (head, sizes)
judged_by head sizes size front read sized =
    let from : (head.from == head.from) ≡ true = grind (arith, nat_tests) in
    let to : (head.to == head.to) ≡ true = grind (arith, nat_tests) in
    let named : is_named (name_of head) head ≡ true = and_from (head.from == head.from) (head.to == head.to) from to in
    let adds : (file_size sizes == size) ≡ true = grind (arith, nat_tests) in
    let test : is_header_of (name_of head) size (head, sizes) ≡ true = and_from (is_named (name_of head) head) (file_size sizes == size) named adds in
    rw (read, test) refl

pub head_stands : (part : Partition) (from to : ℕ) (bytes : List ℕ) → HasComponentHead part from to bytes → head_judged (Component from to) bytes ≡ Ok (component_head part from to)
head_stands part from to bytes has =
    let version = version_of bytes in
    let head = component_head part from to in
    let long : length (head_bytes version head has.sizes) ≡ 60 = refl in
    let front : front_of bytes ≡ head_bytes version head has.sizes = ap front_of has.spelled ∙ take_at (head_bytes version head has.sizes) has.rest 60 long in
    let short : file_size has.sizes < number_end = omega (arith, has.adds_up, has.short) in
    let read : head_at version (front_of bytes) ≡ Some ((head, has.sizes), []) = ap (head_at version) front ∙ head_again version (told_version (front_of bytes)) head has.sizes has.is_head short in
    let judged = judged_by head has.sizes (length bytes) (front_of bytes) read (sym has.adds_up) in
    rw judged refl
