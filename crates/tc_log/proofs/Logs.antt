-- The laws of whole logs: what is spelled is read, and what is read is spelled so.
use Rattle.std.proofs.Common.{◌≡◌, ◌∙◌, ◌<◌, ◌≤◌, ◌^◌, ◌==◌, ℕ, suc, true, List, [], ◌∷◌, ◌++◌, Option, None, Some, Result, Ok, Err, length, drop, take, flat_map, refl, sym, ap, subst, arith, append_assoc, append-nil, length-append, min, ◌-◌, Vec, zero, replicate, ◌+◌}
use Rattle.std.proofs.lemmas.Bool.{eqb-true}
use Rattle.std.specs.Int.{w32, w64, to_be_bytes}
use Rattle.std.proofs.lemmas.Bool.Decides.{nat_tests}
use Rattle.std.proofs.lemmas.List.{nil_from_length, places, length-replicate, take_at}
use Rattle.std.proofs.lemmas.Option.{same_Some}
use Rattle.std.specs.declared.alloc.Global.{Global}
use Rattle.tc_bytes.specs.Codec.{IsBytes, IsCodec}
use Rattle.tc_bytes.specs.Reading.{number_at, passing_at}
use Rattle.tc_bytes.proofs.Codecs.{then_parts, passing_codec}
use Rattle.tc_bytes.proofs.Fields.{number_codec_32, number_codec_64}
use Rattle.std.specs.Prelude.{IfSome, IfOk}
use Rattle.tc_store.specs.Gate.{is_open_file}
use Rattle.tc_store.specs.declared.damage.ReadFault.{ReadFault}
use Rattle.tc_store.specs.declared.damage.ReadFault.TheVariants.{Disk, Damaged, Memory}
use Rattle.tc_log.specs.Judging.{read_of, same_head}
use Rattle.tc_store.specs.Judging.{Judges, IfDamaged, Damage, damage, or_damage}
use Rattle.tc_log.specs.declared.head.LogHead.{LogHead}
use Rattle.tc_log.specs.declared.reading.LogRead.{LogRead}
use Rattle.tc_log.specs.declared.write.Write.{Write}
use Rattle.tc_log.specs.Reading.{is_magic, is_generation, head_at, front_of, is_of, front_judged, frames_judged, head_judged, log_judged}
use Rattle.std.specs.List.{AllByRecursion}
use Rattle.tc_log.specs.Writes.{IsWrite}
use Rattle.tc_log.specs.Spelling.{magic, head_bytes, IsHead, IsNamedHead, frame_bytes, writes_of, Spells, Means}
use Rattle.tc_log.proofs.Frames.{frames_again, frames_found, lawful_writes}
use Rattle.tc_store.proofs.Judged.{judged_parts, or_damage_parts, same_Ok}

-- ---- headers

magic_codec : IsCodec (passing_at is_magic (number_at w32)) (to_be_bytes w32) (λ n. (n < 2 ^ 32) × (is_magic n ≡ true))
magic_codec = passing_codec is_magic number_codec_32

generation_codec : IsCodec (passing_at is_generation (number_at w64)) (to_be_bytes w64) (λ n. (n < 2 ^ 64) × (is_generation n ≡ true))
generation_codec = passing_codec is_generation number_codec_64

generation_test : (n : ℕ) → 0 < n → n < 2 ^ 63 → is_generation n ≡ true
generation_test n first last = grind (arith, nat_tests)

generation_below : (n : ℕ) → is_generation n ≡ true → (0 < n) × (n < 2 ^ 63)
generation_below n is = grind (arith, nat_tests)

magic_is : (n : ℕ) → is_magic n ≡ true → n ≡ magic
magic_is n is = grind (arith, nat_tests)

four_parts : (a b c d rest : List ℕ) → (a ++ (b ++ (c ++ d))) ++ rest ≡ a ++ (b ++ (c ++ (d ++ rest)))
four_parts a b c d rest =
    append_assoc a (b ++ (c ++ d)) rest ∙ ap (λ (bytes : List ℕ). a ++ bytes) (append_assoc b (c ++ d) rest ∙ ap (λ (bytes : List ℕ). b ++ bytes) (append_assoc c d rest))

-- four fields, one after the other
fields_read : (bytes r s t rest : List ℕ) (head : LogHead) → passing_at is_magic (number_at w32) bytes ≡ Some (magic, r) → number_at w32 r ≡ Some (head.number, s)
    → number_at w32 s ≡ Some (head.count, t) → passing_at is_generation (number_at w64) t ≡ Some (head.generation, rest) → head_at bytes ≡ Some (head, rest)
fields_read bytes r s t rest head one two three four = rw (one, two, three, four) refl

HeadFound : List ℕ → LogHead × List ℕ → Type 0
HeadFound bytes q = (bytes ≡ head_bytes q.0 ++ q.1) × IsBytes q.1 × IsHead q.0

head_found : (bytes : List ℕ) (q : LogHead × List ℕ) → IsBytes bytes → head_at bytes ≡ Some q → HeadFound bytes q
unfolding HeadFound
head_found bytes q each gives =
    let m = then_parts (passing_at is_magic (number_at w32) bytes) _ q gives in
    let m_is = magic_codec.found bytes m.0.0 m.0.1 each m.1 in
    let n = then_parts (number_at w32 m.0.1) _ q m.2 in
    let n_is = number_codec_32.found m.0.1 n.0.0 n.0.1 m_is.1 n.1 in
    let c = then_parts (number_at w32 n.0.1) _ q n.2 in
    let c_is = number_codec_32.found n.0.1 c.0.0 c.0.1 n_is.1 c.1 in
    let g = then_parts (passing_at is_generation (number_at w64) c.0.1) _ q c.2 in
    let g_is = generation_codec.found c.0.1 g.0.0 g.0.1 c_is.1 g.1 in
    let below = generation_below g.0.0 g_is.2.1 in
    subst (HeadFound bytes) (same_Some _ q g.2) (
      m_is.0 ∙ ap (λ (k : ℕ). to_be_bytes w32 k ++ m.0.1) (magic_is m.0.0 m_is.2.1) ∙ ap (λ (more : List ℕ). to_be_bytes w32 magic ++ more) (n_is.0 ∙ ap (λ (more : List ℕ). to_be_bytes w32 n.0.0 ++ more) (c_is.0 ∙ ap (λ (more : List ℕ). to_be_bytes w32 c.0.0 ++ more) g_is.0))
          ∙ sym (four_parts (to_be_bytes w32 magic) (to_be_bytes w32 n.0.0) (to_be_bytes w32 c.0.0) (to_be_bytes w64 g.0.0) g.0.1),
      g_is.1,
      record { number = n_is.2; count = c_is.2; first = below.0; last = below.1 },
    )

head_again : (head : LogHead) (rest : List ℕ) → IsHead head → head_at (head_bytes head ++ rest) ≡ Some (head, rest)
head_again head rest is =
    let last = is.last in
    let t = to_be_bytes w64 head.generation ++ rest in
    let s = to_be_bytes w32 head.count ++ t in
    let r = to_be_bytes w32 head.number ++ s in
    ap head_at (four_parts (to_be_bytes w32 magic) (to_be_bytes w32 head.number) (to_be_bytes w32 head.count) (to_be_bytes w64 head.generation) rest)
    ∙ fields_read (to_be_bytes w32 magic ++ r) r s t rest head (magic_codec.again magic r (omega arith, refl)) (number_codec_32.again head.number s is.number) (number_codec_32.again head.count t is.count)
    (generation_codec.again head.generation rest (omega arith, generation_test head.generation is.first is.last))

pub head_codec : IsCodec head_at head_bytes IsHead
unfolding HeadFound
head_codec = record { found = λ bytes head rest each gives. head_found bytes (head, rest) each gives; again = head_again }

-- ---- whole logs

-- what is spelled is read
pub judged_spelled : (bytes : List ℕ) (head : LogHead) (frames : List (List Write)) → Spells bytes head frames → log_judged bytes ≡ Ok (head, writes_of frames)
judged_spelled bytes head frames spells =
    let more = flat_map frame_bytes frames ++ spells.rest in
    let behind : drop 1 bytes ≡ head_bytes head ++ more = ap (drop 1) spells.spelled ∙ append_assoc (head_bytes head) (flat_map frame_bytes frames) spells.rest in
    let first : head_at (drop 1 bytes) ≡ Some (head, more) = ap head_at behind ∙ head_codec.again head more spells.head_is in
    let few : length frames ≤ length more = omega (arith, enough frames, length-append (flat_map frame_bytes frames) spells.rest) in
    rw (first, frames_again frames (length more) (length bytes) [] spells.rest few spells.each spells.shut) refl
  where
    enough : (frames : List (List Write)) → length frames ≤ length (flat_map frame_bytes frames)
    enough [] = omega arith
    enough (writes ∷ frames) = omega (arith, enough frames, length-append (frame_bytes writes) (flat_map frame_bytes frames))

-- what is read is spelled so
pub judged_found : (gate : ℕ) (behind : List ℕ) (head : LogHead) (writes : List Write) → IsBytes behind → gate ≡ 1 → log_judged (gate ∷ behind) ≡ Ok (head, writes) → Means (gate ∷ behind) head writes
judged_found gate behind head writes each opened judged =
    let one = judged_parts (head_judged (gate ∷ behind)) _ (head, writes) judged in
    let two = judged_parts (frames_judged (length one.0.1) (length (gate ∷ behind)) [] one.0.1) _ (head, writes) one.2 in
    let first = head_codec.found behind one.0.0 one.0.1 each (or_damage_parts (head_at behind) _ one.0 one.1) in
    let others = frames_found (length one.0.1) (length (gate ∷ behind)) [] one.0.1 two.0 (omega arith) first.1 two.1 in
    subst (λ (q : LogHead × List Write). Means (gate ∷ behind) q.0 q.1) (same_Ok _ (head, writes) two.2) (record {
      frames = others.frames;
      spells = record {
        head_is = first.2;
        each = others.each;
        rest = others.rest;
        shut = others.shut;
        spelled = ap (λ (g : ℕ). g ∷ behind) opened ∙ ap (λ (bytes : List ℕ). 1 ∷ bytes) (first.0 ∙ ap (λ (bytes : List ℕ). head_bytes one.0.0 ++ bytes) others.spelled ∙ sym (append_assoc (head_bytes one.0.0) (flat_map frame_bytes others.frames) others.rest));
      };
      all_are = others.all_are;
    })

pub opened_file : (bytes : List ℕ) (head : LogHead) (writes : List Write) → IsBytes bytes → is_open_file bytes ≡ true → log_judged bytes ≡ Ok (head, writes) → Means bytes head writes
opened_file [] head writes each opened judged = cc
opened_file (gate ∷ []) head writes each opened judged = cc
opened_file (gate ∷ next ∷ rest) head writes each opened judged = judged_found gate (next ∷ rest) head writes (λ i. each (suc i)) (eqb-true gate 1 opened) judged

-- what is read is lawful, whatever the gate of the file is
pub judged_lawful : (bytes : List ℕ) (head : LogHead) (writes : List Write) → IsBytes bytes → log_judged bytes ≡ Ok (head, writes) → IsHead head × AllByRecursion IsWrite writes
judged_lawful [] head writes each judged = cc
judged_lawful (gate ∷ behind) head writes each judged =
    let means = judged_found 1 behind head writes (λ i. each (suc i)) refl judged in
    (means.spells.head_is, subst (AllByRecursion IsWrite) (sym means.all_are) (lawful_writes means.frames means.spells.each))

-- ---- what is answered

-- what a log means is what is answered
pub answers_whole : (r : Result LogRead ReadFault) (content : Option (List ℕ)) → IfSome content (λ bytes. Judges read_of r (log_judged bytes))
    → IfSome content (λ bytes. (head : LogHead) (writes : List Write) → Means bytes head writes → Judges read_of r (Ok (head, writes)))
answers_whole r None judges = tt
answers_whole r (Some bytes) judges = λ head writes means.
    subst (λ (j : Result (LogHead × List Write) Damage). Judges read_of r j) (judged_spelled bytes head means.frames means.spells ∙ ap (λ (all : List Write). Ok (head, all)) (sym means.all_are)) judges

-- ---- headers that are named by a generation

head_length : (head : LogHead) → length (head_bytes head) ≡ 20
head_length head = refl

named_codec : (generation : ℕ) → IsCodec (passing_at (is_of generation) head_at) head_bytes (λ head. IsHead head × (is_of generation head ≡ true))
named_codec generation = passing_codec (is_of generation) head_codec

pub named_found : (generation : ℕ) (front : List ℕ) (head : LogHead) → IsBytes front → length front ≤ 20 → front_judged generation front ≡ Ok head → IsNamedHead generation front head
named_found generation front head each short judged =
    let parts = judged_parts (or_damage (passing_at (is_of generation) head_at front) (damage 1 front)) _ head judged in
    let here = (named_codec generation).found front parts.0.0 parts.0.1 each (or_damage_parts (passing_at (is_of generation) head_at front) (damage 1 front) parts.0 parts.1) in
    let none : parts.0.1 ≡ [] = nil_from_length parts.0.1 (omega (arith, ap length here.0, length-append (head_bytes parts.0.0) parts.0.1, head_length parts.0.0, short)) in
    subst (IsNamedHead generation front) (same_Ok _ head parts.2)
    (record { is_head = here.2.0; named = eqb-true parts.0.0.generation generation here.2.1; spelled = here.0 ∙ ap (λ (rest : List ℕ). head_bytes parts.0.0 ++ rest) none ∙ append-nil (head_bytes parts.0.0) })

-- what is read as a header of a generation is one
pub named_lawful : (generation : ℕ) (front : List ℕ) (head : LogHead) → IsBytes front → front_judged generation front ≡ Ok head → IsHead head × (head.generation ≡ generation)
named_lawful generation front head each judged =
    let parts = judged_parts (or_damage (passing_at (is_of generation) head_at front) (damage 1 front)) _ head judged in
    let here = (named_codec generation).found front parts.0.0 parts.0.1 each (or_damage_parts (passing_at (is_of generation) head_at front) (damage 1 front) parts.0 parts.1) in
    subst (λ (h : LogHead). IsHead h × (h.generation ≡ generation)) (same_Ok _ head parts.2) (here.2.0, eqb-true parts.0.0.generation generation here.2.1)

-- what stands in front of the frames of a log is the header of its generation
pub named_front : (bytes : List ℕ) (head : LogHead) (frames : List (List Write)) → Spells bytes head frames → IsNamedHead head.generation (front_of bytes) head
named_front bytes head frames spells = record {
  is_head = spells.head_is;
  named = refl;
  spelled = ap front_of (spells.spelled ∙ ap (λ (rest : List ℕ). 1 ∷ rest) (append_assoc (head_bytes head) (flat_map frame_bytes frames) spells.rest))
      ∙ take_at (head_bytes head) (flat_map frame_bytes frames ++ spells.rest) 20 (head_length head);
}

-- the header of a generation is read as one
pub named_judged : (generation : ℕ) (front : List ℕ) (head : LogHead) → IsNamedHead generation front head → front_judged generation front ≡ Ok head
named_judged generation front head is =
    let read : passing_at (is_of generation) head_at (head_bytes head ++ []) ≡ Some (head, []) = (named_codec generation).again head [] (is.is_head, same_test head.generation generation is.named) in
    rw (is.spelled ∙ sym (append-nil (head_bytes head)), read) refl
  where
    same_test : (a b : ℕ) → a ≡ b → (a == b) ≡ true
    same_test a b same = grind (arith, nat_tests)

-- the header that stands there is what is answered
pub answers_head : (generation : ℕ) (r : Result LogHead ReadFault) (content : Option (List ℕ)) (items : List ℕ) → IfSome content (λ bytes. items ≡ front_of bytes)
    → Judges same_head r (front_judged generation items) → IfSome content (λ bytes. (head : LogHead) → IsNamedHead generation (front_of bytes) head → Judges same_head r (Ok head))
answers_head generation r None items same judged = tt
answers_head generation r (Some bytes) items same judged = λ head is.
    subst (λ (j : Result LogHead Damage). Judges same_head r j) (ap (front_judged generation) same ∙ named_judged generation (front_of bytes) head is) judged

-- the front of a file of this length
pub front_read : (content : Option (List ℕ)) (items : List ℕ) (size : ℕ) → IfSome content (λ bytes. size ≡ length bytes)
    → IfSome content (λ bytes. items ≡ take (min (size - min size 1) 20) (drop (min size 1) bytes)) → IfSome content (λ bytes. items ≡ front_of bytes)
front_read None items size sized read = tt
front_read (Some bytes) items size sized read = read ∙ ap (λ (n : ℕ). take (min (n - min n 1) 20) (drop (min n 1) bytes)) sized ∙ front_is bytes
  where
    front_is : (bytes : List ℕ) → take (min (length bytes - min (length bytes) 1) 20) (drop (min (length bytes) 1) bytes) ≡ front_of bytes
    front_is bytes = grind (arith, places)

pub front_answers : (r : Result (Vec ℕ Global) ReadFault) (content : Option (List ℕ)) (size at count : ℕ) → IfSome content (λ bytes. size ≡ length bytes) → at ≡ min size 1 → count ≡ min (size - at) 20
    → IfOk r (λ read. IfSome content (λ bytes. read.items ≡ take count (drop at bytes))) → IfOk r (λ read. IfSome content (λ bytes. read.items ≡ front_of bytes))
front_answers (Ok read) content size at count sized at_is count_is reads = front_read content read.items size sized (rw (count_is, at_is) at reads)
front_answers (Err fault) content size at count sized at_is count_is reads = tt

-- some content of this length has such a front
front_within : (size : ℕ) (front : List ℕ) → length front ≡ min (size - min size 1) 20 → (whole : List ℕ) × (length whole ≡ size) × (front_of whole ≡ front)
front_within zero front long = ([], refl, sym (nil_from_length front long))
front_within (suc n) front long =
    let pad : List ℕ = replicate (n - length front) 0 in
    (0 ∷ (front ++ pad), omega (arith, long, length-append front pad, length-replicate {A = ℕ} (n - length front) 0), in_front front 20 (n - length front) (omega (arith, long)))
  where
    in_front : (front : List ℕ) (k m : ℕ) → length front ≡ min (m + length front) k → take k (front ++ replicate m 0) ≡ front
    in_front [] zero m long = refl
    in_front [] (suc k) zero long = refl
    in_front [] (suc k) (suc m) long = absurd (omega (arith, long))
    in_front (x ∷ xs) zero m long = absurd (omega (arith, long))
    in_front (x ∷ xs) (suc k) m long = ap (λ (ys : List ℕ). x ∷ ys) (in_front xs k m (omega (arith, long)))

pub front_possible : (r : Result (Vec ℕ Global) ReadFault) (size at count : ℕ) → at ≡ min size 1 → count ≡ min (size - at) 20 → IfOk r (λ read. length read.items ≡ count)
    → IfOk r (λ read. (whole : List ℕ) × (length whole ≡ size) × (front_of whole ≡ read.items))
front_possible (Ok read) size at count at_is count_is long = front_within size read.items (rw (count_is, at_is) at long)
front_possible (Err fault) size at count at_is count_is long = tt

-- a front that is judged damaged is that of such a content
pub damaged_front : (generation : ℕ) (r : Result LogHead ReadFault) (size : ℕ) (front : List ℕ) → (whole : List ℕ) × (length whole ≡ size) × (front_of whole ≡ front)
    → Judges same_head r (front_judged generation front) → IfDamaged r (λ place bytes. (whole : List ℕ) × (length whole ≡ size) × (front_judged generation (front_of whole) ≡ Err (damage place bytes)))
damaged_front generation (Ok head) size front some judged = tt
damaged_front generation (Err (Damaged place bytes)) size front some judged = (some.0, some.1, ap (front_judged generation) some.2 ∙ judged)
damaged_front generation (Err Disk) size front some judged = tt
damaged_front generation (Err Memory) size front some judged = tt

-- the front that was read is a header of the generation
pub named_answers : (generation : ℕ) (r : Result LogHead ReadFault) (content : Option (List ℕ)) (items : List ℕ) → IfSome content (λ bytes. items ≡ front_of bytes)
    → (length items ≤ 20 → IfOk r (IsNamedHead generation items)) → IfOk r (λ head. IfSome content (λ bytes. IsNamedHead generation (front_of bytes) head))
named_answers generation (Err fault) content items same found = tt
named_answers generation (Ok head) None items same found = tt
named_answers generation (Ok head) (Some bytes) items same found =
    let short : length (front_of bytes) ≤ 20 = grind (arith, places) in
    subst (λ (front : List ℕ). IsNamedHead generation front head) same (found (subst (λ (front : List ℕ). length front ≤ 20) (sym same) short))
