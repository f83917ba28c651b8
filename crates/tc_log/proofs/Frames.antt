-- The laws of frames: they are read from their spelling alone, up to the first gate that is not open.
use Rattle.std.proofs.Common.{◌≡◌, ◌≢◌, ◌∙◌, ◌<◌, ◌≤◌, ◌-◌, ◌^◌, ◌==◌, ℕ, zero, suc, Bool, true, false, if◌then◌else◌, List, [], ◌∷◌, ◌++◌, Some, Result, Ok, Err, length, flat_map, refl, sym, ap, subst, arith, append_assoc, append-nil, length-append, Vec}
use Rattle.std.specs.Int.{w32, to_be_bytes}
use Rattle.std.specs.List.{AllByRecursion}
use Rattle.std.proofs.lemmas.Bool.{ne_eqb, eqb-true}
use Rattle.std.proofs.lemmas.Bool.Decides.{nat_tests}
use Rattle.tc_bytes.specs.Codec.{IsBytes, IsCodec, counted_bytes}
use Rattle.tc_bytes.proofs.Codecs.{passing_codec, pair_codec, counted_bytes_codec}
use Rattle.tc_bytes.proofs.Fields.{number_codec_32, IsBytes-front}
use Rattle.std.specs.declared.alloc.Global.{Global}
use Rattle.tc_store.specs.declared.damage.ReadFault.{ReadFault}
use Rattle.tc_store.specs.declared.damage.ReadFault.TheVariants.{Disk, Damaged, Memory}
use Rattle.tc_log.specs.declared.write.Write.{Write}
use Rattle.tc_store.specs.Judging.{Judges, Damage, damage, or_damage, judged_then}
use Rattle.tc_log.specs.Reading.{is_some_number, frame_at, body_read, frame_judged, is_gate_open, frames_judged}
use Rattle.tc_log.specs.Writes.{IsWrite}
use Rattle.tc_log.specs.Spelling.{body_bytes, frame_fields, frame_bytes, IsFrame, IsShut, writes_of}
use Rattle.tc_store.proofs.Judged.{judged_parts, or_damage_parts, same_Ok}
use Rattle.tc_log.proofs.Entries.{body_again, body_found}

pub frame_codec : IsCodec frame_at (λ f. to_be_bytes w32 f.0 ++ counted_bytes f.1) (λ f. ((f.0 < 2 ^ 32) × (is_some_number f.0 ≡ true)) × (length f.1 < 2 ^ 32))
frame_codec = pair_codec (passing_codec is_some_number number_codec_32) (λ n fits. counted_bytes_codec)

some_test : (n : ℕ) → 0 < n → is_some_number n ≡ true
some_test n some = grind (arith, nat_tests)

some_below : (n : ℕ) → is_some_number n ≡ true → 0 < n
some_below n is = grind (arith, nat_tests)

-- ---- one frame

pub fields_again : (writes : List Write) (rest : List ℕ) → IsFrame writes → frame_at (frame_fields writes ++ rest) ≡ Some ((length writes, body_bytes writes), rest)
fields_again writes rest is = frame_codec.again (length writes, body_bytes writes) rest ((is.few, some_test (length writes) is.some), is.short)

pub frame_again : (end : ℕ) (before writes : List Write) (rest : List ℕ) → IsFrame writes → frame_judged end before (frame_bytes writes ++ rest) ≡ Ok (before ++ writes, rest)
frame_again end before writes rest is = rw (fields_again writes rest is, body_again before writes is.each) refl

-- a frame behind its gate
pub record FrameFound (before : List Write) (behind : List ℕ) (q : List Write × List ℕ) : Type 0 where
  pub writes : List Write
  pub is : IsFrame writes
  pub spelled : behind ≡ frame_fields writes ++ q.1
  pub rest : IsBytes q.1
  pub all_are : q.0 ≡ before ++ writes

pub frame_found : (end gate : ℕ) (before : List Write) (behind : List ℕ) (q : List Write × List ℕ) → IsBytes behind → frame_judged end before (gate ∷ behind) ≡ Ok q → FrameFound before behind q
frame_found end gate before behind q each judged =
    let one = judged_parts (or_damage (frame_at behind) _) _ q judged in
    let fields = or_damage_parts (frame_at behind) _ one.0 one.1 in
    let cut = frame_codec.found behind one.0.0 one.0.1 each fields in
    let two = judged_parts (or_damage (body_read one.0.0.0 before one.0.0.1) _) _ q one.2 in
    let body_bytes_are = counted_body one.0.0.0 one.0.0.1 one.0.1 (subst IsBytes cut.0 each) in
    let body = body_found one.0.0.0 before one.0.0.1 two.0 body_bytes_are (or_damage_parts (body_read one.0.0.0 before one.0.0.1) _ two.0 two.1) in
    subst (FrameFound before behind) (same_Ok _ q two.2) (record {
      writes = body.writes;
      is = record {
        each = body.is.each;
        some = subst (λ n. 0 < n) (sym body.is.count_is) (some_below one.0.0.0 cut.2.0.1);
        few = subst (λ n. n < 2 ^ 32) (sym body.is.count_is) cut.2.0.0;
        short = subst (λ bytes. length bytes < 2 ^ 32) body.is.spelled cut.2.1;
      };
      spelled = cut.0 ∙ ap (λ n. (to_be_bytes w32 n ++ counted_bytes one.0.0.1) ++ one.0.1) (sym body.is.count_is) ∙ ap (λ bytes. (to_be_bytes w32 (length body.writes) ++ counted_bytes bytes) ++ one.0.1) body.is.spelled;
      rest = cut.1;
      all_are = body.all_are;
    })
  where
    counted_body : (n : ℕ) (body rest : List ℕ) → IsBytes ((to_be_bytes w32 n ++ counted_bytes body) ++ rest) → IsBytes body
    counted_body n body rest each = IsBytes-front body rest (λ i. each (suc (suc (suc (suc (suc (suc (suc (suc i)))))))))

-- ---- all frames

shut_is : (bytes : List ℕ) → IsShut bytes → is_gate_open bytes ≡ false
shut_is [] shut = refl
shut_is (gate ∷ rest) shut = ne_eqb gate 1 shut

is_shut : (bytes : List ℕ) → is_gate_open bytes ≡ false → IsShut bytes
is_shut [] closed = tt
is_shut (gate ∷ rest) closed = not_one gate closed
  where
    not_one : (n : ℕ) → (n == 1) ≡ false → n ≢ 1
    not_one n other same = grind (arith, nat_tests)

pub frames_again : (frames : List (List Write)) (n end : ℕ) (before : List Write) (rest : List ℕ) → length frames ≤ n → AllByRecursion IsFrame frames → IsShut rest
    → frames_judged n end before (flat_map frame_bytes frames ++ rest) ≡ Ok (before ++ writes_of frames)
frames_again [] zero end before rest few each shut = ap Ok (sym (append-nil before))
frames_again [] (suc n) end before rest few each shut = rw (shut_is rest shut, append-nil before) refl
frames_again (writes ∷ frames) zero end before rest few each shut = absurd (omega (arith, few))
frames_again (writes ∷ frames) (suc n) end before rest few each shut =
    let grouped : (frame_bytes writes ++ flat_map frame_bytes frames) ++ rest ≡ frame_bytes writes ++ (flat_map frame_bytes frames ++ rest) = append_assoc (frame_bytes writes) (flat_map frame_bytes frames) rest in
    let one = frame_again end before writes (flat_map frame_bytes frames ++ rest) each.0 in
    let others = frames_again frames n end (before ++ writes) rest (omega (arith, few)) each.1 shut in
    ap (frames_judged (suc n) end before) grouped ∙ ap (λ r. judged_then r (λ f. frames_judged n end f.0 f.1)) one ∙ others ∙ ap Ok (append_assoc before writes (writes_of frames))

-- frames, and what stands behind them
pub record FramesFound (before : List Write) (bytes : List ℕ) (all : List Write) : Type 0 where
  pub frames : List (List Write)
  pub each : AllByRecursion IsFrame frames
  pub rest : List ℕ
  pub shut : IsShut rest
  pub spelled : bytes ≡ flat_map frame_bytes frames ++ rest
  pub all_are : all ≡ before ++ writes_of frames

none_found : (before : List Write) (bytes : List ℕ) (all : List Write) → IsShut bytes → ◌≡◌ {A = Result (List Write) Damage} (Ok before) (Ok all) → FramesFound before bytes all
none_found before bytes all shut judged =
    record { frames = []; each = tt; rest = bytes; shut = shut; spelled = refl; all_are = sym (same_Ok before all judged) ∙ sym (append-nil before) }

one_found : (before : List Write) (behind : List ℕ) (q : List Write × List ℕ) (all : List Write) → FrameFound before behind q → FramesFound q.0 q.1 all → FramesFound before (1 ∷ behind) all
one_found before behind q all one others = record {
  frames = one.writes ∷ others.frames;
  each = (one.is, others.each);
  rest = others.rest;
  shut = others.shut;
  spelled = ap (λ bytes. 1 ∷ bytes) (one.spelled ∙ ap (λ bytes. frame_fields one.writes ++ bytes) others.spelled) ∙ sym (append_assoc (frame_bytes one.writes) (flat_map frame_bytes others.frames) others.rest);
  all_are = others.all_are ∙ ap (λ writes. writes ++ writes_of others.frames) one.all_are ∙ append_assoc before one.writes (writes_of others.frames);
}

pub frames_found : (n end : ℕ) (before : List Write) (bytes : List ℕ) (all : List Write) → length bytes ≤ n → IsBytes bytes → frames_judged n end before bytes ≡ Ok all → FramesFound before bytes all
frames_found zero end before [] all few each judged = none_found before [] all tt judged
frames_found zero end before (b ∷ bytes) all few each judged = absurd (omega (arith, few))
frames_found (suc n) end before [] all few each judged = none_found before [] all tt judged
frames_found (suc n) end before (gate ∷ behind) all few each judged = by_gate (gate == 1) refl judged (λ q shorter. frames_found n end q.0 q.1 all (omega (arith, few, shorter)))
  where
    by_gate : (open_gate : Bool) → (gate == 1) ≡ open_gate
        → (if open_gate then judged_then (frame_judged end before (gate ∷ behind)) (λ f. frames_judged n end f.0 f.1) else Ok before) ≡ Ok all
        → ((q : List Write × List ℕ) → length q.1 < length (gate ∷ behind) → IsBytes q.1 → frames_judged n end q.0 q.1 ≡ Ok all → FramesFound q.0 q.1 all)
        → FramesFound before (gate ∷ behind) all
    by_gate false is judged others = none_found before (gate ∷ behind) all (is_shut (gate ∷ behind) is) judged
    by_gate true is judged others =
        let parts = judged_parts (frame_judged end before (gate ∷ behind)) _ all judged in
        let one = frame_found end gate before behind parts.0 (λ i. each (suc i)) parts.1 in
        let shorter = ap length one.spelled ∙ length-append (frame_fields one.writes) parts.0.1 in
        subst (λ g. FramesFound before (g ∷ behind) all) (sym (eqb-true gate 1 is)) (one_found before behind parts.0 all one (others parts.0 (omega arith) one.rest parts.2))

-- ---- a turn of the loop that reads the frames

frames_next : (n end : ℕ) (before : List Write) (bytes : List ℕ) → 0 < n
    → frames_judged n end before bytes ≡ (if is_gate_open bytes then judged_then (frame_judged end before bytes) (λ f. frames_judged (n - 1) end f.0 f.1) else Ok before)
frames_next zero end before bytes some = absurd (omega arith)
frames_next (suc n) end before bytes some = let same : suc n - 1 ≡ n = omega arith in rw same refl

pub frames_closed : (n end : ℕ) (before : List Write) (bytes : List ℕ) → is_gate_open bytes ≡ false → frames_judged n end before bytes ≡ Ok before
frames_closed zero end before bytes closed = refl
frames_closed (suc n) end before bytes closed = rw closed refl

frames_damaged : (n end : ℕ) (before : List Write) (bytes : List ℕ) (d : Damage) → 0 < n → is_gate_open bytes ≡ true → frame_judged end before bytes ≡ Err d → frames_judged n end before bytes ≡ Err d
frames_damaged n end before bytes d some opened judged = frames_next n end before bytes some ∙ rw (opened, judged) refl

pub frames_more : (n end : ℕ) (before : List Write) (bytes : List ℕ) (q : List Write × List ℕ) → 0 < n → is_gate_open bytes ≡ true → frame_judged end before bytes ≡ Ok q
    → frames_judged n end before bytes ≡ frames_judged (n - 1) end q.0 q.1
frames_more n end before bytes q some opened judged = frames_next n end before bytes some ∙ rw (opened, judged) refl

-- the fault of a frame is handed on
pub frames_refused : {X : Type 0} (n end : ℕ) (before : List Write) (bytes : List ℕ) (view : X → List Write × List ℕ) (r : Result X ReadFault) (fault out : ReadFault) → 0 < n → is_gate_open bytes ≡ true
    → r ≡ Err fault → out ≡ fault → Judges view r (frame_judged end before bytes) → Judges {X = Vec Write Global} (λ writes. writes.items) (Err out) (frames_judged n end before bytes)
frames_refused n end before bytes view r fault out some opened is same judges = rw same (refused fault (rw is at judges))
  where
    refused : (fault : ReadFault) → Judges view (Err fault) (frame_judged end before bytes) → Judges {X = Vec Write Global} (λ writes. writes.items) (Err fault) (frames_judged n end before bytes)
    refused Disk judges = tt
    refused Memory judges = tt
    refused (Damaged place kept) judges = frames_damaged n end before bytes (damage place kept) some opened judges

-- ---- lawful writes

all_append : (xs ys : List Write) → AllByRecursion IsWrite xs → AllByRecursion IsWrite ys → AllByRecursion IsWrite (xs ++ ys)
all_append [] ys first second = second
all_append (x ∷ xs) ys first second = (first.0, all_append xs ys first.1 second)

pub lawful_writes : (frames : List (List Write)) → AllByRecursion IsFrame frames → AllByRecursion IsWrite (writes_of frames)
lawful_writes [] each = tt
lawful_writes (writes ∷ frames) each = all_append writes (writes_of frames) each.0.each (lawful_writes frames each.1)
