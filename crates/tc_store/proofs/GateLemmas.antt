-- What a stop may leave of a file while its gate is made, stays shut, and is opened.
use Rattle.std.proofs.Common.{◌≡◌, ◌≢◌, Result, ◌<◌, ◌≤◌, ◌^◌, ℕ, zero, suc, ◌+◌, max, List, [], ◌∷◌, ◌++◌, length, false, slice_index, refl, inl, inr, ◌∙◌, sym, ap, subst, arith, take, drop}
use Rattle.std.specs.Prelude.{◌==◌, Option, None, Some, unwrap_or, OnOk, IsErrOf}
use Rattle.std.proofs.lemmas.List.{ext_get_or, length-drop, nil_from_length}
use Rattle.std.proofs.lemmas.List.Elements.{All-nil, All-cons, All-weaker}
use Rattle.std.proofs.lemmas.Bool.{cases_lt, cases_eq, ne_eqb}
use Rattle.tc_store.specs.declared.fault.DeviceFault.{DeviceFault}
use Rattle.tc_store.specs.declared.fault.DeviceFault.TheVariants.{Fault, Memory}
use Rattle.tc_store.specs.DiskFile.{DiskFile, synced_file, Range, FailsWrite, settled_file, overlaid, written}
use Rattle.tc_store.specs.Images.{Image, IsImageOf, IsUntouched, IsWithin, furthest_end}
use Rattle.tc_store.specs.Gate.{is_open_file, opened, IsShutOr, IsClosed, IsWhole, IsClosedOrWhole, IsGateShut}
use Rattle.tc_store.specs.Moments.{LeavesAt, LeavesOnly, IfTold, goes_on, FailsWriting}
use Rattle.tc_store.proofs.MomentLemmas.{EachSince-one, EachSince-trans, EachSince-failed, EachSince-write, FailedWrite, told_map, told-goes_on, told-write}

-- a list that has each place of another is as long
covers : (xs ys : List ℕ) → ((i : ℕ) → i < length ys → i < length xs) → length ys ≤ length xs
covers xs ys all = elim (cases_lt (length xs) (length ys)) [
  | inl shorter ↦ absurd (omega (arith, all (length xs) shorter))
  | inr as_long ↦ as_long
]

-- a list that is no longer than another and has each of its elements is that list
same_as : (xs ys : List ℕ) → length xs ≤ length ys
    → ((i : ℕ) → i < length ys → (i < length xs) × (slice_index xs i ≡ slice_index ys i)) → xs ≡ ys
same_as xs ys no_longer all =
    let as_long : length ys ≤ length xs = covers xs ys (λ i within. (all i within).0) in
    ext_get_or 0 xs ys (omega arith) (λ i within. (all i (omega arith)).1)

-- a settled file leaves its content alone
pub settled_leaves : (bytes : List ℕ) (P : Image → Type 0) → P (Some bytes) → LeavesAt P (settled_file bytes)
settled_leaves bytes P holds None absent = absurd (cc)
settled_leaves bytes P holds (Some image) (inr before) = absurd (cc)
settled_leaves bytes P holds (Some image) (inl is) =
    let same : bytes ≡ image = sym (same_as image bytes is.no_longer (λ i within. is.untouched i (record { synced = within; not_tried = All-nil (λ range. IsWithin i range → ⊥) }))) in
    subst (λ (left : List ℕ). P (Some left)) same holds

-- a file whose gate is 0 is closed
zero_is_closed : (image : List ℕ) → slice_index image 0 ≡ 0 → is_open_file image ≡ false
zero_is_closed [] gate = refl
zero_is_closed (x ∷ []) gate = refl
zero_is_closed (x ∷ y ∷ rest) gate = ap (λ (n : ℕ). n == 1) gate

pub shut_leaves : (f : DiskFile) → IsGateShut f → LeavesAt IsClosed f
shut_leaves f shut None absent = let has = shut.synced in absurd (cc)
shut_leaves f shut (Some image) (inr before) = let has = shut.no_other in absurd (cc)
shut_leaves f shut (Some image) (inl is) =
    let durable : unwrap_or f.synced [] ≡ 0 ∷ shut.synced_rest = ap (λ (synced : Option (List ℕ)). unwrap_or synced []) shut.synced in
    let untouched : IsUntouched f 0 = record {
      synced = rw durable (omega arith);
      not_tried = All-weaker (λ range. 0 < range.0) (λ range. IsWithin 0 range → ⊥) (λ range behind within. absurd (omega (arith, within.0))) f.tried shut.spared;
    } in
    zero_is_closed image ((is.untouched 0 untouched).1 ∙ ap (λ (bytes : List ℕ). slice_index bytes 0) durable)

overlaid_behind : (at : ℕ) (bytes content rest : List ℕ) → 0 < at → content ≡ 0 ∷ rest → (front : List ℕ) × (overlaid at bytes content ≡ 0 ∷ front)
overlaid_behind zero bytes content rest behind gate = absurd (omega arith)
overlaid_behind (suc n) bytes content rest behind gate =
    (take n rest ++ bytes ++ drop (suc n + length bytes) (0 ∷ rest), ap (overlaid (suc n) bytes) gate)

-- a write behind the gate leaves it shut
pub shut-written : (at : ℕ) (bytes : List ℕ) (f : DiskFile) → 0 < at → IsGateShut f → IsGateShut (written at bytes f)
shut-written at bytes f behind shut =
    let laid = overlaid_behind at bytes f.content shut.rest behind shut.content in
    record {
      rest = laid.0;
      content = laid.1;
      synced_rest = shut.synced_rest;
      synced = shut.synced;
      spared = All-cons (λ range. 0 < range.0) (at, length bytes) f.tried behind shut.spared;
      no_other = shut.no_other;
    }

torn_behind : (at : ℕ) (old new rest : List ℕ) → 0 < at → old ≡ 0 ∷ rest → take at new ≡ take at old → (others : List ℕ) × (new ≡ 0 ∷ others)
torn_behind zero old new rest behind gate front = absurd (omega arith)
torn_behind (suc n) old [] rest behind gate front =
    let none : [] ≡ 0 ∷ take n rest = front ∙ ap (take (suc n)) gate in absurd (cc)
torn_behind (suc n) old (x ∷ xs) rest behind gate front =
    let same : x ∷ take n xs ≡ 0 ∷ take n rest = front ∙ ap (take (suc n)) gate in
    let is : x ≡ 0 = cc in
    (xs, ap (λ (byte : ℕ). byte ∷ xs) is)

-- and so does one that fails
pub shut-failed : (at count : ℕ) (f new : DiskFile) → 0 < at → FailsWrite at count f new → IsGateShut f → IsGateShut new
shut-failed at count f new behind failed shut =
    let torn = torn_behind at f.content new.content shut.rest behind shut.content failed.content.front in
    record {
      rest = torn.0;
      content = torn.1;
      synced_rest = shut.synced_rest;
      synced = failed.synced ∙ shut.synced;
      spared = rw failed.tried (All-cons (λ range. 0 < range.0) (at, count) f.tried behind shut.spared);
      no_other = failed.before ∙ shut.no_other;
    }

furthest_end-from_zero : (size : ℕ) (ranges : List Range) → furthest_end size ranges ≤ max size (furthest_end 0 ranges)
furthest_end-from_zero size [] = omega arith
furthest_end-from_zero size (range ∷ ranges) = omega (arith, furthest_end-from_zero size ranges)

-- an empty file on whose first byte a write was tried
record GateTried (f new : DiskFile) : Type 0 where
  short : length new.content ≤ 1
  synced : new.synced ≡ f.synced
  tried : new.tried ≡ (0, 1) ∷ f.tried
  before : new.before ≡ f.before

-- the first write of a gate leaves nothing open
begun_leaves : (old : Option (List ℕ)) (f new : DiskFile) → length f.content ≡ 0 → IsImageOf f f.content → GateTried f new
    → LeavesAt (IsShutOr old) f → LeavesAt (IsShutOr old) new
begun_leaves old f new empty stays begun shut None left = tt
begun_leaves old f new empty stays begun shut (Some image) (inr before) = shut (Some image) (inr (sym begun.before ∙ before))
begun_leaves old f new empty stays begun shut (Some []) (inl is) = inl refl
begun_leaves old f new empty stays begun shut (Some (x ∷ [])) (inl is) = inl refl
begun_leaves old f new empty stays begun shut (Some (x ∷ y ∷ rest)) (inl is) =
    let end : furthest_end (length new.content) new.tried ≡ max 1 (furthest_end (length new.content) f.tried) =
    ap (furthest_end (length new.content)) begun.tried in
    let none : furthest_end (length f.content) f.tried ≡ furthest_end 0 f.tried = ap (λ (size : ℕ). furthest_end size f.tried) empty in
    shut (Some (x ∷ y ∷ rest)) (inl (record {
      no_longer = omega (arith, is.no_longer, furthest_end-from_zero (length new.content) f.tried, begun.short, end, none);
      untouched = λ position untouched. absurd (omega (arith, (stays.untouched position untouched).0));
    }))

-- an empty file of which a stop leaves nothing open
pub record Begins (old : Option (List ℕ)) (f : DiskFile) : Type 0 where
  pub empty : length f.content ≡ 0
  pub stays : IsImageOf f f.content
  pub shut : LeavesAt (IsShutOr old) f

gate_written : (f : DiskFile) → length f.content ≡ 0 → overlaid 0 (0 ∷ []) f.content ≡ 0 ∷ []
gate_written f empty = ap (λ (rest : List ℕ). 0 ∷ rest) (nil_from_length (drop 1 f.content) (omega (arith, length-drop 1 f.content)))

-- the moment of the first write of a gate
gate_write : (old : Option (List ℕ)) (moments : List DiskFile) → IfTold moments (Begins old)
    → LeavesOnly (IsShutOr old) moments (goes_on (written 0 (0 ∷ [])) moments)
gate_write old moments begins = EachSince-one (LeavesAt (IsShutOr old)) (written 0 (0 ∷ [])) moments
    (told_map (Begins old) (λ f. LeavesAt (IsShutOr old) (written 0 (0 ∷ []) f)) moments
    (λ f begin. begun_leaves old f (written 0 (0 ∷ []) f) begin.empty begin.stays
    (record { short = omega (arith, length-drop 1 f.content, begin.empty); synced = refl; tried = refl; before = refl }) begin.shut) begins)

-- and of one that fails
pub gate_write_failed : (old : Option (List ℕ)) (moments new : List DiskFile) (cause : DeviceFault) → FailedWrite 0 1 moments new cause
    → IfTold moments (Begins old) → LeavesOnly (IsShutOr old) moments new
gate_write_failed old moments new cause failed begins = EachSince-failed (LeavesAt (IsShutOr old)) 0 1 moments new cause failed
    (told_map (Begins old) (λ f. (after : DiskFile) → FailsWrite 0 1 f after → LeavesAt (IsShutOr old) after) moments
    (λ f begin after fails. begun_leaves old f after begin.empty begin.stays
    (record { short = omega (arith, fails.content.no_longer, begin.empty); synced = fails.synced; tried = fails.tried; before = fails.before }) begin.shut) begins)

-- a gate that was written and not yet synced, or could not be
pub gate_unsynced : (old : Option (List ℕ)) (moments wrote new : List DiskFile) → wrote ≡ goes_on (written 0 (0 ∷ [])) moments → new ≡ wrote
    → IfTold moments (Begins old) → LeavesOnly (IsShutOr old) moments new
gate_unsynced old moments wrote new first second begins = rw (second, first) (gate_write old moments begins)

-- a gate that was written and synced
pub gate_begun : (old : Option (List ℕ)) (moments wrote new : List DiskFile) → wrote ≡ goes_on (written 0 (0 ∷ [])) moments → new ≡ goes_on synced_file wrote
    → IfTold moments (Begins old) → LeavesOnly (IsShutOr old) moments new
gate_begun old moments wrote new first second begins = rw (second, first)
    (EachSince-trans (LeavesAt (IsShutOr old)) moments (goes_on (written 0 (0 ∷ [])) moments) (goes_on synced_file (goes_on (written 0 (0 ∷ [])) moments))
    (gate_write old moments begins)
    (EachSince-one (LeavesAt (IsShutOr old)) synced_file (goes_on (written 0 (0 ∷ [])) moments)
    (told-goes_on (λ f. LeavesAt (IsShutOr old) (synced_file f)) (written 0 (0 ∷ [])) moments
    (told_map (Begins old) (λ f. LeavesAt (IsShutOr old) (synced_file (written 0 (0 ∷ []) f))) moments
    (λ f begin. settled_leaves (overlaid 0 (0 ∷ []) f.content) (IsShutOr old) (inl (zero_is_closed (overlaid 0 (0 ∷ []) f.content) refl))) begins))))

-- a device of no length begins, if it tells
pub begins_told : (old : Option (List ℕ)) (moments : List DiskFile) (size : ℕ) → size ≡ 0 → IfTold moments (λ f. size ≡ length f.content)
    → IfTold moments (λ f. IsImageOf f f.content) → IfTold moments (LeavesAt (IsShutOr old)) → IfTold moments (Begins old)
begins_told old [] size none sized stays shut = tt
begins_told old (f ∷ past) size none sized stays shut = record { empty = sym sized ∙ none; stays = stays; shut = shut }

-- the moment of a write behind a shut gate, however it went
pub shut_write_leaves : (at : ℕ) (bytes : List ℕ) (old new : List DiskFile) (r : Result (Unit {0}) DeviceFault) → 0 < at
    → OnOk r (new ≡ goes_on (written at bytes) old) → (IsErrOf r Fault → FailsWriting at (length bytes) old new) → (IsErrOf r Memory → new ≡ old)
    → IfTold old IsGateShut → LeavesOnly IsClosed old new
shut_write_leaves at bytes old new r behind ok fault memory shut = EachSince-write (LeavesAt IsClosed) at bytes (length bytes) old new r ok fault memory
    (told_map IsGateShut (λ f. LeavesAt IsClosed (written at bytes f)) old (λ f is. shut_leaves (written at bytes f) (shut-written at bytes f behind is)) shut)
    (told_map IsGateShut (λ f. (after : DiskFile) → FailsWrite at (length bytes) f after → LeavesAt IsClosed after) old
    (λ f is after fails. shut_leaves after (shut-failed at (length bytes) f after behind fails is)) shut)

-- after it the gate is shut
pub shut_write : (at : ℕ) (bytes : List ℕ) (old new : List DiskFile) (r : Result (Unit {0}) DeviceFault) → 0 < at
    → OnOk r (new ≡ goes_on (written at bytes) old) → (IsErrOf r Fault → FailsWriting at (length bytes) old new) → (IsErrOf r Memory → new ≡ old)
    → IfTold old IsGateShut → IfTold new IsGateShut
shut_write at bytes old new r behind ok fault memory shut = told-write IsGateShut at bytes (length bytes) old new r ok fault memory shut
    (told_map IsGateShut (λ f. IsGateShut (written at bytes f)) old (λ f is. shut-written at bytes f behind is) shut)
    (told_map IsGateShut (λ f. (after : DiskFile) → FailsWrite at (length bytes) f after → IsGateShut after) old
    (λ f is after fails. shut-failed at (length bytes) f after behind fails is) shut)

-- a closed file, durable as it is, on whose gate a write was tried
record OpenTried (content : List ℕ) (new : DiskFile) : Type 0 where
  no_longer : length new.content ≤ length content
  synced : new.synced ≡ Some content
  tried : new.tried ≡ (0, 1) ∷ []
  before : new.before ≡ None

-- what stands behind a gate that was tried is what stood there
behind_gate : (x : ℕ) (xs rest : List ℕ) (new : DiskFile) → OpenTried (0 ∷ rest) new → IsImageOf new (x ∷ xs) → xs ≡ rest
behind_gate x xs rest new turning is =
    let durable : unwrap_or new.synced [] ≡ 0 ∷ rest = ap (λ (synced : Option (List ℕ)). unwrap_or synced []) turning.synced in
    let end : furthest_end (length new.content) new.tried ≡ max 1 (length new.content) = ap (furthest_end (length new.content)) turning.tried in
    same_as xs rest (omega (arith, is.no_longer, end, turning.no_longer)) λ i within.
    let untouched : IsUntouched new (suc i) = record {
      synced = rw durable (omega arith);
      not_tried = rw turning.tried (All-cons (λ range. IsWithin (suc i) range → ⊥) (0, 1) [] (λ it. absurd (omega (arith, it.1))) (All-nil (λ range. IsWithin (suc i) range → ⊥)));
    } in
    let there = is.untouched (suc i) untouched in
    (omega (arith, there.0), there.1 ∙ ap (λ (bytes : List ℕ). slice_index bytes (suc i)) durable)

other_gate : (x : ℕ) (xs : List ℕ) → x ≢ 1 → is_open_file (x ∷ xs) ≡ false
other_gate x [] other = refl
other_gate x (y ∷ rest) other = ne_eqb x 1 other

is_whole : (image whole : List ℕ) → image ≡ whole → length whole < 2 ^ 63 → IsWhole whole image
is_whole image whole same short = record { same = same; short = subst (λ (bytes : List ℕ). length bytes < 2 ^ 63) (sym same) short }

open_leaves : (rest : List ℕ) (new : DiskFile) → length (1 ∷ rest) < 2 ^ 63 → OpenTried (0 ∷ rest) new → LeavesAt (IsClosedOrWhole (1 ∷ rest)) new
open_leaves rest new short turning None absent = let has = turning.synced in absurd (cc)
open_leaves rest new short turning (Some image) (inr before) = let has = turning.before in absurd (cc)
open_leaves rest new short turning (Some []) (inl is) = inl refl
open_leaves rest new short turning (Some (x ∷ xs)) (inl is) = elim (cases_eq x 1) [
  | inl gate ↦ inr (is_whole (x ∷ xs) (1 ∷ rest) (ap (λ (byte : ℕ). byte ∷ xs) gate ∙ ap (λ (others : List ℕ). 1 ∷ others) (behind_gate x xs rest new turning is)) short)
  | inr other ↦ inl (other_gate x xs other)
]

-- the file of a shut gate, at each moment while the gate is opened
pub record Opening (f : DiskFile) : Type 0 where
  pub first_sync : LeavesAt (IsClosedOrWhole (opened f.content)) (synced_file f)
  pub gate : LeavesAt (IsClosedOrWhole (opened f.content)) (written 0 (1 ∷ []) (synced_file f))
  pub failed : (after : DiskFile) → FailsWrite 0 1 (synced_file f) after → LeavesAt (IsClosedOrWhole (opened f.content)) after
  pub second_sync : LeavesAt (IsClosedOrWhole (opened f.content)) (synced_file (written 0 (1 ∷ []) (synced_file f)))

opening : (f : DiskFile) → IsGateShut f → length f.content < 2 ^ 63 → Opening f
opening f shut short =
    let whole : opened f.content ≡ 1 ∷ shut.rest = ap opened shut.content in
    let as_long : length (1 ∷ shut.rest) < 2 ^ 63 = subst (λ (bytes : List ℕ). length bytes < 2 ^ 63) shut.content short in
    let durable : Some f.content ≡ Some (0 ∷ shut.rest) = ap Some shut.content in
    let tried : (new : DiskFile) → OpenTried (0 ∷ shut.rest) new → LeavesAt (IsClosedOrWhole (opened f.content)) new =
    λ new turning. rw whole (open_leaves shut.rest new as_long turning) in
    record {
      first_sync = settled_leaves f.content (IsClosedOrWhole (opened f.content)) (inl (zero_is_closed f.content (ap (λ (bytes : List ℕ). slice_index bytes 0) shut.content)));
      gate = tried (written 0 (1 ∷ []) (synced_file f)) (record {
        no_longer = omega (arith, ap length whole);
        synced = durable;
        tried = refl;
        before = refl;
      });
      failed = λ after fails. tried after (record {
        no_longer = omega (arith, fails.content.no_longer, ap length shut.content);
        synced = fails.synced ∙ durable;
        tried = fails.tried;
        before = fails.before;
      });
      second_sync = settled_leaves (opened f.content) (IsClosedOrWhole (opened f.content)) (inr (is_whole (opened f.content) (opened f.content) refl (subst (λ (bytes : List ℕ). length bytes < 2 ^ 63) (sym whole) as_long)));
    }

-- what holds of each file that is told now
pub told_from : {X : Type 0} (moments : List X) (Q : X → Type 0) → ((now : X) (past : List X) → moments ≡ now ∷ past → Q now) → IfTold moments Q
told_from [] Q give = tt
told_from (now ∷ past) Q give = give now past refl

told_at : {X : Type 0} (moments past : List X) (now : X) (P : X → Type 0) → moments ≡ now ∷ past → IfTold moments P → P now
told_at moments past now P is told = rw is at told

-- a file is no longer than a file may be, as its device says
abbrev pub IsShort : DiskFile → Type 0
IsShort f = length f.content < 2 ^ 63

pub short_told : (moments : List DiskFile) (size : ℕ) → size < 2 ^ 63 → IfTold moments (λ f. size ≡ length f.content) → IfTold moments IsShort
short_told [] size short told = tt
short_told (f ∷ past) size short told = subst (λ n. n < 2 ^ 63) told short

-- the gate could not be written
pub open_failed : (f : DiskFile) (moments past first new : List DiskFile) (cause : DeviceFault) → IfTold moments IsGateShut → IfTold moments IsShort → moments ≡ f ∷ past
    → first ≡ goes_on synced_file moments → FailedWrite 0 1 first new cause → LeavesOnly (IsClosedOrWhole (opened f.content)) moments new
open_failed f moments past first new cause shut short is synced failed =
    let steps = opening f (told_at moments past f IsGateShut is shut) (told_at moments past f IsShort is short) in
    let start : first ≡ synced_file f ∷ f ∷ past = synced ∙ ap (goes_on synced_file) is in
    EachSince-trans (LeavesAt (IsClosedOrWhole (opened f.content))) moments first new
    (record { added = synced_file f ∷ []; goes_on = start ∙ ap (λ (others : List DiskFile). synced_file f ∷ others) (sym is); each = All-cons (LeavesAt (IsClosedOrWhole (opened f.content))) (synced_file f) [] steps.first_sync (All-nil (LeavesAt (IsClosedOrWhole (opened f.content)))); untold = λ none. absurd (cc) })
    (EachSince-failed (LeavesAt (IsClosedOrWhole (opened f.content))) 0 1 first new cause failed (rw start steps.failed))

-- the gate was written, and is not yet synced
pub open_unsynced : (f : DiskFile) (moments past first second new : List DiskFile) → IfTold moments IsGateShut → IfTold moments IsShort → moments ≡ f ∷ past
    → first ≡ goes_on synced_file moments → second ≡ goes_on (written 0 (1 ∷ [])) first → new ≡ second
    → LeavesOnly (IsClosedOrWhole (opened f.content)) moments new
open_unsynced f moments past first second new shut short is synced wrote same =
    let steps = opening f (told_at moments past f IsGateShut is shut) (told_at moments past f IsShort is short) in
    let P : DiskFile → Type 0 = LeavesAt (IsClosedOrWhole (opened f.content)) in
    rw (same, wrote, synced, is) (record {
      added = written 0 (1 ∷ []) (synced_file f) ∷ synced_file f ∷ [];
      goes_on = refl;
      each = All-cons P (written 0 (1 ∷ []) (synced_file f)) (synced_file f ∷ []) steps.gate (All-cons P (synced_file f) [] steps.first_sync (All-nil P));
      untold = λ none. absurd (cc);
    })

-- the gate was written and synced
pub open_whole : (f : DiskFile) (moments past first second new : List DiskFile) → IfTold moments IsGateShut → IfTold moments IsShort → moments ≡ f ∷ past
    → first ≡ goes_on synced_file moments → second ≡ goes_on (written 0 (1 ∷ [])) first → new ≡ goes_on synced_file second
    → LeavesOnly (IsClosedOrWhole (opened f.content)) moments new
open_whole f moments past first second new shut short is synced wrote last =
    let steps = opening f (told_at moments past f IsGateShut is shut) (told_at moments past f IsShort is short) in
    let P : DiskFile → Type 0 = LeavesAt (IsClosedOrWhole (opened f.content)) in
    rw (last, wrote, synced, is) (record {
      added = synced_file (written 0 (1 ∷ []) (synced_file f)) ∷ written 0 (1 ∷ []) (synced_file f) ∷ synced_file f ∷ [];
      goes_on = refl;
      each = All-cons P (synced_file (written 0 (1 ∷ []) (synced_file f))) (written 0 (1 ∷ []) (synced_file f) ∷ synced_file f ∷ []) steps.second_sync
          (All-cons P (written 0 (1 ∷ []) (synced_file f)) (synced_file f ∷ []) steps.gate (All-cons P (synced_file f) [] steps.first_sync (All-nil P)));
      untold = λ none. absurd (cc);
    })
