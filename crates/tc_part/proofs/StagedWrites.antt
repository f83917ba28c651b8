-- What comes of a write that is staged, by the refusal that it meets or does not meet.
use Rattle.std.proofs.Common.{◌≡◌, ◌∙◌, ◌<◌, ◌+◌, ◌-◌, ℕ, Bool, true, false, List, [], ◌∷◌, ◌++◌, Option, Some, None, if◌then◌else◌, length, refl, sym, ap, subst, arith}
use Rattle.std.specs.Prelude.{◌^◌, Result, Ok, Err, IfOk, is_some, option_map}
use Rattle.std.proofs.lemmas.Option.{same_Some}
use Rattle.tc_model.specs.Document.{Document, ShapeTree}
use Rattle.tc_model.specs.Keyed.{value_of}
use Rattle.tc_request_model.specs.Request.{Refusal}
use Rattle.tc_model.proofs.StoredDocuments.{keyless_object}
use Rattle.tc_record.specs.Record.{record_of, IsRecordOf}
use Rattle.tc_record.specs.StoredRecord.{IsStoredRecord}
use Rattle.tc_log.specs.declared.write.Write.TheVariants.{Upsert, Delete}
use Rattle.tc_memory.specs.Table.{upserted}
use Rattle.tc_plain_model.specs.Room.{Limits}
use Rattle.tc_plain_model.specs.Store.{Store, names_with}
use Rattle.tc_plain_model.specs.Writes.{Pairs, Write, after_writes}
use Rattle.tc_machine.specs.Logs.{kept_write}
use Rattle.tc_machine.specs.Writes.{IsStorableWrite}
use Rattle.tc_machine.proofs.Holding.{holds}
use Rattle.tc_part_model.specs.Meaning.{IsPart}
use Rattle.tc_part_model.specs.PartState.{Told}
use Rattle.tc_part_model.specs.PartView.{PartView, stored_with}
use Rattle.tc_part_model.specs.Staging.{called, taken_with, counted_with}
use Rattle.tc_part.specs.declared.fault.PartFault.{PartFault}
use Rattle.tc_part.specs.declared.staging.Staged.{Staged}
use Rattle.tc_part.specs.declared.staging.Staged.TheVariants.{Done}
use Rattle.tc_part.specs.Stages.{answer_to, refusal_for, refused_as, stages}

-- ---- the write

-- a kept record is that of one document
pub record IsKept (key : ℕ) (bytes : List ℕ) (w : Write) : Type 0 where
  pub document : Document
  pub is : w ≡ (key, Some document)
  pub spelled : bytes ≡ record_of document

pub upsert_kept : (key : ℕ) (bytes : List ℕ) (w : Write) → Upsert key bytes ≡ kept_write w → IsKept key bytes w
upsert_kept key bytes (n, Some d) is = let same : key ≡ n = cc in record { document = d; is = ap (λ k. (k, Some d)) (sym same); spelled = cc }
upsert_kept key bytes (n, None) is = absurd (cc)

pub delete_kept : (key : ℕ) (w : Write) → Delete key ≡ kept_write w → w ≡ (key, None)
delete_kept key (n, Some d) is = absurd (cc)
delete_kept key (n, None) is = let same : key ≡ n = cc in ap (λ k. (k, None)) (sym same)

-- ---- a refused write

pub refused_answer : (o : Option Refusal) (answer : Staged) (was_live : Bool) → Some answer ≡ option_map refused_as o → answer ≡ answer_to o was_live
refused_answer None answer was_live is = absurd (cc)
refused_answer (Some r) answer was_live is = same_Some answer (refused_as r) is

pub refused_stages : (o : Option Refusal) (answer : Staged) (w : Write) (was_live : Bool) (p : PartView) → Some answer ≡ option_map refused_as o → stages o w was_live p ≡ p
refused_stages None answer w was_live p is = absurd (cc)
refused_stages (Some r) answer w was_live p is = refl

-- ---- an accepted write

pub accepted : (o : Option Refusal) → None ≡ option_map refused_as o → o ≡ None
accepted None is = refl
accepted (Some r) is = absurd (cc)

pub accepted_answer : (r : Result Staged PartFault) (o : Option Refusal) (was_live there : Bool) → o ≡ None → was_live ≡ there → IfOk r (λ answer. answer ≡ Done was_live) → IfOk r (λ answer. answer ≡ answer_to o there)
accepted_answer (Ok answer) o was_live there none same done = done ∙ ap Done same ∙ ap (λ x. answer_to x there) (sym none)
accepted_answer (Err fault) o was_live there none same done = tt

-- a document that may be stored is that of its stored record
pub storable_record : (key : ℕ) (d : Document) (bytes : List ℕ) → IsStorableWrite (key, Some d) → bytes ≡ record_of d → IsStoredRecord bytes → IsRecordOf d bytes
storable_record key d bytes storable spelled stored =
    record { document = storable.document; is_object = keyless_object d storable.storable.1; shallow = storable.storable.0; spelled = spelled; short = stored.is_record.short }

counted_upsert : (key n : ℕ) (d : Document) (was_live : Bool) → (if was_live then n else n + 1) ≡ counted_with (key, Some d) was_live n
counted_upsert key n d true = refl
counted_upsert key n d false = refl

pub upsert_counted : (key n m : ℕ) (d : Document) (was_live there : Bool) → m ≡ (if was_live then n else n + 1) → was_live ≡ there → m ≡ counted_with (key, Some d) there n
upsert_counted key n m d was_live there count is = count ∙ counted_upsert key n d was_live ∙ ap (λ b. counted_with (key, Some d) b n) is

-- how many documents are live fits
pub few_live : (t : Told) (p : PartView) → IsPart t p → t.live < 2 ^ 32
few_live t p is = subst (λ n. n < 2 ^ 32) (sym is.view.live) (subst (λ (pairs : Pairs). length (after_writes pairs p.staged) < 2 ^ 32) (holds is.memory) is.staged.room)

room_for : (n : ℕ) (was_live : Bool) → n < 2 ^ 32 → (was_live ≡ false → n + 1 < 2 ^ 32) → (if was_live then n else n + 1) < 2 ^ 32
room_for n true few room = few
room_for n false few room = room refl

pub upsert_room : (n m : ℕ) (was_live : Bool) → m ≡ (if was_live then n else n + 1) → n < 2 ^ 32 → (was_live ≡ false → n + 1 < 2 ^ 32) → m < 2 ^ 32
upsert_room n m was_live count few room = subst (λ k. k < 2 ^ 32) (sym count) (room_for n was_live few room)

-- what is told of a part in whose table a record is, and its write behind those that are staged
pub upsert_told : (t u : Told) (key : ℕ) (bytes : List ℕ) (d : Document) (handed : Option ShapeTree) → bytes ≡ record_of d
    → u ≡ record t { active = upserted key bytes handed t.active; staged = t.staged ++ Upsert key bytes ∷ []; taken = u.taken; live = u.live } → u.taken ≡ names_with d t.taken
    → u ≡ record t { active = called (key, Some d) handed t.active; staged = t.staged ++ kept_write (key, Some d) ∷ []; taken = taken_with (key, Some d) t.taken; live = u.live }
upsert_told t u key bytes d handed spelled same taken =
    same ∙ ap (λ b. record t { active = upserted key b handed t.active; staged = t.staged ++ Upsert key b ∷ []; taken = u.taken; live = u.live }) spelled
    ∙ ap (λ ns. record t { active = called (key, Some d) handed t.active; staged = t.staged ++ kept_write (key, Some d) ∷ []; taken = ns; live = u.live }) taken

-- a key that has a document may be taken out
pub storable_delete : (key : ℕ) → key < 2 ^ 63 → IsStorableWrite (key, None)
storable_delete key low = record { key = low; document = tt; storable = tt; short = tt }

pub delete_counted : (key n m live : ℕ) (there : Bool) → m ≡ live - 1 → live ≡ n → there ≡ true → m ≡ counted_with (key, None) there n
delete_counted key n m live there count same is = count ∙ ap (λ k. k - 1) same ∙ ap (λ b. counted_with (key, None) b n) (sym is)

pub delete_room : (n m live : ℕ) → m ≡ live - 1 → live ≡ n → n < 2 ^ 32 → m < 2 ^ 32
delete_room n m live count same few = omega (arith, count, same, few)

pub delete_answered : (r : Result Staged PartFault) (limits : Limits) (s : Store) (pairs : Pairs) (key : ℕ) (w : Write) (was_live : Bool) → Delete key ≡ kept_write w → was_live ≡ is_some (value_of key pairs) → IfOk r (λ answer. answer ≡ Done was_live)
    → IfOk r (λ answer. answer ≡ answer_to (refusal_for limits w s) (is_some (value_of w.0 pairs)))
delete_answered (Ok answer) limits s pairs key w was_live kept same done =
    subst (λ (w : Write). answer ≡ answer_to (refusal_for limits w s) (is_some (value_of w.0 pairs))) (sym (delete_kept key w kept)) (done ∙ ap Done same)
delete_answered (Err fault) limits s pairs key w was_live kept same done = tt

pub delete_stages : (limits : Limits) (s : Store) (p : PartView) (key : ℕ) (w : Write) (was_live : Bool) → Delete key ≡ kept_write w → was_live ≡ is_some (value_of key (stored_with p))
    → stages (refusal_for limits w s) w (is_some (value_of w.0 (stored_with p))) p ≡ stages None (key, None) was_live p
delete_stages limits s p key w was_live kept same =
    ap (λ (w : Write). stages (refusal_for limits w s) w (is_some (value_of w.0 (stored_with p))) p) (delete_kept key w kept) ∙ ap (λ b. stages None (key, None) b p) (sym same)
