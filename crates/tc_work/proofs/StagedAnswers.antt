-- What a request does to a part and what it is answered, by what the call of the part answered.
use Rattle.std.proofs.Common.{◌≡◌, ◌≤◌, ◌+◌, ◌∙◌, ℕ, Bool, true, false, List, [], ◌∷◌, ◌++◌, Option, Some, None, if◌then◌else◌, inl, inr, refl, sym, ap, subst, arith, append-nil}
use Rattle.std.specs.Prelude.{◌⊎◌, is_some}
use Rattle.tc_model.specs.Document.{Name, Document}
use Rattle.tc_model.specs.Keyed.{value_of}
use Rattle.tc_request_model.specs.Reply.{upserted, turned_down}
use Rattle.tc_request_model.specs.Request.{Refusal, upsert, delete, names_full, full}
use Rattle.tc_model.proofs.Replacing.{none_taken_out}
use Rattle.tc_record.specs.Record.{IsRecordOf}
use Rattle.tc_log.specs.declared.write.Write as log
use Rattle.tc_log.specs.declared.write.Write.TheVariants.{Upsert, Delete}
use Rattle.tc_plain_model.specs.Room.{Limits, lacks_names, lacks_room}
use Rattle.tc_request_model.specs.Part.{upsert_refusal, unless_refused, part_left, part_writes}
use Rattle.tc_plain_model.specs.Store.{Store, names_with, with_pair, without_pair}
use Rattle.tc_plain_model.specs.Writes.{Pairs, Write, set, unset, after_write}
use Rattle.tc_part_model.specs.Changes.{with_staged}
use Rattle.tc_part_model.specs.Meaning.{IsPart, plain_of}
use Rattle.tc_part_model.specs.PartState.{PartState, Told}
use Rattle.tc_part_model.specs.PartView.{PartView, stored_with}
use Rattle.tc_part_model.specs.Staging.{taken_with}
use Rattle.tc_part.specs.declared.staging.Staged.{Staged}
use Rattle.tc_part.specs.declared.staging.Staged.TheVariants.{Done, NamesFull, Full}
use Rattle.tc_part.specs.Stages.{answer_to, stages, HasStaged}
use Rattle.tc_memory.specs.Table.{upserted as table_upserted, deleted as table_deleted}
use Rattle.tc_query.proofs.LiveKeys.{one_more_upserted, one_more_deleted}
use Rattle.tc_query.specs.Shown.{live_keys}
use Rattle.tc_work.specs.Reads.{live_in}
use Rattle.tc_work.specs.Replied.{reply_to_upsert}
use Rattle.tc_work.specs.Windowed.{staged_as, HasOnlyStaged, IsStagedAs}

-- what the plain store is once one more write is staged
abbrev pub ShowsStaged : Told → Told → PartView → Type 0
ShowsStaged t u p = (w : Write) → u.taken ≡ taken_with w t.taken → plain_of u (with_staged w p) ≡ record { pairs = after_write (stored_with p) w; taken = taken_with w t.taken }

none_staged : (p : PartView) → p ≡ staged_as [] p
none_staged p = ap (λ (ws : List Write). record p { staged = ws }) (sym (append-nil p.staged))

unchanged : (t u : Told) (p : PartView) → u.taken ≡ t.taken → plain_of u (staged_as [] p) ≡ plain_of t p
unchanged t u p taken = ap (plain_of u) (sym (none_staged p)) ∙ ap (λ (names : List Name). record (plain_of t p) { taken = names }) taken

-- what changes nothing stages nothing
pub stages_nothing : (t u : Told) (p : PartView) → IsPart u p → u.taken ≡ t.taken → IsStagedAs [] (plain_of t p) p u
stages_nothing t u p is taken = record { part = subst (IsPart u) (none_staged p) is; plain = unchanged t u p taken }

-- ---- an upsert, by the tests of its refusal

abbrev refusal_by : Bool → Bool → Option Refusal
refusal_by names room = if names then Some names_full else (if room then Some full else None)

replied_by : (names room : Bool) (n : ℕ) (was_live : Bool) → reply_to_upsert n (answer_to (refusal_by names room) was_live) ≡ unless_refused (refusal_by names room) (upserted n was_live) turned_down
replied_by true room n was_live = refl
replied_by false true n was_live = refl
replied_by false false n was_live = refl

pub upsert_replied : (limits : Limits) (n : ℕ) (d : Document) (s : Store) (was_live : Bool)
    → reply_to_upsert n (answer_to (upsert_refusal limits n d s) was_live) ≡ unless_refused (upsert_refusal limits n d s) (upserted n was_live) turned_down
upsert_replied limits n d s was_live = replied_by (lacks_names limits d s.taken) (lacks_room limits n s) n was_live

taken_by : {S D F W : Type 0} (names room was_live : Bool) (key : ℕ) (bytes : List ℕ) (d : Document) (old new : PartState S D F W) → IsRecordOf d bytes → HasStaged (answer_to (refusal_by names room) was_live) (Upsert key bytes) old new
    → new.taken ≡ unless_refused (refusal_by names room) (names_with d old.taken) (λ r. old.taken)
taken_by {S = S} {D = D} {F = F} {W = W} true room was_live key bytes d old new of has = ap (λ (s : PartState S D F W). s.taken) has
taken_by {S = S} {D = D} {F = F} {W = W} false true was_live key bytes d old new of has = ap (λ (s : PartState S D F W). s.taken) has
taken_by false false was_live key bytes d old new of has = has.2 d of

pub upsert_taken : {S D F W : Type 0} (limits : Limits) (n : ℕ) (s : Store) (was_live : Bool) (bytes : List ℕ) (d : Document) (old new : PartState S D F W) → IsRecordOf d bytes → HasStaged (answer_to (upsert_refusal limits n d s) was_live) (Upsert n bytes) old new
    → new.taken ≡ unless_refused (upsert_refusal limits n d s) (names_with d old.taken) (λ r. old.taken)
upsert_taken limits n s was_live bytes d old new of has = taken_by (lacks_names limits d s.taken) (lacks_room limits n s) was_live n bytes d old new of has

staged_by : (names room was_live : Bool) (n : ℕ) (d : Document) (p : PartView) → stages (refusal_by names room) (n, Some d) was_live p ≡ staged_as (unless_refused (refusal_by names room) (set n d ∷ []) (λ r. [])) p
staged_by true room was_live n d p = none_staged p
staged_by false true was_live n d p = none_staged p
staged_by false false was_live n d p = refl

plain_by : (names room : Bool) (n : ℕ) (d : Document) (t u : Told) (p : PartView) → ShowsStaged t u p → u.taken ≡ unless_refused (refusal_by names room) (names_with d t.taken) (λ r. t.taken)
    → plain_of u (staged_as (unless_refused (refusal_by names room) (set n d ∷ []) (λ r. [])) p) ≡ unless_refused (refusal_by names room) (with_pair n d (plain_of t p)) (λ r. plain_of t p)
plain_by true room n d t u p shows taken = unchanged t u p taken
plain_by false true n d t u p shows taken = unchanged t u p taken
plain_by false false n d t u p shows taken = shows (n, Some d) taken

pub upsert_staged : (limits : Limits) (n : ℕ) (d : Document) (was_live : Bool) (t u : Told) (p : PartView) → ShowsStaged t u p → IsPart u (stages (upsert_refusal limits n d (plain_of t p)) (n, Some d) was_live p)
    → u.taken ≡ unless_refused (upsert_refusal limits n d (plain_of t p)) (names_with d t.taken) (λ r. t.taken)
    → IsStagedAs (part_writes limits (upsert n d) (plain_of t p)) (part_left limits (upsert n d) (plain_of t p)) p u
upsert_staged limits n d was_live t u p shows is taken = record {
  part = subst (IsPart u) (staged_by (lacks_names limits d t.taken) (lacks_room limits n (plain_of t p)) was_live n d p) is;
  plain = plain_by (lacks_names limits d t.taken) (lacks_room limits n (plain_of t p)) n d t u p shows taken;
}

-- ---- a delete

no_value : {V : Type 0} (o : Option V) → false ≡ is_some o → o ≡ None
no_value None is = refl
no_value (Some v) is = absurd (cc)

delete_by : (found : Bool) (n : ℕ) (t u : Told) (p : PartView) → found ≡ is_some (value_of n (stored_with p)) → ShowsStaged t u p → IsPart u (stages None (n, None) found p) → u.taken ≡ t.taken
    → IsStagedAs (if found then unset n ∷ [] else []) (without_pair n (plain_of t p)) p u
delete_by true n t u p found shows is taken = record { part = is; plain = shows (n, None) taken }
delete_by false n t u p found shows is taken = record {
  part = subst (IsPart u) (none_staged p) is;
  plain = unchanged t u p taken ∙ ap (λ (pairs : Pairs). record (plain_of t p) { pairs = pairs }) (sym (none_taken_out n (stored_with p) (no_value (value_of n (stored_with p)) found)));
}

pub delete_staged : (limits : Limits) (n : ℕ) (t u : Told) (p : PartView) → ShowsStaged t u p → IsPart u (stages None (n, None) (is_some (value_of n (stored_with p))) p) → u.taken ≡ t.taken
    → IsStagedAs (part_writes limits (delete n) (plain_of t p)) (part_left limits (delete n) (plain_of t p)) p u
delete_staged limits n t u p shows is taken = delete_by (is_some (value_of n (stored_with p))) n t u p refl shows is taken

pub delete_taken : {S D F W : Type 0} (was_live : Bool) (n : ℕ) (old new : PartState S D F W) → HasStaged (Done was_live) (Delete n) old new → new.taken ≡ old.taken
delete_taken {S = S} {D = D} {F = F} {W = W} true n old new has = ap (λ (s : PartState S D F W). s.taken) has.1
delete_taken {S = S} {D = D} {F = F} {W = W} false n old new has = ap (λ (s : PartState S D F W). s.taken) has

-- ---- of any write, over every store

pub staged_or_not : {S D F W : Type 0} (answer : Staged) (w : log.Write) (old new : PartState S D F W) → HasStaged answer w old new → (new.staged ≡ old.staged ++ w ∷ []) ⊎ (new.staged ≡ old.staged)
staged_or_not {S = S} {D = D} {F = F} {W = W} (Done was_live) (Upsert key bytes) old new has = inl (ap (λ (s : PartState S D F W). s.staged) has.1)
staged_or_not {S = S} {D = D} {F = F} {W = W} (Done true) (Delete key) old new has = inl (ap (λ (s : PartState S D F W). s.staged) has.1)
staged_or_not {S = S} {D = D} {F = F} {W = W} (Done false) (Delete key) old new has = inr (ap (λ (s : PartState S D F W). s.staged) has)
staged_or_not {S = S} {D = D} {F = F} {W = W} NamesFull w old new has = inr (ap (λ (s : PartState S D F W). s.staged) has)
staged_or_not {S = S} {D = D} {F = F} {W = W} Full w old new has = inr (ap (λ (s : PartState S D F W). s.staged) has)

pub only_staged : {S D F W : Type 0} (answer : Staged) (w : log.Write) (old new : PartState S D F W) → HasStaged answer w old new → HasOnlyStaged old new
only_staged {S = S} {D = D} {F = F} {W = W} (Done was_live) (Upsert key bytes) old new has = subst (λ (s : PartState S D F W). HasOnlyStaged old s) (sym has.1) refl
only_staged {S = S} {D = D} {F = F} {W = W} (Done true) (Delete key) old new has = subst (λ (s : PartState S D F W). HasOnlyStaged old s) (sym has.1) refl
only_staged {S = S} {D = D} {F = F} {W = W} (Done false) (Delete key) old new has = subst (λ (s : PartState S D F W). HasOnlyStaged old s) (sym has) refl
only_staged {S = S} {D = D} {F = F} {W = W} NamesFull w old new has = subst (λ (s : PartState S D F W). HasOnlyStaged old s) (sym has) refl
only_staged {S = S} {D = D} {F = F} {W = W} Full w old new has = subst (λ (s : PartState S D F W). HasOnlyStaged old s) (sym has) refl

pub still_sound : {S D F W : Type 0} (answer : Staged) (w : log.Write) (old new : PartState S D F W) → HasStaged answer w old new → new.failed ≡ old.failed
still_sound {S = S} {D = D} {F = F} {W = W} (Done was_live) (Upsert key bytes) old new has = ap (λ (s : PartState S D F W). s.failed) has.1
still_sound {S = S} {D = D} {F = F} {W = W} (Done true) (Delete key) old new has = ap (λ (s : PartState S D F W). s.failed) has.1
still_sound {S = S} {D = D} {F = F} {W = W} (Done false) (Delete key) old new has = ap (λ (s : PartState S D F W). s.failed) has
still_sound {S = S} {D = D} {F = F} {W = W} NamesFull w old new has = ap (λ (s : PartState S D F W). s.failed) has
still_sound {S = S} {D = D} {F = F} {W = W} Full w old new has = ap (λ (s : PartState S D F W). s.failed) has

-- ---- how many keys have a document

-- nothing changed but what the watch counted
pub still_live : {S D F W : Type 0} (more : ℕ) (old new : PartState S D F W) → new ≡ record old { main = new.main } → live_in new ≤ live_in old + more
still_live {S = S} {D = D} {F = F} {W = W} more old new same = let alike = ap (λ (s : PartState S D F W). live_in s) same in omega (arith, alike)

not_more_live : {S D F W : Type 0} (old new : PartState S D F W) → new ≡ old → live_in new ≤ live_in old + 1
not_more_live {S = S} {D = D} {F = F} {W = W} old new same = let alike = ap (λ (s : PartState S D F W). live_in s) same in omega (arith, alike)

pub one_more_live : {S D F W : Type 0} (answer : Staged) (w : log.Write) (old new : PartState S D F W) → HasStaged answer w old new → live_in new ≤ live_in old + 1
one_more_live {S = S} {D = D} {F = F} {W = W} (Done was_live) (Upsert key bytes) old new has =
    let is : live_in new ≡ live_keys old.list old.sealed (table_upserted key bytes has.0 old.active) = ap (λ (s : PartState S D F W). live_in s) has.1 in
    omega (arith, is, one_more_upserted old.list old.sealed key bytes has.0 old.active)
one_more_live {S = S} {D = D} {F = F} {W = W} (Done true) (Delete key) old new has =
    let is : live_in new ≡ live_keys old.list old.sealed (table_deleted key has.0 old.active) = ap (λ (s : PartState S D F W). live_in s) has.1 in
    omega (arith, is, one_more_deleted old.list old.sealed key has.0 old.active)
one_more_live (Done false) (Delete key) old new has = not_more_live old new has
one_more_live NamesFull w old new has = not_more_live old new has
one_more_live Full w old new has = not_more_live old new has
