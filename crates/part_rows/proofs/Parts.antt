-- What the calls of a part leave of what holds of it at a desk.
use Rattle.std.proofs.Common.{◌≡◌, ◌∙◌, ◌+◌, ℕ, Bool, Result, Ok, Err, List, Option, Some, true, false, None, ap, refl, sym, subst}
use Rattle.std.specs.Prelude.{IfErr, IfOk, OnOk, OnErr, is_some}
use Rattle.std.specs.Result.{IsOk}
use Rattle.std.proofs.lemmas.Bool.{false≢true}
use Rattle.tc_log.specs.declared.write.Write.{Write}
use Rattle.tc_log.specs.declared.write.Write.TheVariants.{Upsert, Delete}
use Rattle.tc_part.specs.declared.staging.Staged.{Staged}
use Rattle.tc_part.specs.declared.staging.Staged.TheVariants.{Done, NamesFull, Full}
use Rattle.tc_part.specs.declared.fault.PartFault.{PartFault}
use Rattle.tc_part.specs.Stages.{HasStaged}
use Rattle.part_rows.specs.Standing.{MemPart, Means, IsAtDesk}
use Rattle.part_rows.specs.Waiting.{IsShortWrite, AreWaiting}
use Rattle.part_rows.proofs.Writes.{waiting_more, waiting_less}

-- no job went out or came back, nor did the reader's watch
pub record HasSameJobs (old new : MemPart) : Type 0 where
  pub flushing : new.flushing ≡ old.flushing
  pub merging : new.merging ≡ old.merging
  pub reader : new.reader ≡ old.reader

-- it goes on, and so many writes wait
pub record GoesOn (old new : MemPart) (stands : Bool) (waiting : ℕ) : Type 0 where
  pub jobs : HasSameJobs old new
  pub means : stands ≡ true → Means new
  pub waits : AreWaiting new.staged waiting

-- it has failed
pub record Fails (old new : MemPart) : Type 0 where
  pub jobs : HasSameJobs old new
  pub failed : new.failed ≡ true

pub goes_on : (old new : MemPart) (n m : ℕ) (stands : Bool) → IsAtDesk old n stands → GoesOn old new stands m → IsAtDesk new m stands
goes_on old new n m stands is on = record { no_flush = on.jobs.flushing ∙ is.no_flush; no_merge = on.jobs.merging ∙ is.no_merge; reader = ap is_some on.jobs.reader ∙ is.reader; means = λ standing sound. on.means standing; staged = λ sound. on.waits }

pub fails : (old new : MemPart) (n m : ℕ) (stands : Bool) → IsAtDesk old n stands → Fails old new → IsAtDesk new m stands
fails old new n m stands is ended = record {
  no_flush = ended.jobs.flushing ∙ is.no_flush;
  no_merge = ended.jobs.merging ∙ is.no_merge;
  reader = ap is_some ended.jobs.reader ∙ is.reader;
  means = λ standing sound. absurd (false≢true (sym sound ∙ ended.failed));
  staged = λ sound. absurd (false≢true (sym sound ∙ ended.failed));
}

-- a call, of which either end leaves it at the desk
pub at_desk : {X E : Type 0} (r : Result X E) (old new : MemPart) (n m : ℕ) (stands : Bool) → IsAtDesk old n stands → OnOk r (GoesOn old new stands m) → OnErr r (Fails old new) → IsAtDesk new m stands
at_desk (Ok x) old new n m stands is on ended = goes_on old new n m stands is on
at_desk (Err e) old new n m stands is on ended = fails old new n m stands is ended

pub on_ok : {X E : Type 0} (r : Result X E) (A B : Type 0) → OnOk r A → (A → B) → OnOk r B
on_ok (Ok x) A B ok go = go ok
on_ok (Err e) A B ok go = tt

pub on_err : {X E : Type 0} (r : Result X E) (A B : Type 0) → OnErr r A → (A → B) → OnErr r B
on_err (Ok x) A B err go = tt
on_err (Err e) A B err go = go err

pub same_by : (old new x : MemPart) → new ≡ x → x.flushing ≡ old.flushing → x.merging ≡ old.merging → x.reader ≡ old.reader → HasSameJobs old new
same_by old new x is flushing merging reader = record { flushing = ap (λ (p : MemPart). p.flushing) is ∙ flushing; merging = ap (λ (p : MemPart). p.merging) is ∙ merging; reader = ap (λ (p : MemPart). p.reader) is ∙ reader }

pub fails_by : (old new x : MemPart) → x.flushing ≡ old.flushing → x.merging ≡ old.merging → x.reader ≡ old.reader → x.failed ≡ true → new ≡ x → Fails old new
fails_by old new x flushing merging reader failed is = record { jobs = same_by old new x is flushing merging reader; failed = ap (λ (p : MemPart). p.failed) is ∙ failed }

-- ---- a write that is staged or refused

staged_jobs : (answer : Staged) (write : Write) (old new : MemPart) → HasStaged answer write old new → HasSameJobs old new
staged_jobs (Done was_live) (Upsert key bytes) old new has = same_by old new _ has.1 refl refl refl
staged_jobs (Done true) (Delete key) old new has = same_by old new _ has.1 refl refl refl
staged_jobs (Done false) (Delete key) old new has = same_by old new old has refl refl refl
staged_jobs NamesFull write old new has = same_by old new old has refl refl refl
staged_jobs Full write old new has = same_by old new old has refl refl refl

still_waits : (old new : MemPart) (n : ℕ) → new ≡ old → AreWaiting old.staged n → AreWaiting new.staged (n + 1)
still_waits old new n same waits = subst (λ (p : MemPart). AreWaiting p.staged (n + 1)) (sym same) (waiting_less old.staged n waits)

staged_waits : (answer : Staged) (write : Write) (old new : MemPart) (n : ℕ) → HasStaged answer write old new → IsShortWrite write → AreWaiting old.staged n → AreWaiting new.staged (n + 1)
staged_waits (Done was_live) (Upsert key bytes) old new n has short waits =
    subst (λ (p : MemPart). AreWaiting p.staged (n + 1)) (sym has.1) (waiting_more old.staged (Upsert key bytes) n waits short)
staged_waits (Done true) (Delete key) old new n has short waits =
    subst (λ (p : MemPart). AreWaiting p.staged (n + 1)) (sym has.1) (waiting_more old.staged (Delete key) n waits short)
staged_waits (Done false) (Delete key) old new n has short waits = still_waits old new n has waits
staged_waits NamesFull write old new n has short waits = still_waits old new n has waits
staged_waits Full write old new n has short waits = still_waits old new n has waits

pub staged_goes_on : (r : Result Staged PartFault) (write : Write) (old new : MemPart) (n : ℕ) (stands : Bool) → IsShortWrite write → AreWaiting old.staged n → IfOk r (λ answer. HasStaged answer write old new) → OnOk r (stands ≡ true → Means new) → OnOk r (GoesOn old new stands (n + 1))
staged_goes_on (Ok answer) write old new n stands short waits has means = record { jobs = staged_jobs answer write old new has; means = means; waits = staged_waits answer write old new n has short waits }
staged_goes_on (Err e) write old new n stands short waits has means = tt

-- ---- what several clauses of a call say together

pub on_ok_where : {X E : Type 0} (r : Result X E) (S A : Type 0) → (S → OnOk r A) → OnOk r (S → A)
on_ok_where (Ok x) S A go = go
on_ok_where (Err e) S A go = tt

pub on_ok_both : {X E : Type 0} (r : Result X E) (A B C : Type 0) → OnOk r A → OnOk r B → (A → B → C) → OnOk r C
on_ok_both (Ok x) A B C a b go = go a b
on_ok_both (Err e) A B C a b go = tt

-- the same writes wait
pub same_wait : (old new x : MemPart) (n : ℕ) → new ≡ x → x.staged ≡ old.staged → AreWaiting old.staged n → AreWaiting new.staged n
same_wait old new x n is same waits = subst (λ (ws : List Write). AreWaiting ws n) (sym (ap (λ (p : MemPart). p.staged) is ∙ same)) waits

-- no table is sealed, where the answer is that none is
pub none_is : {T : Type 0} (sealed : Option T) (has : Bool) → has ≡ is_some sealed → has ≡ false → sealed ≡ None
none_is None has answer is = refl
none_is (Some table) has answer is = absurd (false≢true (sym is ∙ answer))

-- Where a job has failed the call does not end well. Otherwise a clause that stands where it was sound says what comes.
pub ends_well : {X Y E F : Type 0} (r : Result X E) (o : Result Y F) (S A G : Type 0) (Q : F → Type 0) → S → IfErr o Q → ((f : F) → Q f → OnOk r ⊥) → OnOk r (S → A) → (IsOk o → A → G) → OnOk r G
ends_well (Ok x) (Ok y) S A G Q s unmade never a go = go refl (a s)
ends_well (Ok x) (Err f) S A G Q s unmade never a go = absurd (never f unmade)
ends_well (Err e) o S A G Q s unmade never a go = tt
