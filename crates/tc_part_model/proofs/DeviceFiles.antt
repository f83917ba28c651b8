-- The files of a part, where its store or one of its devices changes.
use Rattle.std.proofs.Common.{◌≡◌, ◌≢◌, ◌+◌, ℕ, Bool, List, [], ◌∷◌, refl, sym, ap, ◌∙◌, subst, inl, inr, Option, Some, None, false, true}
use Rattle.std.specs.Prelude.{if◌then◌else◌, IfSome}
use Rattle.std.proofs.Math.Path.{fun_ext}
use Rattle.std.proofs.lemmas.Bool.{cases_Bool, true≢false}
use Rattle.tc_store.specs.declared.file_name.FileName.{FileName}
use Rattle.tc_store.specs.Disk.{Disk, Entry, IsThere, none, home, still, out, put, same_name}
use Rattle.tc_store.specs.DiskFile.{DiskFile, empty_file}
use Rattle.tc_store.specs.Moments.{IfTold, LeavesAt}
use Rattle.tc_store.specs.StoreCalls.{comes_home}
use Rattle.tc_store.proofs.NameLemmas.{same_name-refl, same_name-is}
use Rattle.tc_machine.specs.State.{Flushing, Merging}
use Rattle.tc_machine.specs.Steps.{IsShutOrHas}
use Rattle.tc_machine.proofs.FilesMade.{empty_image}
use Rattle.tc_part_model.specs.PartView.{PartView, generation_of}
use Rattle.tc_lsm_model.specs.Lists.{last_of}
use Rattle.tc_machine.proofs.Targets.{log_generation}
use Rattle.tc_part_model.specs.Leaving.{with_next_log}
use Rattle.tc_part_model.specs.PartFiles.{seen_entry, active_name, sealed_name, device_at, files_at, no_job, FlushLeaves, MergeLeaves, JobsLeave, IsSealedFile, LogsTell}
use Rattle.tc_part_model.specs.PartState.{IsTold}

pub not_same : (a b : FileName) → same_name a b ≡ false → same_name b a ≡ false
not_same a b differ = elim (cases_Bool (same_name b a)) [
  | inl same ↦ absurd (true≢false (sym (ap (λ m. same_name a m) (same_name-is b a same) ∙ same_name-refl a) ∙ differ))
  | inr apart ↦ apart
]

pub there_seen : (f : DiskFile) (e : Entry) → IsThere e → IsThere (seen_entry f e)
there_seen f (none before) there = there
there_seen f (home g) there = tt
there_seen f (still bytes) there = tt
there_seen f out there = tt

-- ---- the store changes

-- what is seen of another entry
pub put_seen : (p : PartView) (name : FileName) (e : Entry) (disk : Disk) (f g : DiskFile) (job : FileName → DiskFile)
    → files_at p (put name e disk) f g job ≡ put name (seen_entry (device_at p f g job name) e) (files_at p disk f g job)
put_seen p name e disk f g job = fun_ext λ n. elim (cases_Bool (same_name name n)) [
  | inl same ↦ rw same (ap (λ m. seen_entry (device_at p f g job m) e) (sym (same_name-is name n same)))
  | inr apart ↦ rw apart refl
]

-- ---- the active log

if_same : (name : FileName) (f other : DiskFile) → (if same_name name name then f else other) ≡ f
if_same name f other = rw (same_name-refl name) refl

pub active_device : (p : PartView) (f g : DiskFile) (job : FileName → DiskFile) → device_at p f g job (active_name p) ≡ f
active_device p f g job = if_same (active_name p) f (if same_name (active_name p) (sealed_name p) then g else job (active_name p))

pub seen_active : (p : PartView) (disk : Disk) (f g : DiskFile) (job : FileName → DiskFile) → disk (active_name p) ≡ out → files_at p disk f g job (active_name p) ≡ home f
seen_active p disk f g job is =
    ap (λ e. seen_entry (device_at p f g job (active_name p)) e) is ∙ ap (λ x. home x) (active_device p f g job)

-- a call of its device
pub put_active : (p : PartView) (disk : Disk) (f new g : DiskFile) (job : FileName → DiskFile) → disk (active_name p) ≡ out
    → put (active_name p) (home new) (files_at p disk f g job) ≡ files_at p disk new g job
put_active p disk f new g job is = fun_ext λ n. elim (cases_Bool (same_name (active_name p) n)) [
  | inl same ↦ rw same (subst (λ m. home new ≡ files_at p disk new g job m) (same_name-is (active_name p) n same) (sym (seen_active p disk new g job is)))
  | inr apart ↦ rw (apart, not_same (active_name p) n apart) refl
]

-- the log of the sealed table is another one
pub sealed_device : (p : PartView) → generation_of p ≢ last_of p.list + 1 → (f g : DiskFile) (job : FileName → DiskFile) → device_at p f g job (sealed_name p) ≡ g
sealed_device p later f g job = elim (cases_Bool (same_name (sealed_name p) (active_name p))) [
  | inl same ↦ absurd (later (sym (log_generation (last_of p.list + 1) (generation_of p) (same_name-is (sealed_name p) (active_name p) same))))
  | inr differ ↦ rw (differ, same_name-refl (sealed_name p)) refl
]

-- ---- jobs that have done nothing

pub empty_leaves : (P : List ℕ → Type 0) → LeavesAt (IsShutOrHas P) (empty_file None)
empty_leaves P None left = tt
empty_leaves P (Some b) (inl is) = inl (empty_image None b is)
empty_leaves P (Some b) (inr before) = absurd (cc)

pub no_job_leaves : (p : PartView) → JobsLeave p no_job
no_job_leaves p = (flush p.flush, merge p.merge)
  where
    flush : (o : Option Flushing) → FlushLeaves p o no_job
    flush None = tt
    flush (Some f) = empty_leaves _

    merge : (o : Option Merging) → MergeLeaves o no_job
    merge None = tt
    merge (Some m) = empty_leaves _

-- The jobs with nothing done in place of one. Where the file of that one is still in the store, this is not seen.
abbrev pub without_job : FileName → (FileName → DiskFile) → FileName → DiskFile
without_job name job n = if same_name name n then empty_file None else job n

pub same_without : (p : PartView) (disk : Disk) (f g : DiskFile) (name : FileName) (bytes : List ℕ) → disk name ≡ still bytes → (job : FileName → DiskFile) → files_at p disk f g (without_job name job) ≡ files_at p disk f g job
same_without p disk f g name bytes there job = fun_ext λ n. elim (cases_Bool (same_name name n)) [
  | inl same ↦ subst (λ m. files_at p disk f g (without_job name job) m ≡ files_at p disk f g job m) (same_name-is name n same) (seen (without_job name job) ∙ sym (seen job))
  | inr apart ↦ rw apart refl
]
  where
    seen : (jobs : FileName → DiskFile) → files_at p disk f g jobs name ≡ still bytes
    seen jobs = ap (seen_entry (device_at p f g jobs name)) there

pub job_empty : (P : List ℕ → Type 0) (name : FileName) (job : FileName → DiskFile) → LeavesAt (IsShutOrHas P) (without_job name job name)
job_empty P name job = rw (same_name-refl name) (empty_leaves P)

pub other_leaves : (P : List ℕ → Type 0) (name other : FileName) (job : FileName → DiskFile) → LeavesAt (IsShutOrHas P) (job other) → LeavesAt (IsShutOrHas P) (without_job name job other)
other_leaves P name other job leaves = at (same_name name other)
  where
    at : (b : Bool) → LeavesAt (IsShutOrHas P) (if b then empty_file None else job other)
    at true = empty_leaves P
    at false = leaves

-- and of those of a part whose next log is out
pub next_log_jobs : (p : PartView) (x : DiskFile) → JobsLeave p (with_next_log p x)
next_log_jobs p x = (flush p.flush, merge p.merge)
  where
    flush : (o : Option Flushing) → FlushLeaves p o (with_next_log p x)
    flush None = tt
    flush (Some f) = empty_leaves _

    merge : (o : Option Merging) → MergeLeaves o (with_next_log p x)
    merge None = tt
    merge (Some m) = empty_leaves _

-- ---- the sealed log

-- a file that it may have
pub some_sealed : (o : Option (List DiskFile)) → (g : DiskFile) × IsSealedFile o g
some_sealed None = (empty_file None, tt)
some_sealed (Some []) = (empty_file None, tt)
some_sealed (Some (now ∷ past)) = (now, refl)

-- ---- where they are told

-- a store that tells nothing goes on so, and so its logs need tell nothing
pub told_again : (X : Type 0) (disks new : List Disk) → (disks ≡ [] → new ≡ []) → IfTold disks (λ disk. X) → IfTold new (λ disk. X)
told_again X [] new untold tells = subst (λ ds. IfTold ds (λ disk. X)) (sym (untold refl)) tt
told_again X (disk ∷ before) [] untold tells = tt
told_again X (disk ∷ before) (d ∷ ds) untold tells = tells

pub logs_tell : (disks new : List Disk) (log : List DiskFile) (sealed : Option (List DiskFile)) → (disks ≡ [] → new ≡ []) → LogsTell disks log sealed → LogsTell new log sealed
logs_tell disks new log sealed untold tells = record {
  active = told_again (IsTold log) disks new untold tells.active;
  sealed = told_again (IfSome sealed (λ moments. IsTold moments)) disks new untold tells.sealed;
}

pub comes_untold : (name : FileName) (entry : DiskFile → Entry) (moments : List DiskFile) → comes_home name entry moments [] ≡ []
comes_untold name entry [] = refl
comes_untold name entry (f ∷ past) = refl
