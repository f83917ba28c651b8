-- The file of a log stays out as long as its device does not come home: files of other names are made, come home and are removed.
use Rattle.std.proofs.Common.{◌≡◌, ◌<◌, ◌∙◌, ◌-◌, ℕ, List, [], ◌∷◌, refl, sym, ap, subst, inl, inr, arith}
use Rattle.std.proofs.lemmas.Bool.{cases_Bool, false≢true}
use Rattle.tc_store.specs.declared.file_name.FileName.{FileName}
use Rattle.tc_store.specs.declared.file_name.FileName.TheVariants.{Log}
use Rattle.tc_store.specs.Disk.{Disk, Entry, content_of, is_out, is_still, none, out, put, same_name}
use Rattle.tc_store.specs.DiskFile.{DiskFile}
use Rattle.tc_store.specs.Moments.{IfTold}
use Rattle.tc_store.specs.StoreCalls.{comes_home, frozen_entry, makes, removes, RemovesSome}
use Rattle.tc_store.proofs.NameLemmas.{put_there, same_name-is}
use Rattle.tc_log.specs.Appending.{appended}
use Rattle.tc_part_model.specs.PartState.{IsTold, Told}
use Rattle.tc_part.specs.FilesOut.{LogIsOut, TellsLogs}

-- ---- from one moment of a store to a later one

-- the file of this name is out still; what tells nothing goes on so
abbrev pub StaysOut : FileName → List Disk → List Disk → Type 0
StaysOut one [] new = new ≡ []
StaysOut one (disk ∷ past) new = disk one ≡ out → IfTold new (λ now. now one ≡ out)

pub stays_out-then : (one : FileName) (first second third : List Disk) → StaysOut one first second → StaysOut one second third → StaysOut one first third
stays_out-then one [] second third a b = subst (λ s. StaysOut one s third) a b
stays_out-then one (disk ∷ past) [] third a b = λ is. subst (λ ds. IfTold ds (λ now. now one ≡ out)) (sym b) tt
stays_out-then one (disk ∷ past) (now ∷ past') third a b = λ is. b (a is)

put_apart : (name one : FileName) (entry : Entry) (disk : Disk) → (name ≡ one → ⊥) → disk one ≡ out → put name entry disk one ≡ out
put_apart name one entry disk apart is = elim (cases_Bool (same_name name one)) [
  | inl same ↦ absurd (apart (same_name-is name one same))
  | inr other ↦ rw other is
]

pub other_made : (name one : FileName) (disks : List Disk) → (name ≡ one → ⊥) → StaysOut one disks (makes name disks)
other_made name one [] apart = refl
other_made name one (disk ∷ past) apart = put_apart name one out disk apart

pub other_home : (name one : FileName) (entry : DiskFile → Entry) (device : List DiskFile) (disks : List Disk) → (name ≡ one → ⊥) → StaysOut one disks (comes_home name entry device disks)
other_home name one entry [] [] apart = refl
other_home name one entry [] (disk ∷ past) apart = λ is. is
other_home name one entry (f ∷ more) [] apart = refl
other_home name one entry (f ∷ more) (disk ∷ past) apart = elim (cases_Bool (is_out (disk name))) [
  | inl is ↦ rw is (put_apart name one (entry f) disk apart)
  | inr not_out ↦ rw not_out λ is. is
]

-- what is out is not still, so that it is not what is removed
pub any_removed : (name one : FileName) (disks : List Disk) → StaysOut one disks (removes name disks)
any_removed name one [] = refl
any_removed name one (disk ∷ past) = elim (cases_Bool (is_still (disk name))) [
  | inl still ↦ rw still λ is. put_apart name one (none (content_of (disk name))) disk (λ same. false≢true (sym (ap is_still (ap disk same ∙ is)) ∙ still)) is
  | inr not_still ↦ rw not_still λ is. is
]

pub some_removed : (names : List FileName) (one : FileName) (old new : List Disk) → RemovesSome names old new → StaysOut one old new
some_removed [] one [] new is = is
some_removed [] one (disk ∷ past) new is = λ there. subst (λ ds. IfTold ds (λ now. now one ≡ out)) (sym is) there
some_removed (name ∷ names) one old new (inl stays) = some_removed names one old new stays
some_removed (name ∷ names) one old new (inr goes) = stays_out-then one old (removes name old) new (any_removed name one old) (some_removed names one (removes name old) new goes)

-- what a flush made is listed, and the log before is removed
pub listed_log : (g : ℕ) (name : FileName) (device covered : List DiskFile) (disks : List Disk) → 0 < g → (name ≡ Log g → ⊥) → StaysOut (Log g) disks (removes (Log (g - 1)) (comes_home (Log (g - 1)) frozen_entry covered (comes_home name frozen_entry device disks)))
listed_log g name device covered disks some apart =
    let once = comes_home name frozen_entry device disks in
    let twice = comes_home (Log (g - 1)) frozen_entry covered once in
    stays_out-then (Log g) disks once (removes (Log (g - 1)) twice) (other_home name (Log g) frozen_entry device disks apart)
    (stays_out-then (Log g) once twice (removes (Log (g - 1)) twice) (other_home (Log (g - 1)) (Log g) frozen_entry covered once before) (any_removed (Log (g - 1)) (Log g) twice))
  where
    before : Log (g - 1) ≡ Log g → ⊥
    before same = let n : g - 1 ≡ g = cc in omega (arith, n, some)

-- what a merge made is listed, and files of its run are removed
pub replaced_log : (g : ℕ) (name : FileName) (device : List DiskFile) (names : List FileName) (disks new : List Disk) → (name ≡ Log g → ⊥) → RemovesSome names (comes_home name frozen_entry device disks) new → StaysOut (Log g) disks new
replaced_log g name device names disks new apart removed =
    let once = comes_home name frozen_entry device disks in
    stays_out-then (Log g) disks once new (other_home name (Log g) frozen_entry device disks apart) (some_removed names (Log g) once new removed)

-- ---- of a part

pub log_out_on : (t : Told) (new : List Disk) → StaysOut (Log t.generation) t.disks new → LogIsOut t → LogIsOut (record t { disks = new })
log_out_on t new stays is = at t.disks new stays is
  where
    at : (old now : List Disk) → StaysOut (Log t.generation) old now → IfTold old (λ disk. (disk (Log t.generation) ≡ out) × IsTold t.log) → IfTold now (λ disk. (disk (Log t.generation) ≡ out) × IsTold t.log)
    at [] now same has = subst (λ ds. IfTold ds (λ disk. (disk (Log t.generation) ≡ out) × IsTold t.log)) (sym same) tt
    at (disk ∷ past) [] stay has = tt
    at (disk ∷ past) (now ∷ past') stay has = (stay has.0, has.1)

-- the next log is made, and its device tells
pub next_log_out : (name : FileName) (log : List DiskFile) (disks : List Disk) → IfTold disks (λ disk. IsTold log) → IfTold (makes name disks) (λ disk. (disk name ≡ out) × IsTold log)
next_log_out name log [] tells = tt
next_log_out name log (disk ∷ past) tells = (put_there name out disk, tells)

-- the device of the log goes on to tell
pub log_grows : (t : Told) (log : List DiskFile) → (IsTold t.log → IsTold log) → LogIsOut t → LogIsOut (record t { log = log })
log_grows t log goes is = at t.disks is
  where
    at : (disks : List Disk) → IfTold disks (λ disk. (disk (Log t.generation) ≡ out) × IsTold t.log) → IfTold disks (λ disk. (disk (Log t.generation) ≡ out) × IsTold log)
    at [] has = tt
    at (disk ∷ past) has = (has.0, goes has.1)

pub appended_tells : (gate : ℕ) (bytes : List ℕ) (old new : List DiskFile) → new ≡ appended gate bytes old → IsTold old → IsTold new
appended_tells gate bytes [] new is tells = absurd tells
appended_tells gate bytes (f ∷ past) new is tells = subst (λ (fs : List DiskFile). IsTold fs) (sym is) tt

-- the devices of both logs tell still, where that of the active log does
pub logs_grow : (t : Told) (log : List DiskFile) → (log ≡ [] → t.log ≡ []) → TellsLogs t → TellsLogs (record t { log = log })
logs_grow t log so tells = record { active = at t.disks tells.active; sealed = tells.sealed }
  where
    on : (old : List DiskFile) (new : List DiskFile) → (new ≡ [] → old ≡ []) → IsTold old → IsTold new
    on old [] from told = subst (λ (fs : List DiskFile). IsTold fs) (from refl) told
    on old (f ∷ past) from told = tt

    at : (disks : List Disk) → IfTold disks (λ disk. IsTold t.log) → IfTold disks (λ disk. IsTold log)
    at [] told = tt
    at (disk ∷ past) told = on t.log log so told
