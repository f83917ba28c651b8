-- Which files are out still once devices come home, files are made and files are removed.
use Rattle.std.proofs.Common.{◌≡◌, ◌∙◌, ◌-◌, true, false, List, [], ◌∷◌, Option, Some, None, is_some, option_map, refl, sym, ap, subst, inl, inr}
use Rattle.std.specs.Prelude.{◌⊎◌, IfSome, if◌then◌else◌}
use Rattle.std.proofs.lemmas.Bool.{cases_Bool, false≢true, true≢false}
use Rattle.tc_store.specs.declared.file_name.FileName.{FileName}
use Rattle.tc_store.specs.declared.file_name.FileName.TheVariants.{Log}
use Rattle.tc_store.specs.Disk.{Disk, Entry, content_of, home, is_out, is_still, none, out, put, removed_of, same_name}
use Rattle.tc_store.specs.DiskFile.{DiskFile, empty_file}
use Rattle.tc_store.specs.Moments.{IfTold}
use Rattle.tc_store.specs.StoreCalls.{FailsMaking, comes_home, frozen_entry, makes, removes, returns_as, RemovesSome}
use Rattle.tc_store.proofs.NameLemmas.{same_name-is, same_name-refl}
use Rattle.tc_jobs.specs.Listing.{FailsRemoving}
use Rattle.tc_jobs.specs.ReadBack.{ComesHome}
use Rattle.tc_part_model.specs.PartState.{IsTold, Told}
use Rattle.tc_part.specs.Closing.{brought_home}
use Rattle.tc_part.specs.FilesOut.{IsJobOf, IsLogOf, IsOfMergeOut, OnlyDevicesOut, OnlyOut, TellsLogs}

-- ---- from one moment of a store to a later one

-- each file that is out now was out before, and none of these is; what tells nothing goes on so
abbrev pub StayOutBut : (FileName → Type 0) → List Disk → List Disk → Type 0
StayOutBut Back [] new = new ≡ []
StayOutBut Back (disk ∷ past) new = IfTold new (λ now. (name : FileName) → is_out (now name) ≡ true → (is_out (disk name) ≡ true) × (Back name → ⊥))

abbrev pub Nobody : FileName → Type 0
Nobody name = ⊥

pub stay_out-same : (disks : List Disk) → StayOutBut Nobody disks disks
stay_out-same [] = refl
stay_out-same (disk ∷ past) = λ name is. (is, λ no. no)

pub stay_out-then : (P Q : FileName → Type 0) (first second third : List Disk) → StayOutBut P first second → StayOutBut Q second third → StayOutBut (λ name. P name ⊎ Q name) first third
stay_out-then P Q [] second third one two = subst (λ s. StayOutBut Q s third) one two
stay_out-then P Q (disk ∷ past) [] third one two = subst (λ s. StayOutBut (λ name. P name ⊎ Q name) (disk ∷ past) s) (sym two) tt
stay_out-then P Q (disk ∷ past) (now ∷ past') [] one two = tt
stay_out-then P Q (disk ∷ past) (now ∷ past') (last ∷ past'') one two = λ name is.
    let later = two name is in
    let before = one name later.0 in
    (before.0, λ back. elim back [ inl p ↦ before.1 p | inr q ↦ later.1 q ])

pub stay_out-less : (P Q : FileName → Type 0) (old new : List Disk) → ((name : FileName) → Q name → P name) → StayOutBut P old new → StayOutBut Q old new
stay_out-less P Q [] new so stay = stay
stay_out-less P Q (disk ∷ past) [] so stay = tt
stay_out-less P Q (disk ∷ past) (now ∷ past') so stay = λ name is. let before = stay name is in (before.0, λ q. before.1 (so name q))

-- ---- calls of a store

-- where the name is no longer out
put_in : (one : FileName) (entry : Entry) (disk : Disk) → is_out entry ≡ false → (name : FileName) → is_out (put one entry disk name) ≡ true → (is_out (disk name) ≡ true) × (name ≡ one → ⊥)
put_in one entry disk is_in name is = elim (cases_Bool (same_name one name)) [
  | inl same ↦ absurd (false≢true (sym is_in ∙ subst (λ b. is_out (if b then entry else disk name) ≡ true) same is))
  | inr apart ↦ (subst (λ b. is_out (if b then entry else disk name) ≡ true) apart is, λ at. false≢true (sym apart ∙ ap (same_name one) at ∙ same_name-refl one))
]

returned_in : (one : FileName) (entry : Entry) (disk : Disk) (past : List Disk) → is_out entry ≡ false → StayOutBut (λ name. name ≡ one) (disk ∷ past) (returns_as one entry (disk ∷ past))
returned_in one entry disk past is_in = elim (cases_Bool (is_out (disk one))) [
  | inl is ↦ rw is (put_in one entry disk is_in)
  | inr not_out ↦ rw not_out λ name is. (is, λ at. false≢true (sym not_out ∙ sym (ap (λ n. is_out (disk n)) at) ∙ is))
]

-- a device comes home that tells its file, where the store does
pub home_in : (one : FileName) (entry : DiskFile → Entry) → ((f : DiskFile) → is_out (entry f) ≡ false) → (device : List DiskFile) (disks : List Disk) → IfTold disks (λ disk. IsTold device) → StayOutBut (λ name. name ≡ one) disks (comes_home one entry device disks)
home_in one entry is_in [] [] tells = refl
home_in one entry is_in (f ∷ past) [] tells = refl
home_in one entry is_in [] (disk ∷ before) tells = absurd tells
home_in one entry is_in (f ∷ past) (disk ∷ before) tells = returned_in one (entry f) disk before (is_in f)

pub either_in : (one : FileName) (device : List DiskFile) (old new : List Disk) → IfTold old (λ disk. IsTold device) → ComesHome one device old new → StayOutBut (λ name. name ≡ one) old new
either_in one device old new tells (inl still) = subst (StayOutBut (λ name. name ≡ one) old) (sym still) (home_in one frozen_entry (λ f. refl) device old tells)
either_in one device old new tells (inr at_home) = subst (StayOutBut (λ name. name ≡ one) old) (sym at_home) (home_in one (λ f. home f) (λ f. refl) device old tells)

pub removed_in : (one : FileName) (disks : List Disk) → StayOutBut Nobody disks (removes one disks)
removed_in one [] = refl
removed_in one (disk ∷ past) = elim (cases_Bool (is_still (disk one))) [
  | inl is ↦ rw is λ name is_out_now. ((put_in one (none (content_of (disk one))) disk refl name is_out_now).0, λ no. no)
  | inr not_still ↦ rw not_still λ name is_out_now. (is_out_now, λ no. no)
]

pub some_removed_in : (names : List FileName) (old new : List Disk) → RemovesSome names old new → StayOutBut Nobody old new
some_removed_in [] old new is = subst (StayOutBut Nobody old) (sym is) (stay_out-same old)
some_removed_in (name ∷ names) old new (inl stays) = some_removed_in names old new stays
some_removed_in (name ∷ names) old new (inr goes) =
    stay_out-less (λ n. Nobody n ⊎ Nobody n) Nobody old new (λ n no. inl no) (stay_out-then Nobody Nobody old (removes name old) new (removed_in name old) (some_removed_in names (removes name old) new goes))

-- a file is removed whose device came home
pub gone_in : (one : FileName) (device : List DiskFile) (disks : List Disk) → IfTold disks (λ disk. IsTold device) → StayOutBut (λ name. name ≡ one) disks (removes one (comes_home one frozen_entry device disks))
gone_in one device disks tells =
    let back = comes_home one frozen_entry device disks in
    stay_out-less (λ name. (name ≡ one) ⊎ Nobody name) (λ name. name ≡ one) disks (removes one back) (λ name at. inl at)
    (stay_out-then (λ name. name ≡ one) Nobody disks back (removes one back) (home_in one frozen_entry (λ f. refl) device disks tells) (removed_in one back))

pub fails_removing_in : (one : FileName) (device : List DiskFile) (old new : List Disk) → IfTold old (λ disk. IsTold device) → FailsRemoving one device old new → StayOutBut (λ name. name ≡ one) old new
fails_removing_in one device old new tells (inl at_home) = subst (StayOutBut (λ name. name ≡ one) old) (sym at_home) (home_in one (λ f. home f) (λ f. refl) device old tells)
fails_removing_in one device old new tells (inr gone) = subst (StayOutBut (λ name. name ≡ one) old) (sym gone) (gone_in one device old tells)

pub not_made_in : (one : FileName) (old new : List Disk) → FailsMaking one old new → StayOutBut Nobody old new
not_made_in one old new (inl same) = subst (StayOutBut Nobody old) (sym same) (stay_out-same old)
not_made_in one [] new (inr empty) = empty
not_made_in one (disk ∷ past) new (inr empty) =
    subst (StayOutBut Nobody (disk ∷ past)) (sym empty) λ name is. ((put_in one (home (empty_file (removed_of (disk one)))) disk refl name is).0, λ no. no)

-- a file that was made comes home again
pub made_in : (one : FileName) (device : List DiskFile) (disks : List Disk) → IfTold disks (λ disk. IsTold device) → StayOutBut Nobody disks (comes_home one (λ f. home f) device (makes one disks))
made_in one device [] tells = home_in one (λ f. home f) (λ f. refl) device [] tells
made_in one device (disk ∷ past) tells = at (comes_home one (λ f. home f) device (makes one (disk ∷ past))) (home_in one (λ f. home f) (λ f. refl) device (makes one (disk ∷ past)) tells)
  where
    at : (new : List Disk) → StayOutBut (λ name. name ≡ one) (makes one (disk ∷ past)) new → StayOutBut Nobody (disk ∷ past) new
    at [] stay = tt
    at (now ∷ past') stay = λ name is.
        let before = stay name is in elim (cases_Bool (same_name one name)) [
          | inl same ↦ absurd (before.1 (sym (same_name-is one name same)))
          | inr apart ↦ (subst (λ b. is_out (if b then out else disk name) ≡ true) apart before.0, λ no. no)
        ]

-- ---- what is told of it

-- whether a store tells stays
pub still_told : (Back : FileName → Type 0) (P : Type 0) (old new : List Disk) → StayOutBut Back old new → IfTold old (λ disk. P) → IfTold new (λ disk. P)
still_told Back P [] new same told = subst (λ ds. IfTold ds (λ disk. P)) (sym same) tt
still_told Back P (disk ∷ past) [] same told = tt
still_told Back P (disk ∷ past) (now ∷ past') same told = told

pub made_told : (one : FileName) (P : Type 0) (disks : List Disk) → IfTold disks (λ disk. P) → IfTold (makes one disks) (λ disk. P)
made_told one P [] told = tt
made_told one P (disk ∷ past) told = told

-- the logs go on to tell
pub tells_on : (Back : FileName → Type 0) (t : Told) (new : List Disk) → StayOutBut Back t.disks new → TellsLogs t → TellsLogs (record t { disks = new })
tells_on Back t new stay tells = record {
  active = still_told Back (IsTold t.log) t.disks new stay tells.active;
  sealed = still_told Back (IfSome t.sealed_log (λ moments. IsTold moments)) t.disks new stay tells.sealed;
}

-- ---- of a part

-- the name is that of a device
abbrev pub IsDeviceOf : Told → FileName → Type 0
IsDeviceOf t name = IsLogOf t name ⊎ IsJobOf t name

pub out_still : (Back : FileName → Type 0) (t u : Told) → StayOutBut Back t.disks u.disks → ((name : FileName) → (Back name → ⊥) → IsDeviceOf t name → IsDeviceOf u name) → OnlyDevicesOut t → OnlyDevicesOut u
out_still Back t u stay goes only = at t.disks u.disks stay only
  where
    at : (old new : List Disk) → StayOutBut Back old new → IfTold old (λ disk. (name : FileName) → is_out (disk name) ≡ true → IsDeviceOf t name) → IfTold new (λ disk. (name : FileName) → is_out (disk name) ≡ true → IsDeviceOf u name)
    at [] new same has = subst (λ ds. IfTold ds (λ disk. (name : FileName) → is_out (disk name) ≡ true → IsDeviceOf u name)) (sym same) tt
    at (disk ∷ past) [] same has = tt
    at (disk ∷ past) (now ∷ past') same has = λ name is. let before = same name is in goes name before.1 (has name before.0)

-- with the same devices
pub out_on : (t : Told) (new : List Disk) → StayOutBut Nobody t.disks new → OnlyDevicesOut t → OnlyDevicesOut (record t { disks = new })
out_on t new stay = out_still Nobody t (record t { disks = new }) stay (λ name no is. is)

pub out_made : (one : FileName) (t u : Told) → u.disks ≡ makes one t.disks → IsDeviceOf u one → ((name : FileName) → IsDeviceOf t name → IsDeviceOf u name) → OnlyDevicesOut t → OnlyDevicesOut u
out_made one t u is new goes only = subst (λ ds. IfTold ds (λ disk. (name : FileName) → is_out (disk name) ≡ true → IsDeviceOf u name)) (sym is) (at t.disks only)
  where
    at : (old : List Disk) → IfTold old (λ disk. (name : FileName) → is_out (disk name) ≡ true → IsDeviceOf t name) → IfTold (makes one old) (λ disk. (name : FileName) → is_out (disk name) ≡ true → IsDeviceOf u name)
    at [] has = tt
    at (disk ∷ past) has = λ name is. elim (cases_Bool (same_name one name)) [
      | inl same ↦ subst (IsDeviceOf u) (same_name-is one name same) new
      | inr apart ↦ goes name (has name (subst (λ b. is_out (if b then out else disk name) ≡ true) apart is))
    ]

-- where no device is left, no file is out
pub none_left : (Back Out : FileName → Type 0) (old new : List Disk) → StayOutBut Back old new → ((name : FileName) → (Back name → ⊥) → Out name → ⊥) → IfTold old (λ disk. (name : FileName) → is_out (disk name) ≡ true → Out name) → IfTold new (λ disk. (n : FileName) → is_out (disk n) ≡ false)
none_left Back Out [] new same never only = subst (λ ds. IfTold ds (λ disk. (n : FileName) → is_out (disk n) ≡ false)) (sym same) tt
none_left Back Out (disk ∷ past) [] same never only = tt
none_left Back Out (disk ∷ past) (now ∷ past') same never only = λ name. elim (cases_Bool (is_out (now name))) [
  | inl is ↦ let before = same name is in absurd (never name before.1 (only name before.0))
  | inr is_in ↦ is_in
]

-- the only one comes home
pub one_in : (one : FileName) (device : List DiskFile) (disks : List Disk) → IfTold disks (λ disk. IsTold device) → IfTold disks (OnlyOut one) → IfTold (comes_home one (λ f. home f) device disks) (λ disk. (n : FileName) → is_out (disk n) ≡ false)
one_in one device disks tells only =
    none_left (λ name. name ≡ one) (λ name. name ≡ one) disks (comes_home one (λ f. home f) device disks) (home_in one (λ f. home f) (λ f. refl) device disks tells) (λ name apart is. apart is) only

-- ---- a part is closed

module _ (t : Told) (no_flush : t.flushing ≡ false) (no_merge : t.merging ≡ None) (tells : TellsLogs t) (only : OnlyDevicesOut t) where
  -- the device of the active log is at home
  abbrev once : List Disk
  once = comes_home (Log t.generation) (λ f. home f) t.log t.disks

  active_in : StayOutBut (λ name. name ≡ Log t.generation) t.disks once
  active_in = home_in (Log t.generation) (λ f. home f) (λ f. refl) t.log t.disks tells.active

  no_job : (name : FileName) → IsJobOf t name → ⊥
  no_job name (inl flushed) = true≢false (sym flushed.0 ∙ no_flush)
  no_job name (inr merged) = subst (λ o. IsOfMergeOut o t.components name) no_merge merged

  one_closed : t.sealed_log ≡ None → IfTold once (λ disk. (n : FileName) → is_out (disk n) ≡ false)
  one_closed is = none_left (λ name. name ≡ Log t.generation) (IsDeviceOf t) t.disks once active_in never only
    where
      never : (name : FileName) → (name ≡ Log t.generation → ⊥) → IsDeviceOf t name → ⊥
      never name apart (inl (inl active)) = apart active
      never name apart (inl (inr sealed)) = true≢false (sym sealed.0 ∙ ap (λ o. is_some o) is)
      never name apart (inr job) = no_job name job

  both_closed : (covered : List DiskFile) → IfTold t.disks (λ disk. IsTold covered) → IfTold (comes_home (Log (t.generation - 1)) (λ f. home f) covered once) (λ disk. (n : FileName) → is_out (disk n) ≡ false)
  both_closed covered sealed_tells =
      none_left (λ name. (name ≡ Log t.generation) ⊎ (name ≡ Log (t.generation - 1))) (IsDeviceOf t) t.disks (comes_home (Log (t.generation - 1)) (λ f. home f) covered once)
      (stay_out-then (λ name. name ≡ Log t.generation) (λ name. name ≡ Log (t.generation - 1)) t.disks once (comes_home (Log (t.generation - 1)) (λ f. home f) covered once) active_in
      (home_in (Log (t.generation - 1)) (λ f. home f) (λ f. refl) covered once (still_told (λ name. name ≡ Log t.generation) (IsTold covered) t.disks once active_in sealed_tells))) never only
    where
      never : (name : FileName) → ((name ≡ Log t.generation) ⊎ (name ≡ Log (t.generation - 1)) → ⊥) → IsDeviceOf t name → ⊥
      never name apart (inl (inl active)) = apart (inl active)
      never name apart (inl (inr sealed)) = apart (inr sealed.1)
      never name apart (inr job) = no_job name job

  pub closed_in : IfTold (brought_home (Log t.generation) t.log (option_map (λ moments. (Log (t.generation - 1), moments)) t.sealed_log) t.disks) (λ disk. (n : FileName) → is_out (disk n) ≡ false)
  closed_in = at t.sealed_log refl tells.sealed
    where
      at : (o : Option (List DiskFile)) → t.sealed_log ≡ o → IfTold t.disks (λ disk. IfSome o (λ moments. IsTold moments))
          → IfTold (brought_home (Log t.generation) t.log (option_map (λ moments. (Log (t.generation - 1), moments)) o) t.disks) (λ disk. (n : FileName) → is_out (disk n) ≡ false)
      at None is sealed_tells = one_closed is
      at (Some covered) is sealed_tells = both_closed covered sealed_tells
