-- A part is closed: the devices of its logs come home, and each picture of the store holds what was stored.
use Rattle.std.proofs.Common.{◌≡◌, ◌≢◌, ◌<◌, ◌+◌, ◌-◌, List, [], ◌∷◌, length, arith, Bool, refl, sym, ap, ◌∙◌, subst, inl, inr, Option, Some, None, true, is_some, if◌then◌else◌}
use Rattle.std.specs.Prelude.{IfSome, IsSome}
use Rattle.std.proofs.lemmas.Bool.{cases_Bool}
use Rattle.tc_store.specs.declared.file_name.FileName.{FileName}
use Rattle.tc_store.specs.declared.file_name.FileName.TheVariants.{Log}
use Rattle.tc_store.specs.Disk.{Disk, Entry, IsPictureOf, MayLeaveAt, Picture, bytes_at, home, none, out, put, same_name, still}
use Rattle.tc_store.specs.DiskFile.{DiskFile}
use Rattle.tc_store.specs.Images.{Image}
use Rattle.tc_store.specs.Moments.{IfTold}
use Rattle.tc_store.specs.StoreCalls.{comes_home}
use Rattle.tc_store.proofs.NameLemmas.{put_there, same_name-is}
use Rattle.tc_plain_model.specs.Writes.{Write}
use Rattle.tc_memory.specs.Table as memory
use Rattle.tc_lsm_model.specs.Lists.{last_of}
use Rattle.tc_machine.specs.State.{Sealed, sealed_logs}
use Rattle.tc_machine.proofs.Targets.{log_generation}
use Rattle.tc_machine.specs.Steps.{nothing_held}
use Rattle.tc_machine.proofs.FilesLeft.{at_name}
use Rattle.tc_machine.proofs.PictureLaws.{picture_recovers}
use Rattle.tc_part_model.specs.Leaving.{KeepsStore}
use Rattle.tc_part_model.specs.Meaning.{HasFailedAs, IsPart, KeepsSealed}
use Rattle.tc_part_model.specs.PartFiles.{AreKeptAt, IfFiles, active_name, device_at, files_at, no_job, sealed_name, seen_entry}
use Rattle.tc_part_model.specs.PartState.{AreTold, IsTold, Told}
use Rattle.tc_part_model.specs.PartView.{PartView, generation_of, state_with, store_of}
use Rattle.tc_part_model.proofs.DeviceFiles.{comes_untold, no_job_leaves, sealed_device, seen_active, some_sealed}
use Rattle.tc_part_model.proofs.ToldReturns.{returned}

-- a stop leaves nothing of a file that is out where nobody holds it
left_seen : (name : FileName) (d : DiskFile) (e : Entry) (image : Image) → MayLeaveAt (nothing_held name) e image → MayLeaveAt (nothing_held name) (seen_entry d e) image
left_seen name d (none before) image left = left
left_seen name d (home f) image left = left
left_seen name d (still bytes) image left = left
left_seen name d out image left = absurd left

module _ (p : PartView) (failed : Bool) (frame : Option (List Write)) (disk : Disk) (f g : DiskFile) (k : AreKeptAt p failed frame disk f g) where
  -- what a stop leaves of the store with the log at home, it leaves of the files of the part
  log_left : (name : FileName) (image : Image) → MayLeaveAt (nothing_held name) (put (active_name p) (home f) disk name) image → MayLeaveAt (nothing_held name) (files_at p disk f g no_job name) image
  log_left name image left = elim (cases_Bool (same_name (active_name p) name)) [
    | inl same ↦ subst (λ e. MayLeaveAt (nothing_held name) e image)
        (subst (λ n. put (active_name p) (home f) disk n ≡ files_at p disk f g no_job n) (same_name-is (active_name p) name same) (put_there (active_name p) (home f) disk ∙ sym (seen_active p disk f g no_job k.log_out))) left
    | inr apart ↦ left_seen name (device_at p f g no_job name) (disk name) image (subst (λ b. MayLeaveAt (nothing_held name) (if b then home f else disk name) image) apart left)
  ]

  pub home_picture : (picture : Picture) → IsPictureOf nothing_held (put (active_name p) (home f) disk) picture → IsPictureOf nothing_held (files_at p disk f g no_job) picture
  home_picture picture left = record { once = left.once; each = λ name. log_left name (bytes_at picture name) (left.each name) }

  home_stores : KeepsStore p.part (store_of p) frame (put (active_name p) (home f) disk)
  home_stores picture left = picture_recovers p.part (state_with p failed frame (files_at p disk f g no_job)) (k.kept no_job (no_job_leaves p)) picture (home_picture picture left)

  -- with the sealed log at home too
  both_left : IsSome p.sealed → device_at p f g no_job (sealed_name p) ≡ g → (name : FileName) (image : Image) → MayLeaveAt (nothing_held name) (put (sealed_name p) (home g) (put (active_name p) (home f) disk) name) image
      → MayLeaveAt (nothing_held name) (files_at p disk f g no_job name) image
  both_left some own name image left = elim (cases_Bool (same_name (sealed_name p) name)) [
    | inl same ↦ subst (λ e. MayLeaveAt (nothing_held name) e image)
        (subst (λ n. put (sealed_name p) (home g) (put (active_name p) (home f) disk) n ≡ files_at p disk f g no_job n) (same_name-is (sealed_name p) name same)
        (put_there (sealed_name p) (home g) (put (active_name p) (home f) disk) ∙ sym (ap (seen_entry (device_at p f g no_job (sealed_name p))) (k.sealed_out some) ∙ ap (λ d. home d) own))) left
    | inr apart ↦ log_left name image (subst (λ b. MayLeaveAt (nothing_held name) (if b then home g else put (active_name p) (home f) disk name) image) apart left)
  ]

  pub both_picture : IsSome p.sealed → device_at p f g no_job (sealed_name p) ≡ g → (picture : Picture) → IsPictureOf nothing_held (put (sealed_name p) (home g) (put (active_name p) (home f) disk)) picture
      → IsPictureOf nothing_held (files_at p disk f g no_job) picture
  both_picture some own picture left = record { once = left.once; each = λ name. both_left some own name (bytes_at picture name) (left.each name) }

  both_store : IsSome p.sealed → device_at p f g no_job (sealed_name p) ≡ g → KeepsStore p.part (store_of p) frame (put (sealed_name p) (home g) (put (active_name p) (home f) disk))
  both_store some own picture left = picture_recovers p.part (state_with p failed frame (files_at p disk f g no_job)) (k.kept no_job (no_job_leaves p)) picture (both_picture some own picture left)

-- ---- where they are told

module _ (p : PartView) (some : IsSome p.sealed) (logs : 0 < length (sealed_logs p.sealed)) where
  pub later : generation_of p ≢ last_of p.list + 1
  later same = absurd (no same)
    where
      no : generation_of p ≡ last_of p.list + 1 → ⊥
      no same = omega (arith, same, logs)

  pub apart : active_name p ≢ sealed_name p
  apart same = later (log_generation (generation_of p) (last_of p.list + 1) same)

  pub own : (f g : DiskFile) → device_at p f g no_job (sealed_name p) ≡ g
  own f g = sealed_device p later f g no_job

module _ (p : PartView) (failed : Bool) (frame : Option (List Write)) (P : Disk → Type 0) where
  -- What is so of the store with the log at home, which is as the log is, is so once that came home.
  pub closed_told : (Q : DiskFile → Type 0) → ((disk : Disk) (f g : DiskFile) → Q f → AreKeptAt p failed frame disk f g → P (put (active_name p) (home f) disk))
      → (disks : List Disk) (log : List DiskFile) (sealed : Option (List DiskFile)) → IfTold disks (λ disk. IsTold log) → IfTold log Q → IfFiles disks log sealed (AreKeptAt p failed frame)
      → IfTold (comes_home (active_name p) (λ x. home x) log disks) P
  closed_told Q so [] log sealed tells is kept = subst (λ ds. IfTold ds P) (sym (comes_untold (active_name p) (λ x. home x) log)) tt
  closed_told Q so (disk ∷ past) [] sealed tells is kept = absurd tells
  closed_told Q so (disk ∷ past) (f ∷ fs) sealed tells is kept =
      let any = some_sealed sealed in
      subst (λ ds. IfTold ds P) (sym (returned (active_name p) (home f) disk past (kept any.0 any.1).log_out)) (so disk f any.0 is (kept any.0 any.1))

  -- and so it is with the sealed log at home too
  module _ (some : IsSome p.sealed) (logs : 0 < length (sealed_logs p.sealed)) where
    pub closed_both : (Q R : DiskFile → Type 0) → ((disk : Disk) (f g : DiskFile) → Q f → R g → AreKeptAt p failed frame disk f g → P (put (sealed_name p) (home g) (put (active_name p) (home f) disk)))
        → (disks : List Disk) (log covered : List DiskFile) → IfTold disks (λ disk. IsTold log) → IfTold disks (λ disk. IsTold covered) → IfTold log Q → IfTold covered R → IfFiles disks log (Some covered) (AreKeptAt p failed frame)
        → IfTold (comes_home (sealed_name p) (λ x. home x) covered (comes_home (active_name p) (λ x. home x) log disks)) P
    closed_both Q R so [] log covered tells more is also kept =
        subst (λ ds. IfTold ds P) (sym (ap (comes_home (sealed_name p) (λ x. home x) covered) (comes_untold (active_name p) (λ x. home x) log) ∙ comes_untold (sealed_name p) (λ x. home x) covered)) tt
    closed_both Q R so (disk ∷ past) [] covered tells more is also kept = absurd tells
    closed_both Q R so (disk ∷ past) (f ∷ fs) [] tells more is also kept = absurd more
    closed_both Q R so (disk ∷ past) (f ∷ fs) (g ∷ gs) tells more is also kept =
        let k = kept g refl in
        subst (λ ds. IfTold ds P)
        (sym (ap (comes_home (sealed_name p) (λ x. home x) (g ∷ gs)) (returned (active_name p) (home f) disk past k.log_out)
        ∙ returned (sealed_name p) (home g) (put (active_name p) (home f) disk) (disk ∷ past)
        (at_name (active_name p) (sealed_name p) (home f) disk (λ e. e ≡ out) (λ same. absurd (apart p some logs same)) (λ differ. k.sealed_out some))))
        (so disk f g is also k)

-- ---- a part

any_told : (log : List DiskFile) → IfTold log (λ f. Unit {0})
any_told [] = tt
any_told (f ∷ past) = tt

pub close_stores : (t : Told) (p : PartView) (frame : Option (List Write)) → HasFailedAs t p frame → IfTold (comes_home (active_name p) (λ x. home x) t.log t.disks) (KeepsStore p.part (store_of p) frame)
close_stores t p frame has =
    closed_told p true frame (KeepsStore p.part (store_of p) frame) (λ f. Unit {0}) (λ disk f g any k. home_stores p true frame disk f g k) t.disks t.log t.sealed_log has.tells.active (any_told t.log) has.files

pub close_both_stores : (t : Told) (p : PartView) (frame : Option (List Write)) (covered : List DiskFile) → HasFailedAs t p frame → t.sealed_log ≡ Some covered → IsSome p.sealed → 0 < length (sealed_logs p.sealed)
    → IfTold (comes_home (sealed_name p) (λ x. home x) covered (comes_home (active_name p) (λ x. home x) t.log t.disks)) (KeepsStore p.part (store_of p) frame)
close_both_stores t p frame covered has is some logs =
    closed_both p true frame (KeepsStore p.part (store_of p) frame) some logs (λ f. Unit {0}) (λ g. Unit {0}) (λ disk f g any other k. both_store p true frame disk f g k some (own p some logs f g))
    t.disks t.log covered has.tells.active (subst (λ o. IfTold t.disks (λ disk. IfSome o (λ moments. IsTold moments))) is has.tells.sealed)
    (any_told t.log) (any_told covered) (subst (λ o. IfFiles t.disks t.log o (AreKeptAt p true frame)) is has.files)

pub sealed_covers : (t : Told) (p : PartView) (covered : List DiskFile) → IsPart t p → t.sealed_log ≡ Some covered → IsSome p.sealed × (0 < length (sealed_logs p.sealed)) × (sealed_name p ≡ Log (t.generation - 1))
sealed_covers t p covered is some = at p.sealed t.sealed refl is.view.sealed (sym (ap (λ o. is_some o) some) ∙ is.view.sealed_log)
  where
    at : (o : Option Sealed) (kept : Option memory.Table) → p.sealed ≡ o → KeepsSealed (AreTold t.components) o kept → true ≡ is_some o → IsSome p.sealed × (0 < length (sealed_logs p.sealed)) × (sealed_name p ≡ Log (t.generation - 1))
    at None kept same keeps there = absurd (cc)
    at (Some d) None same keeps there = absurd keeps
    at (Some d) (Some table) same keeps there =
        let one : length (sealed_logs p.sealed) ≡ 1 = ap (λ o. length (sealed_logs o)) same ∙ keeps.0 in
        (ap (λ o. is_some o) same, omega (arith, one), ap (λ n. Log n) (omega (arith, one, is.view.generation)))
