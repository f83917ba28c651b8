-- A part without jobs is closed: each picture of the store opens as its own components and logs.
use Rattle.std.proofs.Common.{◌≡◌, ◌∙◌, ◌<◌, ◌+◌, ℕ, List, [], ◌∷◌, ◌++◌, length, arith, refl, sym, ap, subst, Option, Some, None, false, is_some}
use Rattle.std.specs.Prelude.{IfSome, IsSome, option_map}
use Rattle.tc_store.specs.declared.file_name.FileName.{FileName}
use Rattle.tc_store.specs.declared.file_name.FileName.TheVariants.{Log}
use Rattle.tc_store.specs.Disk.{Disk, Entry, IsPictureOf, MayLeaveAt, Picture, bytes_at, home, put}
use Rattle.tc_store.specs.DiskFile.{DiskFile, IsSettled}
use Rattle.tc_store.specs.Images.{MayLeave}
use Rattle.tc_store.specs.Moments.{IfTold}
use Rattle.tc_store.specs.StoreCalls.{comes_home}
use Rattle.tc_store.proofs.GateLemmas.{settled_leaves}
use Rattle.tc_store.proofs.NameLemmas.{put_there}
use Rattle.tc_list.proofs.Shown.{is_none}
use Rattle.tc_plain_model.specs.Writes.{Write}
use Rattle.tc_lsm_model.specs.Lists.{last_of}
use Rattle.tc_machine.specs.Pictures.{Opens, image_size, logs_size}
use Rattle.tc_machine.specs.State.{Sealed, logs, sealed_logs}
use Rattle.tc_machine.specs.Steps.{nothing_held}
use Rattle.tc_machine.proofs.FilesLeft.{put_other}
use Rattle.tc_machine.proofs.PictureLaws.{opens_as_it_is}
use Rattle.tc_part_model.specs.Calls.{RestsWith}
use Rattle.tc_part_model.specs.Leaving.{OpensAs}
use Rattle.tc_part_model.specs.Meaning.{IsPart}
use Rattle.tc_part_model.specs.PartFiles.{AreKeptAt, IfFiles, active_name, files_at, no_job, sealed_name}
use Rattle.tc_part_model.specs.PartState.{IsTold, Told}
use Rattle.tc_part_model.specs.PartView.{PartView, state_of, state_with}
use Rattle.tc_part_model.proofs.Closes.{apart, both_picture, closed_both, closed_told, home_picture, own}
use Rattle.tc_part_model.proofs.DeviceFiles.{no_job_leaves}

-- ---- what is left of logs on which nothing is pending

left_settled : (name : FileName) (e : Entry) (f : DiskFile) (picture : Picture) → e ≡ home f → IsSettled f → MayLeaveAt (nothing_held name) e (bytes_at picture name) → bytes_at picture name ≡ Some f.content
left_settled name e f picture is settled left =
    settled_leaves f.content (λ image. image ≡ Some f.content) refl (bytes_at picture name)
    (subst (λ x. MayLeave x (bytes_at picture name)) settled (subst (λ x. MayLeaveAt (nothing_held name) x (bytes_at picture name)) is left))

one_size : (last : ℕ) (o : Option Sealed) (ws : List Write) (picture : Picture) (b : List ℕ) → o ≡ None → bytes_at picture (Log (last + length (sealed_logs o) + 1)) ≡ Some b → logs_size picture (last + 1) (sealed_logs o ++ ws ∷ []) ≡ length b
one_size last None ws picture b none here =
    let one : image_size (bytes_at picture (Log (last + 1))) ≡ length b = ap image_size (subst (λ n. bytes_at picture (Log n) ≡ Some b) (let e : last + 0 + 1 ≡ last + 1 = omega arith in e) here) in
    omega (arith, one)
one_size last (Some d) ws picture b none here = absurd (cc)

both_size : (last : ℕ) (ls : List (List Write)) (ws : List Write) (picture : Picture) (b c : List ℕ) → length ls ≡ 1 → bytes_at picture (Log (last + 1)) ≡ Some c → bytes_at picture (Log (last + length ls + 1)) ≡ Some b
    → logs_size picture (last + 1) (ls ++ ws ∷ []) ≡ length c + length b
both_size last [] ws picture b c one covered here = absurd (omega (arith, one))
both_size last (l ∷ []) ws picture b c one covered here =
    let first : image_size (bytes_at picture (Log (last + 1))) ≡ length c = ap image_size covered in
    let second : image_size (bytes_at picture (Log (last + 1 + 1))) ≡ length b = ap image_size here in
    omega (arith, first, second)
both_size last (l ∷ m ∷ ls) ws picture b c one covered here = absurd (omega (arith, one))

-- ---- where the logs are at home

module _ (p : PartView) (no_flush : p.flush ≡ None) (no_merge : p.merge ≡ None) (disk : Disk) (f g : DiskFile) (k : AreKeptAt p false None disk f g) where
  opens_now : (picture : Picture) → IsPictureOf nothing_held (files_at p disk f g no_job) picture → Opens p.part picture p.list (logs (state_of p))
  opens_now picture left =
      opens_as_it_is p.part (state_with p false None (files_at p disk f g no_job)) (k.kept no_job (no_job_leaves p)) picture left
      (record { running = refl; sound = refl; no_frame = refl; no_flush = no_flush; no_merge = no_merge; no_next = refl })

  one_opens : (bytes : ℕ) → p.sealed ≡ None → RestsWith bytes f → OpensAs p.part p.list (logs (state_of p)) bytes (put (active_name p) (home f) disk)
  one_opens bytes none rests picture left = (
    opens_now picture (home_picture p false None disk f g k picture left),
    one_size (last_of p.list) p.sealed p.active.writes picture f.content none
        (left_settled (active_name p) (put (active_name p) (home f) disk (active_name p)) f picture (put_there (active_name p) (home f) disk) rests.0 (left.each (active_name p)))
        ∙ sym rests.1,
  )

  both_open : (bytes more : ℕ) (some : IsSome p.sealed) → length (sealed_logs p.sealed) ≡ 1 → RestsWith bytes f → RestsWith more g → OpensAs p.part p.list (logs (state_of p)) (more + bytes) (put (sealed_name p) (home g) (put (active_name p) (home f) disk))
  both_open bytes more some one rests also picture left =
      let one_home : Disk = put (active_name p) (home f) disk in
      let behind : 0 < length (sealed_logs p.sealed) = omega (arith, one) in
      let covered : bytes_at picture (sealed_name p) ≡ Some g.content = left_settled (sealed_name p) (put (sealed_name p) (home g) one_home (sealed_name p)) g picture (put_there (sealed_name p) (home g) one_home) also.0 (left.each (sealed_name p)) in
      let here : bytes_at picture (active_name p) ≡ Some f.content =
      left_settled (active_name p) (put (sealed_name p) (home g) one_home (active_name p)) f picture
      (put_other (sealed_name p) (active_name p) (home g) one_home (λ same. apart p some behind (sym same)) ∙ put_there (active_name p) (home f) disk) rests.0 (left.each (active_name p)) in (
        opens_now picture (both_picture p false None disk f g k some (own p some behind f g) picture left),
        omega (arith, both_size (last_of p.list) (sealed_logs p.sealed) p.active.writes picture f.content g.content one covered here, rests.1, also.1),
      )

-- ---- a part

none_from : {A B : Type 0} (f : A → B) (o : Option A) → option_map f o ≡ None → o ≡ None
none_from f None is = refl
none_from f (Some a) is = absurd (cc)

pub close_opens : (t : Told) (p : PartView) (bytes : ℕ) → IsPart t p → t.flushing ≡ false → t.merging ≡ None → t.sealed_log ≡ None → IfTold t.log (RestsWith bytes)
    → IfTold (comes_home (active_name p) (λ x. home x) t.log t.disks) (OpensAs p.part p.list (logs (state_of p)) bytes)
close_opens t p bytes is no_flush no_merge no_sealed rests =
    closed_told p false None (OpensAs p.part p.list (logs (state_of p)) bytes) (RestsWith bytes)
    (λ disk f g rests k. one_opens p (is_none p.flush (sym is.view.flushing ∙ no_flush)) (none_from (λ m. m.run) p.merge (sym is.view.merging ∙ no_merge)) disk f g k bytes
    (is_none p.sealed (sym is.view.sealed_log ∙ ap (λ o. is_some o) no_sealed)) rests)
    t.disks t.log t.sealed_log is.tells.active rests is.files.kept

pub close_both_open : (t : Told) (p : PartView) (bytes more : ℕ) (covered : List DiskFile) → IsPart t p → t.flushing ≡ false → t.merging ≡ None → t.sealed_log ≡ Some covered → IsSome p.sealed → length (sealed_logs p.sealed) ≡ 1
    → IfTold t.log (RestsWith bytes) → IfTold covered (RestsWith more)
    → IfTold (comes_home (sealed_name p) (λ x. home x) covered (comes_home (active_name p) (λ x. home x) t.log t.disks)) (OpensAs p.part p.list (logs (state_of p)) (more + bytes))
close_both_open t p bytes more covered is no_flush no_merge sealed some one rests also =
    closed_both p false None (OpensAs p.part p.list (logs (state_of p)) (more + bytes)) some (omega (arith, one)) (RestsWith bytes) (RestsWith more)
    (λ disk f g rests also k. both_open p (is_none p.flush (sym is.view.flushing ∙ no_flush)) (none_from (λ m. m.run) p.merge (sym is.view.merging ∙ no_merge)) disk f g k bytes more some one rests also)
    t.disks t.log covered is.tells.active (subst (λ o. IfTold t.disks (λ disk. IfSome o (λ moments. IsTold moments))) sealed is.tells.sealed) rests also
    (subst (λ o. IfFiles t.disks t.log o (AreKeptAt p false None)) sealed is.files.kept)
