-- The device of a job comes home as it is, for the moments that are told: of a part that runs, and of one that has failed.
use Rattle.std.proofs.Common.{◌≡◌, ℕ, Bool, List, [], ◌∷◌, refl, sym, ap, ◌∙◌, subst, inl, inr, Option, true, if◌then◌else◌}
use Rattle.std.proofs.lemmas.Bool.{cases_Bool, false≢true}
use Rattle.tc_store.specs.declared.file_name.FileName.{FileName}
use Rattle.tc_store.specs.declared.file_name.FileName.TheVariants.{Component}
use Rattle.tc_store.specs.Disk.{Disk, Entry, home, is_out, none, out, put, still}
use Rattle.tc_store.specs.DiskFile.{DiskFile}
use Rattle.tc_store.specs.Moments.{IfTold}
use Rattle.tc_store.specs.StoreCalls.{comes_home, returns_as}
use Rattle.tc_plain_model.specs.Writes.{Write}
use Rattle.tc_part_model.specs.Meaning.{HasFailedAs}
use Rattle.tc_part_model.specs.PartFiles.{AreKeptAt, IfFiles}
use Rattle.tc_part_model.specs.PartState.{Told}
use Rattle.tc_part_model.specs.PartView.{PartView}
use Rattle.tc_part_model.proofs.DeviceFiles.{comes_untold, logs_tell}
use Rattle.tc_part_model.proofs.Returns.{JobCalls, home_keeps}

pub out_is : (e : Entry) → is_out e ≡ true → e ≡ out
out_is (none before) is = absurd (false≢true is)
out_is (home f) is = absurd (false≢true is)
out_is (still bytes) is = absurd (false≢true is)
out_is out is = refl

pub returned : (name : FileName) (e : Entry) (disk : Disk) (past : List Disk) → disk name ≡ out → returns_as name e (disk ∷ past) ≡ put name e disk ∷ disk ∷ past
returned name e disk past is = ap (λ d. if is_out d then put name e disk ∷ disk ∷ past else disk ∷ past) is

module _ (p : PartView) (failed : Bool) (frame : Option (List Write)) (from to : ℕ) where
  pub home_told : (disks : List Disk) (log dev : List DiskFile) (sealed : Option (List DiskFile)) → IfFiles disks log sealed (AreKeptAt p failed frame) → IfTold dev (JobCalls p (Component from to))
      → IfFiles (comes_home (Component from to) (λ x. home x) dev disks) log sealed (AreKeptAt p failed frame)
  home_told disks log [] sealed kept calls = kept
  home_told [] log (x ∷ xs) sealed kept calls = tt
  home_told (disk ∷ past) log (x ∷ xs) sealed kept calls = elim (cases_Bool (is_out (disk (Component from to)))) [
    | inl held ↦ subst (λ ds. IfFiles ds log sealed (AreKeptAt p failed frame)) (sym (returned (Component from to) (home x) disk past (out_is (disk (Component from to)) held)))
        (at log kept (out_is (disk (Component from to)) held))
    | inr other ↦ subst (λ b. IfFiles (if b then put (Component from to) (home x) disk ∷ disk ∷ past else disk ∷ past) log sealed (AreKeptAt p failed frame)) (sym other) kept
  ]
    where
      at : (log : List DiskFile) → IfFiles (disk ∷ past) log sealed (AreKeptAt p failed frame) → disk (Component from to) ≡ out → IfFiles (put (Component from to) (home x) disk ∷ disk ∷ past) log sealed (AreKeptAt p failed frame)
      at [] kept is = tt
      at (f ∷ fs) kept is = λ g same. home_keeps p failed frame disk f g (kept g same) from to is x calls

  -- a part that has failed keeps what it kept
  pub failed_returns : (t u : Told) (dev : List DiskFile) → HasFailedAs t p frame → failed ≡ true → IfTold dev (JobCalls p (Component from to)) → u.failed ≡ true → u.log ≡ t.log → u.sealed_log ≡ t.sealed_log
      → u.disks ≡ comes_home (Component from to) (λ x. home x) dev t.disks → HasFailedAs u p frame
  failed_returns t u dev has is_failed calls still_failed log sealed disks = record {
    failed = still_failed;
    tells = rw (disks, log, sealed) (logs_tell t.disks (comes_home (Component from to) (λ x. home x) dev t.disks) t.log t.sealed_log
        (λ none. ap (comes_home (Component from to) (λ x. home x) dev) none ∙ comes_untold (Component from to) (λ x. home x) dev) has.tells);
    files = rw (disks, log, sealed) (subst (λ b. IfFiles (comes_home (Component from to) (λ x. home x) dev t.disks) t.log t.sealed_log (AreKeptAt p b frame)) is_failed
        (home_told t.disks t.log dev t.sealed_log (subst (λ b. IfFiles t.disks t.log t.sealed_log (AreKeptAt p b frame)) (sym is_failed) has.files) calls));
  }
