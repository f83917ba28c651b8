-- Of a part no file is out but those of its devices: what its files keep says so.
use Rattle.std.proofs.Common.{◌≡◌, ◌∙◌, ◌+◌, ◌-◌, ℕ, Bool, true, false, List, [], ◌∷◌, Option, Some, None, take, drop, option_map, refl, sym, ap, subst, inl, inr, arith}
use Rattle.std.specs.Prelude.{IfSome}
use Rattle.std.specs.List.{AllZip}
use Rattle.tc_store.specs.declared.file_name.FileName.{FileName}
use Rattle.tc_store.specs.declared.file_name.FileName.TheVariants.{Component, Log}
use Rattle.tc_store.specs.Disk.{Disk, is_out, out}
use Rattle.tc_store.specs.DiskFile.{DiskFile}
use Rattle.tc_store.specs.Moments.{IfTold}
use Rattle.tc_list.specs.declared.run.Run.{Run}
use Rattle.tc_list.proofs.RunPairs.{AllZip-in_run}
use Rattle.tc_lsm_model.specs.Contents.{Content}
use Rattle.tc_lsm_model.specs.Lists.{last_after}
use Rattle.tc_lsm_model.specs.Merges.{IsMerge, in_run}
use Rattle.tc_machine.specs.Kept.{MergeFits}
use Rattle.tc_machine.specs.State.{Merging}
use Rattle.tc_machine.specs.Steps.{IsOfMerge}
use Rattle.tc_part_model.specs.Meaning.{IsOfContent, IsPart}
use Rattle.tc_part_model.specs.PartFiles.{AreKeptAt, IfFiles, IsDevice as IsKeptDevice}
use Rattle.tc_part_model.specs.PartState.{IsTold, Told, ToldComponent}
use Rattle.tc_part_model.specs.PartView.{PartView}
use Rattle.tc_part_model.proofs.DeviceFiles.{some_sealed}
use Rattle.tc_part.specs.FilesOut.{LogIsOut, IsOfMergeOut, IsOverAll, OnlyDevicesOut, last_told}
use Rattle.tc_part.specs.OwnFiles.{AreOfFlush}
use Rattle.tc_part.proofs.ClosedParts.{logs_of, one_sealed}
use Rattle.tc_part.proofs.DevicesOut.{IsDeviceOf}
use Rattle.tc_part.proofs.OwnParts.{from_is, of_flush, to_is}

-- ---- the name of a merge

last_is : (g h : ℕ) (ts : List ToldComponent) (cs : List Content) → g ≡ h → AllZip IsOfContent ts cs → last_told g ts ≡ last_after h cs
last_is g h [] [] same zip = same
last_is g h [] (c ∷ cs) same zip = absurd zip
last_is g h (t ∷ ts) [] same zip = absurd zip
last_is g h (t ∷ ts) (c ∷ cs) same zip = last_is t.index.head.to c.to ts cs (to_is t c zip.0) zip.1

over_all : (ts : List ToldComponent) (cs : List Content) (c : Content) → AllZip IsOfContent ts cs → IsMerge cs c → IsOverAll ts (Component c.from c.to)
over_all ts [] c zip is = let none = is.is in absurd (cc)
over_all [] (d ∷ ds) c zip is = absurd zip
over_all (t ∷ ts) (d ∷ ds) c zip is =
    let starts = is.is in
    let first : d ≡ is.first = cc in
    ap (λ n. Component n c.to) (is.from ∙ sym (ap (λ (x : Content). x.from) first) ∙ sym (from_is t d zip.0))
    ∙ ap (λ n. Component t.index.head.from n) (is.to ∙ sym (last_is t.index.head.to d.to ts ds (to_is t d zip.0) zip.1))

-- the name of a flush
flush_named : (flushing : Bool) (generation from to : ℕ) → AreOfFlush flushing generation from to → (flushing ≡ true) × (Component from to ≡ Component (generation - 1) (generation - 1))
flush_named false generation from to is = absurd is
flush_named true generation from to is = (refl, ap (λ n. Component n to) is.0 ∙ ap (λ n. Component (generation - 1) n) is.1)

-- ---- the devices

module _ (t : Told) (p : PartView) (is : IsPart t p) where
  merge_out : (from to : ℕ) (merge : Option Merging) → IfSome merge (MergeFits p.list) → IsOfMerge merge from to → IsOfMergeOut (option_map (λ m. m.run) merge) t.components (Component from to)
  merge_out from to None fits named = absurd named
  merge_out from to (Some m) fits named =
      let positions : Run = record { first = m.run.first; last = m.run.first + m.run.length - 1 } in
      let many : positions.last + 1 - positions.first ≡ m.run.length = omega (arith, fits.two) in
      let zip = subst (λ n. AllZip IsOfContent (take n (drop m.run.first t.components)) (take n (drop m.run.first p.list))) many (AllZip-in_run IsOfContent positions t.components p.list is.view.components) in
      subst (IsOverAll (take m.run.length (drop m.run.first t.components))) (sym (ap (λ n. Component n to) named.0 ∙ ap (λ n. Component m.target.from n) named.1))
      (over_all (take m.run.length (drop m.run.first t.components)) (in_run m.run p.list) m.target zip fits.is_merge)

  holds : (name : FileName) → IsKeptDevice p name → IsDeviceOf t name
  holds (Component from to) (inl flushed) = inr (inl (flush_named t.flushing t.generation from to (of_flush t p is from to p.flush refl flushed)))
  holds (Component from to) (inr merged) = inr (inr (subst (λ o. IsOfMergeOut o t.components (Component from to)) (sym is.view.merging) (merge_out from to p.merge is.memory.merge merged)))
  holds (Log g) (inl active) = inl (inl (ap (λ n. Log n) (active ∙ sym is.view.generation)))
  holds (Log g) (inr sealed) =
      let one = one_sealed p sealed.0 (logs_of t p is).one in
      inl (inr (is.view.sealed_log ∙ sealed.0, ap (λ n. Log n) (omega (arith, sealed.1, is.view.generation, one))))

  pub part_devices : OnlyDevicesOut t
  part_devices = at t.disks t.log is.tells.active is.files.kept
    where
      at : (disks : List Disk) (log : List DiskFile) → IfTold disks (λ disk. IsTold log) → IfFiles disks log t.sealed_log (AreKeptAt p false None) → IfTold disks (λ disk. (name : FileName) → is_out (disk name) ≡ true → IsDeviceOf t name)
      at [] log tells kept = tt
      at (disk ∷ before) [] tells kept = absurd tells
      at (disk ∷ before) (f ∷ past) tells kept = let any = some_sealed t.sealed_log in λ name there. holds name ((kept any.0 any.1).devices name there)

  pub part_log : LogIsOut t
  part_log = at t.disks t.log is.tells.active is.files.kept
    where
      at : (disks : List Disk) (log : List DiskFile) → IfTold disks (λ disk. IsTold log) → IfFiles disks log t.sealed_log (AreKeptAt p false None) → IfTold disks (λ disk. (disk (Log t.generation) ≡ out) × IsTold log)
      at [] log tells kept = tt
      at (disk ∷ before) [] tells kept = absurd tells
      at (disk ∷ before) (f ∷ past) tells kept = let any = some_sealed t.sealed_log in (ap (λ g. disk (Log g)) is.view.generation ∙ (kept any.0 any.1).log_out, tt)
