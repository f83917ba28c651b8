-- What is left of the files of a partition that is closed: how many components are listed, how short its log is, and that the log
-- of the greatest generation is among them.
use Rattle.std.proofs.Common.{◌≡◌, ◌⊎◌, ◌≤◌, ◌<◌, ◌-◌, ◌^◌, ℕ, List, [], ◌∷◌, length, arith, subst, inl, inr}
use Rattle.tc_log.specs.Layout.{empty_size}
use Rattle.tc_store.specs.declared.file_name.FileName.TheVariants.{Log}
use Rattle.tc_store.specs.Disk.{Disk, IsThere}
use Rattle.tc_store.specs.DiskFile.{DiskFile}
use Rattle.tc_store.specs.Moments.{IfTold}
use Rattle.tc_part_model.specs.Meaning.{IsPart}
use Rattle.tc_part_model.specs.PartState.{Told, IsTold}
use Rattle.tc_part_model.specs.PartView.{PartView}
use Rattle.tc_work.specs.Settling.{TellsFiles}
use Rattle.tc_server.specs.KitCauses.{HasLastGeneration}

-- ---- what is left small

-- a part that tells has a log without a frame only where its device is as short
pub short_log : (t : Told) (p : PartView) (size : ℕ) → IsPart t p → TellsFiles t → IfTold t.log (λ f. size ≡ length f.content) → IfTold t.log (λ f. length f.content ≤ empty_size) → size ≤ empty_size
short_log t p size is tells sized none = at t.disks t.log tells.store is.tells.active sized none
  where
    at : (disks : List Disk) (log : List DiskFile) → IsTold disks → IfTold disks (λ disk. IsTold log) → IfTold log (λ f. size ≡ length f.content) → IfTold log (λ f. length f.content ≤ empty_size) → size ≤ empty_size
    at [] log told active sized none = absurd told
    at (disk ∷ past) [] told active sized none = absurd active
    at (disk ∷ past) (f ∷ fs) told active sized none = omega (arith, sized, none)

-- fewer are there than make some be merged
pub few_left : (least n : ℕ) → 2 ≤ least → (n < least) ⊎ (n < 2) → n < least
few_left least n two none = elim none [ inl below ↦ below | inr one ↦ omega (arith, one, two) ]

-- ---- the log of the greatest generation

pub last_left : (disks : List Disk) (generation : ℕ) → generation ≡ 2 ^ 63 - 1 → IfTold disks (λ disk. IsThere (disk (Log generation))) → IfTold disks HasLastGeneration
last_left [] generation last there = tt
last_left (disk ∷ past) generation last there = inl (subst (λ n. IsThere (disk (Log n))) last there)
