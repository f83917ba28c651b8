-- What a stop leaves of a partition that is being opened is what is stored in its components and logs.
use Rattle.std.proofs.Common.{◌≡◌, ◌∙◌, ℕ, List, [], refl, sym, ap, subst, inl, inr, false, Option, None}
use Rattle.std.proofs.Math.Path.{fun_ext}
use Rattle.std.proofs.lemmas.Bool.{cases_Bool, false≢true}
use Rattle.tc_store.specs.declared.file_name.FileName.{FileName}
use Rattle.tc_store.specs.Disk.{Disk, Entry, home, is_out, none, out, put, same_name, still}
use Rattle.tc_store.specs.DiskFile.{DiskFile}
use Rattle.tc_plain_model.specs.Writes.{Pairs, Write, after_writes}
use Rattle.tc_lsm_model.specs.Contents.{Content, Partition}
use Rattle.tc_lsm_model.specs.Lists.{live}
use Rattle.tc_machine.specs.Kept.{IsKept}
use Rattle.tc_machine.specs.Logs.{all_writes}
use Rattle.tc_machine.specs.Pictures.{Recovers}
use Rattle.tc_machine.specs.Sound.{IsWithOrWithout}
use Rattle.tc_machine.specs.State.{Flushing, Merging, stored_in}
use Rattle.tc_machine.proofs.MemorySteps.{opened_logs}
use Rattle.tc_machine.proofs.PictureLaws.{picture_recovers}
use Rattle.tc_part_model.specs.Leaving.{KeepsStore}
use Rattle.tc_part_model.specs.PartFiles.{seen_entry}
use Rattle.tc_open.specs.BeingOpened.{AreIn, LeavesWriting, opening_at, stored_by}

-- ---- what is stored

pub stored_opening : (cs : List Content) (logs : List (List Write)) (disk : Disk) → stored_in (opening_at cs logs disk) ≡ stored_by cs logs
stored_opening cs logs disk = ap (λ ls. after_writes (live cs) (all_writes ls)) (opened_logs [] cs logs)

-- also while a flush or a merge is out
pub keeps_store : (part : Partition) (cs : List Content) (logs : List (List Write)) (flush : Option Flushing) (merge : Option Merging) (disk : Disk) → IsKept part (record (opening_at cs logs disk) { flush = flush; merge = merge }) → KeepsStore part (stored_by cs logs) None disk
keeps_store part cs logs flush merge disk k picture left =
    subst (λ pairs. Recovers part picture (IsWithOrWithout pairs None)) (stored_opening cs logs disk) (picture_recovers part (record (opening_at cs logs disk) { flush = flush; merge = merge }) k picture left)

-- ---- files that are in

pub seen_at : (x : DiskFile) (disk : Disk) (name : FileName) (e : Entry) → AreIn disk → disk name ≡ e → seen_entry x (disk name) ≡ disk name
seen_at x disk name (none before) is_in same = rw same refl
seen_at x disk name (home f) is_in same = rw same refl
seen_at x disk name (still bytes) is_in same = rw same refl
seen_at x disk name out is_in same = absurd (false≢true (sym (is_in name) ∙ ap is_out same))

all_seen_in : (x : DiskFile) (disk : Disk) → AreIn disk → (λ name. seen_entry x (disk name)) ≡ disk
all_seen_in x disk is_in = fun_ext λ name. seen_at x disk name (disk name) is_in refl

pub put_in_place : (name : FileName) (e : Entry) (disk : Disk) → is_out e ≡ false → AreIn disk → AreIn (put name e disk)
put_in_place name e disk is is_in n = elim (cases_Bool (same_name name n)) [
  | inl same ↦ rw same is
  | inr apart ↦ rw apart (is_in n)
]

-- where nothing is out, it leaves what is stored whatever is said of a device
pub leaves_in : (part : Partition) (pairs : Pairs) (Whole : List ℕ → Type 0) (disk : Disk) → AreIn disk → KeepsStore part pairs None disk → LeavesWriting part pairs Whole disk
leaves_in part pairs Whole disk is_in keeps x leaves = subst (λ d. KeepsStore part pairs None d) (sym (all_seen_in x disk is_in)) keeps
