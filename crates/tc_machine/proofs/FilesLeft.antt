-- What a stop leaves under one name, when the files of other names change.
use Rattle.std.proofs.Common.{◌≡◌, ◌≢◌, ◌<◌, ◌≤◌, ◌+◌, ℕ, List, [], ◌∷◌, length, refl, sym, ap, ◌∙◌, subst, arith, inl, inr, None, Some}
use Rattle.std.proofs.lemmas.Bool.{cases_Bool, cases_lt, true≢false}
use Rattle.tc_plain_model.specs.Writes.{Write}
use Rattle.tc_lsm_model.specs.Contents.{Partition}
use Rattle.tc_store.specs.Disk.{Disk, Entry, MayLeaveAt, none, put, same_name}
use Rattle.tc_store.specs.Images.{Image}
use Rattle.tc_store.specs.declared.file_name.FileName.{FileName}
use Rattle.tc_store.specs.declared.file_name.FileName.TheVariants.{Log}
use Rattle.tc_store.proofs.NameLemmas.{put_there, same_name-is, same_name-refl}
use Rattle.tc_machine.specs.Logs.{LeavesLog}
use Rattle.tc_machine.specs.Sound.{LeavesLogs, LeavesOf}
use Rattle.tc_machine.specs.Steps.{IsShutOrHas, IsWritten, nothing_held}

-- ---- names

pub put_other : (name other : FileName) (entry : Entry) (files : Disk) → name ≢ other → put name entry files other ≡ files other
put_other name other entry files apart = elim (cases_Bool (same_name name other)) [
  | inl same ↦ absurd (apart (same_name-is name other same))
  | inr differ ↦ rw differ refl
]

-- a fact on what is under each name, by whether it is this name
pub at_name : (name other : FileName) (entry : Entry) (files : Disk) (Q : Entry → Type 0) → (name ≡ other → Q entry) → (name ≢ other → Q (files other)) → Q (put name entry files other)
at_name name other entry files Q here there = elim (cases_Bool (same_name name other)) [
  | inl same ↦ rw same (here (same_name-is name other same))
  | inr differ ↦ rw differ (there (λ same. true≢false (sym (same_name-refl name) ∙ ap (λ n. same_name name n) same ∙ differ)))
]

pub LeavesOf-other : (name other : FileName) (entry : Entry) (files : Disk) (P : Image → Type 0) → name ≢ other → LeavesOf files other P → LeavesOf (put name entry files) other P
LeavesOf-other name other entry files P apart leaves image left = leaves image (subst (λ e. MayLeaveAt (nothing_held other) e image) (put_other name other entry files apart) left)

pub LeavesOf-here : (name : FileName) (entry : Entry) (files : Disk) (P : Image → Type 0) → ((image : Image) → MayLeaveAt (nothing_held name) entry image → P image) → LeavesOf (put name entry files) name P
LeavesOf-here name entry files P leaves image left = leaves image (subst (λ e. MayLeaveAt (nothing_held name) e image) (put_there name entry files) left)

pub LeavesOf-written : (name : FileName) (files : Disk) (P : Image → Type 0) → IsWritten P (files name) → LeavesOf files name P
LeavesOf-written name files P (f, is, leaves) image left = leaves image (subst (λ e. MayLeaveAt (nothing_held name) e image) is left)

pub LeavesOf-weaker : (name : FileName) (files : Disk) (P Q : Image → Type 0) → ((image : Image) → P image → Q image) → LeavesOf files name P → LeavesOf files name Q
LeavesOf-weaker name files P Q go leaves image left = go image (leaves image left)

-- where nothing is there, and nothing that was removed comes back, a stop leaves nothing that is open
pub nothing_left : (name : FileName) (image : Image) → MayLeaveAt (nothing_held name) (none None) image → IsShutOrHas (λ bytes. ⊥) image
nothing_left name None left = tt
nothing_left name (Some bytes) left = absurd (cc)

-- ---- logs

-- the file of a log among these
pub log_file : (part : Partition) (files : Disk) (generation : ℕ) (ls : List (List Write)) (g : ℕ) → LeavesLogs part files generation ls → generation ≤ g → g < generation + length ls
    → (ws : List Write) × LeavesOf files (Log g) (LeavesLog part g ws)
log_file part files generation [] g there from to = absurd (omega arith)
log_file part files generation (ws ∷ ls) g there from to = elim (cases_lt generation g) [
  | inl before ↦ log_file part files (generation + 1) ls g there.1 (omega arith) (omega arith)
  | inr at ↦ let same : generation ≡ g = omega arith in (ws, subst (λ n. LeavesOf files (Log n) (LeavesLog part n ws)) same there.0)
]

pub LeavesLogs-put : (part : Partition) (name : FileName) (entry : Entry) (files : Disk) (generation : ℕ) (ls : List (List Write)) → ((g : ℕ) → generation ≤ g → g < generation + length ls → name ≢ Log g)
    → LeavesLogs part files generation ls → LeavesLogs part (put name entry files) generation ls
LeavesLogs-put part name entry files generation [] apart there = tt
LeavesLogs-put part name entry files generation (ws ∷ ls) apart there = (
  LeavesOf-other name (Log generation) entry files (LeavesLog part generation ws) (apart generation (omega arith) (omega arith)) there.0,
  LeavesLogs-put part name entry files (generation + 1) ls (λ g from to. apart g (omega arith) (omega arith)) there.1,
)
