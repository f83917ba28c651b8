-- What an audit says of the files of a partition: that they are lawful, or the first thing that is wrong with them, in the order
-- in which it looks.
use Rattle.std.specs.Prelude.{◌≡◌, ◌≤◌, ◌⊎◌, ◌^◌, ℕ, List, map, length, slice_get, Option, Some, Ok, Err, All}
use Rattle.tc_store.specs.declared.file_name.FileName.{FileName}
use Rattle.tc_store.specs.declared.damage.Damage.TheVariants.{Bytes, Files}
use Rattle.tc_store.specs.Disk.{Disk, content_of}
use Rattle.tc_store.specs.Judging.{damage}
use Rattle.tc_component.specs.Loading.{ComponentState}
use Rattle.tc_component.specs.Spelling.{name_of}
use Rattle.tc_log.specs.declared.write.Write.{Write as LogWrite}
use Rattle.tc_plain_model.specs.Writes.{Write}
use Rattle.tc_lsm_model.specs.Contents.{Content, Partition}
use Rattle.tc_machine.specs.Logs.{all_writes, kept_write}
use Rattle.tc_machine.specs.Pictures.{recovered}
use Rattle.tc_machine.specs.Writes.{AreFew, HasRoom, IsStorableWrite}
use Rattle.tc_audit.specs.Reasons.{AreRight, IsReason}
use Rattle.tc_audit.specs.declared.verdict.Wrong.{Wrong as AuditWrong}
use Rattle.tc_audit.specs.declared.verdict.Wrong.TheVariants as audit
use Rattle.tc_recover.specs.Lawful.{DiskOpens}
use Rattle.tc_recover.specs.Loading.{interval_of, tile_name}
use Rattle.tc_recover.specs.Opening.{DiskJudged, found_in}
use Rattle.tc_recover.specs.Refusals.{breaks, clashes, strays}
use Rattle.tc_lawful.specs.Audited.{IsAudited}
use Rattle.tc_check.specs.Counting.{writes_in}
use Rattle.tc_check.specs.Long.{IsFirstLong}
use Rattle.tc_check.specs.declared.verdict.Over.{Over}
use Rattle.tc_check.specs.declared.verdict.Over.TheVariants.{Documents, Names, RecordBytes}
use Rattle.tc_check.specs.declared.verdict.Reason.{Reason}
use Rattle.tc_check.specs.declared.verdict.Reason.TheVariants.{Count, Damaged, Layout, TooMuch}
use Rattle.tc_check.specs.declared.verdict.Verdict.{Verdict}
use Rattle.tc_check.specs.declared.verdict.Verdict.TheVariants.{Right, Wrong}

-- ---- right

-- the disk opens as some contents and logs, and so many documents are stored in these
pub record IsRight (part : Partition) (disk : Disk) (documents : ℕ) : Type 0 where
  pub contents : List Content
  pub logs : List (List Write)
  pub opens : DiskOpens part disk contents logs
  pub documents_are : documents ≡ length (recovered contents logs).pairs

-- components that were read and the writes of logs above them are those of some contents and logs, and so many documents are stored in
-- these
pub record IsRightIn {F : Type 0} (content : F → Option (List ℕ)) (part : Partition) (list : List (ComponentState F)) (writes : List (List LogWrite)) (documents : ℕ) : Type 0 where
  pub contents : List Content
  pub logs : List (List Write)
  pub audited : IsAudited content part list writes contents logs
  pub documents_are : documents ≡ length (recovered contents logs).pairs

-- ---- wrong: what an opening passes

-- An opening passes the disk. It reads these components, whose files tell what the disk has, and the writes of the logs above them.
pub record IsPassed {F : Type 0} (content : F → Option (List ℕ)) (part : Partition) (disk : Disk) (list : List (ComponentState F)) (writes : List (List LogWrite)) : Type 0 where
  pub judged : DiskJudged part disk (Ok (found_in list writes))
  pub told : All (λ x. content x.file ≡ content_of (disk (tile_name (interval_of x)))) list

-- the first component that is wrong, of this name, by this
pub record HasWrong {F : Type 0} (content : F → Option (List ℕ)) (part : Partition) (list : List (ComponentState F)) (name : FileName) (at : ℕ) (wrong : AuditWrong) : Type 0 where
  pub component : ComponentState F
  pub here : slice_get list at ≡ Some component
  pub named : name ≡ name_of component.index.head
  pub reason : IsReason content part list wrong

-- the logs keep these writes, each of which a partition makes
pub record AreKept (writes : List (List LogWrite)) (logs : List (List Write)) : Type 0 where
  pub kept : writes ≡ map (map kept_write) logs
  pub storable : All IsStorableWrite (all_writes logs)

-- over contents the logs are right, and so many documents are stored in all
pub record AreRightLogs (cs : List Content) (writes : List (List LogWrite)) (documents : ℕ) : Type 0 where
  pub logs : List (List Write)
  pub kept : AreKept writes logs
  pub room : HasRoom (recovered cs logs).pairs
  pub few : AreFew (recovered cs logs).taken
  pub documents_are : documents ≡ length (recovered cs logs).pairs

-- What the logs have too much of, over contents: a record is too long, or else there are more documents than there is room for, or else
-- more names.
abbrev pub HaveTooMuch : List Content → List (List LogWrite) → Over → ℕ → Type 0
HaveTooMuch cs writes RecordBytes number = IsFirstLong (writes_in writes) number
HaveTooMuch cs writes Documents number = (number ≡ 2 ^ 32) × ((logs : List (List Write)) × AreKept writes logs × (2 ^ 32 ≤ length (recovered cs logs).pairs))
HaveTooMuch cs writes Names number = (number ≡ 2 ^ 32) × ((logs : List (List Write)) × AreKept writes logs × HasRoom (recovered cs logs).pairs × (2 ^ 32 ≤ length (recovered cs logs).taken))

-- ---- wrong: the reasons

-- what an opening refuses
abbrev pub IsRefused : Partition → Disk → Reason → Type 0
IsRefused part disk (Damaged (Bytes file place bytes)) = DiskJudged part disk (Err (breaks file (damage place bytes)))
IsRefused part disk (Damaged (Files names)) = DiskJudged part disk (Err (clashes names))
IsRefused part disk (Layout found found_of) = DiskJudged part disk (Err (strays found found_of))
IsRefused part disk (Count file first) = ⊥
IsRefused part disk (TooMuch what number) = ⊥

-- what is wrong with components that were read, and where all of these are right, with the logs above them
abbrev pub IsReasonIn : {F : Type 0} → (F → Option (List ℕ)) → Partition → List (ComponentState F) → List (List LogWrite) → Reason → Type 0
IsReasonIn content part list writes (Damaged (Bytes file place bytes)) = (at : ℕ) × HasWrong content part list file at (audit.Record at place bytes)
IsReasonIn content part list writes (Damaged (Files names)) = ⊥
IsReasonIn content part list writes (Layout found found_of) = ⊥
IsReasonIn content part list writes (Count file first) = (at : ℕ) × HasWrong content part list file at (audit.Count at first)
IsReasonIn content part list writes (TooMuch what number) =
    ((what ≡ Documents) × (number ≡ 2 ^ 32) × ((at : ℕ) × IsReason content part list (audit.Documents at))) ⊎ ((cs : List Content) × AreRight content part list cs × HaveTooMuch cs writes what number)

-- why the disk is not lawful
abbrev pub IsReasonOf : {F : Type 0} → (F → Option (List ℕ)) → Partition → Disk → Reason → Type 0
IsReasonOf {F = F} content part disk reason =
    IsRefused part disk reason ⊎ ((list : List (ComponentState F)) × (writes : List (List LogWrite)) × IsPassed content part disk list writes × IsReasonIn content part list writes reason)

-- ---- of what is answered

abbrev pub IfRight : Verdict → (ℕ → Type 0) → Type 0
IfRight (Right documents) P = P documents
IfRight (Wrong reason) P = Unit {0}

abbrev pub IfWrong : Verdict → (Reason → Type 0) → Type 0
IfWrong (Right documents) P = Unit {0}
IfWrong (Wrong reason) P = P reason
