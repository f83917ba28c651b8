-- What holds of a scan that has run, by what it was when it began and by what is left of it.
use Rattle.std.specs.Prelude.{◌≡◌, ◌≤◌, ◌<◌, ◌+◌, ◌%◌, ℕ, suc, Option, List, [], ◌∷◌, length, map, zip, Result, IfOk, IfErr, All, HoldsAt}
use Rattle.std.specs.List.{AllZip}
use mathlib.Core.List.{IsPrefix}
use Rattle.tc_bytes.specs.Counts.{Rose}
use Rattle.tc_component.specs.Loaded.{IsLoadedOf}
use Rattle.tc_lsm_model.specs.Contents as documents
use Rattle.tc_request_model.specs.Request.{Ask}
use Rattle.tc_request_model.specs.Rendered.{row_text}
use Rattle.tc_request_model.specs.Reply.{Row}
use Rattle.tc_request_model.specs.Rows.{rows_over}
use Rattle.tc_plain_model.specs.Writes.{Pairs}
use Rattle.tc_query.specs.declared.fault.QueryFault.{QueryFault}
use Rattle.tc_query.specs.declared.fault.QueryFault.TheVariants as query
use Rattle.tc_query.specs.Faults.{IsHarmIn}
use Rattle.tc_shown.specs.Newest.{newest_of}
use Rattle.tc_query.specs.Shown.{live_keys}
use Rattle.tc_query.specs.Windows.{most_windows}
use Rattle.tc_run_model.specs.World.{united}
use Rattle.tc_store.specs.Counted.{Counts}
use Rattle.tc_store.specs.declared.file_name.FileName.{FileName}
use Rattle.tc_view.specs.declared.content.Content.{Content}
use Rattle.tc_view.specs.declared.rule.Key.{Key}
use Rattle.tc_view.specs.Changes.{showing_in}
use Rattle.tc_view.specs.Holding.{Holds}
use Rattle.tc_view.specs.Places.{kept_by, IsLensOf}
use Rattle.tc_shown.specs.declared.fault.ScanFault.{ScanFault}
use Rattle.tc_shown.specs.declared.fault.ScanFault.TheVariants.{Disk, Damaged, Memory}
use Rattle.tc_shown.specs.declared.scan.Pass.{Pass}
use Rattle.tc_shown.specs.declared.scan.Scanned.{Scanned}

-- ---- faults

-- of a read that failed this holds, by the partition
abbrev pub IfDisk : ScanFault → (ℕ → Type 0) → Type 0
IfDisk (Disk p) P = P p
IfDisk _ _ = Unit {0}

-- of damage this holds, by the partition, the file, the place and the bytes there
abbrev pub IfDamaged : ScanFault → (ℕ → FileName → ℕ → List ℕ → Type 0) → Type 0
IfDamaged (Damaged p file place bytes) P = P p file place bytes
IfDamaged _ _ = Unit {0}

abbrev pub of_query : ℕ → QueryFault → ScanFault
of_query p query.Disk = Disk p
of_query p (query.Damaged file place bytes) = Damaged p file place bytes
of_query p query.Memory = Memory

-- ---- what partitions store

-- Partitions, of so many, from the one of a number on store these, each keys of its own alone.
abbrev pub AreOwn : ℕ → ℕ → List Pairs → Type 0
AreOwn count p [] = Unit {0}
AreOwn count p (pairs ∷ more) = All (λ e. e.0 % count ≡ p) pairs × AreOwn count (suc p) more

-- ---- a pass

module _ {F W : Type 0} where
  -- its lens reads a view
  abbrev pub ReadsAView : Pass F W → Type 0
  ReadsAView pass = (k : Key) × IsLensOf k pass.lens

  -- A snapshot was taken by it: the lens reads the view that it read, and keeps what it kept, and maybe more.
  pub record IsTaken (old new : Pass F W) : Type 0 where
    pub lens : (k : Key) → IsLensOf k old.lens → IsLensOf k new.lens
    pub seen : IsPrefix (kept_by old.lens).history (kept_by new.lens).history
    pub watch : new.watch ≡ old.watch

  -- Reads were counted, of what this shows at most one a document that is live, and by windows. No count fell.
  pub record IsReadFor (shown : Content F W) (old new : Counts) : Type 0 where
    pub faults : old.faults ≤ new.faults
    pub reads : new.reads ≤ old.reads + live_keys shown.list shown.sealed (newest_of shown.written)
    pub windows : new.reads ≤ old.reads + most_windows shown.list

  -- Records were read for it, and nothing else changed.
  pub record IsRead (counts : W → Counts) (old new : Pass F W) : Type 0 where
    pub lens : new.lens ≡ old.lens
    pub watch : IsReadFor (kept_by new.lens) (counts old.watch) (counts new.watch)

  -- what a scan leaves of a pass
  pub record GoesOn (counts : W → Counts) (old new : Pass F W) : Type 0 where
    pub lens : (k : Key) → IsLensOf k old.lens → IsLensOf k new.lens
    pub seen : IsPrefix (kept_by old.lens).history (kept_by new.lens).history
    pub watch : IsReadFor (kept_by new.lens) (counts old.watch) (counts new.watch)

  -- ---- all passes

  -- these documents are shown to the lenses, where the files tell what they hold
  abbrev pub ShowAll : (F → Option (List ℕ)) → List (Pass F W) → List Pairs → Type 0
  ShowAll content passes parts = AllZip (λ pass pairs. Holds content (showing_in (kept_by pass.lens)) pairs) passes parts

  -- It is of one of the partitions. A read failed only where the watch of that counted a fault. What was found damaged is no record in a file of
  -- it; and where the files tell what they hold, it is none of those.
  pub record IsFaultOf (content : F → Option (List ℕ)) (counts : W → Counts) (old new : List (Pass F W)) (fault : ScanFault) : Type 0 where
    pub disk_within : IfDisk fault (λ p. p < length new)
    pub damaged_within : IfDamaged fault (λ p file place bytes. p < length new)
    pub cause : IfDisk fault (λ p. HoldsAt (λ pass. Rose (counts pass.0.watch).faults (counts pass.1.watch).faults) (zip old new) p)
    pub harmed : IfDamaged fault (λ p file place bytes. HoldsAt (λ pass. IsHarmIn content (kept_by pass.lens).list file place bytes) new p)
    pub unharmed : IfDamaged fault (λ p file place bytes. HoldsAt (λ pass. (cs : List documents.Content) → AllZip (IsLoadedOf content) (kept_by pass.lens).list cs → ⊥) new p)

  -- A scan has run. What its lenses keep then is what it was answered over, and it says over how many writes that is. Its rows are
  -- those of the documents of all partitions.
  pub record HasScanned (content : F → Option (List ℕ)) (counts : W → Counts) (ask : Ask) (old new : List (Pass F W)) (outcome : Result Scanned ScanFault) : Type 0 where
    pub back : AllZip (GoesOn counts) old new
    pub rows : (parts : List Pairs) → ShowAll content new parts → AreOwn (length parts) 0 parts → IfOk outcome (λ s. s.rows ≡ map row_text (rows_over ask (united parts)))
    pub texts : IfOk outcome (λ s. (rs : List Row) × (s.rows ≡ map row_text rs))
    pub upto : IfOk outcome (λ s. s.upto ≡ map (λ pass. (kept_by pass.lens).upto) new)
    pub fault : IfErr outcome (IsFaultOf content counts old new)
