-- A scan that was waited for: what a collect is replied, what the run ends by where it failed, and what counts then.
use Rattle.std.proofs.Common.{◌≡◌, ◌+◌, ℕ, true, false, List, [], ◌∷◌, length, arith, refl, subst}
use Rattle.std.specs.Prelude.{Bool, IfErr, IfOk, IfSome, IsTrue, Option, Some, option_map, slice_get, Result, Ok, Err}
use Rattle.std.specs.List.{AllZip}
use mathlib.Core.List.{IsPrefix}
use Rattle.tc_command.specs.Commands.{ask_of}
use Rattle.tc_command.specs.Replies.{rendered_of}
use Rattle.tc_keeper.specs.Places.{AtEach, IsAt}
use Rattle.tc_keeper.specs.Standing.{IsSeen}
use Rattle.tc_keeper.specs.WithJobs.{with_reader, WithJobs}
use Rattle.tc_request_model.specs.Request.{collect}
use Rattle.tc_run_model.specs.Known.{MayRender}
use Rattle.tc_run_model.specs.World.{World}
use Rattle.tc_shown.specs.Scans.{GoesOn, HasScanned, IfDamaged as IfScanDamaged, IsFaultOf}
use Rattle.tc_shown.specs.Shown.{Reads}
use Rattle.tc_shown.specs.declared.fault.ScanFault.{ScanFault}
use Rattle.tc_shown.specs.declared.fault.ScanFault.TheVariants as scan
use Rattle.tc_shown.specs.declared.scan.Pass.{Pass}
use Rattle.tc_shown.specs.declared.scan.Scan.{Scan as Begun}
use Rattle.tc_shown.specs.declared.scan.Scanned.{Scanned}
use Rattle.tc_store.specs.Counted.{Counts}
use Rattle.tc_store.specs.declared.damage.Damage.{Damage}
use Rattle.tc_store.specs.declared.damage.Damage.TheVariants.{Bytes}
use Rattle.tc_view.specs.Places.{kept_by}
use Rattle.tc_work.specs.Moving.{Eyes}
use Rattle.tc_keeper.specs.Calls.{faults_at}
use Rattle.tc_keeper.specs.Faults.{fault_in, HasDiskCause, IsNoDamage, IsOfJob, IsOfStore}
use Rattle.tc_keeper.specs.Keeping.{faults_kept, IsOutFor, IsShownAt, KeeperState, ServesAt, ShowWorld}
use Rattle.tc_keeper.specs.Partitions.{collected_as, fault_of_scan}
use Rattle.tc_keeper.specs.Showing.{ShowsOwnOf}
use Rattle.tc_keeper.specs.declared.fault.RunFault.{RunFault}
use Rattle.tc_keeper.specs.declared.fault.RunFault.TheVariants.{Damaged}
use Rattle.tc_keeper.specs.Sight.{sees, whole_of, Sight}
use Rattle.tc_keeper.proofs.Causes.{call_without_memory}
use Rattle.tc_keeper.proofs.KeeperCounts.{caused_back, caused_by_scan, scan_met}
use Rattle.tc_keeper.proofs.KeeperWorlds.{replies_collected, scan_out}
use Rattle.tc_keeper.proofs.ScanReplies.{LawOfCounts, LawOfGrowth, LawOfViews, unharmed_at}

-- ---- kinds

scan_kind : (fault : ScanFault) → IsOfStore (fault_of_scan fault)
scan_kind (scan.Disk p) = tt
scan_kind (scan.Damaged p file place bytes) = tt
scan_kind scan.Memory = tt

scan_job : (fault : ScanFault) → IsOfJob (fault_of_scan fault)
scan_job (scan.Disk p) = tt
scan_job (scan.Damaged p file place bytes) = tt
scan_job scan.Memory = tt

pub collect_kind : (covered : Bool) (outcome : Result Scanned ScanFault) → IfErr (collected_as covered outcome) IsOfStore
collect_kind false outcome = tt
collect_kind true (Ok s) = tt
collect_kind true (Err fault) = scan_kind fault

pub end_kind : (covered : Bool) (outcome : Result Scanned ScanFault) → IfSome (fault_in (collected_as covered outcome)) IsOfJob
end_kind false outcome = tt
end_kind true (Ok s) = tt
end_kind true (Err fault) = scan_job fault

-- ---- what is replied, and where it is no damage

module _ {S D F W : Type 0} (eyes : Eyes S D F W) (views : LawOfViews W eyes.content) (counted : LawOfCounts W eyes.content) (grows : LawOfGrowth F W) (k : KeeperState S D F W) (begun : Begun F W) (passes : List (Pass F W)) (some : k.scan ≡ Some begun)
    (reads : AtEach (λ p s pass. s.failed ≡ false → Reads s.book pass.lens) 0 k.shown begun.passes.items) where
  abbrev Covers : Bool → Type 0
  Covers covered = IsTrue covered → AtEach (λ p s pass. (s.failed ≡ false) × IsPrefix (kept_by pass.lens).history s.history) 0 k.shown passes

  abbrev Ran : Result Scanned ScanFault → Type 0
  Ran outcome = HasScanned eyes.content eyes.counts (ask_of begun.ask) begun.passes.items passes outcome

  pub collect_reply : (covered : Bool) (outcome : Result Scanned ScanFault) (known : Sight) → Ran outcome → Covers covered → ServesAt eyes k known → IfOk (collected_as covered outcome) (λ reply. MayRender (collect ∷ []) (whole_of known) (rendered_of reply ∷ []))
  collect_reply false outcome known ran covers serves = tt
  collect_reply true (Err fault) known ran covers serves = tt
  collect_reply true (Ok s) known ran covers serves = replies_collected eyes views counted grows k begun passes s.rows s.upto known some reads ran.back (covers refl) ran.upto ran.rows ran.texts serves

  -- of a partition that is looked at
  sound_fault : (only : Option ℕ) (w : World) (fault : ScanFault) → AllZip (GoesOn eyes.counts) begun.passes.items passes → IsFaultOf eyes.content eyes.counts begun.passes.items passes fault → Covers true → ShowWorld eyes.content only k w → IsNoDamage only (fault_of_scan fault)
  sound_fault only w (scan.Disk p) went is covers shows = tt
  sound_fault only w (scan.Damaged p file place bytes) went is covers shows =
      let out = subst (λ o. IsOutFor only o w.running) some shows.scan in
      let s = scan_out eyes only (Some begun) w.running refl out in
      let begins = subst (λ o. IsOutFor only (Some begun) o) s.1 out in
      let same : p ≡ 0 + p = omega arith in
      λ seen. unharmed_at eyes.content eyes.counts views only 0 p k.shown begun.passes.items passes w.parts s.0.seen reads went (covers refl) shows.each begins.1 is.damaged_within (subst (λ m. IsSeen only m) same seen) is.unharmed
  sound_fault only w scan.Memory went is covers shows = tt

  pub collect_sound : (covered : Bool) (outcome : Result Scanned ScanFault) (only : Option ℕ) (w : World) → Ran outcome → Covers covered → ServesAt eyes k (sees only w) → IfErr (collected_as covered outcome) (IsNoDamage only)
  unfolding ServesAt
  collect_sound false outcome only w ran covers serves = tt
  collect_sound true (Ok s) only w ran covers serves = tt
  collect_sound true (Err fault) only w ran covers serves = sound_fault only w fault ran.back ran.fault covers serves.1

  pub end_sound : (covered : Bool) (outcome : Result Scanned ScanFault) (only : Option ℕ) (w : World) → Ran outcome → Covers covered → ServesAt eyes k (sees only w) → IfSome (fault_in (collected_as covered outcome)) (IsNoDamage only)
  end_sound false outcome only w ran covers serves = tt
  end_sound true (Ok s) only w ran covers serves = tt
  end_sound true (Err fault) only w ran covers serves = collect_sound true (Err fault) only w ran covers serves

-- ---- what counts

module _ {S D F W : Type 0} (counts : W → Counts) (content : F → Option (List ℕ)) (k : KeeperState S D F W) (es' : List (WithJobs S D F W)) (begun : Begun F W) (passes : List (Pass F W)) (some : k.scan ≡ Some begun)
    (came : AtEach (λ p old new. IsAt p passes (λ pass. new ≡ with_reader (Some pass.watch) old)) 0 k.engines es') (many : length passes ≡ length k.engines)
    (own : AtEach (ShowsOwnOf content) 0 k.engines k.shown) (reads : AtEach (λ p s pass. s.failed ≡ false → Reads s.book pass.lens) 0 k.shown passes)
    (why : RunFault → Type 0) (met : (p : ℕ) (damage : Damage) → IsShownAt content k.engines k.shown p damage → why (Damaged p damage)) where
  pub collect_cause : (covered : Bool) (outcome : Result Scanned ScanFault) → HasScanned content counts (ask_of begun.ask) begun.passes.items passes outcome → (IsTrue covered → AtEach (λ p s pass. (s.failed ≡ false) × IsPrefix (kept_by pass.lens).history s.history) 0 k.shown passes)
      → HasDiskCause (faults_kept counts k) (λ q. option_map (λ e. faults_at counts e) (slice_get es' q)) why (fault_in (collected_as covered outcome))
  collect_cause false outcome ran covers = call_without_memory (faults_kept counts k) (λ q. option_map (λ e. faults_at counts e) (slice_get es' q)) why why (caused_back counts k es' begun passes why some ran.back came many)
  collect_cause true (Ok s) ran covers = caused_back counts k es' begun passes why some ran.back came many
  collect_cause true (Err fault) ran covers = caused_by_scan counts k es' begun passes why some ran.back came many content fault ran.fault (told fault (scan_met content counts k.engines k.shown begun.passes.items passes fault own reads (covers refl) ran.fault))
    where
      told : (f : ScanFault) → IfScanDamaged f (λ p file place bytes. IsShownAt content k.engines k.shown p (Bytes file place bytes)) → IfScanDamaged f (λ p file place bytes. why (Damaged p (Bytes file place bytes)))
      told (scan.Disk p) is = tt
      told (scan.Damaged p file place bytes) is = met p (Bytes file place bytes) is
      told scan.Memory is = tt
