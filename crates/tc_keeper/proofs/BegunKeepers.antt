-- What keeps the documents where a run begins, beside the partitions that were opened: it may be asked, and counts as they do.
use Rattle.std.proofs.Common.{◌≡◌, ◌∙◌, ℕ, true, List, [], All, arith, ap, sym, subst}
use Rattle.std.specs.Prelude.{is_some, None, Option, option_map, slice_get, Some}
use Rattle.std.proofs.lemmas.List.Elements.{All-weaker}
use Rattle.tc_keeper.specs.Places.{AtEach}
use Rattle.tc_keeper.specs.WithJobs.{WithJobs}
use Rattle.tc_keeper.proofs.PlaceLaws.{at_each-length}
use Rattle.tc_shown.specs.Shown.{ShownState}
use Rattle.tc_shown.specs.declared.scan.Scan.{Scan as Begun}
use Rattle.tc_store.specs.Counted.{Counts}
use Rattle.tc_store.specs.Disk.{Disk}
use Rattle.tc_store.specs.DiskFile.{DiskFile}
use Rattle.tc_keeper.specs.Calls.{faults_at, faults_of, MayAsk}
use Rattle.tc_keeper.specs.Faults.{DiskFaults, HasRunCauses}
use Rattle.tc_keeper.specs.Keeping.{counted_out, faults_kept, watch_out, AreLensesOut, AreReadersOut, AreUnwritten, IsManned, KeeperState, MayServe}
use Rattle.tc_keeper.specs.Showing.{IsShownFirst, ShowsOwnOf}
use Rattle.tc_keeper.specs.declared.fault.RunFault.{RunFault}
use Rattle.tc_keeper.specs.declared.fault.RunFault.TheVariants.{Memory}
use Rattle.tc_keeper.proofs.Causes.{nothing_counted}

pub begun_works : {S W D F : Type 0} (disks : S → List Disk) (moments : D → List DiskFile) (content : F → Option (List ℕ)) (k : KeeperState S D F W) (es : List (WithJobs S D F W)) → k.engines ≡ es → MayAsk disks moments content es → MayServe disks moments content k
unfolding MayServe
begun_works disks moments content k es same works = subst (MayAsk disks moments content) (sym same) works

pub begun_counts : {S W D F : Type 0} (counts : W → Counts) (k : KeeperState S D F W) (es : List (WithJobs S D F W)) → k.engines ≡ es → k.scan ≡ None → faults_kept counts k ≡ faults_of counts es
unfolding faults_kept
begun_counts {S} {W} {D} {F} counts k es same none =
    ap (λ (o : Option (Begun F W)). λ q. counted_out counts (watch_out o q) (option_map (faults_at counts) (slice_get k.engines q))) none
    ∙ ap (λ (es : List (WithJobs S D F W)). λ q. option_map (faults_at counts) (slice_get es q)) same

pub begun_causes : {S W D F : Type 0} (counts : W → Counts) (k : KeeperState S D F W) (es : List (WithJobs S D F W)) (reads reads' before now : ℕ) (new : DiskFaults)
    (why : RunFault → Type 0) (fault : Option RunFault) → k.engines ≡ es → k.scan ≡ None
    → HasRunCauses reads reads' before now (faults_kept counts k) new why fault
    → HasRunCauses reads reads' before now (faults_of counts es) new why fault
begun_causes counts k es reads reads' before now new why fault same none causes = subst (λ old. HasRunCauses reads reads' before now old new why fault) (begun_counts counts k es same none) causes

-- memory was wanting, and nothing was asked
pub unrun_causes : {S W D F : Type 0} (counts : W → Counts) (es : List (WithJobs S D F W)) (reads before : ℕ) (why : RunFault → Type 0) → HasRunCauses reads reads before before (faults_of counts es) (faults_of counts es) why (Some Memory)
unrun_causes counts es reads before why = record {
  heard = omega arith;
  read = λ is. absurd (cc);
  kept = omega arith;
  failed = λ is. absurd is;
  stayed = (nothing_counted (faults_of counts es) why).stayed;
  disk = tt;
  damaged = tt;
  kind = tt;
}

pub readers_home : {S D F W : Type 0} (es : List (WithJobs S D F W)) → AreUnwritten es → All (λ e. is_some e.engine.part.reader ≡ true) es
readers_home es unwritten = All-weaker (λ e. (e.engine.part.sealed ≡ None) × (e.engine.part.active ≡ []) × (is_some e.engine.part.reader ≡ true)) (λ e. is_some e.engine.part.reader ≡ true) (λ e u. u.2) es unwritten

-- as many are shown as there are engines, and nothing is out
pub manned_first : {S D F W : Type 0} (content : F → Option (List ℕ)) (k : KeeperState S D F W) → k.scan ≡ None → AtEach (λ p e s. IsShownFirst e s) 0 k.engines k.shown → AtEach (ShowsOwnOf content) 0 k.engines k.shown → AreUnwritten k.engines → IsManned content k
manned_first {S} {D} {F} {W} content k none shown own unwritten = record {
  as_many = sym (at_each-length (λ p (e : WithJobs S D F W) (s : ShownState F W). IsShownFirst e s) 0 k.engines k.shown shown);
  readers = subst (λ (o : Option (Begun F W)). AreReadersOut o k.engines) (sym none) (readers_home k.engines unwritten);
  lenses = subst (λ (o : Option (Begun F W)). AreLensesOut o k.shown) (sym none) tt;
  own = own;
}
