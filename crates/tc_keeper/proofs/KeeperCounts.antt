-- What counts over a call of what keeps the documents, with the readers' watches that are out.
use Rattle.std.proofs.Common.{◌≡◌, ◌∙◌, ◌<◌, ℕ, zero, suc, false, List, [], ◌∷◌, All, length, arith, ap, sym, subst, inl, inr}
use Rattle.std.specs.Prelude.{HoldsAt, IfSome, None, Option, option_map, slice_get, Some, unwrap_or, zip}
use Rattle.std.specs.List.{AllZip}
use mathlib.Core.List.{IsPrefix}
use Rattle.std.proofs.lemmas.List.Elements.{All-head, All-tail}
use Rattle.tc_bytes.specs.Counts.{Rose}
use Rattle.tc_keeper.specs.Places.{AtEach, IsAt}
use Rattle.tc_keeper.specs.WithJobs.{with_reader, WithJobs}
use Rattle.tc_keeper.proofs.PlaceLaws.{at_each-length}
use Rattle.tc_shown.specs.Scans.{GoesOn, IfDamaged as IfScanDamaged, IfDisk as IfScanDisk, IsFaultOf}
use Rattle.tc_shown.specs.declared.fault.ScanFault.{ScanFault}
use Rattle.tc_shown.specs.declared.fault.ScanFault.TheVariants as scan
use Rattle.tc_shown.specs.declared.scan.Pass.{Pass}
use Rattle.tc_shown.specs.declared.scan.Scan.{Scan as Begun}
use Rattle.tc_shown.specs.Shown.{Reads, ShownState}
use Rattle.tc_store.specs.Counted.{Counts}
use Rattle.tc_store.specs.declared.damage.Damage.{Damage}
use Rattle.tc_store.specs.declared.damage.Damage.TheVariants.{Bytes}
use Rattle.tc_store.specs.KitFaults.{KitFaults}
use Rattle.tc_keeper.specs.Calls.{faults_at}
use Rattle.tc_keeper.specs.Faults.{DiskFaults, HasDiskCause, HaveRisen, HaveStayed, IfDamaged, IfDisk, NoneFell, OneRose}
use Rattle.tc_view.specs.Places.{kept_by}
use Rattle.tc_keeper.specs.Keeping.{counted_out, faults_kept, watch_out, AreReadersOut, IsShownAt, KeeperState}
use Rattle.tc_keeper.specs.Partitions.{fault_of_scan}
use Rattle.tc_keeper.specs.Showing.{ShowsOwnOf}
use Rattle.tc_keeper.proofs.OwnShown.{harm_at}
use Rattle.tc_keeper.proofs.ShownWorlds.{zip_length}
use Rattle.tc_keeper.proofs.Turns.{at_zip}
use Rattle.tc_keeper.specs.declared.fault.RunFault.{RunFault}
use Rattle.tc_keeper.specs.declared.fault.RunFault.TheVariants.{Usage, Read, Write, Spent, Disk, Damaged, Memory, Layout}

-- the readers' watches are those that were there
abbrev pub SameReaders : {S D F W : Type 0} → List (WithJobs S D F W) → List (WithJobs S D F W) → Type 0
SameReaders es es' = AtEach (λ p old new. new.engine.part.reader ≡ old.engine.part.reader) 0 es es'

-- ---- faults

if_so : {P Q : RunFault → Type 0} (fault : Option RunFault) → ((f : RunFault) → P f → Q f) → IfSome fault P → IfSome fault Q
if_so None so is = tt
if_so (Some f) so is = so f is

-- the fault of a scan
disk_of : (fault : ScanFault) (P : ℕ → Type 0) → IfScanDisk fault P → IfDisk (fault_of_scan fault) P
disk_of (scan.Disk p) P is = is
disk_of (scan.Damaged p file place bytes) P is = tt
disk_of scan.Memory P is = tt

damaged_of : (fault : ScanFault) (P : ℕ → Damage → Type 0) → IfScanDamaged fault (λ p file place bytes. P p (Bytes file place bytes)) → IfDamaged (fault_of_scan fault) P
damaged_of (scan.Disk p) P is = tt
damaged_of (scan.Damaged p file place bytes) P is = is
damaged_of scan.Memory P is = tt

pub damaged_so : (f : RunFault) (P Q : ℕ → Damage → Type 0) → ((p : ℕ) (damage : Damage) → P p damage → Q p damage) → IfDamaged f P → IfDamaged f Q
damaged_so Usage P Q so is = tt
damaged_so Read P Q so is = tt
damaged_so (Write n) P Q so is = tt
damaged_so Spent P Q so is = tt
damaged_so (Disk p) P Q so is = tt
damaged_so (Damaged p damage) P Q so is = so p damage is
damaged_so Memory P Q so is = tt
damaged_so (Layout p found found_of asked_of) P Q so is = tt

unspent : (fault : ScanFault) (P : Type 0) → fault_of_scan fault ≡ Spent → P
unspent (scan.Disk p) P is = absurd (cc)
unspent (scan.Damaged p file place bytes) P is = absurd (cc)
unspent scan.Memory P is = absurd (cc)

-- ---- a call of the engines, beside a watch that is out

module _ {W : Type 0} (counts : W → Counts) where
  stayed_out : (w : Option W) (o o' : Option KitFaults) → HaveStayed o o' → HaveStayed (counted_out counts w o) (counted_out counts w o')
  stayed_out None o o' stayed = stayed
  stayed_out (Some w) None None stayed = tt
  stayed_out (Some w) None (Some f') stayed = absurd stayed
  stayed_out (Some w) (Some f) None stayed = absurd stayed
  stayed_out (Some w) (Some f) (Some f') stayed = record { main = stayed.main; flusher = stayed.flusher; merger = stayed.merger; reader = omega arith }

  -- the engines raise no count of a reader
  rose_out : (w : W) (f f' : KitFaults) → f'.reader ≡ f.reader → f.reader ≡ 0 → OneRose f f' → OneRose (record f { reader = (counts w).faults }) (record f' { reader = (counts w).faults })
  rose_out w f f' same away (inl rose) = inl rose
  rose_out w f f' same away (inr (inl rose)) = inr (inl rose)
  rose_out w f f' same away (inr (inr (inl rose))) = inr (inr (inl rose))
  rose_out w f f' same away (inr (inr (inr rose))) = absurd (omega (arith, same, away, rose))

  module _ {S D F : Type 0} where
    abbrev CountedAt : List (WithJobs S D F W) → ℕ → Option KitFaults
    CountedAt es q = option_map (λ e. faults_at counts e) (slice_get es q)

    risen_out : (w : W) (n q : ℕ) (es es' : List (WithJobs S D F W)) → All (λ e. e.engine.part.reader ≡ None) es → AtEach (λ p old new. new.engine.part.reader ≡ old.engine.part.reader) n es es' → HaveRisen (CountedAt es q) (CountedAt es' q)
        → HaveRisen (counted_out counts (Some w) (CountedAt es q)) (counted_out counts (Some w) (CountedAt es' q))
    risen_out w n q [] es' away same risen = absurd risen
    risen_out w n q (e ∷ es) [] away same risen = absurd same
    risen_out w n zero (e ∷ es) (e' ∷ es') away same risen =
        rose_out w (faults_at counts e) (faults_at counts e') (ap (λ (o : Option W). unwrap_or (option_map (λ w. (counts w).faults) o) 0) same.0) (ap (λ (o : Option W). unwrap_or (option_map (λ w. (counts w).faults) o) 0) (All-head (λ e. e.engine.part.reader ≡ None) e es away)) risen
    risen_out w n (suc q) (e ∷ es) (e' ∷ es') away same risen = risen_out w (suc n) q es es' (All-tail (λ e. e.engine.part.reader ≡ None) e es away) same.1 risen

    risen_with : (w : Option W) (q : ℕ) (es es' : List (WithJobs S D F W)) → All (λ e. e.engine.part.reader ≡ None) es → SameReaders es es' → HaveRisen (CountedAt es q) (CountedAt es' q) → HaveRisen (counted_out counts w (CountedAt es q)) (counted_out counts w (CountedAt es' q))
    risen_with None q es es' away same risen = risen
    risen_with (Some w) q es es' away same risen = risen_out w 0 q es es' away same risen

    risen_beside : (out : Option (Begun F W)) (q : ℕ) (es es' : List (WithJobs S D F W)) → AreReadersOut out es → SameReaders es es'
        → HaveRisen (CountedAt es q) (CountedAt es' q) → HaveRisen (counted_out counts (watch_out out q) (CountedAt es q))
        (counted_out counts (watch_out out q) (CountedAt es' q))
    risen_beside None q es es' away same risen = risen
    risen_beside (Some out) q es es' away same risen = risen_with (option_map (λ (pass : Pass F W). pass.watch) (slice_get out.passes.items q)) q es es' away.1 same risen

    disk_beside : (out : Option (Begun F W)) (f : RunFault) (es es' : List (WithJobs S D F W)) → AreReadersOut out es → SameReaders es es' → IfDisk f (λ p. HaveRisen (CountedAt es p) (CountedAt es' p))
        → IfDisk f (λ p. HaveRisen (counted_out counts (watch_out out p) (CountedAt es p)) (counted_out counts (watch_out out p) (CountedAt es' p)))
    disk_beside out Usage es es' away same rose = tt
    disk_beside out Read es es' away same rose = tt
    disk_beside out (Write n) es es' away same rose = tt
    disk_beside out Spent es es' away same rose = tt
    disk_beside out (Disk p) es es' away same rose = risen_beside out p es es' away same rose
    disk_beside out (Damaged p damage) es es' away same rose = tt
    disk_beside out Memory es es' away same rose = tt
    disk_beside out (Layout p found found_of asked_of) es es' away same rose = tt

    pub caused_beside : (k k' : KeeperState S D F W) (why why' : RunFault → Type 0) (fault : Option RunFault) → k'.scan ≡ k.scan → AreReadersOut k.scan k.engines
        → SameReaders k.engines k'.engines → (why Spent → why' Spent) → ((p : ℕ) (damage : Damage) → why (Damaged p damage) → why' (Damaged p damage))
        → HasDiskCause (CountedAt k.engines) (CountedAt k'.engines) why fault → HasDiskCause (faults_kept counts k) (faults_kept counts k') why' fault
    unfolding faults_kept
    caused_beside k k' why why' fault out away same spent met cause = record {
      stayed = λ p. subst (λ o. HaveStayed (counted_out counts (watch_out k.scan p) (CountedAt k.engines p)) (counted_out counts (watch_out o p) (CountedAt k'.engines p))) (sym out) (stayed_out (watch_out k.scan p) (CountedAt k.engines p) (CountedAt k'.engines p) (cause.stayed p));
      disk = if_so fault (λ f rose. subst (λ o. IfDisk f (λ p. HaveRisen (counted_out counts (watch_out k.scan p) (CountedAt k.engines p)) (counted_out counts (watch_out o p) (CountedAt k'.engines p)))) (sym out) (disk_beside k.scan f k.engines k'.engines away same rose)) cause.disk;
      damaged = if_so fault (λ f told. damaged_so f (λ p damage. why (Damaged p damage)) (λ p damage. why' (Damaged p damage)) met told) cause.damaged;
      spent = if_so fault (λ f is of_spent. spent (is of_spent)) cause.spent;
    }

-- ---- watches go out with a scan, and come back

module _ {S D F W : Type 0} (counts : W → Counts) where
  -- a watch that is out counts as it did
  lent_stays : (n q : ℕ) (es es' : List (WithJobs S D F W)) (passes : List (Pass F W)) → AtEach (λ p e pass. Some pass.watch ≡ e.engine.part.reader) n es passes → AtEach (λ p old new. new ≡ with_reader None old) n es es'
      → HaveStayed (option_map (λ e. faults_at counts e) (slice_get es q)) (counted_out counts (option_map (λ (pass : Pass F W). pass.watch) (slice_get passes q)) (option_map (λ e. faults_at counts e) (slice_get es' q)))
  lent_stays n q [] [] [] lent out = tt
  lent_stays n q [] [] (pass ∷ passes) lent out = absurd lent
  lent_stays n q [] (e' ∷ es') passes lent out = absurd out
  lent_stays n q (e ∷ es) [] passes lent out = absurd out
  lent_stays n q (e ∷ es) (e' ∷ es') [] lent out = absurd lent
  lent_stays n zero (e ∷ es) (e' ∷ es') (pass ∷ passes) lent out =
      let reader : unwrap_or (option_map (λ w. (counts w).faults) e.engine.part.reader) 0 ≡ (counts pass.watch).faults = ap (λ (o : Option W). unwrap_or (option_map (λ w. (counts w).faults) o) 0) (sym lent.0) in
      subst (λ (x : WithJobs S D F W). NoneFell (faults_at counts e) (record (faults_at counts x) { reader = (counts pass.watch).faults })) (sym out.0)
      (record { main = omega arith; flusher = omega arith; merger = omega arith; reader = omega (arith, reader) })
  lent_stays n (suc q) (e ∷ es) (e' ∷ es') (pass ∷ passes) lent out = lent_stays (suc n) q es es' passes lent.1 out.1

  pub caused_lending : (k k' : KeeperState S D F W) (begun : Begun F W) (why : RunFault → Type 0) → k.scan ≡ None → k'.scan ≡ Some begun → AtEach (λ p e pass. Some pass.watch ≡ e.engine.part.reader) 0 k.engines begun.passes.items
      → AtEach (λ p old new. new ≡ with_reader None old) 0 k.engines k'.engines → HasDiskCause (faults_kept counts k) (faults_kept counts k') why None
  unfolding faults_kept
  caused_lending k k' begun why none some lent out = record {
    stayed = λ q.
        subst (λ o. HaveStayed (counted_out counts (watch_out o q) (option_map (λ e. faults_at counts e) (slice_get k.engines q))) (counted_out counts (watch_out k'.scan q) (option_map (λ e. faults_at counts e) (slice_get k'.engines q)))) (sym none)
        (subst (λ o. HaveStayed (option_map (λ e. faults_at counts e) (slice_get k.engines q)) (counted_out counts (watch_out o q) (option_map (λ e. faults_at counts e) (slice_get k'.engines q)))) (sym some)
        (lent_stays 0 q k.engines k'.engines begun.passes.items lent out));
    disk = tt;
    damaged = tt;
    spent = tt;
  }

  -- one that came back counts no less than it did when it went out
  back_stays : (n q : ℕ) (es es' : List (WithJobs S D F W)) (old new : List (Pass F W)) → AllZip (GoesOn counts) old new → AtEach (λ p both e'. e' ≡ with_reader (Some both.1.watch) both.0) n (zip es new) es' → length new ≡ length es
      → HaveStayed (counted_out counts (option_map (λ (pass : Pass F W). pass.watch) (slice_get old q)) (option_map (λ e. faults_at counts e) (slice_get es q))) (option_map (λ e. faults_at counts e) (slice_get es' q))
  back_stays n q [] [] [] [] went home many = tt
  back_stays n q [] es' (pass ∷ old) [] went home many = absurd went
  back_stays n q [] (e' ∷ es') [] [] went home many = absurd home
  back_stays n q [] es' old (pass' ∷ new) went home many = absurd (omega (arith, many))
  back_stays n q (e ∷ es) es' old [] went home many = absurd (omega (arith, many))
  back_stays n q (e ∷ es) es' [] (pass' ∷ new) went home many = absurd went
  back_stays n q (e ∷ es) [] (pass ∷ old) (pass' ∷ new) went home many = absurd home
  back_stays n zero (e ∷ es) (e' ∷ es') (pass ∷ old) (pass' ∷ new) went home many =
      subst (λ (x : WithJobs S D F W). NoneFell (record (faults_at counts e) { reader = (counts pass.watch).faults }) (faults_at counts x)) (sym home.0)
      (record { main = omega arith; flusher = omega arith; merger = omega arith; reader = went.0.watch.faults })
  back_stays n (suc q) (e ∷ es) (e' ∷ es') (pass ∷ old) (pass' ∷ new) went home many = back_stays (suc n) q es es' old new went.1 home.1 (omega (arith, many))

  -- and more, where it counted a fault
  back_rises : (n q : ℕ) (es es' : List (WithJobs S D F W)) (old new : List (Pass F W)) → AllZip (GoesOn counts) old new → AtEach (λ p both e'. e' ≡ with_reader (Some both.1.watch) both.0) n (zip es new) es' → length new ≡ length es → q < length new
      → HoldsAt (λ pass. Rose (counts pass.0.watch).faults (counts pass.1.watch).faults) (zip old new) q
      → HaveRisen (counted_out counts (option_map (λ (pass : Pass F W). pass.watch) (slice_get old q)) (option_map (λ e. faults_at counts e) (slice_get es q))) (option_map (λ e. faults_at counts e) (slice_get es' q))
  back_rises n q es es' old [] went home many below rose = absurd (omega (arith, below))
  back_rises n q es es' [] (pass' ∷ new) went home many below rose = absurd went
  back_rises n q [] es' (pass ∷ old) (pass' ∷ new) went home many below rose = absurd (omega (arith, many))
  back_rises n q (e ∷ es) [] (pass ∷ old) (pass' ∷ new) went home many below rose = absurd home
  back_rises n zero (e ∷ es) (e' ∷ es') (pass ∷ old) (pass' ∷ new) went home many below rose =
      subst (λ (x : WithJobs S D F W). OneRose (record (faults_at counts e) { reader = (counts pass.watch).faults }) (faults_at counts x)) (sym home.0) (inr (inr (inr (rose (pass, pass')))))
  back_rises n (suc q) (e ∷ es) (e' ∷ es') (pass ∷ old) (pass' ∷ new) went home many below rose = back_rises (suc n) q es es' old new went.1 home.1 (omega (arith, many)) (omega (arith, below)) rose

  module _ (k : KeeperState S D F W) (es' : List (WithJobs S D F W)) (begun : Begun F W) (passes : List (Pass F W)) (why : RunFault → Type 0) (some : k.scan ≡ Some begun) (went : AllZip (GoesOn counts) begun.passes.items passes)
      (came : AtEach (λ p old new. IsAt p passes (λ pass. new ≡ with_reader (Some pass.watch) old)) 0 k.engines es') (many : length passes ≡ length k.engines) where
    home : AtEach (λ p (both : WithJobs S D F W × Pass F W) e'. e' ≡ with_reader (Some both.1.watch) both.0) 0 (zip k.engines passes) es'
    home = at_zip (λ (old : WithJobs S D F W) (pass : Pass F W) new. new ≡ with_reader (Some pass.watch) old) k.engines passes es'
        (zip_length k.engines passes (sym many) ∙ at_each-length (λ p old new. IsAt p passes (λ (pass : Pass F W). new ≡ with_reader (Some pass.watch) old)) 0
        k.engines es' came) came

    abbrev Now : DiskFaults
    Now = λ q. option_map (λ e. faults_at counts e) (slice_get es' q)

    all_stayed : (q : ℕ) → HaveStayed (faults_kept counts k q) (Now q)
    unfolding faults_kept
    all_stayed q = subst (λ o. HaveStayed (counted_out counts (watch_out o q) (option_map (λ e. faults_at counts e) (slice_get k.engines q))) (Now q)) (sym some) (back_stays 0 q k.engines es' begun.passes.items passes went home many)

    one_risen : (q : ℕ) → q < length passes → HoldsAt (λ pass. Rose (counts pass.0.watch).faults (counts pass.1.watch).faults) (zip begun.passes.items passes) q → HaveRisen (faults_kept counts k q) (Now q)
    unfolding faults_kept
    one_risen q below rose = subst (λ o. HaveRisen (counted_out counts (watch_out o q) (option_map (λ e. faults_at counts e) (slice_get k.engines q))) (Now q)) (sym some) (back_rises 0 q k.engines es' begun.passes.items passes went home many below rose)

    -- a scan that was waited for, and found what was asked for
    pub caused_back : HasDiskCause (faults_kept counts k) Now why None
    caused_back = record { stayed = all_stayed; disk = tt; damaged = tt; spent = tt }

    risen_by : (content : F → Option (List ℕ)) (fault : ScanFault) → IsFaultOf content counts begun.passes.items passes fault → IfScanDisk fault (λ p. HaveRisen (faults_kept counts k p) (Now p))
    risen_by content (scan.Disk p) is = one_risen p is.disk_within is.cause
    risen_by content (scan.Damaged p file place bytes) is = tt
    risen_by content scan.Memory is = tt

    -- or failed
    pub caused_by_scan : (content : F → Option (List ℕ)) (fault : ScanFault) → IsFaultOf content counts begun.passes.items passes fault → IfScanDamaged fault (λ p file place bytes. why (Damaged p (Bytes file place bytes))) → HasDiskCause (faults_kept counts k) Now why (Some (fault_of_scan fault))
    caused_by_scan content fault is met = record {
      stayed = all_stayed;
      disk = disk_of fault (λ p. HaveRisen (faults_kept counts k p) (Now p)) (risen_by content fault is);
      damaged = damaged_of fault (λ p damage. why (Damaged p damage)) met;
      spent = unspent fault (why Spent);
    }

-- ---- what a scan met

pub scan_met : {S D F W : Type 0} (content : F → Option (List ℕ)) (counts : W → Counts) (es : List (WithJobs S D F W)) (shown : List (ShownState F W)) (old passes : List (Pass F W)) (fault : ScanFault) → AtEach (ShowsOwnOf content) 0 es shown
    → AtEach (λ q s pass. s.failed ≡ false → Reads s.book pass.lens) 0 shown passes → AtEach (λ q s pass. (s.failed ≡ false) × IsPrefix (kept_by pass.lens).history s.history) 0 shown passes
    → IsFaultOf content counts old passes fault → IfScanDamaged fault (λ p file place bytes. IsShownAt content es shown p (Bytes file place bytes))
scan_met content counts es shown old passes (scan.Disk p) own reads covers is = tt
scan_met content counts es shown old passes (scan.Damaged p file place bytes) own reads covers is = harm_at content es shown passes 0 p file place bytes is.damaged_within own reads covers is.harmed
scan_met content counts es shown old passes scan.Memory own reads covers is = tt
