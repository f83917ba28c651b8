-- Engines whose documents were moved into files hold the same world, and keep it where one of them failed.
use Rattle.std.proofs.Common.{◌≡◌, ◌∙◌, ◌≤◌, ◌<◌, ℕ, Bool, true, false, nat_lt, List, [], ◌∷◌, length, arith, refl, sym, subst, inl, inr}
use Rattle.std.specs.Prelude.{◌==◌, Option, None, Result, Ok, Err, OnOk}
use Rattle.std.proofs.lemmas.Bool.Decides.{nat_tests}
use Rattle.tc_store.specs.Disk.{Disk}
use Rattle.tc_store.specs.DiskFile.{DiskFile}
use Rattle.tc_store.specs.Moments.{IfTold}
use Rattle.tc_log.specs.Layout.{empty_size}
use Rattle.tc_lsm_model.specs.Contents.{Partition}
use Rattle.tc_plain_model.specs.Room.{Limits}
use Rattle.tc_part.specs.FilesOut.{HoldsDevices}
use Rattle.tc_part_model.specs.Meaning.{IsPart}
use Rattle.tc_part_model.specs.PartState.{IsTold, Told}
use Rattle.tc_part_model.specs.PartView.{PartView, store_of}
use Rattle.tc_run_model.specs.World.{Part, World}
use Rattle.tc_work.specs.Failing.{HasFailedKeeping}
use Rattle.tc_work.specs.Moving.{told_by, works_by, Eyes, FailsMoving, KeepsJobs, Working}
use Rattle.tc_work.specs.Settling.{StoresStill, TellsFiles}
use Rattle.tc_keeper.specs.Moving.{StopsAt}
use Rattle.tc_keeper.specs.Places.{AtEach}
use Rattle.tc_keeper.specs.Standing.{partition_at, FailsPart, HoldsOwn, HoldsPart, HoldWorld, KeepsOwn, KeepsPart, KeepWorlds}
use Rattle.tc_keeper.specs.WithJobs.{told_of, works_of, WithJobs}
use Rattle.tc_keeper.proofs.EnginesHeld.{keeping}
use Rattle.tc_keeper.proofs.PlaceLaws.{at_each-join, at_each-same, at_each-turned, at_each-zip}

-- ---- an engine that failed

-- a call that left an engine failed keeps what was stored in it
pub failed_kept : {S D F W : Type 0} (eyes : Eyes S D F W) (old new : Working S D F W) → new.part.failed ≡ true → FailsMoving eyes old new
    → (p : PartView) → IsPart (told_by eyes old) p → TellsFiles (told_by eyes old) → works_by eyes old p → HasFailedKeeping (works_by eyes new) (told_by eyes new) p.part (store_of p) None
failed_kept eyes old new left fails p is tells works = subst (λ b. HasFailedKeeping (works_by eyes new) (record (told_by eyes new) { failed = b }) p.part (store_of p) None) (sym left) (fails p is tells works)

-- whatever it answered, its engine holds its devices still
pub holds_still : {S D F W : Type 0} (eyes : Eyes S D F W) (Failed : Type 0) (old new : Working S D F W) → KeepsJobs eyes Failed old new → HoldsDevices (told_by eyes old) → HoldsDevices (told_by eyes new)
holds_still eyes Failed old new keeps holds = record { tells = keeps.tells holds.tells; only = keeps.devices holds.tells holds.only }

-- ---- a log without a frame

-- where a part tells its files, its log has no frame only where it is as short as one without
pub short_by : (disks : List Disk) (log : List DiskFile) (size : ℕ) → IsTold disks → IfTold disks (λ disk. IsTold log) → IfTold log (λ f. (size ≡ length f.content) × (length f.content ≤ empty_size)) → size ≤ empty_size
short_by [] log size told active short = absurd told
short_by (disk ∷ past) [] size told active short = absurd active
short_by (disk ∷ past) (f ∷ fs) size told active short = omega (arith, short.0, short.1)

both_told : (log : List DiskFile) (P Q : DiskFile → Type 0) → IfTold log P → IfTold log Q → IfTold log (λ f. P f × Q f)
both_told [] P Q p q = tt
both_told (f ∷ past) P Q p q = (p, q)

pub unwritten_by : (log : List DiskFile) (size : ℕ) → IfTold log (λ f. size ≡ length f.content) → size ≤ empty_size → IfTold log (λ f. length f.content ≤ empty_size)
unwritten_by [] size sized short = tt
unwritten_by (f ∷ past) size sized short = omega (arith, sized, short)

-- a log that is not left for the next one while it has no frame still has none
pub stays_unwritten : (t : Told) (p : PartView) (size : ℕ) (Due : Type 0) (log : List DiskFile) → IsPart t p → TellsFiles t → IfTold t.log (λ f. size ≡ length f.content) → IfTold t.log (λ f. length f.content ≤ empty_size)
    → (Due → empty_size < size) → ((Due → ⊥) → log ≡ t.log) → IfTold log (λ f. length f.content ≤ empty_size)
stays_unwritten t p size Due log is tells sized none written stays = subst (λ moments. IfTold moments (λ f. length f.content ≤ empty_size)) (sym (stays never)) none
  where
    never : Due → ⊥
    never due = omega (arith, written due, short_by t.disks t.log size tells.store is.tells.active (both_told t.log (λ f. size ≡ length f.content) (λ f. length f.content ≤ empty_size) sized none))

-- ---- one engine

pub part_moved : {Works WorksNow : PartView → Type 0} (t u : Told) (limits most : Limits) (here : Partition) (w v : World) (part : Part)
    (h : HoldsPart Works t limits here w part) → StoresStill WorksNow t h.view u → u.staged ≡ t.staged → most ≡ limits → v.limits ≡ w.limits
    → (v.flushed ≡ true → IfTold u.log (λ f. length f.content ≤ empty_size)) → HoldsPart WorksNow u most here v part
part_moved t u limits most here w v part h still staged same under flushed = record {
  view = still.view;
  is = still.is;
  of_number = still.here ∙ h.of_number;
  tells = still.tells;
  unstaged = staged ∙ h.unstaged;
  jobs = still.jobs;
  stores = still.plain ∙ h.stores;
  under = under ∙ h.under ∙ sym same;
  flushed = flushed;
}

pub part_fails_moving : {Works WorksNow : PartView → Type 0} (t u : Told) (limits : Limits) (here : Partition) (w : World) (part : Part) (h : HoldsPart Works t limits here w part)
    → ((p : PartView) → IsPart t p → TellsFiles t → Works p → HasFailedKeeping WorksNow u p.part (store_of p) None) → FailsPart WorksNow u here part part
part_fails_moving t u limits here w part h failed = record { kept = inl (keeping t limits here w part h u None (failed h.view h.is h.tells h.jobs)) }

-- ---- all engines

-- such a call leaves an engine that holds a part of the one world as one that holds it of the other
abbrev pub GoesOn : {S D F W : Type 0} → Eyes S D F W → World → World → (WithJobs S D F W → WithJobs S D F W → Type 0) → Type 0
GoesOn {S = S} {D = D} {F = F} {W = W} eyes w v Done =
    (here : Partition) (e f : WithJobs S D F W) (part : Part) → HoldsPart (works_of eyes e) (told_of eyes e) e.engine.part.limits here w part → Done e f → HoldsPart (works_of eyes f) (told_of eyes f) f.engine.part.limits here v part

abbrev pub Fails : {S D F W : Type 0} → Eyes S D F W → World → (WithJobs S D F W → WithJobs S D F W → Type 0) → Type 0
Fails {S = S} {D = D} {F = F} {W = W} eyes w Stopped =
    (here : Partition) (e f : WithJobs S D F W) (part : Part) → HoldsPart (works_of eyes e) (told_of eyes e) e.engine.part.limits here w part → Stopped e f → FailsPart (works_of eyes f) (told_of eyes f) here part part

-- each holds its part still, by what its call left
pub world_moved : {S D F W A E : Type 0} (r : Result A E) (eyes : Eyes S D F W) (only : Option ℕ) (Done : WithJobs S D F W → WithJobs S D F W → Type 0) (w v : World) (es fs : List (WithJobs S D F W)) → v.parts ≡ w.parts
    → GoesOn eyes w v Done → HoldWorld eyes only es w → OnOk r (AtEach (λ p e f. Done e f) 0 es fs) → OnOk r (HoldWorld eyes only fs v)
world_moved (Err fault) eyes only Done w v es fs same holds h done = tt
world_moved (Ok x) eyes only Done w v es fs same holds h done = subst (λ (parts : List Part). HoldWorld eyes only fs (record v { parts = parts })) (sym same) (record {
  each = at_each-join (λ p e f. Done e f) (HoldsOwn eyes only (length w.parts) w) (HoldsOwn eyes only (length w.parts) (record v { parts = w.parts })) 0 es fs w.parts
      (λ p e f part d holding seen. subst (λ (parts : List Part). HoldsPart (works_of eyes f) (told_of eyes f) f.engine.part.limits (partition_at p (length w.parts)) (record v { parts = parts }) part) same (holds (partition_at p (length w.parts)) e f part (holding seen) d)) done h.each;
  own = h.own;
})

-- which place it is
apart : (q p : ℕ) → (b c : Bool) → nat_lt q p ≡ b → (q == p) ≡ c → (R : Type 0) → (q < p → R) → (q ≡ p → R) → (p < q → R) → R
apart q p true c less same R before there behind = before (grind (arith, nat_tests, less))
apart q p false true less same R before there behind = there (grind (arith, nat_tests, same))
apart q p false false less same R before there behind = behind (grind (arith, nat_tests, less, same))

-- behind a fault each holds its part, or has failed and keeps it
pub worlds_moved : {S D F W : Type 0} (eyes : Eyes S D F W) (only : Option ℕ) (Done Stopped : WithJobs S D F W → WithJobs S D F W → Type 0) (at : ℕ) (w : World) (es fs : List (WithJobs S D F W)) → GoesOn eyes w w Done → Fails eyes w Stopped
    → HoldWorld eyes only es w → AtEach (StopsAt at Done Stopped) 0 es fs → KeepWorlds eyes only fs w w
worlds_moved eyes only Done Stopped at w es fs holds fails h stops =
    at_each-zip (λ p part f. KeepsOwn eyes only (length w.parts) w w p f part part) (λ p x y. x ≡ y)
    (λ p f parts. KeepsOwn eyes only (length w.parts) w w p f parts.0 parts.1) 0 w.parts fs w.parts
    (λ p part f other keeps same. subst (λ y. KeepsOwn eyes only (length w.parts) w w p f part y) same keeps)
    (at_each-turned (λ p f part. KeepsOwn eyes only (length w.parts) w w p f part part) 0 fs w.parts
    (at_each-join (StopsAt at Done Stopped) (HoldsOwn eyes only (length w.parts) w)
    (λ p f part. KeepsOwn eyes only (length w.parts) w w p f part part) 0 es fs w.parts one stops h.each))
    (at_each-same (λ p x y. x ≡ y) 0 w.parts (λ p part. refl))
  where
    one : (p : ℕ) (e f : WithJobs _ _ _ _) (part : Part) → StopsAt at Done Stopped p e f → HoldsOwn eyes only (length w.parts) w p e part → KeepsOwn eyes only (length w.parts) w w p f part part
    one p e f part stop holding seen = apart p at (nat_lt p at) (p == at) refl refl (KeepsPart (works_of eyes f) (told_of eyes f) f.engine.part.limits (partition_at p (length w.parts)) w w part part)
        (λ before. inl (holds (partition_at p (length w.parts)) e f part (holding seen) (stop.0 before)))
        (λ there. inr (inr (fails (partition_at p (length w.parts)) e f part (holding seen) (stop.1 there))))
        (λ behind. inl (subst (λ (x : WithJobs _ _ _ _). HoldsPart (works_of eyes x) (told_of eyes x) x.engine.part.limits (partition_at p (length w.parts)) w part) (sym (stop.2 behind)) (holding seen)))
