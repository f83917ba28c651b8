-- Engines that were flushed hold the world behind a flush, and keep theirs where one of them failed.
use Rattle.std.proofs.Common.{◌≡◌, ℕ, List, length, refl, ap}
use Rattle.std.specs.Prelude.{Option, Result, OnOk}
use Rattle.tc_request_model.specs.Request.{flush}
use Rattle.tc_store.specs.Moments.{IfTold}
use Rattle.tc_part_model.specs.PartState.{PartState}
use Rattle.tc_run_model.specs.World.{World, after}
use Rattle.tc_work.specs.Moving.{Eyes}
use Rattle.tc_work.specs.declared.fault.EngineFault.{EngineFault}
use Rattle.tc_keeper.specs.Moving.{FailsFlushing, Flushes, StopsAt}
use Rattle.tc_keeper.specs.Places.{AtEach}
use Rattle.tc_keeper.specs.Standing.{HoldWorld, KeepWorlds}
use Rattle.tc_keeper.specs.WithJobs.{told_of, WithJobs}
use Rattle.tc_keeper.proofs.EnginesMoved.{part_fails_moving, part_moved, unwritten_by, world_moved, worlds_moved, Fails, GoesOn}

-- the part of a world with the same limits, whether that was flushed or not
flushed_holds : {S D F W : Type 0} (eyes : Eyes S D F W) (size : D → ℕ) → ((d : D) → IfTold (eyes.history d) (λ f. size d ≡ length f.content)) → (w v : World) → v.limits ≡ w.limits → GoesOn eyes w v (Flushes eyes size)
flushed_holds eyes size sized w v same here e f part h s =
    part_moved (told_of eyes e) (told_of eyes f) e.engine.part.limits f.engine.part.limits here w v part h (s.stays.stores h.view h.is h.tells h.jobs) (ap (λ (s : PartState _ _ _ _). s.staged) s.moved.moved)
    (ap (λ (s : PartState _ _ _ _). s.limits) s.moved.moved) same (λ now. unwritten_by (eyes.history f.engine.part.log.device) (size f.engine.part.log.device) (sized f.engine.part.log.device) s.flushed.empty)

failing : {S D F W : Type 0} (eyes : Eyes S D F W) → (why : EngineFault) (w : World) → Fails eyes w (FailsFlushing eyes why)
failing eyes why w here e f part h s = part_fails_moving (told_of eyes e) (told_of eyes f) e.engine.part.limits here w part h s.fails.kept

pub world_flushed : {S D F W A E : Type 0} (r : Result A E) (eyes : Eyes S D F W) (size : D → ℕ) → ((d : D) → IfTold (eyes.history d) (λ f. size d ≡ length f.content)) → (only : Option ℕ) (w : World) (es fs : List (WithJobs S D F W))
    → HoldWorld eyes only es w → OnOk r (AtEach (λ p e f. Flushes eyes size e f) 0 es fs) → OnOk r (HoldWorld eyes only fs (after flush w))
world_flushed r eyes size sized only w es fs h done = world_moved r eyes only (Flushes eyes size) w (after flush w) es fs refl (flushed_holds eyes size sized w (after flush w) refl) h done

pub worlds_flushed : {S D F W : Type 0} (eyes : Eyes S D F W) (size : D → ℕ) → ((d : D) → IfTold (eyes.history d) (λ f. size d ≡ length f.content))
    → (only : Option ℕ) (at : ℕ) (why : EngineFault) (w : World) (es fs : List (WithJobs S D F W))
    → HoldWorld eyes only es w → AtEach (StopsAt at (Flushes eyes size) (FailsFlushing eyes why)) 0 es fs → KeepWorlds eyes only fs w w
worlds_flushed eyes size sized only at why w es fs h stops = worlds_moved eyes only (Flushes eyes size) (FailsFlushing eyes why) at w es fs (flushed_holds eyes size sized w w refl) (failing eyes why w) h stops
