-- Engines that were settled hold the same world, and keep it where one of them failed.
use Rattle.std.proofs.Common.{◌≡◌, ℕ, List, length, refl, ap}
use Rattle.std.specs.Prelude.{Option, Result, OnOk}
use Rattle.tc_store.specs.Moments.{IfTold}
use Rattle.tc_part_model.specs.PartState.{PartState}
use Rattle.tc_run_model.specs.World.{World}
use Rattle.tc_work.specs.Moving.{Eyes}
use Rattle.tc_work.specs.Settling.{IsDue}
use Rattle.tc_work.specs.declared.fault.EngineFault.{EngineFault}
use Rattle.tc_keeper.specs.Moving.{FailsSettling, Settles, StopsAt}
use Rattle.tc_keeper.specs.Places.{AtEach}
use Rattle.tc_keeper.specs.Standing.{HoldWorld, KeepWorlds}
use Rattle.tc_keeper.specs.WithJobs.{told_of, WithJobs}
use Rattle.tc_keeper.proofs.EnginesMoved.{part_fails_moving, part_moved, stays_unwritten, world_moved, worlds_moved, Fails, GoesOn}

settled_holds : {S D F W : Type 0} (eyes : Eyes S D F W) (size : D → ℕ) → ((d : D) → IfTold (eyes.history d) (λ f. size d ≡ length f.content)) → (w : World) → GoesOn eyes w w (Settles eyes size)
settled_holds eyes size sized w here e f part h s =
    part_moved (told_of eyes e) (told_of eyes f) e.engine.part.limits f.engine.part.limits here w w part h (s.stays.stores h.view h.is h.tells h.jobs) (ap (λ (s : PartState _ _ _ _). s.staged) s.moved.moved)
    (ap (λ (s : PartState _ _ _ _). s.limits) s.moved.moved) refl
    (λ now. stays_unwritten (told_of eyes e) h.view (size e.engine.part.log.device) (IsDue size e.engine.part) (eyes.history f.engine.part.log.device) h.is h.tells
    (sized e.engine.part.log.device) (h.flushed now) (λ due. due.written) (λ never. ap (λ l. eyes.history l.device) (s.settled.stays never).1))

failing : {S D F W : Type 0} (eyes : Eyes S D F W) → (why : EngineFault) (w : World) → Fails eyes w (FailsSettling eyes why)
failing eyes why w here e f part h s = part_fails_moving (told_of eyes e) (told_of eyes f) e.engine.part.limits here w part h s.fails.kept

pub world_settled : {S D F W A E : Type 0} (r : Result A E) (eyes : Eyes S D F W) (size : D → ℕ) → ((d : D) → IfTold (eyes.history d) (λ f. size d ≡ length f.content)) → (only : Option ℕ) (w : World) (es fs : List (WithJobs S D F W))
    → HoldWorld eyes only es w → OnOk r (AtEach (λ p e f. Settles eyes size e f) 0 es fs) → OnOk r (HoldWorld eyes only fs w)
world_settled r eyes size sized only w es fs h done = world_moved r eyes only (Settles eyes size) w w es fs refl (settled_holds eyes size sized w) h done

pub worlds_settled : {S D F W : Type 0} (eyes : Eyes S D F W) (size : D → ℕ) → ((d : D) → IfTold (eyes.history d) (λ f. size d ≡ length f.content))
    → (only : Option ℕ) (at : ℕ) (why : EngineFault) (w : World) (es fs : List (WithJobs S D F W))
    → HoldWorld eyes only es w → AtEach (StopsAt at (Settles eyes size) (FailsSettling eyes why)) 0 es fs → KeepWorlds eyes only fs w w
worlds_settled eyes size sized only at why w es fs h stops = worlds_moved eyes only (Settles eyes size) (FailsSettling eyes why) at w es fs (settled_holds eyes size sized w) (failing eyes why w) h stops
