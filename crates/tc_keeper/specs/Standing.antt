-- How engines stand to a world: each holds the partition of the world that has its number. What a part tells comes from the
-- traits of its store.
use Rattle.std.specs.Prelude.{◌≡◌, ◌≤◌, ◌⊎◌, ℕ, true, List, [], length, zip, Option, Some, None}
use Rattle.tc_store.specs.Moments.{IfTold}
use Rattle.tc_log.specs.Layout.{empty_size}
use Rattle.tc_lsm_model.specs.Contents.{Partition}
use Rattle.tc_plain_model.specs.Room.{Limits}
use Rattle.tc_plain_model.specs.Writes.{Write, after_writes}
use Rattle.tc_part_model.specs.Meaning.{IsPart, plain_of}
use Rattle.tc_part_model.specs.PartState.{Told}
use Rattle.tc_part_model.specs.PartView.{PartView}
use Rattle.tc_route.specs.Answers.{stores_of, KeepOwn}
use Rattle.tc_run_model.specs.World.{Part, World}
use Rattle.tc_work.specs.Failing.{HasFailedKeeping}
use Rattle.tc_work.specs.Moving.{Eyes}
use Rattle.tc_work.specs.Settling.{TellsFiles}
use Rattle.tc_keeper.specs.Places.{AtEach}
use Rattle.tc_keeper.specs.WithJobs.{told_of, works_of, WithJobs}

-- the partition of a number, of so many
abbrev pub partition_at : ℕ → ℕ → Partition
partition_at p count = record { number = p; count = count }

-- ---- one engine

-- It stores what a partition of the world stores, with the names that this has taken, under the world's limits. Nothing is
-- staged, and the jobs that are out work for it. Where all writes of the world were flushed, its log has no frame.
pub record HoldsPart (Works : PartView → Type 0) (t : Told) (limits : Limits) (here : Partition) (w : World) (part : Part) : Type 0 where
  pub view : PartView
  pub is : IsPart t view
  pub of_number : view.part ≡ here
  pub unstaged : t.staged ≡ []
  pub tells : TellsFiles t
  pub jobs : Works view
  pub stores : plain_of t view ≡ part.now
  pub under : w.limits ≡ limits
  pub flushed : w.flushed ≡ true → IfTold t.log (λ f. length f.content ≤ empty_size)

-- It has failed, and its files keep what the one part stores, or that or what the other one does, which is that behind a frame.
-- The jobs that are out work for what is kept.
pub record FailsPart (Works : PartView → Type 0) (t : Told) (here : Partition) (before after : Part) : Type 0 where
  pub kept : HasFailedKeeping Works t here before.now.pairs None
      ⊎ ((frame : List Write) × HasFailedKeeping Works t here before.now.pairs (Some frame) × (after_writes before.now.pairs frame ≡ after.now.pairs))

-- It holds the part of the one world or of the other, or has failed and keeps one of them.
abbrev pub KeepsPart : (PartView → Type 0) → Told → Limits → Partition → World → World → Part → Part → Type 0
KeepsPart Works t limits here w v before after = HoldsPart Works t limits here w before ⊎ (HoldsPart Works t limits here v after ⊎ FailsPart Works t here before after)

-- ---- all engines, or one of them

-- the partition of this number is looked at, where all are or that one is
abbrev pub IsSeen : Option ℕ → ℕ → Type 0
IsSeen None p = Unit {0}
IsSeen (Some q) p = p ≡ q

-- the engine p, if it is looked at, holds this part of so many
abbrev pub HoldsOwn : {S D F W : Type 0} → Eyes S D F W → Option ℕ → ℕ → World → ℕ → WithJobs S D F W → Part → Type 0
HoldsOwn eyes only count w p e part = IsSeen only p → HoldsPart (works_of eyes e) (told_of eyes e) e.engine.part.limits (partition_at p count) w part

-- it holds its part of the one world or of the other, or has failed and keeps one of them
abbrev pub KeepsOwn : {S D F W : Type 0} → Eyes S D F W → Option ℕ → ℕ → World → World → ℕ → WithJobs S D F W → Part → Part → Type 0
KeepsOwn eyes only count w v p e before after = IsSeen only p → KeepsPart (works_of eyes e) (told_of eyes e) e.engine.part.limits (partition_at p count) w v before after

-- Each that is looked at holds the part of the world that has its number. Where all are the parts have keys of their own alone.
pub record HoldWorld {S D F W : Type 0} (eyes : Eyes S D F W) (only : Option ℕ) (es : List (WithJobs S D F W)) (w : World) : Type 0 where
  pub each : AtEach (HoldsOwn eyes only (length w.parts) w) 0 es w.parts
  pub own : only ≡ None → KeepOwn (length w.parts) 0 (stores_of w)

-- Each by itself, if it is looked at, holds its part of the one world or of the other, or has failed and keeps one of them.
abbrev pub KeepWorlds : {S D F W : Type 0} → Eyes S D F W → Option ℕ → List (WithJobs S D F W) → World → World → Type 0
KeepWorlds eyes only es w v = AtEach (λ p e parts. KeepsOwn eyes only (length w.parts) w v p e parts.0 parts.1) 0 es (zip w.parts v.parts)
