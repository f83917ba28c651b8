-- The jobs of a partition that are out, as contracts see them.
use Rattle.std.specs.Prelude.{Option}
use Rattle.tc_flush.specs.Jobs as flush
use Rattle.tc_merge.specs.Jobs as merge
use Rattle.tc_running.specs.declared.underway.Underway.{Underway}
use Rattle.tc_running.specs.declared.underway.Underway.TheVariants.{OnThread, Done}

-- a flush and a merge at most, each as it was when it began
pub record JobsState (F D W : Type 0) : Type 0 where
  pub flush : Option (flush.JobState D W)
  pub merge : Option (merge.JobState F D W)

-- one of these holds of a job that is out: of the handle of its thread, or of what is left of it
abbrev pub IsUnderway : {H O : Type 0} → Underway H O → (H → Type 0) → (O → Type 0) → Type 0
IsUnderway (OnThread handle) P Q = P handle
IsUnderway (Done out) P Q = Q out
