-- What is left of an engine that failed.
use Rattle.std.specs.Prelude.{◌≡◌, ◌⊎◌, List, Option, true, Some, None}
use Rattle.tc_lsm_model.specs.Contents.{Partition}
use Rattle.tc_plain_model.specs.Writes.{Pairs, Write}
use Rattle.tc_part.specs.Closing.{HasLogsOf}
use Rattle.tc_part_model.specs.Meaning.{HasFailedAs, IsPart}
use Rattle.tc_part_model.specs.PartState.{Told}
use Rattle.tc_part_model.specs.PartView.{PartView, store_of}
use Rattle.tc_work.specs.Settling.{TellsFiles}

-- It has failed. Its files keep what is stored, with the frame whose append failed or without it, and its logs are those that
-- a part has which stores that, so that the same is kept when it is closed. The jobs that are out work for that part.
pub record HasFailedKeeping (Works : PartView → Type 0) (t : Told) (part : Partition) (pairs : Pairs) (frame : Option (List Write)) : Type 0 where
  pub view : PartView
  pub here : view.part ≡ part
  pub holds : store_of view ≡ pairs
  pub files : HasFailedAs t view frame
  pub logs : HasLogsOf t view
  pub jobs : Works view

-- where its files were told, with what it stored
abbrev pub FailsKeeping : (PartView → Type 0) → (PartView → Type 0) → Told → Told → Type 0
FailsKeeping Works WorksNow old new = (p : PartView) → IsPart old p → TellsFiles old → Works p → HasFailedKeeping WorksNow (record new { failed = true }) p.part (store_of p) None

-- without these writes, or with all of them
abbrev pub HasFailedWith : (PartView → Type 0) → List Write → Told → PartView → Type 0
HasFailedWith Works ws t p = HasFailedKeeping Works t p.part (store_of p) None ⊎ HasFailedKeeping Works t p.part (store_of p) (Some ws)
