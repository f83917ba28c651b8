-- Every run is sound.
use Rattle.std.proofs.Common.{◌≡◌}
use Rattle.std.specs.Prelude.{take}
use Rattle.std.proofs.lemmas.List.Elements.{All-weaker}
use Rattle.tc_plain_model.specs.Writes.{after_writes}
use Rattle.tc_lsm_model.specs.Contents.{Partition}
use Rattle.tc_lsm_model.specs.Merges.{IsMerge, in_run}
use Rattle.tc_machine.specs.Kept.{IsKept, MergeFits, SnapshotFits}
use Rattle.tc_machine.specs.Sound.{EveryRunIsSound, IsSound}
use Rattle.tc_machine.specs.State.{State, held_in, history}
use Rattle.tc_machine.proofs.Events.{run_keeps}
use Rattle.tc_machine.proofs.Holding.{active_shapes, holds, sealed_holds, sealed_shapes}
use Rattle.tc_machine.proofs.OpeningSteps.{opened_is_kept}
use Rattle.tc_machine.proofs.Options.{if_some_map}
use Rattle.tc_machine.proofs.PictureLaws.{picture_recovers}

pub kept_is_sound : (part : Partition) (s : State) → IsKept part s → IsSound part s
kept_is_sound part s k = record {
  list = k.memory.list;
  sealed_shapes = sealed_shapes k.memory;
  active_shapes = active_shapes k.memory;
  holds = holds k.memory;
  snapshots = All-weaker (SnapshotFits s.base (history s)) (λ p. held_in p ≡ after_writes s.base (take p.number (history s))) (λ p fits. fits.holds) s.snapshots k.memory.snapshots;
  flush = k.memory.flush;
  merge = if_some_map (MergeFits s.list) (λ m. IsMerge (in_run m.run s.list) m.target) s.merge (λ m is fits. fits.is_merge) k.memory.merge;
  pictures = λ picture left. picture_recovers part s k picture left;
  files = k.files;
  list_holds = k.memory.list_holds;
  sealed_holds = sealed_holds k.memory;
}

pub every_run : EveryRunIsSound
every_run part picture cs ls opens events s runs = kept_is_sound part s (run_keeps part events _ s (opened_is_kept part picture cs ls opens) runs)
