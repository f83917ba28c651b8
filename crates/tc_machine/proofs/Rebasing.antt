-- A state may be told from what its list holds on: so each call of a part reads what it stores and its writes from its files.
use Rattle.std.proofs.Common.{refl}
use Rattle.tc_lsm_model.specs.Contents.{Partition}
use Rattle.tc_machine.specs.Events.{rebased}
use Rattle.tc_machine.specs.Kept.{IsKept}
use Rattle.tc_machine.specs.State.{State}
use Rattle.tc_machine.proofs.MemorySteps.{rebased_memory}
use Rattle.tc_machine.proofs.RunSteps.{expected_same, same_files}

pub rebased_is_kept : (part : Partition) (s : State) → IsKept part s → IsKept part (rebased s)
rebased_is_kept part s k = record {
  memory = rebased_memory part s k.memory;
  files = same_files part s (rebased s) refl refl refl refl refl refl refl refl k.files;
  expected = λ running sound name there. expected_same s (rebased s) refl refl refl refl (λ is. is) name (k.expected running sound name there);
  next_log = k.next_log;
}
