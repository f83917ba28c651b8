-- Events one after the other, and the calls of one device among them.
use Rattle.std.specs.Prelude.{◌≡◌, List, [], ◌∷◌, ◌++◌}
use Rattle.tc_store.specs.declared.file_name.FileName.{FileName}
use Rattle.tc_store.specs.Disk.{home}
use Rattle.tc_store.specs.DiskFile.{DiskFile}
use Rattle.tc_lsm_model.specs.Contents.{Partition}
use Rattle.tc_machine.specs.State.{State}
use Rattle.tc_machine.specs.Events.{Event, device_called, with_entry, step}
use Rattle.tc_machine.specs.Steps.{May}

-- these events lead from the one state to the other, each under its condition
abbrev pub Runs : Partition → State → List Event → State → Type 0
Runs part s [] s' = s ≡ s'
Runs part s (e ∷ es) s' = May part e s × Runs part (step e s) es s'

-- the calls of a device that leave these moments of its file, of which the newest comes first
abbrev pub calls : FileName → List DiskFile → List Event
calls name [] = []
calls name (f ∷ fs) = calls name fs ++ device_called name f ∷ []

-- the state after these moments
abbrev pub after_moments : State → FileName → List DiskFile → State
after_moments s name [] = s
after_moments s name (f ∷ fs) = with_entry name (home f) s
