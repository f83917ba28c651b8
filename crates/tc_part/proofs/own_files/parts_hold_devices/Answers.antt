use Rattle.tc_part.proofs.PartDevices.{part_devices, part_log}
use Rattle.tc_part.proofs.own_files.parts_hold_devices.Goals as goal

pub returns-clause-devices : goal.returns-clause-devices
returns-clause-devices c = part_devices

pub returns-clause-log_out : goal.returns-clause-log_out
returns-clause-log_out c = part_log
