use Rattle.std.proofs.Common.{refl}
use Rattle.tc_component.specs.Rows.{component_bytes}
use Rattle.tc_component.proofs.Versions.{written_component}
use Rattle.tc_lsm_model.proofs.MergeLaws.{swapped_replaces}
use Rattle.tc_part_model.proofs.SealedInputs.{flush_goes_on}
use Rattle.tc_part_model.proofs.inputs.jobs_have_made.Goals as goal

pub returns-clause-made : goal.returns-clause-made
returns-clause-made c = λ content disks device is short fits tells whole. record { whole = written_component content (component_bytes content) is short refl fits; tells = tells; content = whole }

pub returns-clause-flush : goal.returns-clause-flush
returns-clause-flush c = λ t p table content is some makes. (flush_goes_on t p table content is some makes).content

pub returns-clause-merge : goal.returns-clause-merge
returns-clause-merge c = λ t p run content is merge. (swapped_replaces p.part run p.list content is.memory.list merge).content
