use Rattle.std.proofs.Common.{rules, ◌≡◌, ◌+◌, ◌-◌, ◌++◌, Result, Err, subst}
use Rattle.tc_store.specs.declared.damage.Damage.{Damage}
use Rattle.tc_jobs.specs.declared.fault.JobFault.{JobFault}
use Rattle.tc_jobs.specs.declared.fault.JobFault.TheVariants.{Damaged}
use Rattle.tc_jobs.specs.declared.flushing.FlushInputs.{FlushInputs}
use Rattle.tc_jobs.specs.Faults.{AreFiles, AreFilesOr, IfDamaged}
use Rattle.tc_jobs.specs.Lists.{file_names}
use Rattle.tc_open.specs.FlushedLogs.{log_names}
use Rattle.tc_open.proofs.log_inputs.inputs_over.Goals as goal

-- what holds of damage holds of the damage that a fault is
damage_told : (fault : JobFault) (damage : Damage) (P : Damage → Type 0) → fault ≡ Damaged damage → IfDamaged {X = FlushInputs} (Err fault) P → P damage
damage_told fault damage P is told = subst (λ f. IfDamaged {X = FlushInputs} (Err f) P) is told

pub returns-in-Err-Damaged-clause-damaged : goal.returns-in-Err-Damaged-clause-damaged
returns-in-Err-Damaged-clause-damaged g c =
    let head = c.args.head in
    let files = file_names c.args.list.now in
    let told : AreFilesOr (files ++ log_names head.from (head.to + 1 - head.from)) c.disordered.result =
    c.disordered.ensures files (damage_told c.in-Err-Damaged.field-0 c.in-Err-Damaged.damage (AreFiles files) c.in-Err-Damaged.field-0-is c.in-Err-Damaged.ensures.damaged) in
    search rules

pub returns-in-Err-Damaged-clause-no_disk : goal.returns-in-Err-Damaged-clause-no_disk
returns-in-Err-Damaged-clause-no_disk g c =
    let head = c.args.head in
    let files = file_names c.args.list.now in
    let told : AreFilesOr (files ++ log_names head.from (head.to + 1 - head.from)) c.disordered.result =
    c.disordered.ensures files (damage_told c.in-Err-Damaged.field-0 c.in-Err-Damaged.damage (AreFiles files) c.in-Err-Damaged.field-0-is c.in-Err-Damaged.ensures.damaged) in
    search rules
