use Rattle.std.proofs.Common.{subst}
use Rattle.tc_record.specs.Record.{IsNumberedRecordIn}
use Rattle.component_rows.proofs.builders.is_written.Goals as goal

pub returns-in-Some : goal.returns-in-Some
returns-in-Some c = λ yes.
    let told = c.in-Some.ensures in
    let n = told.spells.0 in
    (n, subst (IsNumberedRecordIn 2 n) told.bytes (subst (λ form. IsNumberedRecordIn form n c.in-Some._record.bytes) told.form told.spells.1.1))
