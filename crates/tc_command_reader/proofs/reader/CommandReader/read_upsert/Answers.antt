use Rattle.tc_command_reader.proofs.UpsertLines.{asked_by}
use Rattle.tc_command_reader.proofs.reader.CommandReader.read_upsert.Goals as goal

pub returns-in-Some-clause-asked : goal.returns-in-Some-clause-asked
returns-in-Some-clause-asked c =
    let h = c.in-Ok.ensures.cases in
    asked_by c.args.line.now c.in-Ok.text.now c.in_ok-whole.field-0 c.in-Some.whole c.upserted_in.result h.1 h.0 c.in_ok-whole.ensures.meant c.in-Some.is
    c.upserted_in.ensures.line c.upserted_in.ensures.shallow
