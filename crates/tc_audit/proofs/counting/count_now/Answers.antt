use Rattle.std.proofs.Common.{option_to_list, ap, arith}
use Rattle.std.proofs.lemmas.Result.{on_ok_weaker}
use Rattle.tc_record.specs.Borrowed.{Record}
use Rattle.tc_schema_model.specs.Occurrences.{count}
use Rattle.tc_audit.specs.Told.{document_in}
use Rattle.tc_audit.proofs.WaitingLaws.{shows_waiting, total_waiting}
use Rattle.tc_audit.proofs.counting.count_now.Goals as goal

pub add_stored-requires-clause-room : goal.add_stored-requires-clause-room
add_stored-requires-clause-room c =
    let r = c.args.recount.now in
    λ path. omega (arith, total_waiting r.names r.shapes.form r.shapes.known.items r.schema c.requires.sound.known path, c.requires.room path)

pub returns-clause-counted : goal.returns-clause-counted
returns-clause-counted c =
    let r = c.args.recount.now in
    let known = c.requires.sound.known in
    on_ok_weaker c.add_stored.result
    (λ more path t.
    let before = shows_waiting r.names r.shapes.form r.shapes.known.items r.schema known path t in
    let after = shows_waiting r.names r.shapes.form r.shapes.known.items c.add_stored.new.schema known path t in
    omega (arith, more path t, before, after, ap (λ (x : Record). count (option_to_list (document_in r.names x.bytes)) path t) c.again.ensures))
    c.add_stored.ensures.counted
