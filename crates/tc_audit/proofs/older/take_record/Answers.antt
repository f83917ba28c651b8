use Rattle.std.proofs.Common.{sym, subst}
use Rattle.std.proofs.lemmas.Bool.{OnTrue_at, both_ways}
use Rattle.tc_compact.specs.Meant.{IsRecordUnder}
use Rattle.tc_audit.proofs.Rooms.{less_by}
use Rattle.tc_audit.proofs.older.take_record.Goals as goal

pub returns-clause-canonical : goal.returns-clause-canonical
returns-clause-canonical c = λ yes. OnTrue_at yes c.take_known.ensures.canonical

pub returns-clause-room : goal.returns-clause-room
returns-clause-room c = λ yes. OnTrue_at yes c.take_known.ensures.fewer

pub returns-clause-taken : goal.returns-clause-taken
returns-clause-taken c = λ yes d under.
    let spelled = subst (IsRecordUnder c.args.recount.now.names d) (sym c.known.ensures.bytes) under in
    less_by c.args.recount.now.names c.args.recount.now.schema c.take_known.new.schema d (OnTrue_at yes c.take_known.ensures.counted d spelled)

pub returns-clause-other : goal.returns-clause-other
returns-clause-other c = λ refused d under fits.
    let spelled = subst (IsRecordUnder c.args.recount.now.names d) (sym c.known.ensures.bytes) under in
    both_ways c.take_known.result refused ((c.take_known.ensures.fits d spelled).1 fits)
