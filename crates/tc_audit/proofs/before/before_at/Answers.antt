use Rattle.std.proofs.Common.{◌∙◌, sym, subst}
use Rattle.tc_record.specs.Record.{IsNumberedRecordIn}
use Rattle.tc_audit.proofs.HeldParts.{held_is}
use Rattle.tc_audit.proofs.before.before_at.Goals as goal

pub returns-then-is_alike-clause-alike : goal.returns-then-is_alike-clause-alike
returns-then-is_alike-clause-alike g c = λ same whole own form n m tells told is that.
    let range = c.record_range-begin in
    let bytes = held_is _ c.hold.new.self c.args.component.now.index.slots c.args.place.at range.result.0 range.result.1 whole tells c.hold.ensures.of c.in-Ok.ensures.has range.ensures.begin range.ensures.length in
    c.is_alike.ensures c.if-is_alike.true own form n m told is (subst (IsNumberedRecordIn form m) (sym (c.part.ensures.part ∙ bytes)) that)
