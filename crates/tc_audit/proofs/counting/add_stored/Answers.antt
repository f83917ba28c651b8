use Rattle.std.proofs.Common.{sym, subst}
use Rattle.std.proofs.lemmas.Result.{on_ok_weaker}
use Rattle.tc_audit.specs.Walking.{IsMoreBy}
use Rattle.tc_audit.proofs.ContentLaws.{stored_document}
use Rattle.tc_audit.proofs.Rooms.{counters_room, more_by, total_more}
use Rattle.tc_audit.proofs.StoredLaws.{kept_in, stored_under}
use Rattle.tc_audit.proofs.counting.add_stored.Goals as goal

pub add_known-requires-clause-countable : goal.add_known-requires-clause-countable
add_known-requires-clause-countable c =
    let names = c.args.names.now in
    let s = c.requires.stored in
    let dictionary = c.len-known.ensures.dictionary in
    record {
      document = s.document;
      is_record = stored_under c.args.of.form names c.args.of.bytes dictionary s;
      named = s.named;
      room = counters_room c.names_agree.ensures.values names c.args.schema.now s.document (kept_in c.args.of.form names c.args.of.bytes dictionary s).whole s.short c.requires.room;
    }

pub returns-clause-counted : goal.returns-clause-counted
returns-clause-counted c =
    let names = c.args.names.now in
    let before = c.args.schema.now in
    let s = c.requires.stored in
    let dictionary = c.len-known.ensures.dictionary in
    on_ok_weaker c.add_known.result
    (λ counted.
    subst (λ o. IsMoreBy o names before c.add_known.new.schema) (sym (stored_document c.document_meant.ensures.read c.args.of.form names c.args.of.bytes dictionary s))
    (more_by names before c.add_known.new.schema s.document (counted s.document (stored_under c.args.of.form names c.args.of.bytes dictionary s))))
    c.add_known.ensures.counted

pub returns-clause-room : goal.returns-clause-room
returns-clause-room c =
    let names = c.args.names.now in
    let before = c.args.schema.now in
    let s = c.requires.stored in
    let dictionary = c.len-known.ensures.dictionary in
    on_ok_weaker c.add_known.result
    (λ counted. total_more c.names_agree.ensures.values names before c.add_known.new.schema s.document (kept_in c.args.of.form names c.args.of.bytes dictionary s).whole s.short
    (more_by names before c.add_known.new.schema s.document (counted s.document (stored_under c.args.of.form names c.args.of.bytes dictionary s))))
    c.add_known.ensures.counted
