use Rattle.std.proofs.Common.{List, length, subst}
use Rattle.std.proofs.lemmas.Result.{on_ok_weaker}
use Rattle.tc_model.specs.Document.{Name}
use Rattle.tc_schema_model.specs.Counted.{IsCanonical}
use Rattle.tc_audit.specs.Waiting.{all_counted}
use Rattle.tc_audit.specs.Walking.{IsMoreBy}
use Rattle.tc_audit.proofs.ContentLaws.{stored_document}
use Rattle.tc_audit.proofs.Outcomes.{ok_and}
use Rattle.tc_audit.proofs.Rooms.{total_more}
use Rattle.tc_audit.proofs.StoredLaws.{kept_in}
use Rattle.tc_audit.proofs.WaitingLaws.{all_canonical}
use Rattle.tc_audit.proofs.counting.count_record.Goals as goal

pub returns-clause-canonical : goal.returns-clause-canonical
returns-clause-canonical c =
    let after = c.count_or_wait.new.recount in
    ok_and c.count_or_wait.result c.count_or_wait.ensures.names c.count_or_wait.ensures.sound (λ same sound. subst (λ (ns : List Name). IsCanonical (length ns) (all_counted after)) same (all_canonical after sound))

pub returns-clause-room : goal.returns-clause-room
returns-clause-room c =
    let r = c.args.recount.now in
    let after = c.count_or_wait.new.recount in
    let s = c.requires.stored in
    let dictionary = c.len-known.ensures.dictionary in
    on_ok_weaker c.count_or_wait.result
    (λ more. total_more c.names_agree.ensures.values r.names (all_counted r) (all_counted after) s.document (kept_in c.args.of.now.form r.names c.args.of.now.bytes dictionary s).whole s.short
    (subst (λ o. IsMoreBy o r.names (all_counted r) (all_counted after)) (stored_document c.document_meant.ensures.read c.args.of.now.form r.names c.args.of.now.bytes dictionary s) more))
    c.count_or_wait.ensures.counted
