use Rattle.std.proofs.Common.{◌∙◌, inr, sym, ap, subst, arith}
use Rattle.tc_model.specs.Document.{document_shape}
use Rattle.tc_compact.specs.Meant.{IsRecordUnder}
use Rattle.tc_schema_model.specs.Added.{added}
use Rattle.tc_schema_model.specs.Counted.{Counted, total_at}
use Rattle.tc_schema_model.proofs.CountingLaws.{total_nothing}
use Rattle.tc_audit.specs.Waiting.{once}
use Rattle.tc_audit.proofs.ContentLaws.{stored_document}
use Rattle.tc_audit.proofs.Rooms.{counters_room}
use Rattle.tc_audit.proofs.StoredLaws.{kept_in, stored_under, stored_within}
use Rattle.tc_audit.proofs.shapes.schema_of.Goals as goal

pub known-requires : goal.known-requires
known-requires c =
    let w = stored_within c.requires.0 c.args.names.now c.args.bytes.now c.len-known.ensures.dictionary c.requires.1 in
    inr (w.tree, (c.requires.0, (w.told, w.is_record)))

pub add_known-requires-clause-countable : goal.add_known-requires-clause-countable
add_known-requires-clause-countable c =
    let names = c.args.names.now in
    let s = c.requires.1 in
    let dictionary = c.len-known.ensures.dictionary in
    record {
      document = s.document;
      is_record = subst (IsRecordUnder names s.document) (sym c.known.ensures.bytes) (stored_under c.requires.0 names c.args.bytes.now dictionary s);
      named = s.named;
      room = counters_room c.names_agree.ensures.values names c.empty-one.result s.document (kept_in c.requires.0 names c.args.bytes.now dictionary s).whole s.short
          (λ path. omega (arith, ap (λ (d : Counted). total_at names d path) c.empty-one.ensures, total_nothing names path));
    }

pub returns : goal.returns
returns c =
    let names = c.args.names.now in
    let s = c.requires.1 in
    let dictionary = c.len-known.ensures.dictionary in
    let under = subst (IsRecordUnder names s.document) (sym c.known.ensures.bytes) (stored_under c.requires.0 names c.args.bytes.now dictionary s) in
    c.in_ok-add_known.ensures.added s.document under ∙ ap (added names (document_shape s.document)) c.empty-one.ensures
    ∙ ap (once names) (sym (stored_document c.document_meant.ensures.read c.requires.0 names c.args.bytes.now dictionary s))
