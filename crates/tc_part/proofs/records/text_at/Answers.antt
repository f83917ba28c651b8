use Rattle.std.proofs.Common.{◌≡◌, ◌∙◌, Err, length, inl, inr, sym, ap, subst}
use Rattle.std.specs.Prelude.{IfSome}
use Rattle.tc_request_model.specs.Rendered.{document_text}
use Rattle.tc_component.specs.Fetching.{length_at, record_at, IsRecordWithin}
use Rattle.tc_component.specs.Meaning.{IsRecordOfOne}
use Rattle.tc_compact.specs.Meant.{IsRecordUnder}
use Rattle.tc_query.specs.Shown.{IsReadOf}
use Rattle.tc_part.proofs.Spelled.{one_under, if_some_then}
use Rattle.tc_part.proofs.records.text_at.Goals as goal

pub no_document-requires-clause-cause : goal.no_document-requires-clause-cause
no_document-requires-clause-cause g c = λ κs within refused. inr (λ d under.
    let names = c.args.component.now.index.names in
    let here = subst (IsRecordUnder names d) (sym (c.in-Some.ensures.same.0 ∙ c.as_slice.ensures.same)) under in
    c.in-Err.ensures.refused (ap Err refused) d (subst (λ names. IsRecordUnder names d c.in-Some.found.bytes) (sym c.names.ensures) here))

pub no_document-requires-in-None-clause-cause : goal.no_document-requires-in-None-clause-cause
no_document-requires-in-None-clause-cause g c = λ κs within refused.
    let index = c.args.component.now.index in
    inl (λ is. c.in-None.ensures.none (subst (IsRecordWithin index.version (length index.names)) (sym c.as_slice.ensures.same) is))

pub returns-in-Ok-clause-text : goal.returns-in-Ok-clause-text
returns-in-Ok-clause-text g c = λ d.
    let component = c.args.component.now in
    let version = component.index.version in
    let names = component.index.names in
    let found = c.in-Ok.ensures.document in
    let e = found.0 in
    let under = subst (IsRecordUnder names e) c.in-Some.ensures.same.0 (subst (λ names. IsRecordUnder names e c.in-Some.found.bytes) c.names.ensures found.1) in
    if_some_then (g.F.Frozen.content component.file) _ _
    (λ whole read one.
    c.in-Ok.ensures.text e found.1
    ∙ ap (document_text c.args.key) (one_under version names d e c.as_slice.result.now c.in-Some.ensures.found.told (subst (IsRecordOfOne version names d) (sym (c.as_slice.ensures.same ∙ read)) one) under))
    c.in_ok-bytes.ensures.read

pub returns-in-Ok-clause-document : goal.returns-in-Ok-clause-document
returns-in-Ok-clause-document g c = let found = c.in-Ok.ensures.document in (found.0, c.in-Ok.ensures.text found.0 found.1)

pub returns-in-Ok-clause-read : goal.returns-in-Ok-clause-read
returns-in-Ok-clause-read g c =
    let component = c.args.component.now in
    let slots = component.index.slots in
    let found = c.in-Ok.ensures.document in
    let e = found.0 in
    let same = sym c.as_slice.ensures.same in
    let is : IsReadOf (λ file. g.F.Frozen.content file) component c.args.place e = record {
      bytes = c.as_slice.result.now;
      long = subst (λ bytes. length bytes ≡ length_at slots c.args.place.at) same c.in_ok-bytes.ensures.long;
      spells = subst (IsRecordUnder component.index.names e) c.in-Some.ensures.same.0 (subst (λ names. IsRecordUnder names e c.in-Some.found.bytes) c.names.ensures found.1);
      stands = subst (λ bytes. IfSome (g.F.Frozen.content component.file) (λ whole. bytes ≡ record_at slots c.args.place.at whole)) same c.in_ok-bytes.ensures.read;
    } in
    (e, c.in-Ok.ensures.text e found.1, is)
