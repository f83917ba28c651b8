use Rattle.std.proofs.Common.{◌≡◌, ◌∙◌, Err, length, inl, inr, sym, ap, subst}
use Rattle.std.specs.Prelude.{IfSome}
use Rattle.tc_model.specs.Document.{document_shape}
use Rattle.tc_component.specs.Fetching.{length_at, record_at, IsRecordWithin}
use Rattle.tc_component.specs.Meaning.{IsRecordOfOne}
use Rattle.tc_compact.specs.Meant.{IsRecordUnder}
use Rattle.tc_query.specs.Shown.{IsReadOf}
use Rattle.tc_part.proofs.Spelled.{one_under, if_some_then}
use Rattle.tc_part.proofs.records.shape_at.Goals as goal

pub no_document-requires-clause-cause : goal.no_document-requires-clause-cause
no_document-requires-clause-cause g c = λ κs within refused. inr (λ d under.
    let names = c.args.component.now.index.names in
    let here = subst (IsRecordUnder names d) (sym (c.in-Some.ensures.same.0 ∙ c.as_slice.ensures.same)) under in
    c.in-Err.ensures.refused (ap Err refused) d (subst (λ names. IsRecordUnder names d c.in-Some.found.bytes) (sym c.names.ensures) here))

pub no_document-requires-in-None-clause-cause : goal.no_document-requires-in-None-clause-cause
no_document-requires-in-None-clause-cause g c = λ κs within refused.
    let index = c.args.component.now.index in
    inl (λ is. c.in-None.ensures.none (subst (IsRecordWithin index.version (length index.names)) (sym c.as_slice.ensures.same) is))

pub returns-in-Ok-clause-shape : goal.returns-in-Ok-clause-shape
returns-in-Ok-clause-shape g c = λ d.
    let component = c.args.component.now in
    let version = component.index.version in
    let names = component.index.names in
    let found = c.in-Ok.ensures.found in
    let under = subst (IsRecordUnder names found.0) c.in-Some.ensures.same.0 (subst (λ names. IsRecordUnder names found.0 c.in-Some.found.bytes) c.names.ensures found.1) in
    if_some_then (g.F.Frozen.content component.file) _ _
    (λ whole read one.
    found.2
    ∙ ap document_shape (one_under version names d found.0 c.as_slice.result.now c.in-Some.ensures.found.told (subst (IsRecordOfOne version names d) (sym (c.as_slice.ensures.same ∙ read)) one) under))
    c.in_ok-bytes.ensures.read

pub returns-in-Ok-clause-read : goal.returns-in-Ok-clause-read
returns-in-Ok-clause-read g c =
    let component = c.args.component.now in
    let slots = component.index.slots in
    let found = c.in-Ok.ensures.found in
    let d = found.0 in
    let same = sym c.as_slice.ensures.same in
    let is : IsReadOf (λ file. g.F.Frozen.content file) component c.args.place d = record {
      bytes = c.as_slice.result.now;
      long = subst (λ bytes. length bytes ≡ length_at slots c.args.place.at) same c.in_ok-bytes.ensures.long;
      spells = subst (IsRecordUnder component.index.names d) c.in-Some.ensures.same.0 (subst (λ names. IsRecordUnder names d c.in-Some.found.bytes) c.names.ensures found.1);
      stands = subst (λ bytes. IfSome (g.F.Frozen.content component.file) (λ whole. bytes ≡ record_at slots c.args.place.at whole)) same c.in_ok-bytes.ensures.read;
    } in
    (d, found.2, is)
