use Rattle.std.proofs.Common.{◌≡◌, ◌↔◌, ◌≤◌, ◌+◌, true, List, length, sym, ap, ◌∙◌, subst, arith, bytes_eq}
use Rattle.std.specs.Prelude.{IsTrue}
use Rattle.std.specs.List.{IsDistinct}
use Rattle.std.proofs.lemmas.Bool.{OnTrue_from, OnTrue_at}
use Rattle.tc_compact.specs.Meant.{IsRecordUnder}
use Rattle.tc_model.specs.Document.{Name, Document, ShapeTree, document_shape, null_kind, boolean_kind, integer_kind, text_kind}
use Rattle.tc_model.specs.Kinds.{Kind, scalar, arrays, objects}
use Rattle.tc_schema_model.specs.Added.{removed}
use Rattle.tc_schema_model.specs.Counted.{Counted, shows, total_at, IsCanonical}
use Rattle.tc_schema_model.specs.Fits.{FitsByPath}
use Rattle.tc_schema_model.specs.Occurrences.{Path, occurrences}
use Rattle.tc_schema_model.proofs.FitLaws.{fits_by_place}
use Rattle.tc_schema_model.proofs.RemovedLaws.{shows-removed, canonical-removed}
use Rattle.tc_infer.specs.Levels.{shape_under}
use Rattle.tc_infer.proofs.RecordShape.{meant_shape}
use Rattle.tc_infer.proofs.taking_known.take_known.Goals as goal

-- what is left of a shape that fits
shown : (names : List Name) (s : ShapeTree) (d : Counted) → IsDistinct bytes_eq names → FitsByPath names d s → (path : Path) (t : Kind) → shows names (removed names s d) path t + occurrences s path t ≡ shows names d path t
shown names s d distinct fits path t = shows-removed names s d (fits_by_place names distinct d s fits) fits.canonical path t

fewer : (names : List Name) (s : ShapeTree) (d : Counted) → IsDistinct bytes_eq names → FitsByPath names d s → (path : Path) → total_at names (removed names s d) path ≤ total_at names d path
fewer names s d distinct fits path =
    let k : (t : Kind) → shows names (removed names s d) path t + occurrences s path t ≡ shows names d path t = shown names s d distinct fits path in
    omega (arith, k (scalar null_kind), k (scalar boolean_kind), k (scalar integer_kind), k (scalar text_kind), k arrays, k objects)

pub returns-clause-fits : goal.returns-clause-fits
returns-clause-fits c = λ doc under.
    let names = c.args.names.now in
    subst (λ s. IsTrue c.take_meant.result ↔ FitsByPath names c.args.schema.now s) (meant_shape names c.args.of doc c.bytes-bytes.ensures.spells under) c.take_meant.ensures.fits

pub returns-clause-removed : goal.returns-clause-removed
returns-clause-removed c =
    let names = c.args.names.now in
    let d = c.args.schema.now in
    let all : c.take_meant.result ≡ true → (doc : Document) → IsRecordUnder names doc c.args.of.bytes → c.take_meant.new.schema ≡ removed names (document_shape doc) d =
    λ yes doc under. OnTrue_at yes c.take_meant.ensures.removed ∙ ap (λ s. removed names s d) (meant_shape names c.args.of doc c.bytes-bytes.ensures.spells under) in
    OnTrue_from _ _ all

pub returns-clause-counted : goal.returns-clause-counted
returns-clause-counted c =
    let names = c.args.names.now in
    let d = c.args.schema.now in
    let all : c.take_meant.result ≡ true → (doc : Document) → IsRecordUnder names doc c.args.of.bytes → (path : Path) (t : Kind) → shows names c.take_meant.new.schema path t + occurrences (document_shape doc) path t ≡ shows names d path t =
    λ yes doc under path t.
    let s = shape_under names c.args.of.tokens in
    let left = ap (λ e. shows names e path t) (OnTrue_at yes c.take_meant.ensures.removed) in
    let same = ap (λ u. occurrences u path t) (meant_shape names c.args.of doc c.bytes-bytes.ensures.spells under) in
    omega (arith, left, same, shown names s d c.len-known.ensures.dictionary.distinct (c.take_meant.ensures.fits.0 yes) path t) in
    OnTrue_from _ _ all

pub returns-clause-fewer : goal.returns-clause-fewer
returns-clause-fewer c = OnTrue_from _ _ (λ yes.
    let names = c.args.names.now in
    let d = c.args.schema.now in
    subst (λ e. (path : Path) → total_at names e path ≤ total_at names d path) (sym (OnTrue_at yes c.take_meant.ensures.removed)) (fewer names (shape_under names c.args.of.tokens) d c.len-known.ensures.dictionary.distinct (c.take_meant.ensures.fits.0 yes)))

pub returns-clause-canonical : goal.returns-clause-canonical
returns-clause-canonical c = OnTrue_from _ _ (λ yes.
    let names = c.args.names.now in
    let fits = c.take_meant.ensures.fits.0 yes in
    subst (IsCanonical (length names)) (sym (OnTrue_at yes c.take_meant.ensures.removed))
    (canonical-removed names (shape_under names c.args.of.tokens) c.args.schema.now (fits_by_place names c.len-known.ensures.dictionary.distinct c.args.schema.now (shape_under names c.args.of.tokens) fits) fits.canonical))
