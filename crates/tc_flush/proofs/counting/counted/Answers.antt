use Rattle.std.proofs.Common.{◌≡◌, List, [], length, refl, sym, ◌∙◌, subst, rules}
use Rattle.std.proofs.lemmas.Bool.{false≢true}
use Rattle.tc_schema_model.specs.Counted.{Counted, IsCanonical}
use Rattle.tc_model.specs.Document.{Name}
use Rattle.tc_memory.specs.Table.{Table}
use Rattle.tc_flush.specs.Counting.{HasRoom}
use Rattle.tc_flush.specs.Recounting.{FitsEach, all_removed, shapes_kept}
use Rattle.tc_flush.proofs.CountedTables.{first_canonical, can_flush}
use Rattle.tc_flush.proofs.RecountedLaws.{canonical-all_removed}
use Rattle.tc_flush.proofs.Outcomes.{if_ok}
use Rattle.tc_flush.proofs.counting.counted.Goals as goal

pub returns-then-not-numbers_below-clause-exact : goal.returns-then-not-numbers_below-clause-exact
returns-then-not-numbers_below-clause-exact c = (
  (λ no. absurd (false≢true no)),
  λ counted. sym c.if-not-numbers_below.true
      ∙ c.numbers_below.ensures.canonical.1 (subst (λ n. IsCanonical n c.args.schema.now) (sym c.len-known.ensures.count) (first_canonical c.args.names.now (shapes_kept c.args.sealed.now) c.args.schema.now counted.fits)),
)

-- where the table keeps no shape, nothing is taken off
none_kept : (names : List Name) (schema : Counted) (kept : Table) → IsCanonical (length names) schema → shapes_kept kept ≡ []
    → FitsEach names (shapes_kept kept) schema × (all_removed names (shapes_kept kept) schema ≡ schema)
none_kept names schema kept canonical none = rw none (canonical, refl)

pub returns-then-not-keeps_shapes-clause-can : goal.returns-then-not-keeps_shapes-clause-can
returns-then-not-keeps_shapes-clause-can c =
    let names = c.args.names.now in
    let kept = c.args.sealed.now in
    let schema = c.args.schema.now in
    let canonical : IsCanonical (length names) schema = subst (λ n. IsCanonical n schema) c.len-known.ensures.count (c.numbers_below.ensures.canonical.0 (search rules)) in
    let none = none_kept names schema kept canonical (c.keeps_shapes.ensures c.if-not-keeps_shapes.true) in
    if_ok c.has_room.result _ _
    (λ yes room all t of. can_flush names c.len-known.ensures.dictionary.distinct schema t kept of (record { fits = none.0; room = subst (λ d. HasRoom kept d names) (sym none.1) (room.0 all) }))
    c.has_room.ensures

pub returns-then-not-keeps_shapes-clause-exact : goal.returns-then-not-keeps_shapes-clause-exact
returns-then-not-keeps_shapes-clause-exact c =
    let names = c.args.names.now in
    let kept = c.args.sealed.now in
    let schema = c.args.schema.now in
    let canonical : IsCanonical (length names) schema = subst (λ n. IsCanonical n schema) c.len-known.ensures.count (c.numbers_below.ensures.canonical.0 (search rules)) in
    let none = none_kept names schema kept canonical (c.keeps_shapes.ensures c.if-not-keeps_shapes.true) in
    if_ok c.has_room.result _ _
    (λ yes room. (
      (λ all. record { fits = none.0; room = subst (λ d. HasRoom kept d names) (sym none.1) (room.0 all) }),
      λ counted. room.1 (subst (λ d. HasRoom kept d names) none.1 counted.room),
    ))
    c.has_room.ensures

pub has_room-requires : goal.has_room-requires
has_room-requires c = subst (λ n. IsCanonical n c.args.schema.now) c.len-known.ensures.count (c.numbers_below.ensures.canonical.0 (search rules))

pub returns-clause-can : goal.returns-clause-can
returns-clause-can c =
    let names = c.args.names.now in
    let kept = c.args.sealed.now in
    let schema = c.args.schema.now in
    let fits : FitsEach names (shapes_kept kept) schema = search rules in
    let left : c.take_if_fits.new.left ≡ all_removed names (shapes_kept kept) schema = search rules in
    if_ok c.has_room-2.result _ _
    (λ yes room all t of. can_flush names c.len-known.ensures.dictionary.distinct schema t kept of (record { fits = fits; room = subst (λ d. HasRoom kept d names) left (room.0 all) }))
    c.has_room-2.ensures

pub has_room-requires-2 : goal.has_room-requires-2
has_room-requires-2 c =
    let names = c.args.names.now in
    let schema = c.args.schema.now in
    let shapes = shapes_kept c.args.sealed.now in
    let fits : FitsEach names shapes schema = search rules in
    let left : c.take_if_fits.new.left ≡ all_removed names shapes schema = search rules in
    subst (IsCanonical (length names)) (sym left) (canonical-all_removed names c.len-known.ensures.dictionary.distinct shapes schema fits)
