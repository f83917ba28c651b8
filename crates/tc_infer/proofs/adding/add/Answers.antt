use Rattle.std.proofs.Common.{◌≡◌, bytes_eq, length, refl, sym, ◌∙◌, subst, arith}
use Rattle.std.specs.List.{IsDistinct}
use Rattle.tc_schema_model.specs.Added.{added}
use Rattle.tc_model.specs.Dictionary.{Extends, all_learned}
use Rattle.tc_value.specs.ShapeMeaning.{shape_tree}
use Rattle.tc_schema.specs.Places.{place_counted, most_names}
use Rattle.tc_model.specs.ShapeNames.{names_within}
use Rattle.tc_model.proofs.LearnedNames.{Extends-all_learned}
use Rattle.tc_schema_model.proofs.NamedShapes.{named-all_learned}
use Rattle.tc_schema_model.proofs.FieldLaws.{canonical_below}
use Rattle.tc_schema_model.proofs.Grown.{grown_canonical, grown_fits, added_canonical, added_shows, added_stands}
use Rattle.tc_schema_model.proofs.Readable.{schema-added}
use Rattle.tc_infer.proofs.adding.add.Goals as goal

-- ---- once the names are learned

-- what was taken out of the schema
taken : (c : goal.After-root-1) → place_counted c.into_root-root.result ≡ c.args.schema.now
taken c = c.into_root-root.ensures.counted ∙ c.replace.ensures.value

pub count_shape-requires-clause-canonical : goal.count_shape-requires-clause-canonical
count_shape-requires-clause-canonical c =
    rw (taken c, c.in_ok-learn_names.ensures.ok) (grown_canonical c.args.names.now (shape_tree c.args.shape.now) c.args.schema.now c.requires.canonical)

pub count_shape-requires-clause-fits : goal.count_shape-requires-clause-fits
count_shape-requires-clause-fits c =
    rw (taken c, c.in_ok-learn_names.ensures.ok) (grown_fits c.args.names.now (shape_tree c.args.shape.now) c.args.schema.now c.requires.canonical c.requires.counters)

pub count_shape-requires-clause-named : goal.count_shape-requires-clause-named
count_shape-requires-clause-named c = rw (c.in_ok-learn_names.ensures.ok) (named-all_learned c.args.names.now (shape_tree c.args.shape.now))

pub returns-in_err-count_shape-clause-extends : goal.returns-in_err-count_shape-clause-extends
returns-in_err-count_shape-clause-extends c =
    subst (λ names. Extends names c.args.names.now) (sym c.in_ok-learn_names.ensures.ok) (Extends-all_learned c.args.names.now (names_within (shape_tree c.args.shape.now)))

-- ---- once the shape is counted

pub of-requires : goal.of-requires
of-requires c =
    let known = c.args.names.now in
    let s = shape_tree c.args.shape.now in
    let grown = all_learned known (names_within s) in
    let counted : place_counted c.count_shape.new.place ≡ added grown s c.args.schema.now =
    c.in_ok-count_shape.ensures ∙ rw (c.into_root-root.ensures.counted, c.replace.ensures.value, c.in_ok-learn_names.ensures.ok) refl in
    rw (counted) (canonical_below (length grown) most_names (added grown s c.args.schema.now) (omega (arith, c.requires.room)) (added_canonical known s c.args.schema.now c.requires.canonical))

-- what the schema counts
counted : (c : goal.After-drop-schema-2) → c.of.result ≡ added (all_learned c.args.names.now (names_within (shape_tree c.args.shape.now))) (shape_tree c.args.shape.now) c.args.schema.now
counted c =
    c.of.ensures ∙ c.in_ok-count_shape.ensures ∙ rw (c.into_root-root.ensures.counted, c.replace.ensures.value, c.in_ok-learn_names.ensures.ok) refl

pub returns-clause-canonical : goal.returns-clause-canonical
returns-clause-canonical c = rw (counted c, c.in_ok-learn_names.ensures.ok) (added_canonical c.args.names.now (shape_tree c.args.shape.now) c.args.schema.now c.requires.canonical)

pub returns-clause-counted : goal.returns-clause-counted
returns-clause-counted c = rw (counted c, c.in_ok-learn_names.ensures.ok) (added_shows c.args.names.now (shape_tree c.args.shape.now) c.args.schema.now c.requires.canonical)

pub returns-clause-extends : goal.returns-clause-extends
returns-clause-extends c =
    subst (λ names. Extends names c.args.names.now) (sym c.in_ok-learn_names.ensures.ok) (Extends-all_learned c.args.names.now (names_within (shape_tree c.args.shape.now)))

pub returns-clause-stands : goal.returns-clause-stands
returns-clause-stands c = rw (counted c, c.in_ok-learn_names.ensures.ok) (added_stands c.args.names.now (shape_tree c.args.shape.now) c.args.schema.now)

pub returns-clause-added : goal.returns-clause-added
returns-clause-added c = rw (c.in_ok-learn_names.ensures.ok) (counted c)

pub returns-clause-readable : goal.returns-clause-readable
returns-clause-readable c =
    let known = c.args.names.now in
    let s = shape_tree c.args.shape.now in
    let d = c.args.schema.now in
    let grown = all_learned known (names_within s) in
    let distinct : IsDistinct bytes_eq grown = subst (IsDistinct bytes_eq) c.in_ok-learn_names.ensures.ok c.len-known.ensures.dictionary.distinct in
    rw (counted c, c.in_ok-learn_names.ensures.ok)
    (λ is deep schema. schema-added grown distinct s d is (added_canonical known s d c.requires.canonical) (grown_fits known s d c.requires.canonical c.requires.counters) deep schema.of_objects schema.shallow)
