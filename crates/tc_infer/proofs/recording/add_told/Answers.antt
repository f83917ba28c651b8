use Rattle.std.proofs.Common.{◌≡◌, length, sym, ap, ◌∙◌, subst, arith}
use Rattle.tc_model.specs.Dictionary.{all_learned}
use Rattle.tc_schema_model.specs.Added.{added, IsNamed}
use Rattle.tc_schema_model.specs.Counted.{IsCanonical}
use Rattle.tc_schema_model.specs.Room.{DoesFit}
use Rattle.tc_schema_model.proofs.FieldLaws.{canonical_below}
use Rattle.tc_schema_model.proofs.Grown.{grown_canonical, grown_fits, added_canonical}
use Rattle.tc_schema_model.proofs.NamedShapes.{named-all_learned}
use Rattle.tc_schema.specs.Places.{place_counted, most_names}
use Rattle.tc_infer.specs.Levels.{shape_told}
use Rattle.tc_infer.proofs.recording.add_told.Goals as goal

-- what was taken out of the schema
taken : (c : goal.After-root-1) → place_counted c.into_root-root.result ≡ c.args.schema.now
taken c = c.into_root-root.ensures.counted ∙ c.replace.ensures.value

pub count_value-requires-clause-named : goal.count_value-requires-clause-named
count_value-requires-clause-named c =
    let grown = c.in_ok-learn_told.ensures.ok ∙ ap (all_learned c.args.names.now) c.requires.agree in
    let s = shape_told c.args.of.now.tokens in
    let names = c.learn_told.new.names in
    let told = c.in_document-cursor.ensures.under names ∙ ap shape_told (c.requires.plain names) in
    subst (IsNamed names) (sym told) (subst (λ names. IsNamed names s) (sym grown) (named-all_learned c.args.names.now s))

pub count_value-requires-clause-canonical : goal.count_value-requires-clause-canonical
count_value-requires-clause-canonical c =
    let grown = c.in_ok-learn_told.ensures.ok ∙ ap (all_learned c.args.names.now) c.requires.agree in
    rw (taken c, grown) (grown_canonical c.args.names.now (shape_told c.args.of.now.tokens) c.args.schema.now c.requires.canonical)

pub count_value-requires-clause-fits : goal.count_value-requires-clause-fits
count_value-requires-clause-fits c =
    let grown = c.in_ok-learn_told.ensures.ok ∙ ap (all_learned c.args.names.now) c.requires.agree in
    let s = shape_told c.args.of.now.tokens in
    let names = c.learn_told.new.names in
    let root = place_counted c.into_root-root.result in
    let told = c.in_document-cursor.ensures.under names ∙ ap shape_told (c.requires.plain names) in
    subst (λ s. DoesFit names (added names s root)) (sym told)
    (subst (λ d. DoesFit names (added names s d)) (sym (taken c))
    (subst (λ names. DoesFit names (added names s c.args.schema.now)) (sym grown) (grown_fits c.args.names.now s c.args.schema.now c.requires.canonical c.requires.counters)))

pub of-requires : goal.of-requires
of-requires c =
    let grown = c.in_ok-learn_told.ensures.ok ∙ ap (all_learned c.args.names.now) c.requires.agree in
    let s = shape_told c.args.of.now.tokens in
    let names = c.learn_told.new.names in
    let d = c.args.schema.now in
    let told = c.in_document-cursor.ensures.under names ∙ ap shape_told (c.requires.plain names) in
    let counted : place_counted c.count_value.new.place ≡ added names s d =
    c.in_ok-count_value.ensures.counted ∙ ap (λ s. added names s (place_counted c.into_root-root.result)) told ∙ ap (added names s) (c.into_root-root.ensures.counted ∙ c.replace.ensures.value) in
    let canonical = subst (λ names. IsCanonical (length names) (added names s d)) (sym grown) (added_canonical c.args.names.now s d c.requires.canonical) in
    rw (counted) (canonical_below (length names) most_names (added names s d) (omega (arith, c.len-known.ensures.dictionary.few)) canonical)
