use Rattle.std.proofs.Common.{◌≡◌, ◌<◌, ◌^◌, ◌++◌, length, map, sym, ap, ◌∙◌, subst, arith}
use Rattle.tc_model.specs.Dictionary.{all_learned, number}
use Rattle.tc_model.specs.Kinds.{objects}
use Rattle.tc_model.specs.ShapeNames.{names_within}
use Rattle.tc_record.specs.Record.{joined}
use Rattle.tc_schema_model.specs.Added.{added}
use Rattle.tc_schema_model.specs.Counted.{IsCanonical}
use Rattle.tc_schema_model.specs.Room.{DoesFit}
use Rattle.tc_schema_model.proofs.FieldLaws.{canonical_below}
use Rattle.tc_schema_model.proofs.Grown.{grown_fits, added_canonical}
use Rattle.tc_schema.specs.Places.{place_counted, most_names}
use Rattle.tc_infer.specs.Levels.{begun, levels, shape_told}
use Rattle.tc_infer.proofs.learned.count_learned.Goals as goal

-- what was taken out of the schema
taken : (c : goal.After-root-1) → place_counted c.into_root-root.result ≡ c.args.schema.now
taken c = c.into_root-root.ensures.counted ∙ c.replace.ensures.value

pub learn_value-requires-clause-canonical : goal.learn_value-requires-clause-canonical
learn_value-requires-clause-canonical c = rw (taken c) c.requires.canonical

pub learn_value-requires-clause-fits : goal.learn_value-requires-clause-fits
learn_value-requires-clause-fits c =
    let known = c.args.names.now in
    let s = shape_told c.args.of.now.tokens in
    subst (λ s. DoesFit (all_learned known (names_within s)) (added (all_learned known (names_within s)) s (place_counted c.into_root-root.result))) (sym c.in_document-cursor.ensures.told)
    (subst (λ d. DoesFit (all_learned known (names_within s)) (added (all_learned known (names_within s)) s d)) (sym (taken c)) (grown_fits known s c.args.schema.now c.requires.canonical c.requires.counters))

pub learn_value-requires-clause-room : goal.learn_value-requires-clause-room
learn_value-requires-clause-room c = subst (λ s. length (all_learned c.args.names.now (names_within s)) < 2 ^ 32) (sym c.in_document-cursor.ensures.told) c.requires.room

pub learn_value-requires-clause-short : goal.learn_value-requires-clause-short
learn_value-requires-clause-short c = omega (arith, c.clear.ensures.bytes, ap (λ s. length (joined (names_within s))) c.in_document-cursor.ensures.told, c.requires.short)

pub of-requires : goal.of-requires
of-requires c =
    let known = c.args.names.now in
    let s = shape_told c.args.of.now.tokens in
    let names = c.learn_value.new.names in
    let d = c.args.schema.now in
    let grown : names ≡ all_learned known (names_within s) = c.in_ok-learn_value.ensures.learned ∙ ap (λ s. all_learned known (names_within s)) c.in_document-cursor.ensures.told in
    let counted : place_counted c.learn_value.new.place ≡ added names s d =
    c.in_ok-learn_value.ensures.counted ∙ ap (λ s. added names s (place_counted c.into_root-root.result)) c.in_document-cursor.ensures.told ∙ ap (added names s) (c.into_root-root.ensures.counted ∙ c.replace.ensures.value) in
    let canonical = subst (λ names. IsCanonical (length names) (added names s d)) (sym grown) (added_canonical known s d c.requires.canonical) in
    rw (counted) (canonical_below (length names) most_names (added names s d) (omega (arith, c.len-known.ensures.dictionary.few)) canonical)

pub returns-clause-added : goal.returns-clause-added
returns-clause-added c =
    let s = shape_told c.args.of.now.tokens in
    let names = c.learn_value.new.names in
    c.of.ensures
    ∙ c.in_ok-learn_value.ensures.counted
    ∙ ap (λ s. added names s (place_counted c.into_root-root.result)) c.in_document-cursor.ensures.told
    ∙ ap (added names s) (c.into_root-root.ensures.counted ∙ c.replace.ensures.value)

pub returns-clause-names : goal.returns-clause-names
returns-clause-names c = c.in_ok-learn_value.ensures.learned ∙ ap (λ s. all_learned c.args.names.now (names_within s)) c.in_document-cursor.ensures.told

pub returns-clause-numbers : goal.returns-clause-numbers
returns-clause-numbers c =
    let met : (begun objects (levels c.in_document-cursor.result)) ≡ shape_told c.args.of.now.tokens = c.in_document-cursor.ensures.told in
    c.in_ok-learn_value.ensures.numbers
    ∙ ap (λ ns. ns ++ map (number c.learn_value.new.names) (names_within (begun objects (levels c.in_document-cursor.result)))) c.clear.ensures.numbers
    ∙ ap (λ s. map (number c.learn_value.new.names) (names_within s)) met

pub returns-clause-bytes : goal.returns-clause-bytes
returns-clause-bytes c = omega (arith, c.in_ok-learn_value.ensures.bytes, c.clear.ensures.bytes, ap (λ s. length (joined (names_within s))) c.in_document-cursor.ensures.told)
