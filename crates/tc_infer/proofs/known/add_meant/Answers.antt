use Rattle.std.proofs.Common.{◌≡◌, length, sym, ap, ◌∙◌, subst, arith}
use Rattle.std.proofs.lemmas.Bool.{false≢true}
use Rattle.tc_model.proofs.DictionaryGrowth.{Extends-same}
use Rattle.tc_schema_model.specs.Added.{added, IsNamed}
use Rattle.tc_schema_model.specs.HasCounters.{has_counters}
use Rattle.tc_schema_model.specs.Room.{DoesFit}
use Rattle.tc_schema_model.proofs.AddedLaws.{canonical-added}
use Rattle.tc_schema_model.proofs.FieldLaws.{canonical_below}
use Rattle.tc_schema_model.proofs.MoreNames.{added_fits}
use Rattle.tc_schema.specs.Places.{place_counted, most_names}
use Rattle.tc_infer.specs.Levels.{shape_under}
use Rattle.tc_infer.proofs.known.add_meant.Goals as goal

-- what was taken out of the schema
taken : (c : goal.After-root-1) → place_counted c.into_root-root.result ≡ c.args.schema.now
taken c = c.into_root-root.ensures.counted ∙ c.replace.ensures.value

pub count_value-requires-clause-named : goal.count_value-requires-clause-named
count_value-requires-clause-named c = subst (IsNamed c.args.names.now) (sym (c.in_document-cursor.ensures.under c.args.names.now)) c.requires.named

pub count_value-requires-clause-fits : goal.count_value-requires-clause-fits
count_value-requires-clause-fits c =
    let names = c.args.names.now in
    let s = shape_under names c.args.of.now.tokens in
    let root = place_counted c.into_root-root.result in
    subst (λ s. DoesFit names (added names s root)) (sym (c.in_document-cursor.ensures.under names))
    (subst (λ d. DoesFit names (added names s d)) (sym (taken c))
    (added_fits names names s c.args.schema.now (Extends-same names) c.requires.canonical c.requires.named c.requires.counters))

pub of-requires : goal.of-requires
of-requires c =
    let names = c.args.names.now in
    let s = shape_under names c.args.of.now.tokens in
    let d = c.args.schema.now in
    let counted : place_counted c.count_value.new.place ≡ added names s d =
    c.in_ok-count_value.ensures.counted ∙ ap (λ s. added names s (place_counted c.into_root-root.result)) (c.in_document-cursor.ensures.under names) ∙ ap (added names s) (c.into_root-root.ensures.counted ∙ c.replace.ensures.value) in
    rw (counted) (canonical_below (length names) most_names (added names s d) (omega (arith, c.len-known.ensures.dictionary.few)) (canonical-added names s d c.requires.named c.requires.canonical))

-- where each value has a counter no memory is taken
pub returns-in_err-count_value-clause-sure : goal.returns-in_err-count_value-clause-sure
returns-in_err-count_value-clause-sure c = λ there.
    let names = c.args.names.now in
    let whole = ap (λ s. has_counters names s (place_counted c.into_root-root.result)) (c.in_document-cursor.ensures.under names) in
    let root = ap (has_counters names (shape_under names c.args.of.now.tokens)) (c.into_root-root.ensures.counted ∙ c.replace.ensures.value) in
    absurd (false≢true (c.in_err-count_value.ensures.sure (whole ∙ root ∙ there)))
