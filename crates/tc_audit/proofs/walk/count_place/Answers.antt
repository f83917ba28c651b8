use Rattle.std.proofs.Common.{◌≡◌, ◌∙◌, ℕ, List, Some, inl, sym, subst}
use Rattle.tc_lsm_model.specs.Lists.{live}
use Rattle.tc_model.specs.Keyed.{value_of}
use Rattle.tc_record.specs.Record.{IsNumberedForm, IsNumberedRecordIn}
use Rattle.tc_compact.specs.Compacted.{compacted}
use Rattle.tc_audit.specs.Stored.{IsStoredIn}
use Rattle.tc_audit.specs.Told.{document_in}
use Rattle.tc_audit.specs.Waiting.{all_counted}
use Rattle.tc_audit.specs.Walking.{IsChangedBy, IsHarmAt}
use Rattle.tc_audit.proofs.StoredLaws.{stored_numbered}
use Rattle.tc_audit.proofs.HeldParts.{held_is}
use Rattle.tc_audit.proofs.Outcomes.{stop_told}
use Rattle.tc_audit.proofs.walk.count_place.Goals as goal

-- ---- where it is no stored one

pub unstored-requires-clause-read : goal.unstored-requires-clause-read
unstored-requires-clause-read g c κs within = λ whole tells.
    let range = c.record_range-begin in
    c.part-bytes.ensures.part ∙ held_is _ c.hold.new.cursor c.args.component.now.index.slots c.args.place.at range.result.0 range.result.1 whole tells c.hold.ensures.of c.in_ok-hold.ensures.has range.ensures.begin range.ensures.length

pub unstored-requires-clause-harmed : goal.unstored-requires-clause-harmed
unstored-requires-clause-harmed g c κs within = λ s.
    let index = c.args.component.now.index in
    let bytes = c.part-bytes.result.now in
    let tree = compacted index.names s.document in
    let is = stored_numbered index.version index.names bytes c.file_len-lawful.ensures.lawful.names s in
    c.in_default.ensures.none tree (subst IsNumberedForm (sym c.version.ensures) s.told) (subst (λ form. IsNumberedRecordIn form tree bytes) (sym c.version.ensures) is)

pub returns-in_default-clause-wrong : goal.returns-in_default-clause-wrong
returns-in_default-clause-wrong g c =
    let m = c.args.component.now in
    stop_told c.unstored.result _ (λ w is. inl (subst (λ number. (whole : List ℕ) → g.F.Frozen.content m.file ≡ Some whole → IsHarmAt number m.index c.args.place.at whole w) c.len-number.ensures (c.unstored.ensures.harmed w is)))

pub unstored-requires-in-None-clause-read : goal.unstored-requires-in-None-clause-read
unstored-requires-in-None-clause-read g c κs within = λ whole tells.
    let range = c.record_range-begin in
    c.part-bytes.ensures.part ∙ held_is _ c.hold.new.cursor c.args.component.now.index.slots c.args.place.at range.result.0 range.result.1 whole tells c.hold.ensures.of c.in_ok-hold.ensures.has range.ensures.begin range.ensures.length

pub returns-in-None-clause-wrong : goal.returns-in-None-clause-wrong
returns-in-None-clause-wrong g c =
    let m = c.args.component.now in
    stop_told c.unstored-in-None.result _
    (λ w is. inl (subst (λ number. (whole : List ℕ) → g.F.Frozen.content m.file ≡ Some whole → IsHarmAt number m.index c.args.place.at whole w) c.len-number.ensures (c.unstored-in-None.ensures.harmed w is)))

-- ---- where it is one, under the names of the count

pub returns-clause-stored : goal.returns-clause-stored
returns-clause-stored g c = λ whole tells.
    let range = c.record_range-begin in
    let index = c.args.component.now.index in
    let held = held_is _ c.hold.new.cursor index.slots c.args.place.at range.result.0 range.result.1 whole tells c.hold.ensures.of c.in_ok-hold.ensures.has range.ensures.begin range.ensures.length in
    subst (IsStoredIn index.version index.names) (c.in-Some.ensures.bytes ∙ c.part-bytes.ensures.part ∙ held)
    (subst (λ form. IsStoredIn form index.names c.in-Some.of.bytes) (c.in-Some.ensures.form ∙ c.version.ensures) c.in-Some-shape_of.ensures.stored)

pub returns-clause-counted : goal.returns-clause-counted
returns-clause-counted g c = λ whole part cs tells right few.
    let range = c.record_range-begin in
    let index = c.args.component.now.index in
    let gone = value_of c.args.key (live cs) in
    let before = (all_counted c.args.recount.now) in
    let after = (all_counted c.replace_few.new.recount) in
    let held = held_is _ c.hold.new.cursor index.slots c.args.place.at range.result.0 range.result.1 whole tells c.hold.ensures.of c.in_ok-hold.ensures.has range.ensures.begin range.ensures.length in
    subst (λ bs. IsChangedBy gone (document_in index.names bs) index.names before after) (c.in-Some.ensures.bytes ∙ c.part-bytes.ensures.part ∙ held)
    (subst (λ names. IsChangedBy gone (document_in names c.in-Some.of.bytes) names before after) c.requires.names (c.in_ok-replace_few-in-Some-shape_of.ensures.counted part cs right few))
