use Rattle.std.proofs.Common.{◌≡◌, ◌∙◌, length, sym, ap, subst}
use Rattle.std.specs.Prelude.{IfSome}
use Rattle.std.proofs.lemmas.Option.{IfSome_then}
use Rattle.std.proofs.lemmas.Result.{IfOk-weaker, IfErr-weaker}
use Rattle.tc_compact.specs.Meant.{IsRecordUnder}
use Rattle.tc_component.specs.Cursors.{HasBytes, IsWindow, part_held}
use Rattle.tc_component.specs.Fetching.{record_at, IsRecordWithin}
use Rattle.tc_component.specs.Layout.{directory_place}
use Rattle.tc_component.specs.Meaning.{IsRecordOfOne}
use Rattle.tc_component.specs.Spelling.{name_of, sizes_in}
use Rattle.tc_component.proofs.Windows.{at_range, part_is}
use Rattle.tc_model.specs.Document.{Document}
use Rattle.tc_query.specs.Faults.{OfDamage}
use Rattle.tc_query.proofs.Harms.{part_long, stands_there, within_harm, spelled_harm}
use Rattle.tc_query.proofs.Spelled.{of_damage_then}
use Rattle.tc_query.proofs.record.row_stored.Goals as goal

pub row_found-requires-clause-found : goal.row_found-requires-clause-found
row_found-requires-clause-found g c κs within =
    let index = c.args.component.now.index in
    subst (IsRecordWithin index.version (length index.names)) (sym c.in-Some.ensures.same.0) c.in-Some.ensures.found

pub returns-in-Some-clause-row : goal.returns-in-Some-clause-row
returns-in-Some-clause-row g c =
    let m = c.args.component.now in
    let range = c.record_range-begin in
    let cursor = c.hold.new.cursor in
    let read = part_is (g.F.Frozen.content m.file) cursor range.result.0 range.result.1 c.hold.ensures.of c.in_ok-hold.ensures.has in
    let stands = stands_there g.F.Frozen.content m c.args.place range.result.0 range.result.1 c.requires.place range.ensures.begin range.ensures.length (part_held range.result.0 range.result.1 cursor) read in
    IfOk-weaker c.row_found.result _ _
    (λ row each d. IfSome_then (g.F.Frozen.content m.file) stands (λ whole same one. each d (subst (IsRecordOfOne m.index.version m.index.names d) (sym (c.in-Some.ensures.same.0 ∙ same)) one)))
    c.row_found.ensures.row

pub returns-in-Some-clause-document : goal.returns-in-Some-clause-document
returns-in-Some-clause-document g c =
    let m = c.args.component.now in
    let range = c.record_range-begin in
    let cursor = c.hold.new.cursor in
    let same = c.in-Some.ensures.same.0 in
    let read = part_is (g.F.Frozen.content m.file) cursor range.result.0 range.result.1 c.hold.ensures.of c.in_ok-hold.ensures.has in
    let stands = stands_there g.F.Frozen.content m c.args.place range.result.0 range.result.1 c.requires.place range.ensures.begin range.ensures.length (part_held range.result.0 range.result.1 cursor) read in
    IfOk-weaker c.row_found.result _ _
    (λ row found. (
      found.0,
      record {
        bytes = c.in-Some.found.bytes;
        long = ap length same ∙ part_long cursor range.result.0 range.result.1 c.in_ok-hold.ensures.has ∙ range.ensures.length;
        spells = found.1;
        stands = subst (λ bs. IfSome (g.F.Frozen.content m.file) (λ whole. bs ≡ record_at m.index.slots c.args.place.at whole)) (sym same) stands;
      },
      found.2,
    ))
    c.row_found.ensures.document

pub returns-in-Some-clause-harmed : goal.returns-in-Some-clause-harmed
returns-in-Some-clause-harmed g c =
    let m = c.args.component.now in
    let range = c.record_range-begin in
    let cursor = c.hold.new.cursor in
    let same = c.in-Some.ensures.same.0 in
    let read = part_is (g.F.Frozen.content m.file) cursor range.result.0 range.result.1 c.hold.ensures.of c.in_ok-hold.ensures.has in
    let long = part_long cursor range.result.0 range.result.1 c.in_ok-hold.ensures.has in
    IfErr-weaker c.row_found.result _ _
    (λ fault is. spelled_harm g.F.Frozen.content m c.args.place range.result.0 range.result.1 c.requires.place range.ensures.begin range.ensures.length (part_held range.result.0 range.result.1 cursor) read fault long
    (subst (λ bs. OfDamage fault (λ file at bytes. (file ≡ name_of m.index.head) × (at ≡ range.result.0) × (bytes ≡ bs) × ((d : Document) → IsRecordUnder m.index.names d bytes → ⊥))) same is))
    c.row_found.ensures.harmed

pub returns-in-Some-clause-window : goal.returns-in-Some-clause-window
returns-in-Some-clause-window g c =
    let m = c.args.component.now in
    let range = c.record_range-begin in
    let begins = at_range (λ p n. (HasBytes p n c.args.reader.now.cursor → ⊥) → IsWindow p n (directory_place (sizes_in m.index)) c.hold.new.cursor) _ _ _ _ range.ensures.begin range.ensures.length c.in_ok-hold.ensures.window in
    IfOk-weaker c.row_found.result _ _ (λ row is apart. begins apart) c.row_found.ensures.document

pub returns-in-None-clause-harmed : goal.returns-in-None-clause-harmed
returns-in-None-clause-harmed g c =
    let m = c.args.component.now in
    let range = c.record_range-begin in
    let cursor = c.hold.new.cursor in
    let read = part_is (g.F.Frozen.content m.file) cursor range.result.0 range.result.1 c.hold.ensures.of c.in_ok-hold.ensures.has in
    let same = c.part-bytes.ensures.part in
    within_harm g.F.Frozen.content m c.args.place range.result.0 range.result.1 c.requires.place range.ensures.begin range.ensures.length (part_held range.result.0 range.result.1 cursor) read c.damage_at.result
    (part_long cursor range.result.0 range.result.1 c.in_ok-hold.ensures.has) c.in-None.ensures.none
    (of_damage_then c.damage_at.result _ _ (λ file at bytes is. (is.0, is.1, is.2 ∙ same)) c.damage_at.ensures.harmed)
