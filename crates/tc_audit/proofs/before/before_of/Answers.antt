use Rattle.std.proofs.Common.{rules, ◌∙◌, ◌<◌, length, Some, option_map, sym, ap, subst}
use Rattle.std.proofs.lemmas.Option.{same_Some, slice_get-get_or}
use Rattle.std.proofs.lemmas.Result.{IfOk-weaker}
use Rattle.tc_model.specs.Document.{document_shape}
use Rattle.tc_component.specs.Fetching.{IsPlace}
use Rattle.tc_component.specs.Loading.{ComponentState}
use Rattle.tc_audit.proofs.AlikeShapes.{same_shape}
use Rattle.tc_audit.proofs.ContentLaws.{stored_document}
use Rattle.tc_audit.proofs.HeldParts.{part_at, part_within, set_part}
use Rattle.tc_audit.proofs.OlderRecords.{front_at, stored_live}
use Rattle.tc_audit.proofs.before.before_of.Goals as goal

pub offset_bounds-cursors-at : goal.offset_bounds-cursors-at
offset_bounds-cursors-at g c =
    let within : c.in-At.at < length c.args.cursors.now = part_within g.F.Frozen.content c.args.older.now c.args.cursors.now c.in-At.at c.component_at-component.result.now c.requires.each c.component_at-component.ensures in
    search rules

pub bounds-cursors-at : goal.bounds-cursors-at
bounds-cursors-at g c = part_within g.F.Frozen.content c.args.older.now c.args.cursors.now c.in-At.at c.component_at-component.result.now c.requires.each c.component_at-component.ensures

pub before_at-requires-clause-place : goal.before_at-requires-clause-place
before_at-requires-clause-place g c = λ κs lives.
    let newest = c.in-At.ensures.newest in
    subst (λ (m : ComponentState _). IsPlace m.index.slots c.in-At.place) (same_Some newest.component c.component_at-component.result.now (sym newest.here ∙ c.component_at-component.ensures)) (c.args.key, newest.has)

pub before_at-requires-clause-of : goal.before_at-requires-clause-of
before_at-requires-clause-of g c = λ κs lives.
    let told = g.F.Frozen.content in
    let within = part_within told c.args.older.now c.args.cursors.now c.in-At.at c.component_at-component.result.now c.requires.each c.component_at-component.ensures in
    part_at told c.args.older.now c.args.cursors.now c.in-At.at c.component_at-component.result.now _ c.requires.each c.component_at-component.ensures (slice_get-get_or c.args.cursors.now c.in-At.at _ within)

pub returns-in-At-clause-each : goal.returns-in-At-clause-each
returns-in-At-clause-each g c =
    set_part g.F.Frozen.content c.args.older.now c.args.cursors.now c.in-At.at c.component_at-component.result.now c.before_at.new.cursor c.requires.each c.component_at-component.ensures c.before_at.ensures.of

pub returns-in-At-clause-same : goal.returns-in-At-clause-same
returns-in-At-clause-same g c =
    let names = c.args.names.now in
    let older = c.args.older.now in
    let r = c.args.of.now in
    let m = c.component_at-component.result.now in
    let here = c.component_at-component.ensures in
    IfOk-weaker c.before_at.result _ _
    (λ before told same part cs right.
    let holds = c.loaded_components_show_contents.ensures.fetched part older cs c.args.key c.in-At.at c.in-At.place right.listed right.loaded c.in-At.ensures.newest in
    let l = stored_live g.F.Frozen.content c.stored_records_make_contents.ensures.stored part older cs c.args.key c.in-At.at m c.in-At.place right holds here in
    let shape = same_shape c.round_trip.ensures.stays m.index.names names c.file_len-lawful.ensures.lawful.names c.len-known.ensures.dictionary (front_at names older c.in-At.at m c.requires.newer here) m.index.version r.form _ r.bytes l.there.stored c.requires.stored
    (λ own form n o. told same l.whole own form n o l.there.tells) in
    ap (option_map document_shape) l.live_is ∙ ap (λ d. Some (document_shape d)) (sym l.there.is) ∙ ap Some shape
    ∙ sym (ap (option_map document_shape) (stored_document c.document_meant.ensures.read r.form names r.bytes c.len-known.ensures.dictionary c.requires.stored)))
    c.before_at.ensures.alike
