use Rattle.std.proofs.Common.{◌<◌, ◌+◌, ◌∙◌, Some, None, length, map, get_or, refl, sym, ap, subst, arith}
use Rattle.std.proofs.lemmas.Option.{slice_get-get_or, slice_get_within}
use Rattle.std.proofs.lemmas.Result.{IfOk-weaker, IfErr-weaker}
use Rattle.tc_command.specs.Commands.{ask_of}
use Rattle.tc_list.proofs.Shown.{where_live}
use Rattle.tc_list.specs.declared.whereabouts.Whereabouts.TheVariants.{Absent}
use Rattle.tc_lsm_model.specs.Lists.{live}
use Rattle.tc_request_model.specs.Rendered.{row_text}
use Rattle.tc_query.proofs.ListedRows.{place_there, found_there, listed_row}
use Rattle.tc_query.proofs.RowSteps.{rows_with_one, rows_of_none}
use Rattle.tc_query.proofs.Spelled.{of_damage_then}
use Rattle.tc_query.proofs.WindowReads.{later_reads, reads_few, set_readers, record_read, record_few}
use Rattle.tc_query.proofs.looking.row_listed.Goals as goal

pub row_stored-requires-clause-place : goal.row_stored-requires-clause-place
row_stored-requires-clause-place g c = λ κs lives.
    place_there c.args.list.now c.args.key c.in-At.at c.component_at-component.result.now c.in-At.place c.component_at-component.ensures.there c.in-At.ensures

pub row_stored-requires-clause-of : goal.row_stored-requires-clause-of
row_stored-requires-clause-of g c κs lives =
    let cs = c.args.list.now in
    let readers = c.args.readers.now in
    let at = c.in-At.at in
    let m = c.component_at-component.result.now in
    let here = c.component_at-component.ensures.there in
    let within : at < length readers = subst (λ n. at < n) (sym c.requires.of.many) (slice_get_within cs at m here) in
    c.requires.of.each at m (get_or readers at c.index-readers-at.result) here (slice_get-get_or readers at c.index-readers-at.result within)

pub returns-in-Absent-clause-row : goal.returns-in-Absent-clause-row
returns-in-Absent-clause-row g c = λ part cs is all.
    ap (map row_text) (rows_of_none (ask_of c.args.ask.now) c.args.key (live cs)
    (where_live part c.args.list.now cs c.args.key Absent is (c.loaded_components_show_contents.ensures.shown c.args.list.now cs all) c.in-Absent.ensures))

pub returns-in-Absent-clause-read : goal.returns-in-Absent-clause-read
returns-in-Absent-clause-read g c = λ low first order a. later_reads low (c.args.key + 1) c.args.list.now c.args.readers.now first (g.F.Watch.Watch.counts c.args.watch.now).reads (omega (arith, order)) a

pub returns-in-Absent-clause-windows : goal.returns-in-Absent-clause-windows
returns-in-Absent-clause-windows g c = λ low first order a. reads_few low c.args.list.now c.args.readers.now first (g.F.Watch.Watch.counts c.args.watch.now).reads c.requires.of.many a

pub returns-in-At-clause-of : goal.returns-in-At-clause-of
returns-in-At-clause-of g c =
    set_readers g.F.Frozen.content (ask_of c.args.ask.now).path c.args.list.now c.args.readers.now c.in-At.at c.component_at-component.result.now c.row_stored.new.reader c.requires.of c.component_at-component.ensures.there c.row_stored.ensures.of

pub returns-in-At-clause-row : goal.returns-in-At-clause-row
returns-in-At-clause-row g c = λ part cs is all.
    let holds = c.loaded_components_show_contents.ensures.fetched part c.args.list.now cs c.args.key c.in-At.at c.in-At.place is all c.in-At.ensures in
    IfOk-weaker c.row_stored.result _ _
    (λ row each. listed_row g.F.Frozen.content c.args.list.now cs c.args.key c.in-At.at c.in-At.place c.component_at-component.result.now (ask_of c.args.ask.now) _ holds c.component_at-component.ensures.there each)
    c.row_stored.ensures.row

pub returns-in-At-clause-harmed : goal.returns-in-At-clause-harmed
returns-in-At-clause-harmed g c =
    IfErr-weaker c.row_stored.result _ _
    (λ fault is. of_damage_then fault _ _ (λ file place bytes harm. record { at = c.in-At.at; component = c.component_at-component.result.now; here = c.component_at-component.ensures.there; harm = harm }) is)
    c.row_stored.ensures.harmed

pub returns-in-At-clause-read : goal.returns-in-At-clause-read
returns-in-At-clause-read g c =
    let cs = c.args.list.now in
    let readers = c.args.readers.now in
    let counts = g.F.Watch.Watch.counts in
    let at = c.in-At.at in
    let m = c.component_at-component.result.now in
    let here = c.component_at-component.ensures.there in
    let within : at < length readers = subst (λ n. at < n) (sym c.requires.of.many) (slice_get_within cs at m here) in
    let there = slice_get-get_or readers at c.index-readers-at.result within in
    let told = c.row_stored.ensures in
    IfOk-weaker c.row_stored.result _ _
    (λ row begins low first order a. record_read cs readers c.args.key at m c.in-At.place (get_or readers at c.index-readers-at.result) c.row_stored.new.reader (counts c.args.watch.now) (counts c.row_stored.new.watch) c.component_at-component.ensures.lawful.ascend
    (found_there cs c.args.key at m c.in-At.place here c.in-At.ensures) here there told.held told.once begins low first order a)
    told.window

pub returns-in-At-clause-windows : goal.returns-in-At-clause-windows
returns-in-At-clause-windows g c =
    let cs = c.args.list.now in
    let readers = c.args.readers.now in
    let counts = g.F.Watch.Watch.counts in
    let at = c.in-At.at in
    let m = c.component_at-component.result.now in
    let here = c.component_at-component.ensures.there in
    let within : at < length readers = subst (λ n. at < n) (sym c.requires.of.many) (slice_get_within cs at m here) in
    let there = slice_get-get_or readers at c.index-readers-at.result within in
    let told = c.row_stored.ensures in
    λ low first order a. record_few cs readers c.args.key at m c.in-At.place (get_or readers at c.index-readers-at.result) c.row_stored.new.reader (counts c.args.watch.now) (counts c.row_stored.new.watch) c.component_at-component.ensures.lawful.ascend
    (found_there cs c.args.key at m c.in-At.place here c.in-At.ensures) here there told.held told.once c.requires.of.many low first order a

pub returns-in-Absent-clause-shown : goal.returns-in-Absent-clause-shown
returns-in-Absent-clause-shown g c = (None, c.in-Absent.ensures, refl)

pub returns-in-At-clause-shown : goal.returns-in-At-clause-shown
returns-in-At-clause-shown g c =
    IfOk-weaker c.row_stored.result _ _ (λ row is. (
      Some is.0,
      record {
        at = c.in-At.at;
        place = c.in-At.place;
        newest = c.in-At.ensures;
        component = c.component_at-component.result.now;
        here = c.component_at-component.ensures.there;
        read = is.1;
      },
      is.2 ∙ ap (map row_text) (rows_with_one (ask_of c.args.ask.now) c.args.key is.0),
    )) c.row_stored.ensures.document
