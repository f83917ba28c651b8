use Rattle.std.proofs.Common.{◌≡◌, ◌∙◌, None, sym, subst, arith}
use Rattle.std.proofs.lemmas.Result.{on_ok_weaker}
use Rattle.std.proofs.lemmas.Option.{same_Some, slice_get_within}
use Rattle.tc_model.specs.Keyed.{value_of}
use Rattle.tc_lsm_model.specs.Lists.{live}
use Rattle.tc_component.specs.Fetching.{IsPlace}
use Rattle.tc_component.specs.Loading.{ComponentState}
use Rattle.tc_audit.specs.Walking.{IsLessBy}
use Rattle.tc_audit.proofs.OlderRecords.{fits_live, front_at, stored_live}
use Rattle.tc_audit.proofs.Outcomes.{wrong_then}
use Rattle.tc_audit.proofs.older.take_off.Goals as goal

pub component_at-component-requires-after_bounds : goal.component_at-component-requires-after_bounds
component_at-component-requires-after_bounds g c κs within = slice_get_within c.args.older.now c.in-At.at c.in-At.ensures.newest.component c.in-At.ensures.newest.here

pub take_off_from-requires-clause-place : goal.take_off_from-requires-clause-place
take_off_from-requires-clause-place g c κs within =
    let newest = c.in-At.ensures.newest in
    subst (λ (m : ComponentState _). IsPlace m.index.slots c.in-At.place) (same_Some newest.component c.component_at-component.result.now (sym newest.here ∙ c.component_at-component.ensures)) (c.args.key, newest.has)

pub take_off_from-requires-clause-newer : goal.take_off_from-requires-clause-newer
take_off_from-requires-clause-newer g c κs within = front_at c.args.recount.now.names c.args.older.now c.in-At.at c.component_at-component.result.now c.requires.newer c.component_at-component.ensures

pub returns-in-Absent-clause-taken : goal.returns-in-Absent-clause-taken
returns-in-Absent-clause-taken g c = λ part cs right.
    let none : value_of c.args.key (live cs) ≡ None =
    c.in-Absent.ensures.live part cs right.listed (c.loaded_components_show_contents.ensures.shown c.args.older.now cs right.loaded) in
    subst (λ o. IsLessBy o c.args.recount.now.names c.args.recount.now.schema c.args.recount.now.schema) (sym none) (λ path t. omega arith)

pub returns-in-At-clause-taken : goal.returns-in-At-clause-taken
returns-in-At-clause-taken g c =
    on_ok_weaker c.take_off_from.result
    (λ taken part cs right.
    let holds = c.loaded_components_show_contents.ensures.fetched part c.args.older.now cs c.args.key c.in-At.at c.in-At.place right.listed right.loaded c.in-At.ensures.newest in
    let l = stored_live g.F.Frozen.content c.stored_records_make_contents.ensures.stored part c.args.older.now cs c.args.key c.in-At.at c.component_at-component.result.now c.in-At.place right holds c.component_at-component.ensures in
    subst (λ o. IsLessBy o c.args.recount.now.names c.args.recount.now.schema c.take_off_from.new.recount.schema) (sym l.live_is) (taken l.document l.whole l.there))
    c.take_off_from.ensures.taken

pub returns-in-At-clause-harmless : goal.returns-in-At-clause-harmless
returns-in-At-clause-harmless g c =
    wrong_then c.take_off_from.result _ _
    (λ w harmless part cs ps right same stands.
    let holds = c.loaded_components_show_contents.ensures.fetched part c.args.older.now cs c.args.key c.in-At.at c.in-At.place right.listed right.loaded c.in-At.ensures.newest in
    let l = stored_live g.F.Frozen.content c.stored_records_make_contents.ensures.stored part c.args.older.now cs c.args.key c.in-At.at c.component_at-component.result.now c.in-At.place right holds c.component_at-component.ensures in
    harmless l.document l.whole l.there (fits_live c.args.recount.now.names c.args.recount.now.schema c.args.key l.document ps (same ∙ l.live_is) stands))
    c.take_off_from.ensures.harmless

pub returns-in-At-clause-place : goal.returns-in-At-clause-place
returns-in-At-clause-place g c =
    let within = slice_get_within c.args.older.now c.in-At.at c.in-At.ensures.newest.component c.in-At.ensures.newest.here in
    wrong_then c.take_off_from.result _ _ (λ w is. omega (arith, is, within)) c.take_off_from.ensures.place
