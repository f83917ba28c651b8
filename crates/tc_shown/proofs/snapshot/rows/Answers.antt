use Rattle.std.proofs.Common.{◌≡◌, ◌∙◌, List, map, ap, subst}
use Rattle.std.specs.Prelude.{IfOk, IfErr, Option, option_map}
use Rattle.tc_command.specs.Commands.{ask_of}
use Rattle.tc_component.specs.Loading.{ComponentState}
use Rattle.tc_memory.specs.Table.{Table}
use Rattle.tc_request_model.specs.Rows.{rows_over as rows_of_pairs}
use Rattle.tc_request_model.specs.Rendered.{row_text}
use Rattle.tc_plain_model.specs.Writes.{Pairs}
use Rattle.tc_shown.proofs.SnapshotPairs.{shown_is_stored, of_same}
use Rattle.tc_query.specs.Faults.{OfDamage, IsHarmIn}
use Rattle.tc_shown.specs.Newest.{newest_of}
use Rattle.tc_query.specs.Shown.{MayHold}
use Rattle.tc_view.specs.Changes.{showing_in}
use Rattle.tc_view.specs.Places.{shown_by}
use Rattle.tc_shown.proofs.snapshot.rows.Goals as goal

pub returns-clause-rows : goal.returns-clause-rows
returns-clause-rows g c = λ pairs h.
    c.rows_over.ensures.rows pairs
    (shown_is_stored g.F.Frozen.content (showing_in (shown_by c.args.of.now)) c.list.result.now (option_map (λ t. t.now) c.table_of.result) c.in_ok-active.active pairs
    c.list.ensures (c.table_of.ensures ∙ c.sealed.ensures) (c.in_ok-active.ensures ∙ ap newest_of c.chunks.ensures) h)

pub returns-clause-shown : goal.returns-clause-shown
returns-clause-shown g c =
    let shown = shown_by c.args.of.now in
    of_same
    (λ (cs : List (ComponentState _)) (sealed : Option Table) (active : Table).
    IfOk c.rows_over.result (λ rows. (pairs : Pairs) × MayHold (λ file. g.F.Frozen.content file) cs sealed active pairs × (rows ≡ map row_text (rows_of_pairs (ask_of c.args.ask.now) pairs))))
    c.list.result.now shown.list (option_map (λ t. t.now) c.table_of.result) shown.sealed c.in_ok-active.active (newest_of shown.written)
    c.list.ensures (c.table_of.ensures ∙ c.sealed.ensures) (c.in_ok-active.ensures ∙ ap newest_of c.chunks.ensures) c.rows_over.ensures.shown

pub returns-clause-harmed : goal.returns-clause-harmed
returns-clause-harmed g c =
    subst (λ (cs : List (ComponentState _)). IfErr c.rows_over.result (λ fault. OfDamage fault (λ file at bytes. IsHarmIn (λ f. g.F.Frozen.content f) cs file at bytes))) c.list.ensures
    c.rows_over.ensures.harmed
