use Rattle.std.proofs.Common.{◌≡◌, map, subst, sym}
use Rattle.tc_command.specs.Commands.{ask_of}
use Rattle.tc_part_model.specs.PartState.{told}
use Rattle.tc_part_model.specs.PartView.{stored_with}
use Rattle.tc_request_model.specs.Rendered.{row_text}
use Rattle.tc_request_model.specs.Rows.{rows_over}
use Rattle.tc_plain_model.specs.Writes.{Pairs}
use Rattle.tc_query.specs.Shown.{MayHold}
use Rattle.tc_query.specs.Stored.{Holds}
use Rattle.tc_part.specs.Faults.{IsUndamaged}
use Rattle.tc_part.specs.Harms.{IsHarmIn, IsOfRead}
use Rattle.tc_part.proofs.ListedContents.{all_show, all_loaded}
use Rattle.tc_part.proofs.LiveCounts.{keys_counted}
use Rattle.tc_part.proofs.QueriedRows.{holds_stored, harmed_so, unharmed_so}
use Rattle.tc_part.proofs.part.Part.rows_stored.Goals as goal
use Rattle.tc_part.proofs.part.Part.rows_stored.Goals.{in-Ok, in-Err}

pub returns-clause-rows : goal.returns-clause-rows
returns-clause-rows g c =
    let content = g.S.Frozen.Frozen.content in
    let list = c.self.inside.list in
    rw (← c.self.view_is) λ p is files.
    elim c.match-rows_over.branch [
      | in-Ok w ↦
          rw w.result-is
          (w.in-Ok.ensures.rows (stored_with p)
          (subst (λ sealed. Holds content list sealed c.self.inside.active (stored_with p)) (sym c.table_of-sealed.ensures) (holds_stored content list _ p is (all_loaded content list p.list is.view.components files) files)))
      | in-Err w ↦ rw w.result-is tt
    ]

pub returns-clause-undamaged : goal.returns-clause-undamaged
returns-clause-undamaged g c =
    let content = g.S.Frozen.Frozen.content in
    let list = c.self.inside.list in
    rw (← c.self.view_is) λ p is files.
    elim c.match-rows_over.branch [
      | in-Ok w ↦ rw w.result-is tt
      | in-Err w ↦
          rw w.result-is
          (subst IsUndamaged (sym w.of_query.ensures) (unharmed_so w.in-Err.fault (w.in-Err.ensures.unharmed p.list (all_loaded content list p.list is.view.components files))))
    ]

pub returns-clause-shown : goal.returns-clause-shown
returns-clause-shown g c =
    let content = g.S.Frozen.Frozen.content in
    let list = c.self.inside.list in
    rw (← c.self.view_is)
    (elim c.match-rows_over.branch [
      | in-Ok w ↦
          rw w.result-is
          (subst (λ sealed. (pairs : Pairs) × MayHold content list sealed c.self.inside.active pairs × (w.in-Ok.rows ≡ map row_text (rows_over (ask_of c.args.ask.now) pairs))) c.table_of-sealed.ensures w.in-Ok.ensures.shown)
      | in-Err w ↦ rw w.result-is tt
    ])

pub returns-clause-harmed : goal.returns-clause-harmed
returns-clause-harmed g c =
    let content = g.S.Frozen.Frozen.content in
    let list = c.self.inside.list in
    rw (← c.self.view_is)
    (elim c.match-rows_over.branch [
      | in-Ok w ↦ rw w.result-is tt
      | in-Err w ↦
          rw w.result-is (subst (λ fault. IsOfRead fault (λ file at bytes. IsHarmIn content list file at bytes)) (sym w.of_query.ensures) (harmed_so content list w.in-Err.fault w.in-Err.ensures.harmed))
    ])

pub returns-clause-live : goal.returns-clause-live
returns-clause-live g c = λ p is.
    let state = c.args.self.now in
    let content = g.S.Frozen.Frozen.content in
    keys_counted state.list (told g.S.Store.history g.S.Device.Device.history content state) p is (all_show content state.list p.list is.view.components)
