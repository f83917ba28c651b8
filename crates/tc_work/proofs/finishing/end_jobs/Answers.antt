use Rattle.std.proofs.Common.{◌≡◌, false, List, Option, None, refl, sym, subst}
use Rattle.std.specs.Prelude.{Err}
use Rattle.tc_plain_model.specs.Writes.{Write}
use Rattle.tc_part_model.specs.PartState.{PartState}
use Rattle.tc_part_model.specs.PartView.{PartView}
use Rattle.tc_work.specs.Ending.{GivesBack}
use Rattle.tc_work.specs.Moving.{beside, eyes, told_by, works_by, IsOutBy, KeepsJobs}
use Rattle.tc_work.proofs.GivenBack.{given_back, keeps_given_up}
use Rattle.tc_work.proofs.finishing.end_jobs.Goals as goal

pub give_back-requires-clause-jobs : goal.give_back-requires-clause-jobs
give_back-requires-clause-jobs g c κs within =
    subst (λ (s : PartState _ _ _ _). IsOutBy (eyes g.S.Store.history g.S.Device.Device.history g.S.Frozen.Frozen.content g.S.Device.Device.name g.S.Frozen.Frozen.size g.S.Watch.Watch.counts) (beside s c.install_both.new.jobs)) (sym c.fail.ensures)
    (keeps_given_up (eyes g.S.Store.history g.S.Device.Device.history g.S.Frozen.Frozen.content g.S.Device.Device.name g.S.Frozen.Frozen.size g.S.Watch.Watch.counts) _
    (beside c.args.part.now c.args.jobs.now) (beside c.install_both.new.part c.install_both.new.jobs) c.install_both.ensures.moves.keeps).jobs

pub returns-in-Ok-clause-moves : goal.returns-in-Ok-clause-moves
returns-in-Ok-clause-moves g c = c.in-Ok.ensures.moves

pub returns-in-Err-clause-moves : goal.returns-in-Err-clause-moves
returns-in-Err-clause-moves g c =
    let e = eyes g.S.Store.history g.S.Device.Device.history g.S.Frozen.Frozen.content g.S.Device.Device.name g.S.Frozen.Frozen.size g.S.Watch.Watch.counts in
    let mid = beside c.install_both.new.part c.install_both.new.jobs in
    let new = beside c.give_back.new.part c.give_back.new.jobs in
    let back = c.give_back.ensures in
    let up = c.fail.ensures in
    given_back e (beside c.args.part.now c.args.jobs.now) mid new (Err c.in-Err.fault) c.in-Err.fault refl c.in-Err.ensures.moves (subst (λ (s : PartState _ _ _ _). KeepsJobs e ⊥ (beside s mid.jobs) new) up back.keeps)
    (subst (λ (s : PartState _ _ _ _). (p : PartView) (frame : Option (List Write)) → GivesBack (works_by e (beside s mid.jobs)) (works_by e new) p frame (told_by e (beside s mid.jobs)) (told_by e new)) up back.stays)
    (subst (λ (s : PartState _ _ _ _). new.part ≡ record s { store = new.part.store; flusher = new.part.flusher; merger = new.part.merger; flushing = false; merging = None }) up back.given)
