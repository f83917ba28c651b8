use Rattle.std.proofs.Common.{[], refl, inl, inr, ⊎_elim, arith}
use Rattle.std.specs.Prelude.{Some}
use Rattle.tc_work.specs.Moving.{eyes}
use Rattle.tc_keeper.specs.Keeping.{HasSpent}
use Rattle.tc_keeper.specs.Faults.{fault_in}
use Rattle.tc_keeper.specs.Sight.{nothing}
use Rattle.tc_keeper.proofs.Causes.{run_by_window, window_spent}
use Rattle.tc_server.proofs.LeftFiles.{spent_by}
use Rattle.tc_keeper.proofs.KeeperWorlds.{serves_unknown}
use Rattle.tc_server.proofs.server.answer_asked.Goals as goal

-- ---- a run

pub returns-in-Run-clause-unread : goal.returns-in-Run-clause-unread
returns-in-Run-clause-unread g c = rw c.in-Run.is (inl tt)

pub returns-in-Run-clause-spent : goal.returns-in-Run-clause-spent
returns-in-Run-clause-spent g c =
    let spent = HasSpent g.S.Store.history g.S.Device.Device.history g.S.Frozen.Frozen.content c.answer_lines.new.session.keeper in
    rw c.in-Run.is (λ same.
    ⊎_elim (λ input. inl (tt, input)) (λ last. inr last)
    (spent_by spent (fault_in c.answer_lines.result) nothing c.args.session.now.window.limit (g.I.Source.left c.args.source.now)
    (g.I.Source.left c.answer_lines.new.source) (g.O.Sink.taken c.args.sink.now) (g.O.Sink.taken c.answer_lines.new.sink)
    (c.answer_lines.ensures.ran nothing (serves_unknown (eyes g.S.Store.history g.S.Device.Device.history g.S.Frozen.Frozen.content g.S.Device.Device.name
    g.S.Frozen.Frozen.size g.S.Watch.Watch.counts) c.args.session.now.keeper)).run same))

-- ---- a demonstration

pub returns-in-Demo-clause-ran : goal.returns-in-Demo-clause-ran
returns-in-Demo-clause-ran g c = rw c.in-Demo.is (λ first held. (Some [], c.answer_demo.ensures.ran first held))

pub returns-in-Demo-clause-unread : goal.returns-in-Demo-clause-unread
returns-in-Demo-clause-unread g c = inr refl

pub returns-in-Demo-clause-cause : goal.returns-in-Demo-clause-cause
returns-in-Demo-clause-cause g c = run_by_window (fault_in c.answer_demo.result) _ _ _ _ _ _ _ (omega arith) c.answer_demo.ensures.cause

pub returns-in-Demo-clause-spent : goal.returns-in-Demo-clause-spent
returns-in-Demo-clause-spent g c = λ same. inr (window_spent (fault_in c.answer_demo.result) _ _ _ _ _ c.answer_demo.ensures.cause same)
