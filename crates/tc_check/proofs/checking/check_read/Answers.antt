use Rattle.std.proofs.Common.{length}
use Rattle.tc_lsm_model.specs.Lists.{live}
use Rattle.tc_check.proofs.CheckedReads.{audit_right, audit_wrong, lawful_in, live_counted, never_both, never_fails, right_in, watched_never, wrong_in}
use Rattle.tc_check.proofs.checking.check_read.Goals as goal

-- ---- right components

pub returns-clause-right : goal.returns-clause-right
returns-clause-right g c = right_in g.F.Frozen.content c.args.read.list c.args.read.writes.items c.in-Right.documents c.check_logs.result (audit_right _ _ _ c.in-Right.is c.in_ok-found.ensures.right) c.check_logs.ensures.right

pub returns-clause-lawful : goal.returns-clause-lawful
returns-clause-lawful g c = λ part cs logs audited.
    let counted = live_counted _ c.in-Right.documents (length (live cs)) c.in-Right.is (c.in_ok-found.ensures.lawful part cs (record { loaded = audited.loaded; listed = audited.listed })) in
    lawful_in g.F.Frozen.content part c.args.read.list c.args.read.writes.items cs logs c.in-Right.documents c.check_logs.result audited counted c.check_logs.ensures.lawful

pub returns-clause-wrong : goal.returns-clause-wrong
returns-clause-wrong g c = wrong_in g.F.Frozen.content c.args.read.list c.args.read.writes.items c.in-Right.documents c.check_logs.result (audit_right _ _ _ c.in-Right.is c.in_ok-found.ensures.right) c.check_logs.ensures.wrong

pub returns-clause-faults : goal.returns-clause-faults
returns-clause-faults g c = watched_never _ _ _ _ c.check_logs.ensures.no_disk c.audit.ensures.watched

-- ---- one of them wrong

pub reason_of-requires-after_bounds : goal.reason_of-requires-after_bounds
reason_of-requires-after_bounds g c κs within = audit_wrong _ _ _ c.in-Wrong.is c.in_ok-found.ensures.place

pub returns-in-Wrong-clause-lawful : goal.returns-in-Wrong-clause-lawful
returns-in-Wrong-clause-lawful g c = λ part cs logs audited. absurd (never_both _ _ _ c.in-Wrong.is (c.in_ok-found.ensures.lawful part cs (record { loaded = audited.loaded; listed = audited.listed })))

pub returns-in-Wrong-clause-wrong : goal.returns-in-Wrong-clause-wrong
returns-in-Wrong-clause-wrong g c = λ part held of. c.reason_of.ensures part c.args.read.writes.items (audit_wrong _ _ _ c.in-Wrong.is c.in_ok-found.ensures.reason part held of)

pub returns-in-Wrong-clause-faults : goal.returns-in-Wrong-clause-faults
returns-in-Wrong-clause-faults g c = watched_never _ _ _ _ (never_fails _ _) c.audit.ensures.watched
