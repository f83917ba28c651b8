use Rattle.std.proofs.Common.{inl, refl, subst}
use Rattle.tc_audit.specs.Reasons.{IsReason}
use Rattle.tc_audit.specs.declared.verdict.Wrong.TheVariants.{Count, Record}
use Rattle.tc_check.proofs.CheckedReads.{wrong_here}
use Rattle.tc_check.proofs.checking.reason_of.Goals as goal

pub returns-in-Record : goal.returns-in-Record
returns-in-Record g c = λ part writes is.
    let at = c.in-Record.component in
    let list = c.args.list.now in
    (at, wrong_here g.F.Frozen.content part list c.name_at.result at (Record at c.in-Record.place c.in-Record.bytes) refl c.name_at.ensures (subst (IsReason g.F.Frozen.content part list) c.in-Record.is is))

pub returns-in-Documents : goal.returns-in-Documents
returns-in-Documents g c = λ part writes is. inl (refl, refl, (c.in-Documents.component, subst (IsReason g.F.Frozen.content part c.args.list.now) c.in-Documents.is is))

pub returns-in-Count : goal.returns-in-Count
returns-in-Count g c = λ part writes is.
    let at = c.in-Count.component in
    let list = c.args.list.now in
    (at, wrong_here g.F.Frozen.content part list c.name_at-in-Count.result at (Count at c.in-Count.first) refl c.name_at-in-Count.ensures (subst (IsReason g.F.Frozen.content part list) c.in-Count.is is))
