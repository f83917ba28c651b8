use Rattle.std.proofs.Common.{◌∙◌, [], ap, length}
use Rattle.std.specs.Prelude.{All}
use Rattle.tc_lsm_model.specs.Contents.{Partition}
use Rattle.tc_lsm_model.specs.Lists.{live}
use Rattle.tc_audit.specs.Reasons.{IsReason}
use Rattle.tc_audit.specs.Told.{IsHeld, IsOf}
use Rattle.tc_audit.proofs.Outcomes.{stopped}
use Rattle.tc_audit.specs.declared.verdict.Verdict.TheVariants.{Right}
use Rattle.tc_audit.proofs.RightLists.{held_all, no_reason, of_all, one_list}
use Rattle.tc_audit.proofs.auditing.audit.Goals as goal

pub returns-in-Ok-clause-lawful : goal.returns-in-Ok-clause-lawful
returns-in-Ok-clause-lawful g c = λ part cs right.
    let told = g.F.Frozen.content in
    let laws = c.components_are_contents.ensures in
    let found = c.in-Ok.ensures.right part (held_all told laws.holds c.args.list.now cs right.loaded) (of_all told part 0 [] [] c.args.list.now cs right.loaded right.listed) in
    ap Right (found.2 ∙ ap (λ ds. length (live ds)) (one_list told laws.apart c.args.list.now found.0 cs found.1.loaded right.loaded))

pub returns-in-Err-Wrong-clause-lawful : goal.returns-in-Err-Wrong-clause-lawful
returns-in-Err-Wrong-clause-lawful g c = λ part cs right.
    let told = g.F.Frozen.content in
    let laws = c.components_are_contents.ensures in
    let reason = stopped c.in-Err-Wrong.field-0 c.in-Err-Wrong.wrong
    (λ w. (p : Partition) → All (IsHeld told) c.args.list.now → All (IsOf p) c.args.list.now → IsReason told p c.args.list.now w)
    c.in-Err-Wrong.field-0-is c.in-Err-Wrong.ensures.wrong part (held_all told laws.holds c.args.list.now cs right.loaded) (of_all told part 0 [] [] c.args.list.now cs right.loaded right.listed) in
    absurd (no_reason told laws.apart c.stored_records_make_contents.ensures.stored part c.args.list.now cs c.in-Err-Wrong.wrong right reason)
