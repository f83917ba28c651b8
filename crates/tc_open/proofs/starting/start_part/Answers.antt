use Rattle.std.proofs.Common.{rules, ◌≡◌, ◌∙◌, ◌+◌, ◌<◌, ◌^◌, None, map, refl, sym, ap, subst, arith, inr}
use Rattle.std.specs.Prelude.{All}
use Rattle.tc_store.specs.Disk.{Disk, out}
use Rattle.tc_store.specs.Moments.{IfTold, LeavesAt}
use Rattle.tc_store.specs.StoreCalls.{makes}
use Rattle.tc_store.specs.declared.file_name.FileName.TheVariants.{Log as log_name}
use Rattle.tc_log.specs.Spelling.{IsHead}
use Rattle.tc_machine.specs.Logs.{log_head}
use Rattle.tc_part.specs.OwnFiles.{HasOnlyOwn}
use Rattle.tc_part_model.specs.PartState.{IsTold, PartState, told_component}
use Rattle.tc_part_model.specs.Starting.{started}
use Rattle.tc_open.specs.FirstLog.{MakesLog}
use Rattle.tc_recover.specs.Refusals.{asked}
use Rattle.tc_open.proofs.CreatedLogs.{came_home, log_is_out}
use Rattle.tc_open.proofs.FirstLogMoments.{failed_keeps, none_made}
use Rattle.tc_open.proofs.FilesIn.{failed_in}
use Rattle.tc_open.proofs.StartedFiles.{makes_own}
use Rattle.tc_open.proofs.StartedLogs.{failed_since, few_left, log_since, made_since, next_loaded, opened_since}
use Rattle.tc_open.proofs.starting.start_part.Goals as goal

pub returns-then-last-eq-MAX_NUMBER-clause-kept : goal.returns-then-last-eq-MAX_NUMBER-clause-kept
returns-then-last-eq-MAX_NUMBER-clause-kept g c = λ cs of tidy.
    let old = g.S.Store.history c.args.kit.store in
    failed_keeps (asked c.args.part) cs old old tidy (none_made (asked c.args.part) cs old)

pub overflow_add-head : goal.overflow_add-head
overflow_add-head g c =
    let left = few_left c.args.list c.last_generation-last.result c.requires.lawful c.last_generation-last.ensures c.if-last-eq-MAX_NUMBER.false in
    omega (arith, left)

pub make_log-requires-clause-last : goal.make_log-requires-clause-last
make_log-requires-clause-last g c κs within = few_left c.args.list c.last_generation-last.result c.requires.lawful c.last_generation-last.ensures c.if-last-eq-MAX_NUMBER.false

pub start-requires-clause-follows : goal.start-requires-clause-follows
start-requires-clause-follows g c κs within =
    let next = next_loaded g.S.Frozen.Frozen.content None 0 c.args.list refl in
    c.in-Ok.ensures.name ∙ ap (λ n. log_name n) (ap (λ n. n + 1) c.last_generation-last.ensures ∙ sym next)

pub start-requires-clause-last : goal.start-requires-clause-last
start-requires-clause-last g c κs within =
    let next = next_loaded g.S.Frozen.Frozen.content None 0 c.args.list refl in
    subst (λ n. n < 2 ^ 63) (ap (λ n. n + 1) c.last_generation-last.ensures ∙ sym next) (few_left c.args.list c.last_generation-last.result c.requires.lawful c.last_generation-last.ensures c.if-last-eq-MAX_NUMBER.false)

pub returns-in-Ok-start-clause-started : goal.returns-in-Ok-start-clause-started
returns-in-Ok-start-clause-started g c = λ cs lawful of tidy.
    let part = asked c.args.part in
    let last = c.last_generation-last.result in
    let bound = few_left c.args.list last c.requires.lawful c.last_generation-last.ensures c.if-last-eq-MAX_NUMBER.false in
    let is_head : IsHead (log_head part (last + 1)) = record { number = search rules; count = search rules; first = omega arith; last = bound } in
    c.in-Ok-start.ensures.starts.started cs
    (opened_since g.S.Frozen.Frozen.content part c.args.list cs of (g.S.Store.history c.args.kit.store) tidy last c.last_generation-last.ensures is_head (g.S.Store.history c.in-Ok.field-0.kit.store) (g.S.Device.Device.history c.in-Ok.field-0.log.device) lawful bound
    c.in-Ok.ensures.made c.in-Ok.ensures.created)

pub returns-in-Ok-start-clause-made : goal.returns-in-Ok-start-clause-made
returns-in-Ok-start-clause-made g c = ap (λ p. g.S.Store.history p.store) c.in-Ok-start.ensures.begun ∙ c.in-Ok.ensures.made ∙ ap (λ n. makes (log_name (n + 1)) (g.S.Store.history c.args.kit.store)) c.last_generation-last.ensures

pub returns-in-Ok-start-clause-own : goal.returns-in-Ok-start-clause-own
returns-in-Ok-start-clause-own g c = λ own.
    let part = asked c.args.part in
    let content = g.S.Frozen.Frozen.content in
    let last = c.last_generation-last.result in
    let list = c.args.list in
    let disks = g.S.Store.history c.in-Ok.field-0.kit.store in
    let log = g.S.Device.Device.history c.in-Ok.field-0.log.device in
    let next = next_loaded content None 0 list refl in
    let made = makes_own content list part disks log (last + 1) (g.S.Store.history c.args.kit.store) (omega (arith, next, c.last_generation-last.ensures)) own in
    c.in-Ok-start.ensures.starts.own (subst (λ ds. IfTold ds (HasOnlyOwn (started (record { part = part; disks = disks; log = log; components = map (told_component content) list })))) (sym c.in-Ok.ensures.made) made)

pub returns-in-Ok-start-clause-moments : goal.returns-in-Ok-start-clause-moments
returns-in-Ok-start-clause-moments g c = λ cs of tidy.
    made_since g.S.Frozen.Frozen.content (asked c.args.part) c.args.list cs of (g.S.Store.history c.args.kit.store) tidy c.last_generation-last.result c.last_generation-last.ensures (g.S.Store.history c.in-Ok-start.started.store)
    (ap (λ p. g.S.Store.history p.store) c.in-Ok-start.ensures.begun ∙ c.in-Ok.ensures.made)

pub returns-in-Ok-start-clause-log_moments : goal.returns-in-Ok-start-clause-log_moments
returns-in-Ok-start-clause-log_moments g c = λ cs of tidy.
    let part = asked c.args.part in
    let last = c.last_generation-last.result in
    let old = g.S.Store.history c.args.kit.store in
    let bound = few_left c.args.list last c.requires.lawful c.last_generation-last.ensures c.if-last-eq-MAX_NUMBER.false in
    let is_head : IsHead (log_head part (last + 1)) = record { number = search rules; count = search rules; first = omega arith; last = bound } in
    subst (λ (p : PartState _ _ _ _). IfTold old (λ disk. All (LeavesAt (MakesLog part cs)) (g.S.Device.Device.history p.log.device))) (sym c.in-Ok-start.ensures.begun)
    (log_since g.S.Frozen.Frozen.content part c.args.list cs of old tidy last c.last_generation-last.ensures is_head (g.S.Device.Device.history c.in-Ok.field-0.log.device) c.in-Ok.ensures.created)

pub returns-in-Err-start-clause-left_moments : goal.returns-in-Err-start-clause-left_moments
returns-in-Err-start-clause-left_moments g c = λ cs of tidy.
    let part = asked c.args.part in
    let last = c.last_generation-last.result in
    let old = g.S.Store.history c.args.kit.store in
    let new = g.S.Store.history c.in-Err-start.kit.store in
    let log = g.S.Device.Device.history c.in-Ok.field-0.log.device in
    let bound = few_left c.args.list last c.requires.lawful c.last_generation-last.ensures c.if-last-eq-MAX_NUMBER.false in
    let is_head : IsHead (log_head part (last + 1)) = record { number = search rules; count = search rules; first = omega arith; last = bound } in
    let name = log_name (last + 1) in
    let back = came_home name (g.S.Device.Device.name c.in-Ok.field-0.log.device) log old (g.S.Store.history c.in-Ok.field-0.kit.store) new c.in-Err-start.ensures.home c.in-Ok.ensures.name c.in-Ok.ensures.made in
    failed_since g.S.Frozen.Frozen.content part c.args.list cs of old tidy last c.last_generation-last.ensures is_head new (inr (log, c.in-Ok.ensures.created.creates, back))

pub returns-in-Err-start-clause-kept : goal.returns-in-Err-start-clause-kept
returns-in-Err-start-clause-kept g c = λ cs of tidy.
    failed_keeps (asked c.args.part) cs (g.S.Store.history c.args.kit.store) (g.S.Store.history c.in-Err-start.kit.store) tidy (returns-in-Err-start-clause-left_moments g c cs of tidy)

pub returns-in-Err-start-clause-home : goal.returns-in-Err-start-clause-home
returns-in-Err-start-clause-home g c =
    let last = c.last_generation-last.result in
    let old = g.S.Store.history c.args.kit.store in
    let new = g.S.Store.history c.in-Err-start.kit.store in
    let log = g.S.Device.Device.history c.in-Ok.field-0.log.device in
    let name = log_name (last + 1) in
    let back = came_home name (g.S.Device.Device.name c.in-Ok.field-0.log.device) log old (g.S.Store.history c.in-Ok.field-0.kit.store) new c.in-Err-start.ensures.home c.in-Ok.ensures.name c.in-Ok.ensures.made in
    failed_in (log_head (asked c.args.part) (last + 1)) name old new (inr (log, c.in-Ok.ensures.created.creates, back))

pub returns-in-Err-clause-home : goal.returns-in-Err-clause-home
returns-in-Err-clause-home g c =
    let last = c.last_generation-last.result in
    failed_in (log_head (asked c.args.part) (last + 1)) (log_name (last + 1)) (g.S.Store.history c.args.kit.store) (g.S.Store.history c.in-Err.fault.kit.store) c.in-Err.ensures.failed

pub returns-in-Err-clause-left_moments : goal.returns-in-Err-clause-left_moments
returns-in-Err-clause-left_moments g c = λ cs of tidy.
    let part = asked c.args.part in
    let last = c.last_generation-last.result in
    let bound = few_left c.args.list last c.requires.lawful c.last_generation-last.ensures c.if-last-eq-MAX_NUMBER.false in
    let is_head : IsHead (log_head part (last + 1)) = record { number = search rules; count = search rules; first = omega arith; last = bound } in
    failed_since g.S.Frozen.Frozen.content part c.args.list cs of (g.S.Store.history c.args.kit.store) tidy last c.last_generation-last.ensures is_head (g.S.Store.history c.in-Err.fault.kit.store) c.in-Err.ensures.failed

pub returns-in-Err-clause-kept : goal.returns-in-Err-clause-kept
returns-in-Err-clause-kept g c = λ cs of tidy.
    failed_keeps (asked c.args.part) cs (g.S.Store.history c.args.kit.store) (g.S.Store.history c.in-Err.fault.kit.store) tidy (returns-in-Err-clause-left_moments g c cs of tidy)

pub returns-in-Ok-start-clause-log_out : goal.returns-in-Ok-start-clause-log_out
returns-in-Ok-start-clause-log_out g c =
    let name = log_name (c.last_generation-last.result + 1) in
    let disks = g.S.Store.history c.in-Ok.field-0.kit.store in
    let device = g.S.Device.Device.history c.in-Ok.field-0.log.device in
    c.in-Ok-start.ensures.starts.log_out (subst (λ n. IfTold disks (λ (disk : Disk). (disk n ≡ out) × IsTold device)) (sym c.in-Ok.ensures.name) (log_is_out name _ (g.S.Store.history c.args.kit.store) disks device c.in-Ok.ensures.made c.in-Ok.ensures.created))
