use Rattle.std.proofs.Common.{◌≡◌, ◌∙◌, true, Ok, sym, ap, subst}
use Rattle.std.proofs.lemmas.Result.{err_from_is_err_and}
use Rattle.tc_store.specs.Gate.{is_open_file}
use Rattle.tc_log.specs.Judging.{read_of}
use Rattle.tc_store.specs.Judging.{Judges}
use Rattle.tc_log.specs.Reading.{log_judged}
use Rattle.tc_log.specs.Spelling.{Means}
use Rattle.tc_log.proofs.Logs.{answers_whole}
use Rattle.tc_store.proofs.Judged.{judges_out, of_content, of_open_content}
use Rattle.tc_log.proofs.reading.read_frames.Goals as goal

pub returns-in_err-head-clause-judged : goal.returns-in_err-head-clause-judged
returns-in_err-head-clause-judged g c =
    let r = c.from_residual-in_err-head.result in
    let p = err_from_is_err_and r c.from_residual-in_err-head.ensures.1 in
    of_content (g.F.Frozen.content c.args.file.now) c.in_ok-bytes.bytes.items (λ bytes. Judges read_of r (log_judged bytes)) c.in_ok-bytes.ensures.read
    (subst (λ bytes. Judges read_of r (log_judged bytes)) c.deref.ensures.value (judges_out _ read_of (log_judged c.deref.result.now) c.log_in.result c.in_err-head.field-0.0 r c.in_err-head.was p c.log_in.ensures.judged))

pub returns-in_err-head-clause-whole : goal.returns-in_err-head-clause-whole
returns-in_err-head-clause-whole g c =
    answers_whole c.from_residual-in_err-head.result (g.F.Frozen.content c.args.file.now) (returns-in_err-head-clause-judged g c)

pub returns-clause-judged : goal.returns-clause-judged
returns-clause-judged g c =
    of_content (g.F.Frozen.content c.args.file.now) c.in_ok-bytes.bytes.items (λ bytes. log_judged bytes ≡ Ok (c.in_ok-head.head, c.of.result)) c.in_ok-bytes.ensures.read
    (ap log_judged (sym c.deref.ensures.value) ∙ c.in_ok-head.ensures.judged ∙ ap (λ writes. Ok (c.in_ok-head.head, writes)) (sym c.of.ensures.same))

pub returns-clause-found : goal.returns-clause-found
returns-clause-found g c =
    of_open_content (g.F.Frozen.content c.args.file.now) c.in_ok-bytes.bytes.items (λ bytes. is_open_file bytes ≡ true) (λ bytes. Means bytes c.in_ok-head.head c.of.result) c.in_ok-bytes.ensures.read c.requires.open
    (λ opened. subst (λ writes. Means c.in_ok-bytes.bytes.items c.in_ok-head.head writes) (sym c.of.ensures.same)
    (subst (λ bytes. Means bytes c.in_ok-head.head c.in_ok-head.writes.items) c.deref.ensures.value (c.in_ok-head.ensures.found (subst (λ bytes. is_open_file bytes ≡ true) (sym c.deref.ensures.value) opened))))

pub returns-clause-whole : goal.returns-clause-whole
returns-clause-whole g c =
    answers_whole (Ok (record { head = c.in_ok-head.head; writes = c.of.result })) (g.F.Frozen.content c.args.file.now) (returns-clause-judged g c)
