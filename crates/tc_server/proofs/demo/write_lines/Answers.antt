use Rattle.std.proofs.Common.{◌<◌, ◌∙◌, length, take, subst}
use Rattle.std.specs.Io.KnownBytes.{Appends}
use Rattle.std.proofs.KnownBytes.{Keeps-refl}
use Rattle.std.proofs.lemmas.Result.{err_from_is_err_and}
use Rattle.tc_server.proofs.demo.write_lines.Goals as goal

pub returns-in_err-lines-clause-fault : goal.returns-in_err-lines-clause-fault
returns-in_err-lines-clause-fault g c =
    let p = err_from_is_err_and c.from_residual.result c.from_residual.ensures.1 in
    rw (p.1, p.2) (Keeps-refl (g.O.Sink.taken c.args.sink.now))

pub returns-in_err-write_all-clause-fault : goal.returns-in_err-write_all-clause-fault
returns-in_err-write_all-clause-fault g c =
    let p = err_from_is_err_and c.from_residual-in_err-write_all.result c.from_residual-in_err-write_all.ensures.1 in
    let n = c.in_err-write_all.field-0.0.taken in
    let bytes = c.as_slice.ensures.same ∙ c.in_ok-lines.ensures in
    rw (p.1, p.2) (subst (λ lines. n < length lines) bytes c.in_err-write_all.ensures.within, subst (λ lines. Appends (g.O.Sink.taken c.args.sink.now) (g.O.Sink.taken c.write_all.new.sink) (take n lines)) bytes c.in_err-write_all.ensures.err)

pub returns-clause-ok : goal.returns-clause-ok
returns-clause-ok g c = subst (Appends (g.O.Sink.taken c.args.sink.now) (g.O.Sink.taken c.write_all.new.sink)) (c.as_slice.ensures.same ∙ c.in_ok-lines.ensures) c.in_ok-write_all.ensures.ok
