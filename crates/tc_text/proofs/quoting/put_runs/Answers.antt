use Rattle.std.proofs.Common.{◌≡◌, ◌<◌, ◌+◌, ◌++◌, length, get_or, take, drop, ap, ◌∙◌, arith}
use Rattle.std.proofs.lemmas.List.{take_rest}
use Rattle.json.specs.Print.{escape_byte, escape}
use Rattle.tc_text.proofs.Runs.{run_put}
use Rattle.tc_text.proofs.quoting.put_runs.Goals as goal

pub loop-left-preserved : goal.loop-left-preserved
loop-left-preserved c =
    let out = c.loop-left.out.items in
    let left = c.loop-left.left.now in
    let run = c.plain_run-run.result in
    let inside : run < length left = omega (arith, c.plain_run-run.ensures.within, c.if-run-left.false) in
    let done : c.put_escape.new.out.items ≡ (out ++ take run left) ++ escape_byte (get_or left run 0) = c.in_ok-put_escape.ensures ∙ ap (λ bs. bs ++ escape_byte (get_or left run 0)) c.in_ok-extend_from_slice.ensures.items in
    ap (λ rest. c.put_escape.new.out.items ++ escape rest) (take_rest left (run + 1)) ∙ ap (λ bs. bs ++ escape (drop (run + 1) left)) done
    ∙ run_put out _ left run inside c.plain_run-run.ensures.plain c.loop-left.invariant
