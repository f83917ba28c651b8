use Rattle.std.proofs.Common.{◌∙◌, ◌+◌, ◌-◌, ◌<◌, ◌++◌, List, [], ◌∷◌, append_assoc, sym, ap, arith}
use Rattle.tc_store.specs.declared.file_name.FileName.{FileName}
use Rattle.tc_store.specs.declared.file_name.FileName.TheVariants.{Log}
use Rattle.tc_open.specs.FlushedLogs.{log_names}
use Rattle.tc_open.proofs.LogNames.{next_log}
use Rattle.tc_open.proofs.log_inputs.with_logs.Goals as goal

pub loop-generation-preserved : goal.loop-generation-preserved
loop-generation-preserved c =
    let at = c.loop-generation in
    let end = c.args.head.to + 1 in
    let before : at.generation < end = omega (arith, c.loop-generation-test.true) in
    let rest = log_names (at.generation + 1) (end - (at.generation + 1)) in
    ap (λ (ns : List FileName). ns ++ rest) c.in_ok-push.ensures.items ∙ append_assoc at.names.items (Log at.generation ∷ []) rest ∙ ap (λ (ns : List FileName). at.names.items ++ ns) (sym (next_log at.generation end before)) ∙ at.invariant
