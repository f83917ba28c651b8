use Rattle.std.proofs.Common.{List, [], ◌∷◌, subst}
use Rattle.std.proofs.lemmas.List.{nil_from_length}
use Rattle.tc_log.specs.declared.write.Write.{Write}
use Rattle.tc_check.proofs.DocumentCounts.{EndsAs, counts_none, ends_further}
use Rattle.tc_check.proofs.counting.count_log.Goals as goal

pub loop-write-init : goal.loop-write-init
loop-write-init g c = λ end counts. counts

pub loop-write-preserved : goal.loop-write-preserved
loop-write-preserved g c =
    let at = c.loop-write in
    let left = subst (λ (ws : List Write). EndsAs c.args.list.now c.args.writes.now ws c.args.counting.now at.counting) c.in-Some.ensures.cases.0 at.invariant in
    ends_further c.args.list.now c.args.writes.now (c.in-Some.write.now ∷ []) c.in-Some.behind.now c.args.counting.now at.counting c.count_write.new.counting c.in_ok-count_write.ensures left

pub returns : goal.returns
returns g c =
    let at = c.loop-write in
    let nothing = nil_from_length at.rest.now c.in_default.ensures.cases in
    subst (λ (ws : List Write). EndsAs c.args.list.now c.args.writes.now ws c.args.counting.now at.counting) nothing at.invariant at.counting (counts_none c.args.list.now at.counting)
