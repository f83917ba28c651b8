use Rattle.std.proofs.Common.{List, subst}
use Rattle.std.proofs.lemmas.List.{nil_from_length}
use Rattle.tc_log.specs.declared.write.Write.{Write}
use Rattle.tc_check.specs.Counting.{CountsOver, writes_in}
use Rattle.tc_check.proofs.DocumentCounts.{EndsAs, counts_none, ends_further}
use Rattle.tc_check.proofs.counting.count_logs.Goals as goal

pub loop-log-init : goal.loop-log-init
loop-log-init g c = λ end counts. counts

pub loop-log-preserved : goal.loop-log-preserved
loop-log-preserved g c =
    let at = c.loop-log in
    let log = c.in-Some.log.now in
    let all = writes_in c.args.logs.now in
    let left = subst (λ (logs : List (List Write)). EndsAs c.args.list.now all (writes_in logs) c.args.counting.now at.counting) c.in-Some.ensures.cases.0 at.invariant in
    let counts = subst (λ (ws : List Write). CountsOver c.args.list.now ws at.counting c.count_log.new.counting) c.as_slice.ensures.same c.in_ok-count_log.ensures in
    ends_further c.args.list.now all log (writes_in c.in-Some.behind.now) c.args.counting.now at.counting c.count_log.new.counting counts left

pub returns : goal.returns
returns g c =
    let at = c.loop-log in
    let nothing = nil_from_length at.rest.now c.in_default.ensures.cases in
    subst (λ (logs : List (List Write)). EndsAs c.args.list.now (writes_in c.args.logs.now) (writes_in logs) c.args.counting.now at.counting) nothing at.invariant at.counting (counts_none c.args.list.now at.counting)
