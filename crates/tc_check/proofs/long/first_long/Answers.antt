use Rattle.std.proofs.Common.{List, subst, sym}
use Rattle.std.specs.List.{AllByRecursion}
use Rattle.tc_log.specs.declared.write.Write.{Write}
use Rattle.tc_lawful.specs.Logs.{IsShort}
use Rattle.tc_check.specs.Counting.{writes_in}
use Rattle.tc_check.specs.Long.{IsFirstLong}
use Rattle.tc_check.proofs.LongRecords.{AreLeft, fewer_left, first_in_front}
use Rattle.tc_check.proofs.long.first_long.Goals as goal

pub returns-in-Some-first_long_of-clause-first : goal.returns-in-Some-first_long_of-clause-first
returns-in-Some-first_long_of-clause-first c =
    let size = c.in-Some-first_long_of.size in
    let log = c.in-Some.log.now in
    let behind = c.in-Some.behind.now in
    let first : IsFirstLong log size = subst (λ (ws : List Write). IsFirstLong ws size) c.as_slice.ensures.same c.in-Some-first_long_of.ensures.first in
    c.loop-log.invariant.first size (subst (λ (logs : List (List Write)). IsFirstLong (writes_in logs) size) (sym c.in-Some.ensures.cases.0) (first_in_front log (writes_in behind) size first))

pub loop-log-preserved : goal.loop-log-preserved
loop-log-preserved c =
    let log = c.in-Some.log.now in
    let short : AllByRecursion IsShort log = subst (AllByRecursion IsShort) c.as_slice.ensures.same c.in_default-first_long_of.ensures.none in
    fewer_left (writes_in c.args.logs.now) log (writes_in c.in-Some.behind.now) short (subst (λ (logs : List (List Write)). AreLeft (writes_in c.args.logs.now) (writes_in logs)) c.in-Some.ensures.cases.0 c.loop-log.invariant)
