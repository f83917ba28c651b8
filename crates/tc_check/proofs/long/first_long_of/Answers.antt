use Rattle.std.proofs.Common.{List, [], ◌∷◌, subst, sym}
use Rattle.tc_log.specs.declared.write.Write.{Write}
use Rattle.tc_check.specs.Long.{IsFirstLong}
use Rattle.tc_check.proofs.LongRecords.{AreLeft, fewer_left, first_of_all}
use Rattle.tc_check.proofs.long.first_long_of.Goals as goal

pub returns-in-Some-long_of-clause-first : goal.returns-in-Some-long_of-clause-first
returns-in-Some-long_of-clause-first c =
    let size = c.in-Some-long_of.size in
    c.loop-write.invariant.first size (subst (λ (ws : List Write). IsFirstLong ws size) (sym c.in-Some.ensures.cases.0) (first_of_all c.in-Some.write.now c.in-Some.behind.now size c.in-Some-long_of.ensures.long))

pub loop-write-preserved : goal.loop-write-preserved
loop-write-preserved c =
    fewer_left c.args.writes.now (c.in-Some.write.now ∷ []) c.in-Some.behind.now (c.in_default-long_of.ensures.none, tt) (subst (λ (ws : List Write). AreLeft c.args.writes.now ws) c.in-Some.ensures.cases.0 c.loop-write.invariant)
