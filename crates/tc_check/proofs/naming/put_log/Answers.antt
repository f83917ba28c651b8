use Rattle.std.proofs.Common.{rules, ◌≡◌, ◌∙◌, [], ◌∷◌, List, ap, length, sym, subst, arith}
use Rattle.std.specs.List.{AllByRecursion}
use Rattle.std.specs.Vec.Iter.{into_iter_items}
use Rattle.std.proofs.lemmas.List.{nil_from_length}
use Rattle.tc_log.specs.declared.write.Write.{Write}
use Rattle.tc_log.specs.Writes.{IsWrite}
use Rattle.tc_check.proofs.NamedLogs.{MakesAs, makes_further, puts_none}
use Rattle.tc_check.proofs.naming.put_log.Goals as goal

pub loop-write-init : goal.loop-write-init
loop-write-init c =
    let gives = c.into_iter-write-iterator.ensures.into_iter_gives.0 ∙ c.into_inner-write-items.ensures.same in
    record {
      many = search rules;
      lawful = subst (AllByRecursion IsWrite) (sym gives) c.requires;
      left = subst (λ (ws : List Write). MakesAs c.args.log ws c.args.table.now c.args.table.now) (sym gives) (λ end puts. puts);
    }

pub put_write-requires : goal.put_write-requires
put_write-requires c = (subst (AllByRecursion IsWrite) c.in-Some.ensures.steps.0 c.loop-write.invariant.lawful).0

pub loop-write-preserved : goal.loop-write-preserved
loop-write-preserved c =
    let at = c.loop-write in
    let x = c.in-Some.write in
    let steps : into_iter_items at.write-iterator ≡ x ∷ into_iter_items c.next.new.self = c.in-Some.ensures.steps.0 in
    let short = ap length steps in
    record {
      many = omega (arith, at.invariant.many, c.in-Some.ensures.steps.1, short);
      lawful = (subst (AllByRecursion IsWrite) steps at.invariant.lawful).1;
      left = makes_further c.args.log (x ∷ []) (into_iter_items c.next.new.self) c.args.table.now at.table c.put_write.new.table c.in_ok-put_write.ensures
          (subst (λ (ws : List Write). MakesAs c.args.log ws c.args.table.now at.table) steps at.invariant.left);
    }

pub returns : goal.returns
returns c =
    let at = c.loop-write in
    let nothing : into_iter_items at.write-iterator ≡ [] = nil_from_length (into_iter_items at.write-iterator) (sym at.invariant.many ∙ c.in-None.ensures.steps.0) in
    subst (λ (ws : List Write). MakesAs c.args.log ws c.args.table.now at.table) nothing at.invariant.left at.table (puts_none at.table)
