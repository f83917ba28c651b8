use Rattle.std.proofs.Common.{rules, ◌≡◌, ◌∙◌, [], ◌∷◌, List, ap, length, sym, subst, arith}
use Rattle.std.specs.Prelude.{All}
use Rattle.std.specs.List.{AllByRecursion}
use Rattle.std.specs.Vec.Iter.{into_iter_items}
use Rattle.std.proofs.lemmas.List.{nil_from_length}
use Rattle.std.proofs.lemmas.List.Elements.{All-head, All-tail}
use Rattle.tc_log.specs.declared.write.Write.{Write}
use Rattle.tc_log.specs.Writes.{IsWrite}
use Rattle.tc_machine.specs.Logs.{all_writes}
use Rattle.tc_check.specs.Counting.{writes_in}
use Rattle.tc_check.proofs.DocumentCounts.{writes_kept}
use Rattle.tc_check.proofs.NamedLogs.{MakesAs, makes_further, nothing_kept, puts_none}
use Rattle.tc_check.proofs.naming.table_of.Goals as goal

pub loop-log-init : goal.loop-log-init
loop-log-init c =
    let gives = c.into_iter-log-iterator.ensures.into_iter_gives.0 in
    record {
      many = search rules;
      lawful = subst (All (AllByRecursion IsWrite)) (sym gives) c.requires;
      left = λ end puts. subst (λ (logs : List (List Write)). MakesAs (writes_in c.args.logs.items) (writes_in logs) [] []) (sym gives) (λ last all. all) end (rw (sym c.new-table.ensures.empty) puts);
    }

pub put_log-requires : goal.put_log-requires
put_log-requires c = All-head (AllByRecursion IsWrite) c.in-Some.log (into_iter_items c.next.new.self) (subst (All (AllByRecursion IsWrite)) c.in-Some.ensures.steps.0 c.loop-log.invariant.lawful)

pub loop-log-preserved : goal.loop-log-preserved
loop-log-preserved c =
    let at = c.loop-log in
    let x = c.in-Some.log in
    let rest = into_iter_items c.next.new.self in
    let steps : into_iter_items at.log-iterator ≡ x ∷ rest = c.in-Some.ensures.steps.0 in
    let short = ap length steps in
    let all = writes_in c.args.logs.items in
    record {
      many = omega (arith, at.invariant.many, c.in-Some.ensures.steps.1, short);
      lawful = All-tail (AllByRecursion IsWrite) x rest (subst (All (AllByRecursion IsWrite)) steps at.invariant.lawful);
      left = makes_further all x (writes_in rest) [] at.table c.put_log.new.table c.in_ok-put_log.ensures (subst (λ (logs : List (List Write)). MakesAs all (writes_in logs) [] at.table) steps at.invariant.left);
    }

pub returns : goal.returns
returns c = λ kept same storable.
    let at = c.loop-log in
    let nothing : into_iter_items at.log-iterator ≡ [] = nil_from_length (into_iter_items at.log-iterator) (sym at.invariant.many ∙ c.in-None.ensures.steps.0) in
    let puts = subst (λ (logs : List (List Write)). MakesAs (writes_in c.args.logs.items) (writes_in logs) [] at.table) nothing at.invariant.left at.table (puts_none at.table) in
    puts [] (all_writes kept) (ap writes_in same ∙ writes_kept kept) storable nothing_kept
