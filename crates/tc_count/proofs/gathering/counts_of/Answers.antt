use Rattle.std.proofs.Common.{ℕ, [], if◌then◌else◌, ap, ◌∙◌, arith}
use Rattle.tc_model.specs.Kinds.{is_kind}
use Rattle.tc_schema_model.specs.Counted.{counter, total}
use Rattle.tc_schema_model.specs.Occurrences.{items_occurrences}
use Rattle.tc_schema_model.proofs.CounterLaws.{counter-raised, total-raised}
use Rattle.tc_value.specs.Kinds.{kind_meant}
use Rattle.tc_value.specs.ShapeMeaning.{shape_tree}
use Rattle.tc_value.proofs.ShapeWalks.{items_from}
use Rattle.tc_count.proofs.GatheredValues.{occurs_here}
use Rattle.tc_count.proofs.gathering.counts_of.Goals as goal

pub loop-value-preserved : goal.loop-value-preserved
loop-value-preserved c =
    let l = c.loop-value in
    let x = c.value-item.result in
    let k = kind_meant c.kind_of.result in
    let here = items_from c.args.values.now l.value-index x c.loop-value-test.true c.value-item.is in
    record {
      counted = λ t.
          omega (
            arith,
            ap (λ counts. counter counts t) c.raise.ensures ∙ counter-raised k 1 l.counts t,
            ap {B = ℕ} (λ k. if is_kind k t then 1 else 0) c.kind_of.ensures,
            occurs_here (shape_tree x) t,
            ap (λ xs. items_occurrences xs [] t) here,
            l.invariant.counted t,
          );
      total = omega (arith, ap total c.raise.ensures ∙ total-raised k 1 l.counts, l.invariant.total);
    }
