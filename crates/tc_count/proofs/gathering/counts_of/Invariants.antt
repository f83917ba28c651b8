use Rattle.std.proofs.Common.{◌≡◌, ◌+◌, [], map, drop}
use Rattle.tc_model.specs.Kinds.{Kind}
use Rattle.tc_model.specs.Tree.{items_of}
use Rattle.tc_schema_model.specs.Counted.{counter, total}
use Rattle.tc_schema_model.specs.Occurrences.{items_occurrences}
use Rattle.tc_value.specs.ShapeMeaning.{shape_tree}
use Rattle.tc_count.proofs.gathering.counts_of.Given as goal

-- what is counted and what is left are all
abbrev pub invariant-loop-value : goal.invariant-loop-value
invariant-loop-value l = record {
  counted : (t : Kind) → counter l.counts t + items_occurrences (items_of (map shape_tree (drop l.value-index l.values))) [] t ≡ items_occurrences (items_of (map shape_tree l.values)) [] t;
  total : total l.counts ≡ l.value-index;
}
