use Rattle.std.proofs.Common.{map, sym, ap, ◌∙◌}
use Rattle.tc_model.specs.Tree.{items_of}
use Rattle.tc_schema_model.specs.Counted.{shows}
use Rattle.tc_schema_model.specs.Occurrences.{items_occurrences}
use Rattle.tc_schema_model.proofs.CountingLaws.{shows_nothing}
use Rattle.tc_value.specs.ShapeMeaning.{shape_tree}
use Rattle.tc_count.proofs.Walks.{none_there}
use Rattle.tc_count.proofs.counting.root_of.Goals as goal

pub returns-then-is_empty-clause-shown : goal.returns-then-is_empty-clause-shown
returns-then-is_empty-clause-shown c = λ path t.
    ap (λ d. shows c.args.names.now d path t) c.new.ensures ∙ shows_nothing c.args.names.now path t
    ∙ ap (λ values. items_occurrences (items_of (map shape_tree values)) path t) (sym (none_there c.args.values.now c.is_empty.result c.is_empty.ensures c.if-is_empty.true))
