use Rattle.std.proofs.Common.{◌≡◌, map, take}
use Rattle.tc_model.specs.Document.{document_shape}
use Rattle.tc_value.specs.Meaning.{tree_of}
use Rattle.tc_value.specs.ShapeMeaning.{shape_tree}
use Rattle.tc_count.proofs.inferring.shapes_of.Given as goal

abbrev pub invariant-loop-doc : goal.invariant-loop-doc
invariant-loop-doc l = map shape_tree l.shapes.items ≡ map document_shape (map tree_of (take l.doc-index l.docs))
