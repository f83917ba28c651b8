-- What occurs in documents together, as in the items of one array of their shapes.
use Rattle.std.proofs.Common.{◌≡◌, ◌+◌, ◌≤◌, List, [], ◌∷◌, map, refl, ap, arith}
use Rattle.tc_model.specs.Tree.{array, items_of}
use Rattle.tc_model.specs.Document.{Document, null_kind, boolean_kind, integer_kind, text_kind, document_shape}
use Rattle.tc_model.specs.Kinds.{Kind, scalar, arrays, objects}
use Rattle.tc_model.specs.TreeSize.{tree_size}
use Rattle.tc_schema_model.specs.Occurrences.{each_item, Path, occurrences, items_occurrences, count}
use Rattle.tc_schema_model.specs.Values.{values_in}
use Rattle.tc_schema_model.proofs.ValueBounds.{values_at-size}

pub occur_in_shapes : (docs : List Document) (path : Path) (t : Kind) → items_occurrences (items_of (map document_shape docs)) path t ≡ count docs path t
occur_in_shapes [] path t = refl
occur_in_shapes (d ∷ docs) path t = ap (λ n. occurrences (document_shape d) path t + n) (occur_in_shapes docs path t)

-- no more of them at a path than there are values in all
pub values_in-size : (docs : List Document) (path : Path) → values_in docs path ≤ tree_size (array (items_of (map document_shape docs)))
values_in-size docs path =
    let here : (t : Kind) → items_occurrences (items_of (map document_shape docs)) path t ≡ count docs path t = λ t. occur_in_shapes docs path t in
    omega (
      arith,
      values_at-size (array (items_of (map document_shape docs))) (each_item ∷ path),
      here (scalar null_kind),
      here (scalar boolean_kind),
      here (scalar integer_kind),
      here (scalar text_kind),
      here arrays,
      here objects,
    )
