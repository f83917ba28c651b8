-- What shapes and documents count at the empty path.
use Rattle.std.proofs.Common.{◌≡◌, List, [], ◌∷◌, length, refl, arith}
use Rattle.std.specs.Prelude.{All}
use Rattle.std.proofs.lemmas.List.Elements.{All-head, All-tail}
use Rattle.tc_model.specs.Document.{Document, ShapeTree, null_kind, boolean_kind, integer_kind, text_kind, document_shape}
use Rattle.tc_model.specs.Kinds.{kind_of, objects}
use Rattle.tc_model.specs.Tree.{leaf, array, object}
use Rattle.tc_schema_model.specs.Occurrences.{occurrences}
use Rattle.tc_schema_model.specs.Values.{values_at, values_in}
use Rattle.tc_lsm_model.specs.Tables.{occurring}
use Rattle.tc_flush.specs.Flushable.{values_of}

-- each shape is one value
one_value : (s : ShapeTree) → values_at s [] ≡ 1
one_value (leaf null_kind) = refl
one_value (leaf boolean_kind) = refl
one_value (leaf integer_kind) = refl
one_value (leaf text_kind) = refl
one_value (array xs) = refl
one_value (object ms) = refl

pub values_of-root : (shapes : List ShapeTree) → values_of shapes [] ≡ length shapes
values_of-root [] = refl
values_of-root (s ∷ shapes) = omega (arith, one_value s, values_of-root shapes)

pub values_in-root : (docs : List Document) → values_in docs [] ≡ length docs
values_in-root [] = refl
values_in-root (d ∷ docs) = omega (arith, one_value (document_shape d), values_in-root docs)

-- ---- where all are objects

abbrev pub IsObjectShape : ShapeTree → Type 0
IsObjectShape s = kind_of s ≡ objects

object_value : (s : ShapeTree) → IsObjectShape s → occurrences s [] objects ≡ 1
object_value (leaf k) is = absurd (cc)
object_value (array xs) is = absurd (cc)
object_value (object ms) is = refl

pub objects-root : (shapes : List ShapeTree) → All IsObjectShape shapes → occurring shapes [] objects ≡ length shapes
objects-root [] all = refl
objects-root (s ∷ shapes) all = omega (arith, object_value s (All-head IsObjectShape s shapes all), objects-root shapes (All-tail IsObjectShape s shapes all))
