-- How many values stand at a path, whatever their kinds.
use Rattle.std.specs.Prelude.{ℕ, ◌+◌, List}
use Rattle.tc_model.specs.Document.{Document, ShapeTree, null_kind, boolean_kind, integer_kind, text_kind}
use Rattle.tc_schema_model.specs.Occurrences.{Path, occurrences, count}
use Rattle.tc_model.specs.Kinds.{Kind, scalar, arrays, objects}

-- the sum over the six kinds
abbrev pub of_all_kinds : (Kind → ℕ) → ℕ
of_all_kinds f = f (scalar null_kind) + f (scalar boolean_kind) + f (scalar integer_kind) + f (scalar text_kind) + f arrays + f objects

-- in a shape, and in documents together
abbrev pub values_at : ShapeTree → Path → ℕ
values_at s path = of_all_kinds (occurrences s path)

abbrev pub values_in : List Document → Path → ℕ
values_in docs path = of_all_kinds (count docs path)
