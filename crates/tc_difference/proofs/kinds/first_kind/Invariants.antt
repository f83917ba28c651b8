use Rattle.std.proofs.Common.{◌≡◌, ◌≤◌, [], ◌∷◌}
use Rattle.tc_model.specs.Kinds.{Kind, tag}
use Rattle.tc_schema_model.specs.Counted.{counter}
use Rattle.tc_value.specs.declared.names.Kind.TheVariants.{Null, Bool, Int, Text, Array, Object}
use Rattle.tc_difference.proofs.kinds.first_kind.Given as goal

-- of the kinds so far there are as many
abbrev pub invariant-loop-kind : goal.invariant-loop-kind
invariant-loop-kind l = record {
  all : l.kind-items ≡ Null ∷ Bool ∷ Int ∷ Text ∷ Array ∷ Object ∷ [];
  alike : (t : Kind) → tag t ≤ l.kind-index → counter l.kept t ≡ counter l.counted t;
}
