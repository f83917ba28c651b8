-- The kinds of values that the code's kinds are.
use Rattle.tc_model.specs.Document.{null_kind, boolean_kind, integer_kind, text_kind}
use Rattle.tc_model.specs.Kinds as model
use Rattle.tc_value.specs.declared.names.Kind.{Kind}
use Rattle.tc_value.specs.declared.names.Kind.TheVariants.{Null, Bool, Int, Text, Array, Object}

abbrev pub kind_meant : Kind → model.Kind
kind_meant Null = model.scalar null_kind
kind_meant Bool = model.scalar boolean_kind
kind_meant Int = model.scalar integer_kind
kind_meant Text = model.scalar text_kind
kind_meant Array = model.arrays
kind_meant Object = model.objects
