-- What a list of documents holds has fewer values than the list.
use Rattle.std.specs.Prelude.{◌≤◌, List, [], ◌∷◌, map}
use Rattle.std.proofs.Common.{arith}
use denote.Param.Weighed.{most}
use Rattle.tc_model.specs.TreeSize.{tree_size, trees_size, labelled_size}
use Rattle.tc_value.specs.Meaning.{tree_of, member_of}
use Rattle.tc_value.specs.declared.document.Doc.{Doc}
use Rattle.tc_value.specs.declared.document.Doc.TheVariants.{Null, Bool, Int, Text, Array, Object}
use Rattle.tc_value.specs.declared.document.Member.{Member}
use Rattle.tc_value.specs.declared.document.Items.TheDeep.{deep-Doc, deep-Member}

pub doc_falls : (d : Doc) → deep-Doc d ≤ tree_size (tree_of d)
doc_falls Null = omega arith
doc_falls (Bool b) = omega arith
doc_falls (Int z) = omega arith
doc_falls (Text s) = omega arith
doc_falls (Array xs) = omega arith
doc_falls (Object ms) = omega arith

pub items_fall : (ds : List Doc) → most deep-Doc ds ≤ trees_size (map tree_of ds)
items_fall [] = omega arith
items_fall (d ∷ ds) = omega (arith, doc_falls d, items_fall ds)

pub members_fall : (ms : List Member) → most deep-Member ms ≤ labelled_size (map member_of ms)
members_fall [] = omega arith
members_fall (m ∷ ms) = omega (arith, doc_falls m.value, members_fall ms)
