-- The tree that a document is.
use Rattle.tc_model.specs.Tree.{leaf, array, object, items_of, members_of}
use Rattle.tc_model.specs.Document.{Name, Document, null, boolean, integer, text}
use Rattle.tc_value.specs.declared.document.Doc.{Doc}
use Rattle.tc_value.specs.declared.document.Doc.TheVariants.{Null, Bool, Int, Text, Array, Object}
use Rattle.tc_value.specs.declared.document.Member.{Member}

abbrev pub tree_of : Doc → Document
tree_of Null = leaf null
tree_of (Bool b) = leaf (boolean b)
tree_of (Int z) = leaf (integer z)
tree_of (Text s) = leaf (text s)
tree_of (Array xs) = array (items_of xs)
tree_of (Object ms) = object (members_of ms)

-- a member, by its name and its value
abbrev pub member_of : Member → Name × Document
member_of m = (m.name, tree_of m.value)
