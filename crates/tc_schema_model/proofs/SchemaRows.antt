-- The definitions of the schema, computed on documents: the counters that they leave, the bytes and the text.
use Rattle.std.specs.Prelude.{◌≡◌, ℕ, List, [], ◌∷◌, codes, pos, refl}
use Rattle.std.specs.Fmt.{digits}
use Rattle.serde_json.specs.Written.{compact_text}
use Rattle.serde_json.proofs.OnLiterals.{serde_json_on_literals}
use Rattle.tc_model.specs.Tree.{leaf, array, object, no_items, item, no_members, member}
use Rattle.tc_model.specs.Document as doc
use Rattle.tc_model.specs.Document.{Name, Document, document_shape}
use Rattle.tc_schema_model.specs.Counted.{Counted, nothing}
use Rattle.tc_schema_model.specs.SchemaTree.{schema_tree}
use Rattle.tc_schema_model.specs.SchemaBytes.{schema_bytes}
use Rattle.tc_schema_model.specs.SchemaText.{tree_text, schema_text}
use Rattle.tc_schema_model.specs.Added.{added, removed}

-- what a list of documents leaves, the last counted first
abbrev counted_all : List Name → List Document → Counted
counted_all names [] = nothing
counted_all names (d ∷ docs) = added names (document_shape d) (counted_all names docs)

abbrev integer : ℕ → Document
integer n = leaf (doc.integer (pos n))

abbrev string : List ℕ → Document
string s = leaf (doc.text s)

-- `{"a":1}` and `{"a":"x"}`
abbrev one : Document
one = object (member (codes "a") (integer 1) no_members)

abbrev other : Document
other = object (member (codes "a") (string (codes "x")) no_members)

abbrev names : List Name
names = codes "a" ∷ []

pub bytes_of_a_union :
    schema_bytes (schema_tree (counted_all names (one ∷ other ∷ []))) ≡ 6 ∷ 0 ∷ 0 ∷ 0 ∷ 0 ∷ 0 ∷ 0 ∷ 0 ∷ 2 ∷ 0 ∷ 0 ∷ 0 ∷ 1 ∷ 0 ∷ 0 ∷ 0 ∷ 0 ∷ 8 ∷ 0 ∷ 0 ∷ 0 ∷ 0 ∷ 0 ∷ 0 ∷ 0 ∷ 2 ∷ 2 ∷ 3 ∷ 0 ∷ 0 ∷ 0 ∷ 0 ∷ 0 ∷ 0 ∷ 0 ∷ 1 ∷ 4 ∷ 0 ∷ 0 ∷ 0 ∷ 0 ∷ 0 ∷ 0 ∷ 0 ∷ 1 ∷ []
bytes_of_a_union = refl

pub bytes_of_no_document :
    schema_bytes (schema_tree (counted_all [] [])) ≡ 0 ∷ []
bytes_of_no_document = refl

pub the_union_collapses :
    removed names (document_shape other) (counted_all names (one ∷ other ∷ [])) ≡ counted_all names (one ∷ [])
the_union_collapses = refl

pub nothing_is_left :
    removed names (document_shape one) (counted_all names (one ∷ [])) ≡ nothing
nothing_is_left = refl

-- `{"v":[1,"x",[],{"b":null}]}`
abbrev mixed : Document
mixed =
    object (member (codes "v") (array (item (integer 1) (item (string (codes "x")) (item (array no_items) (item (object (member (codes "b") (leaf doc.null) no_members)) no_items))))) no_members)

abbrev two_names : List Name
two_names = codes "v" ∷ codes "b" ∷ []

pub text_of_no_document :
    compact_text (schema_text []) ≡ codes "null"
unfolding serde_json_on_literals digits
text_of_no_document = refl

pub text_of_an_empty_object :
    compact_text (schema_text (object no_members ∷ [])) ≡ codes "{\"count\":1,\"fields\":{},\"kind\":\"object\"}"
unfolding serde_json_on_literals digits
text_of_an_empty_object = refl

pub text_of_a_union :
    compact_text (schema_text (one ∷ other ∷ [])) ≡ codes "{\"count\":2,\"fields\":{\"a\":{\"count\":2,\"kind\":\"union\",\"kinds\":[{\"count\":1,\"kind\":\"integer\"},{\"count\":1,\"kind\":\"text\"}]}},\"kind\":\"object\"}"
unfolding serde_json_on_literals digits
text_of_a_union = refl

pub text_of_nested_values :
    compact_text (schema_text (mixed ∷ [])) ≡ codes "{\"count\":1,\"fields\":{\"v\":{\"count\":1,\"items\":{\"count\":4,\"kind\":\"union\",\"kinds\":[{\"count\":1,\"kind\":\"integer\"},{\"count\":1,\"kind\":\"text\"},{\"count\":1,\"items\":null,\"kind\":\"array\"},{\"count\":1,\"fields\":{\"b\":{\"count\":1,\"kind\":\"null\"}},\"kind\":\"object\"}]},\"kind\":\"array\"}},\"kind\":\"object\"}"
unfolding serde_json_on_literals digits
text_of_nested_values = refl

pub the_tree_has_the_text_of_its_documents :
    tree_text two_names (schema_tree (counted_all two_names (mixed ∷ []))) ≡ schema_text (mixed ∷ [])
the_tree_has_the_text_of_its_documents = refl

-- two documents with the members `a` and `b`, whose names got their numbers in either order
abbrev with_a : Document
with_a = object (member (codes "a") (integer 1) no_members)

abbrev with_b : Document
with_b = object (member (codes "b") (integer 1) no_members)

pub numbers_do_not_show :
    tree_text (codes "b" ∷ codes "a" ∷ []) (schema_tree (counted_all (codes "b" ∷ codes "a" ∷ []) (with_a ∷ with_b ∷ []))) ≡ tree_text (codes "a" ∷ codes "b" ∷ []) (schema_tree (counted_all (codes "a" ∷ codes "b" ∷ []) (with_b ∷ with_a ∷ [])))
numbers_do_not_show = refl
