-- Documents have no floats, so that their compact text is known.
use Rattle.std.proofs.Common.{◌≡◌, ℤ, pos, negsuc, Bool, false, ◌||◌, refl}
use Rattle.serde_json.specs.Find.{is_float, of_integer}
use Rattle.serde_json.specs.Written.{has_float, items_have_float, members_have_float}
use Rattle.tc_model.specs.Tree.{leaf, array, object, Items, no_items, item, Members, no_members, member}
use Rattle.tc_model.specs.Document.{Name, Document, Scalar, null, boolean, integer, text}
use Rattle.tc_model.specs.Json.{data_of, scalar_data, items_data, members_data}

-- neither of two is a float
neither : (a b : Bool) → a ≡ false → b ≡ false → (a || b) ≡ false
neither a b h k = rw (h, k)

integers_are_no_floats : (z : ℤ) → is_float (of_integer z) ≡ false
integers_are_no_floats (pos n) = refl
integers_are_no_floats (negsuc n) = refl

scalars_have_no_floats : (s : Scalar) → has_float (scalar_data s) ≡ false
scalars_have_no_floats null = refl
scalars_have_no_floats (boolean b) = refl
scalars_have_no_floats (integer z) = integers_are_no_floats z
scalars_have_no_floats (text s) = refl

mutual
  pub documents_have_no_floats : (d : Document) → has_float (data_of d) ≡ false
  documents_have_no_floats (leaf s) = scalars_have_no_floats s
  documents_have_no_floats (array xs) = items_have_no_floats xs
  documents_have_no_floats (object ms) = members_have_no_floats ms

  pub items_have_no_floats : (xs : Items Name Scalar) → items_have_float (items_data xs) ≡ false
  items_have_no_floats no_items = refl
  items_have_no_floats (item d ds) = neither _ _ (documents_have_no_floats d) (items_have_no_floats ds)

  pub members_have_no_floats : (ms : Members Name Scalar) → members_have_float (members_data ms) ≡ false
  members_have_no_floats no_members = refl
  members_have_no_floats (member n d ms) = neither _ _ (documents_have_no_floats d) (members_have_no_floats ms)
