-- A document nests as deep as the JSON value that means it.
use Rattle.std.proofs.Common.{◌≡◌, ℕ, ℤ, suc, max, Option, Some, None, option_map, option_and_then, refl, subst, arith}
use Rattle.std.specs.Option.{IfSome}
use Rattle.serde_json.specs.Data as json
use Rattle.serde_json.specs.Find.{as_i64}
use Rattle.tc_model.specs.Tree.{leaf, array, object, Items, item, Members, member, depth, items_depth, members_depth}
use Rattle.tc_model.specs.Document.{Name, Document, Scalar, integer}
use Rattle.tc_model.specs.Json.{document_of, items_meant, members_meant}

number_depth : (z : Option ℤ) → IfSome (option_map (λ x. leaf (integer x)) z) (λ (d : Document). depth d ≡ 0)
number_depth None = tt
number_depth (Some z) = refl

array_depth : (xs : Option (Items Name Scalar)) (n : ℕ) → IfSome xs (λ ys. items_depth ys ≡ n) → IfSome (option_map array xs) (λ d. depth d ≡ suc n)
array_depth None n h = tt
array_depth (Some xs) n h = omega (arith, h)

object_depth : (ms : Option (Members Name Scalar)) (n : ℕ) → IfSome ms (λ ns. members_depth ns ≡ n) → IfSome (option_map object ms) (λ d. depth d ≡ suc n)
object_depth None n h = tt
object_depth (Some ms) n h = omega (arith, h)

item_depth : (d : Option Document) (xs : Option (Items Name Scalar)) (m n : ℕ) → IfSome d (λ e. depth e ≡ m) → IfSome xs (λ ys. items_depth ys ≡ n) → IfSome (option_and_then (λ e. option_map (item e) xs) d) (λ ys. items_depth ys ≡ max m n)
item_depth None xs m n h k = tt
item_depth (Some d) None m n h k = tt
item_depth (Some d) (Some xs) m n h k = omega (arith, h, k)

member_depth : (name : Name) (d : Option Document) (ms : Option (Members Name Scalar)) (m n : ℕ) → IfSome d (λ e. depth e ≡ m) → IfSome ms (λ ns. members_depth ns ≡ n) → IfSome (option_and_then (λ e. option_map (member name e) ms) d) (λ ns. members_depth ns ≡ max m n)
member_depth name None ms m n h k = tt
member_depth name (Some d) None m n h k = tt
member_depth name (Some d) (Some ms) m n h k = omega (arith, h, k)

mutual
  depth_meant : (d : json.Data) → IfSome (document_of d) (λ e. depth e ≡ json.depth d)
  depth_meant json.null = refl
  depth_meant (json.boolean b) = refl
  depth_meant (json.number n) = number_depth (as_i64 n)
  depth_meant (json.string s) = refl
  depth_meant (json.array ds) = array_depth (items_meant ds) (json.items_depth ds) (items_depth_meant ds)
  depth_meant (json.object ms) = object_depth (members_meant ms) (json.members_depth ms) (members_depth_meant ms)

  items_depth_meant : (ds : json.Items) → IfSome (items_meant ds) (λ xs. items_depth xs ≡ json.items_depth ds)
  items_depth_meant json.no_items = refl
  items_depth_meant (json.item d ds) =
      item_depth (document_of d) (items_meant ds) (json.depth d) (json.items_depth ds) (depth_meant d) (items_depth_meant ds)

  members_depth_meant : (ms : json.Members) → IfSome (members_meant ms) (λ ns. members_depth ns ≡ json.members_depth ms)
  members_depth_meant json.no_members = refl
  members_depth_meant (json.member name d ms) =
      member_depth name (document_of d) (members_meant ms) (json.depth d) (json.members_depth ms) (depth_meant d) (members_depth_meant ms)

pub depth_is_nesting : (v : json.Data) (d : Document) → document_of v ≡ Some d → depth d ≡ json.depth v
depth_is_nesting v d h = subst (λ o. IfSome o (λ e. depth e ≡ json.depth v)) h (depth_meant v)
