-- What is read of the columns is a document, or a numbered tree.
use Rattle.std.proofs.Common.{◌≡◌, ℕ, true, false, List, [], ◌∷◌, Option, None, Some, map, refl, ap, subst}
use Rattle.std.specs.List.{AllByRecursion}
use Rattle.std.specs.List.Sorted.{IsStrictlySortedBy}
use Rattle.std.specs.Ordering.{is_lt}
use Rattle.std.specs.declared.cmp.Ordering.{Ordering}
use Rattle.std.specs.declared.cmp.Ordering.TheVariants.{Less, Equal, Greater}
use Rattle.std.proofs.lemmas.Bool.{both_ways}
use Rattle.std.proofs.lemmas.Cmp.{nat_list_cmp_total}
use Rattle.tc_model.specs.Tree.{Tree, leaf, array, object, Items, no_items, item, Members, no_members, member, items_relabel, members_relabel, listed_members}
use Rattle.tc_model.specs.Document.{Name, Document, Scalar, name_cmp, IsScalar, IsTreeOf, AreItemsOf, AreMembersOf}
use Rattle.tc_record.specs.Record.{NumberedTree, IsNumberedTree, AreNumberedItems, AreNumberedMembers}
use Rattle.tc_record.specs.Walk.{Key, name, number, in_object, Format, is_above}
use Rattle.tc_record.proofs.Walks.{IsKeyed, AreKeyedItems, AreKeyedMembers}
use Rattle.tc_record.proofs.Keyed.{keyed, numbered}
use Rattle.tc_record.proofs.Labels.{IsLabelled}
use Rattle.tc_record.proofs.Fitting.{Follows}

-- ---- names in place of labels

less : (o : Ordering) → is_lt o ≡ true → o ≡ Less
less Less e = refl
less Equal e = cc
less Greater e = cc

all_above : (m n : Name) (ns : List Name) → name_cmp m n ≡ Less → AllByRecursion (λ y. name_cmp n y ≡ Less) ns → AllByRecursion (λ y. name_cmp m y ≡ Less) ns
all_above m n [] below each = tt
all_above m n (x ∷ ns) below each = (nat_list_cmp_total.trans m n x below each.0, all_above m n ns below each.1)

pub follows_before : (last : Option Name) (n : Name) (ns : List Name) → is_above last n ≡ true → Follows (Some n) ns → Follows last (n ∷ ns)
unfolding IsStrictlySortedBy
follows_before None n ns above follows = follows
follows_before (Some m) n ns above follows = let below = less (name_cmp m n) above in ((below, all_above m n ns below follows.0), follows)

same_next : (next : Option Name) (n : Name) → in_object next ≡ in_object (Some n) → next ≡ Some n
same_next next n e = cc

-- no name
sorted_nil : Follows None []
unfolding IsStrictlySortedBy
sorted_nil = tt

pub follows_nil : (last : Option Name) → Follows last []
unfolding IsStrictlySortedBy
follows_nil None = tt
follows_nil (Some m) = (tt, tt)

record DocumentFound (t : Tree Key Scalar) : Type 0 where
  pub document : Document
  pub same : t ≡ keyed document
  pub lawful : IsTreeOf IsScalar document

record ItemsFound (xs : Items Key Scalar) : Type 0 where
  pub items : Items Name Scalar
  pub same : xs ≡ items_relabel name (λ s. s) items
  pub lawful : AreItemsOf IsScalar items

pub record MembersFound (last : Option Name) (ms : Members Key Scalar) : Type 0 where
  pub members : Members Name Scalar
  pub same : ms ≡ members_relabel name (λ s. s) members
  pub lawful : AreMembersOf IsScalar members
  pub follows : Follows last (map (λ m. m.0) (listed_members members))

named_member : (f : Format) (last : Option Name) (k : Key) (t : Tree Key Scalar) (ms : Members Key Scalar) (next : Option Name) → f.named ≡ true → IsLabelled f (in_object last) (Some k) (in_object next) → DocumentFound t → MembersFound next ms
    → MembersFound last (member k t ms)
named_member f last (name n) t ms next is labelled value further =
    let follows : Follows (Some n) (map (λ m. m.0) (listed_members further.members)) = subst (λ x. Follows x (map (λ (m : Name × Document). m.0) (listed_members further.members))) (same_next next n labelled.3) further.follows in
    record {
      members = member n value.document further.members;
      same = rw (value.same, further.same) refl;
      lawful = (labelled.1, value.lawful, further.lawful);
      follows = follows_before last n _ labelled.2 follows;
    }
named_member f last (number k) t ms next is labelled value further = absurd (both_ways f.named labelled.0 is)

mutual
  document_found : (t : Tree Key Scalar) (f : Format) → f.named ≡ true → IsKeyed f t → DocumentFound t
  document_found (leaf s) f is here = record { document = leaf s; same = refl; lawful = here }
  document_found (array xs) f is here = let held = items_found xs f is here in record { document = array held.items; same = ap array held.same; lawful = held.lawful }
  document_found (object ms) f is here = let held = members_found ms f None is here in record { document = object held.members; same = ap object held.same; lawful = (held.follows, held.lawful) }

  items_found : (xs : Items Key Scalar) (f : Format) → f.named ≡ true → AreKeyedItems f xs → ItemsFound xs
  items_found no_items f is here = record { items = no_items; same = refl; lawful = tt }
  items_found (item t ts) f is here =
      let one = document_found t f is here.0 in
      let more = items_found ts f is here.1 in
      record { items = item one.document more.items; same = rw (one.same, more.same) refl; lawful = (one.lawful, more.lawful) }

  pub members_found : (ms : Members Key Scalar) (f : Format) (last : Option Name) → f.named ≡ true → AreKeyedMembers f last ms → MembersFound last ms
  members_found no_members f last is here = record { members = no_members; same = refl; lawful = tt; follows = follows_nil last }
  members_found (member k t ms) f last is here = named_member f last k t ms here.0 is here.1.0 (document_found t f is here.1.1) (members_found ms f here.0 is here.1.2)

-- ---- numbers in place of labels

record NumberedFound (t : Tree Key Scalar) : Type 0 where
  pub tree : NumberedTree
  pub same : t ≡ numbered tree
  pub lawful : IsNumberedTree tree

record NumberedItemsFound (xs : Items Key Scalar) : Type 0 where
  pub items : Items ℕ Scalar
  pub same : xs ≡ items_relabel number (λ s. s) items
  pub lawful : AreNumberedItems items

pub record NumberedMembersFound (ms : Members Key Scalar) : Type 0 where
  pub members : Members ℕ Scalar
  pub same : ms ≡ members_relabel number (λ s. s) members
  pub lawful : AreNumberedMembers members

numbered_member : (f : Format) (last : Option Name) (k : Key) (t : Tree Key Scalar) (ms : Members Key Scalar) (next : Option Name) → f.named ≡ false → IsLabelled f (in_object last) (Some k) (in_object next) → NumberedFound t → NumberedMembersFound ms
    → NumberedMembersFound (member k t ms)
numbered_member f last (name n) t ms next is labelled value further = absurd (both_ways f.named is labelled.0)
numbered_member f last (number k) t ms next is labelled value further = record {
  members = member k value.tree further.members;
  same = rw (value.same, further.same) refl;
  lawful = (labelled.1, value.lawful, further.lawful);
}

mutual
  numbered_found : (t : Tree Key Scalar) (f : Format) → f.named ≡ false → IsKeyed f t → NumberedFound t
  numbered_found (leaf s) f is here = record { tree = leaf s; same = refl; lawful = here }
  numbered_found (array xs) f is here = let held = numbered_items_found xs f is here in record { tree = array held.items; same = ap array held.same; lawful = held.lawful }
  numbered_found (object ms) f is here = let held = numbered_members_found ms f None is here in record { tree = object held.members; same = ap object held.same; lawful = held.lawful }

  numbered_items_found : (xs : Items Key Scalar) (f : Format) → f.named ≡ false → AreKeyedItems f xs → NumberedItemsFound xs
  numbered_items_found no_items f is here = record { items = no_items; same = refl; lawful = tt }
  numbered_items_found (item t ts) f is here =
      let one = numbered_found t f is here.0 in
      let more = numbered_items_found ts f is here.1 in
      record { items = item one.tree more.items; same = rw (one.same, more.same) refl; lawful = (one.lawful, more.lawful) }

  pub numbered_members_found : (ms : Members Key Scalar) (f : Format) (last : Option Name) → f.named ≡ false → AreKeyedMembers f last ms → NumberedMembersFound ms
  numbered_members_found no_members f last is here = record { members = no_members; same = refl; lawful = tt }
  numbered_members_found (member k t ms) f last is here = numbered_member f last k t ms here.0 is here.1.0 (numbered_found t f is here.1.1) (numbered_members_found ms f here.0 is here.1.2)
