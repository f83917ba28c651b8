-- The trees of documents and numbered trees have labels that are read again.
use Rattle.std.proofs.Common.{◌≡◌, ℕ, true, false, List, ◌∷◌, Option, None, Some, map, refl, ap}
use Rattle.std.specs.List.Sorted.{IsStrictlySortedBy}
use Rattle.std.specs.Ordering.{is_lt}
use Rattle.tc_model.specs.Tree.{leaf, array, object, Items, no_items, item, Members, no_members, member, items_relabel, members_relabel, listed_members}
use Rattle.tc_model.specs.Document.{Name, Document, Scalar, name_cmp, IsScalar, IsTreeOf, AreItemsOf, AreMembersOf}
use Rattle.tc_record.specs.Record.{NumberedTree, IsNumberedTree, AreNumberedItems, AreNumberedMembers}
use Rattle.tc_record.specs.Walk.{name, number, Format, is_above}
use Rattle.tc_record.proofs.Walks.{IsKeyed, AreKeyedItems, AreKeyedMembers}
use Rattle.tc_record.proofs.Keyed.{keyed, numbered}

-- the name before the members, if there is one, is below theirs
abbrev pub Follows : Option Name → List Name → Type 0
Follows None ns = IsStrictlySortedBy name_cmp ns
Follows (Some m) ns = IsStrictlySortedBy name_cmp (m ∷ ns)

pub above_next : (last : Option Name) (n : Name) (ns : List Name) → Follows last (n ∷ ns) → is_above last n ≡ true
unfolding IsStrictlySortedBy
above_next None n ns follows = refl
above_next (Some m) n ns follows = ap is_lt follows.0.0

pub follows_next : (last : Option Name) (n : Name) (ns : List Name) → Follows last (n ∷ ns) → Follows (Some n) ns
unfolding IsStrictlySortedBy
follows_next None n ns follows = follows
follows_next (Some m) n ns follows = follows.1

mutual
  pub keyed_document : (d : Document) (f : Format) → f.named ≡ true → IsTreeOf IsScalar d → IsKeyed f (keyed d)
  keyed_document (leaf s) f is lawful = lawful
  keyed_document (array xs) f is lawful = keyed_items xs f is lawful
  keyed_document (object ms) f is lawful = keyed_members ms f None is lawful.0 lawful.1

  keyed_items : (xs : Items Name Scalar) (f : Format) → f.named ≡ true → AreItemsOf IsScalar xs → AreKeyedItems f (items_relabel name (λ s. s) xs)
  keyed_items no_items f is lawful = tt
  keyed_items (item t ts) f is lawful = (keyed_document t f is lawful.0, keyed_items ts f is lawful.1)

  keyed_members : (ms : Members Name Scalar) (f : Format) (last : Option Name) → f.named ≡ true → Follows last (map (λ m. m.0) (listed_members ms)) → AreMembersOf IsScalar ms → AreKeyedMembers f last (members_relabel name (λ s. s) ms)
  keyed_members no_members f last is follows lawful = tt
  keyed_members (member n t ms) f last is follows lawful =
      let further = map (λ (m : Name × Document). m.0) (listed_members ms) in
      (Some n, ((is, lawful.0, above_next last n further follows, refl), keyed_document t f is lawful.1, keyed_members ms f (Some n) is (follows_next last n further follows) lawful.2))

mutual
  pub keyed_numbered : (n : NumberedTree) (f : Format) → f.named ≡ false → IsNumberedTree n → IsKeyed f (numbered n)
  keyed_numbered (leaf s) f is lawful = lawful
  keyed_numbered (array xs) f is lawful = keyed_numbered_items xs f is lawful
  keyed_numbered (object ms) f is lawful = keyed_numbered_members ms f is lawful

  keyed_numbered_items : (xs : Items ℕ Scalar) (f : Format) → f.named ≡ false → AreNumberedItems xs → AreKeyedItems f (items_relabel number (λ s. s) xs)
  keyed_numbered_items no_items f is lawful = tt
  keyed_numbered_items (item t ts) f is lawful = (keyed_numbered t f is lawful.0, keyed_numbered_items ts f is lawful.1)

  keyed_numbered_members : (ms : Members ℕ Scalar) (f : Format) → f.named ≡ false → AreNumberedMembers ms → AreKeyedMembers f None (members_relabel number (λ s. s) ms)
  keyed_numbered_members no_members f is lawful = tt
  keyed_numbered_members (member n t ms) f is lawful = (None, ((is, lawful.0, refl), keyed_numbered t f is lawful.1, keyed_numbered_members ms f is lawful.2))
