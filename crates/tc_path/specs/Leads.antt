-- Where hops by the numbers of names lead in a tree. The kinds of its values tell: what stands before a value in the columns of a
-- record, and its tag.
use Rattle.std.specs.Prelude.{◌≡◌, ◌⊎◌, ℕ, ◌+◌, ◌==◌, ◌^◌, ◌-◌, if◌then◌else◌, List, [], ◌∷◌, unwrap_or}
use Rattle.tc_model.specs.Tree.{Tree, leaf, array, object, Items, no_items, item, Members, no_members, member, relabel, items_relabel, members_relabel}
use Rattle.tc_model.specs.Document.{Name, Scalar, ScalarKind, null_kind, boolean_kind, integer_kind, text_kind, scalar_kind}
use Rattle.tc_model.specs.Kinds.{scalar_tag, tag as kind_tag, arrays, objects}
use Rattle.tc_model.specs.Dictionary.{number_of}
use Rattle.tc_request_model.specs.Request.{Hop, to_name, to_place, to_each}
use Rattle.tc_record.specs.Preorder.{Token}
use Rattle.tc_record.specs.Record.{NumberedTree}
use Rattle.tc_record.specs.Borrowed.{numbered_tokens}
use Rattle.tc_record.specs.Walk.{Key}
use Rattle.tc_path.specs.declared.leading.Lead.{Lead}
use Rattle.tc_path.specs.declared.leading.Lead.TheVariants.{Unknown, Nowhere, To}
use Rattle.tc_path.specs.declared.leading.Spot.{Spot}

-- ---- hops by the numbers of names

-- the number of a name, and one that no name has where the dictionary has it not
abbrev pub hop_number : List Name → Name → ℕ
hop_number names name = unwrap_or (number_of names name) (2 ^ 32 - 1)

-- a path of names alone, as numbers
abbrev pub AreHops : List Name → List Hop → List ℕ → Type 0
AreHops names [] [] = Unit {0}
AreHops names [] (k ∷ ks) = ⊥
AreHops names (to_name name ∷ hops) [] = ⊥
AreHops names (to_name name ∷ hops) (k ∷ ks) = (k ≡ hop_number names name) × AreHops names hops ks
AreHops names (to_place place ∷ hops) ks = ⊥
AreHops names (to_each ∷ hops) ks = ⊥

-- ---- what stands before a value

-- a tree with the kinds of its scalars in their places
abbrev pub KindTree : Type 0
KindTree = Tree ℕ ScalarKind

abbrev pub kinds_in : NumberedTree → KindTree
kinds_in n = relabel (λ k. k) scalar_kind n

abbrev pub items_kinds : Items ℕ Scalar → Items ℕ ScalarKind
items_kinds xs = items_relabel (λ k. k) scalar_kind xs

abbrev pub members_kinds : Members ℕ Scalar → Members ℕ ScalarKind
members_kinds ms = members_relabel (λ k. k) scalar_kind ms

abbrev pub tag_of : KindTree → ℕ
tag_of (leaf k) = scalar_tag k
tag_of (array xs) = kind_tag arrays
tag_of (object ms) = kind_tag objects

abbrev pub kind_texts : ScalarKind → ℕ
kind_texts null_kind = 0
kind_texts boolean_kind = 0
kind_texts integer_kind = 0
kind_texts text_kind = 1

abbrev pub kind_fixed : ScalarKind → ℕ
kind_fixed null_kind = 0
kind_fixed boolean_kind = 1
kind_fixed integer_kind = 8
kind_fixed text_kind = 0

-- how many texts a tree has
abbrev mutual
  pub texts_in : KindTree → ℕ
  texts_in (leaf k) = kind_texts k
  texts_in (array xs) = items_texts xs
  texts_in (object ms) = members_texts ms

  pub items_texts : Items ℕ ScalarKind → ℕ
  items_texts no_items = 0
  items_texts (item t ts) = texts_in t + items_texts ts

  pub members_texts : Members ℕ ScalarKind → ℕ
  members_texts no_members = 0
  members_texts (member k t ms) = texts_in t + members_texts ms

-- how many bytes its values of fixed size have
abbrev mutual
  pub fixed_in : KindTree → ℕ
  fixed_in (leaf k) = kind_fixed k
  fixed_in (array xs) = items_fixed xs
  fixed_in (object ms) = members_fixed ms

  pub items_fixed : Items ℕ ScalarKind → ℕ
  items_fixed no_items = 0
  items_fixed (item t ts) = fixed_in t + items_fixed ts

  pub members_fixed : Members ℕ ScalarKind → ℕ
  members_fixed no_members = 0
  members_fixed (member k t ms) = fixed_in t + members_fixed ms

-- ---- where hops lead

abbrev pub spot : ℕ → ℕ → ℕ → Spot
spot tag texts fixed = record { tag = tag; texts = texts; fixed = fixed }

-- from a tree, before which so many texts and fixed bytes stand
abbrev mutual
  pub lead_from : List ℕ → KindTree → ℕ → ℕ → Lead
  lead_from [] t x f = To (spot (tag_of t) x f)
  lead_from (k ∷ ks) (leaf s) x f = Nowhere
  lead_from (k ∷ ks) (array xs) x f = Nowhere
  lead_from (k ∷ ks) (object ms) x f = lead_among k ks ms x f

  -- to the first member of a number, and from there on
  pub lead_among : ℕ → List ℕ → Members ℕ ScalarKind → ℕ → ℕ → Lead
  lead_among k ks no_members x f = Nowhere
  lead_among k ks (member m t ms) x f = if m == k then lead_from ks t x f else lead_among k ks ms (x + texts_in t) (f + fixed_in t)

-- a lead in a record of these tokens, if it tells anything
abbrev pub IsLead : List ℕ → List (Token Key Scalar) → Lead → Type 0
IsLead hops ts lead = (lead ≡ Unknown) ⊎ ((n : NumberedTree) → ts ≡ numbered_tokens n → lead ≡ lead_from hops (kinds_in n) 0 0)
