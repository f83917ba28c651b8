-- The code of a tree, by which a proof tells trees apart: its marks in preorder, read back from the last to the first.
use Rattle.std.specs.Prelude.{◌≡◌, ◌⊎◌, ℕ, zero, suc, List, [], ◌∷◌, refl}
use Rattle.std.specs.Coded.{Coded, code_by, coded_ℕ, coded_list, coded⊎}
use Rattle.std.proofs.Common.{◌∙◌, ap, inl, inr}
use Rattle.tc_model.specs.Tree.{Tree, leaf, array, object, Items, no_items, item, Members, no_members, member}

-- what stands at a place of the preorder
pub data Mark (L S : Type 0) : Type 0 where
  leaf_mark : S → Mark L S
  member_mark : L → Mark L S
  item_mark : Mark L S
  array_mark : Mark L S
  object_mark : Mark L S
  end_of_items : Mark L S
  end_of_members : Mark L S

-- what has been read back: trees, and lists of items and members that have yet to be held
pub data Part (L S : Type 0) : Type 0 where
  a_tree : Tree L S → Part L S
  some_items : Items L S → Part L S
  some_members : Members L S → Part L S

module _ {L S : Type 0} where
  -- the marks of a tree, before further marks
  abbrev mutual
    pub marks : Tree L S → List (Mark L S) → List (Mark L S)
    marks (leaf s) rest = leaf_mark s ∷ rest
    marks (array xs) rest = array_mark ∷ items_marks xs rest
    marks (object ms) rest = object_mark ∷ members_marks ms rest

    pub items_marks : Items L S → List (Mark L S) → List (Mark L S)
    items_marks no_items rest = end_of_items ∷ rest
    items_marks (item t ts) rest = item_mark ∷ marks t (items_marks ts rest)

    pub members_marks : Members L S → List (Mark L S) → List (Mark L S)
    members_marks no_members rest = end_of_members ∷ rest
    members_marks (member l t ms) rest = member_mark l ∷ marks t (members_marks ms rest)

  abbrev pub array_from : List (Part L S) → List (Part L S)
  array_from (some_items xs ∷ parts) = a_tree (array xs) ∷ parts
  array_from _ = []

  abbrev pub object_from : List (Part L S) → List (Part L S)
  object_from (some_members ms ∷ parts) = a_tree (object ms) ∷ parts
  object_from _ = []

  abbrev pub item_from : List (Part L S) → List (Part L S)
  item_from (a_tree t ∷ some_items ts ∷ parts) = some_items (item t ts) ∷ parts
  item_from _ = []

  abbrev pub member_from : L → List (Part L S) → List (Part L S)
  member_from l (a_tree t ∷ some_members ms ∷ parts) = some_members (member l t ms) ∷ parts
  member_from l _ = []

  -- the parts with one more mark before them
  abbrev pub parts_with : Mark L S → List (Part L S) → List (Part L S)
  parts_with (leaf_mark s) parts = a_tree (leaf s) ∷ parts
  parts_with (member_mark l) parts = member_from l parts
  parts_with item_mark parts = item_from parts
  parts_with array_mark parts = array_from parts
  parts_with object_mark parts = object_from parts
  parts_with end_of_items parts = some_items no_items ∷ parts
  parts_with end_of_members parts = some_members no_members ∷ parts

  -- the parts that marks spell
  abbrev pub parts_of : List (Mark L S) → List (Part L S)
  parts_of [] = []
  parts_of (m ∷ ms) = parts_with m (parts_of ms)

  mutual
    pub parts_of-marks : (t : Tree L S) (rest : List (Mark L S)) → parts_of (marks t rest) ≡ a_tree t ∷ parts_of rest
    parts_of-marks (leaf s) rest = refl
    parts_of-marks (array xs) rest = ap array_from (parts_of-items_marks xs rest)
    parts_of-marks (object ms) rest = ap object_from (parts_of-members_marks ms rest)

    pub parts_of-items_marks : (xs : Items L S) (rest : List (Mark L S)) → parts_of (items_marks xs rest) ≡ some_items xs ∷ parts_of rest
    parts_of-items_marks no_items rest = refl
    parts_of-items_marks (item t ts) rest =
        ap item_from (parts_of-marks t (items_marks ts rest) ∙ ap (λ parts. a_tree t ∷ parts) (parts_of-items_marks ts rest))

    pub parts_of-members_marks : (ms : Members L S) (rest : List (Mark L S)) → parts_of (members_marks ms rest) ≡ some_members ms ∷ parts_of rest
    parts_of-members_marks no_members rest = refl
    parts_of-members_marks (member l t ms) rest =
        ap (member_from l) (parts_of-marks t (members_marks ms rest) ∙ ap (λ parts. a_tree t ∷ parts) (parts_of-members_marks ms rest))

  -- the first part, if it is a tree
  abbrev pub tree_among : List (Part L S) → Tree L S
  tree_among (a_tree t ∷ parts) = t
  tree_among _ = array no_items

  -- a mark, by which of the three it has: a leaf, a label, or one of the five without either
  abbrev pub mark_code : Mark L S → S ⊎ (L ⊎ ℕ)
  mark_code (leaf_mark s) = inl s
  mark_code (member_mark l) = inr (inl l)
  mark_code item_mark = inr (inr 0)
  mark_code array_mark = inr (inr 1)
  mark_code object_mark = inr (inr 2)
  mark_code end_of_items = inr (inr 3)
  mark_code end_of_members = inr (inr 4)

  abbrev pub mark_number : ℕ → Mark L S
  mark_number zero = item_mark
  mark_number (suc zero) = array_mark
  mark_number (suc (suc zero)) = object_mark
  mark_number (suc (suc (suc zero))) = end_of_items
  mark_number (suc (suc (suc (suc n)))) = end_of_members

  abbrev pub mark_from : S ⊎ (L ⊎ ℕ) → Mark L S
  mark_from (inl s) = leaf_mark s
  mark_from (inr (inl l)) = member_mark l
  mark_from (inr (inr n)) = mark_number n

  pub mark_from-mark_code : (m : Mark L S) → mark_from (mark_code m) ≡ m
  mark_from-mark_code (leaf_mark s) = refl
  mark_from-mark_code (member_mark l) = refl
  mark_from-mark_code item_mark = refl
  mark_from-mark_code array_mark = refl
  mark_from-mark_code object_mark = refl
  mark_from-mark_code end_of_items = refl
  mark_from-mark_code end_of_members = refl

  pub tree_among-marks : (t : Tree L S) → tree_among (parts_of (marks t [])) ≡ t
  tree_among-marks t = ap tree_among (parts_of-marks t [])

  -- a tree of coded labels and leaves has a code
  abbrev pub coded_tree : Coded L → Coded S → Coded (Tree L S)
  coded_tree labels leaves =
      code_by (List (Mark L S)) (coded_list (code_by (S ⊎ (L ⊎ ℕ)) (coded⊎ leaves (coded⊎ labels coded_ℕ)) mark_code mark_from mark_from-mark_code)) (λ t. marks t []) (λ ms. tree_among (parts_of ms)) tree_among-marks
