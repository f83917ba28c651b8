-- What hops by the numbers of names reach is what their path of names reaches, in a tree whose numbers all have names.
use Rattle.std.proofs.Common.{◌≡◌, ◌∙◌, ◌-◌, ◌^◌, ◌<◌, ◌==◌, ℕ, Bool, true, false, if◌then◌else◌, List, [], ◌∷◌, ◌++◌, Option, None, Some, option_map, option_to_list, unwrap_or, length, map, flat_map, slice_get, refl, sym, ap, subst, arith, append-nil}
use Rattle.std.specs.Cmp.{both_ways}
use Rattle.std.specs.List.{AllByRecursion}
use Rattle.std.specs.Str.{bytes_eq}
use Rattle.std.proofs.lemmas.Bool.{eqb-true, eq-eqb}
use Rattle.std.proofs.lemmas.List.Concat.{flat_map-append}
use Rattle.std.proofs.lemmas.Option.{slice_get-get_or, unwrap_or-slice_get}
use Rattle.std.proofs.lemmas.Slice.Eq.{bytes_eq-Decides}
use Rattle.tc_model.specs.Tree.{leaf, array, object, Members, no_members, member, members_relabel}
use Rattle.tc_model.specs.Document.{Name, Document, Scalar, member_at}
use Rattle.tc_model.specs.Dictionary.{IsDictionary, number_of}
use Rattle.tc_model.proofs.NameNumbers.{slice_get-number_of, number_of-slice_get}
use Rattle.tc_request_model.specs.Request.{Hop, to_name, to_place, to_each}
use Rattle.tc_request_model.specs.Paths.{reached}
use Rattle.tc_record.specs.Preorder.{token, closed, preorder, members_preorder, tokens_of}
use Rattle.tc_record.specs.Record.{NumberedTree, labels}
use Rattle.tc_record.specs.Walk.{number}
use Rattle.tc_record.specs.Borrowed.{IsBelow, numbered_tokens}
use Rattle.tc_record.proofs.Keyed.{preorder-relabel, labels-retoken}
use Rattle.tc_compact.specs.Meant.{name_at, expanded}
use Rattle.tc_path.specs.Leads.{hop_number, AreHops}
use Rattle.tc_path.specs.Spots.{value_by, value_among}

-- ---- numbers that have names

abbrev AreBelow : ℕ → List ℕ → Type 0
AreBelow limit ks = AllByRecursion (λ k. k < limit) ks

parts_below : (limit : ℕ) (js ks : List ℕ) → AreBelow limit (js ++ ks) → AreBelow limit js × AreBelow limit ks
parts_below limit [] ks below = (tt, below)
parts_below limit (j ∷ js) ks below = let rest = parts_below limit js ks below.1 in ((below.0, rest.0), rest.1)

keys_below : (limit : ℕ) (ks : List ℕ) → AllByRecursion (IsBelow limit) (map number ks) → AreBelow limit ks
keys_below limit [] below = tt
keys_below limit (k ∷ ks) below = (below.0, keys_below limit ks below.1)

-- those of the members of an object
in_object : (limit : ℕ) (ms : Members ℕ Scalar) → AreBelow limit (labels (tokens_of (object ms))) → AreBelow limit (labels (members_preorder ms))
in_object limit ms below =
    let ts = members_preorder ms in
    let close_token = token None closed ∷ [] in
    (parts_below limit (labels ts) (labels close_token) (subst (AreBelow limit) (flat_map-append (λ t. option_to_list t.label) ts close_token) below)).0

-- the number of the first member, those in its value, and those of the others
of_first : (t : NumberedTree) (m : ℕ) → labels (preorder (Some m) t) ≡ m ∷ labels (tokens_of t)
of_first (leaf s) m = refl
of_first (array xs) m = refl
of_first (object ms) m = refl

in_members : (limit m : ℕ) (t : NumberedTree) (ms : Members ℕ Scalar) → AreBelow limit (labels (members_preorder (member m t ms)))
    → (m < limit) × AreBelow limit (labels (tokens_of t)) × AreBelow limit (labels (members_preorder ms))
in_members limit m t ms below =
    let ts = preorder (Some m) t in
    let us = members_preorder ms in
    let both = parts_below limit (labels ts) (labels us) (subst (AreBelow limit) (flat_map-append (λ t. option_to_list t.label) ts us) below) in
    let first = subst (AreBelow limit) (of_first t m) both.0 in
    (first.0, first.1, both.1)

module _ (names : List Name) (dictionary : IsDictionary names) where
  -- a number has a name exactly where it is the number of that name
  is_number : (m : ℕ) (name : Name) → m < length names → bytes_eq (name_at names m) name ≡ (m == hop_number names name)
  is_number m name below = both_ways (bytes_eq (name_at names m) name) (m == hop_number names name) to_number to_name_of
    where
      to_number : bytes_eq (name_at names m) name ≡ true → (m == hop_number names name) ≡ true
      to_number same =
          let there : slice_get names m ≡ Some (name_at names m) = slice_get-get_or names m [] below ∙ ap Some (sym (unwrap_or-slice_get names m [])) in
          let is : number_of names name ≡ Some m = number_of-slice_get names name m dictionary.distinct (there ∙ ap Some ((bytes_eq-Decides (name_at names m) name).0 same)) in
          eq-eqb m (hop_number names name) (sym (ap (λ o. unwrap_or o (2 ^ 32 - 1)) is))

      by_number : (o : Option ℕ) → number_of names name ≡ o → (m == unwrap_or o (2 ^ 32 - 1)) ≡ true → bytes_eq (name_at names m) name ≡ true
      by_number None is same = absurd (omega (arith, eqb-true m (2 ^ 32 - 1) same, below, dictionary.few))
      by_number (Some k) is same =
          (bytes_eq-Decides (name_at names m) name).1 (ap (λ o. unwrap_or o []) (ap (slice_get names) (eqb-true m k same) ∙ slice_get-number_of names name k is))

      to_name_of : (m == hop_number names name) ≡ true → bytes_eq (name_at names m) name ≡ true
      to_name_of same = by_number (number_of names name) refl same

  -- ---- what is reached

  -- no hop
  stays : (n : NumberedTree) → expanded names n ∷ [] ≡ option_to_list (option_map (expanded names) (value_by [] n))
  stays (leaf s) = refl
  stays (array xs) = refl
  stays (object ms) = refl

  mutual
    tree_hopped : (n : NumberedTree) (path : List Hop) (hops : List ℕ) → AreBelow (length names) (labels (tokens_of n)) → AreHops names path hops
        → reached path (expanded names n) ≡ option_to_list (option_map (expanded names) (value_by hops n))
    tree_hopped n [] [] below are = stays n
    tree_hopped n [] (k ∷ ks) below are = absurd are
    tree_hopped n (to_name name ∷ path) [] below are = absurd are
    tree_hopped n (to_place place ∷ path) hops below are = absurd are
    tree_hopped n (to_each ∷ path) hops below are = absurd are
    tree_hopped (leaf s) (to_name name ∷ path) (k ∷ ks) below are = refl
    tree_hopped (array xs) (to_name name ∷ path) (k ∷ ks) below are = refl
    tree_hopped (object ms) (to_name name ∷ path) (k ∷ ks) below are = members_hopped ms name path k ks (in_object (length names) ms below) are.0 are.1

    members_hopped : (ms : Members ℕ Scalar) (name : Name) (path : List Hop) (k : ℕ) (ks : List ℕ) → AreBelow (length names) (labels (members_preorder ms)) → k ≡ hop_number names name → AreHops names path ks
        → flat_map (reached path) (option_to_list (member_at name (members_relabel (name_at names) (λ s. s) ms))) ≡ option_to_list (option_map (expanded names) (value_among k ks ms))
    members_hopped no_members name path k ks below is are = refl
    members_hopped (member m t ms) name path k ks below is are =
        let known = in_members (length names) m t ms below in
        ap by_test (is_number m name known.0 ∙ ap (λ j. m == j) (sym is)) ∙ either (m == k) (tree_hopped t path ks known.1 are) (members_hopped ms name path k ks known.2 is are)
      where
        others : Members Name Scalar
        others = members_relabel (name_at names) (λ s. s) ms

        by_test : Bool → List Document
        by_test b = flat_map (reached path) (option_to_list (if b then Some (expanded names t) else member_at name others))

        either : (b : Bool) → reached path (expanded names t) ≡ option_to_list (option_map (expanded names) (value_by ks t)) → flat_map (reached path) (option_to_list (member_at name others)) ≡ option_to_list (option_map (expanded names) (value_among k ks ms))
            → by_test b ≡ option_to_list (option_map (expanded names) (if b then value_by ks t else value_among k ks ms))
        either true first rest = append-nil (reached path (expanded names t)) ∙ first
        either false first rest = rest

  pub hopped : (n : NumberedTree) (path : List Hop) (hops : List ℕ) → AllByRecursion (IsBelow (length names)) (labels (numbered_tokens n)) → AreHops names path hops
      → reached path (expanded names n) ≡ option_to_list (option_map (expanded names) (value_by hops n))
  hopped n path hops below are =
      let keyed : labels (numbered_tokens n) ≡ map number (labels (tokens_of n)) = ap labels (preorder-relabel number n None) ∙ labels-retoken number (tokens_of n) in
      tree_hopped n path hops (keys_below (length names) (labels (tokens_of n)) (subst (AllByRecursion (IsBelow (length names))) keyed below)) are
