-- The fields of an object are its places in turn, and their text is that of one field after the other.
use Rattle.std.proofs.Common.{◌≡◌, ◌∙◌, ℕ, zero, suc, ◌+◌, ◌<◌, All, Bool, true, List, [], ◌∷◌, ◌++◌, length, map, drop, get_or, Some, slice_get, option_map, unwrap_or, refl, sym, ap, arith, append_assoc}
use Rattle.std.specs.List.{range_with_len}
use Rattle.std.proofs.lemmas.List.FromFn.{length-range_with_len, get_or-range_with_len}
use Rattle.std.proofs.lemmas.List.{drop_more}
use Rattle.std.proofs.lemmas.Option.{slice_get-map, slice_get_read}
use Rattle.json.specs.Print.{quoted}
use Rattle.serde_json.specs.Data as json
use Rattle.serde_json.specs.Written.{compact_text, members_text, comma_if}
use Rattle.tc_model.specs.Document.{Name}
use Rattle.tc_schema_model.specs.Counted.{Counted}
use Rattle.tc_schema_model.specs.SchemaTree.{node_of, field_nodes_of}
use Rattle.tc_schema_model.specs.SchemaText.{name_at, node_text, fields_text}
use Rattle.tc_schema.specs.Places.{listed, place_counted, field_counted}
use Rattle.tc_schema.specs.Ordered.{name_in, text_in, members_in_order}
use Rattle.tc_schema.specs.declared.place.Node.{Node}
use Rattle.tc_schema.specs.declared.place.Field.{Field}
use Rattle.tc_schema.specs.declared.place.Field.TheViews.{out-Field}
use Rattle.tc_schema.proofs.PlaceViews.{field_parts}
use Rattle.tc_schema.proofs.PutInOrder.{put_all}

-- one place more
pub one_more_place : (a n last : ℕ) → a + n ≡ last → range_with_len a (n + 1) ≡ range_with_len a n ++ last ∷ []
one_more_place a zero last is = let here : a ≡ last = omega (arith, is) in ap (λ k. k ∷ []) here
one_more_place a (suc n) last is = let next : suc n + 1 ≡ suc (n + 1) = omega arith in ap (range_with_len a) next ∙ ap (λ l. a ∷ l) (one_more_place (a + 1) n last (omega (arith, is)))

pub places_within : (n : ℕ) → All (λ place. place < n) (range_with_len 0 n)
places_within n k d inside = omega (arith, get_or-range_with_len 0 n k d (omega (arith, length-range_with_len 0 n)), length-range_with_len 0 n)

module _ (names : List Name) where
  abbrev put_places : List (ℕ × Counted) → List ℕ → json.Members
  put_places fs = put_all (name_in names fs) (text_in names fs)

  behind_first : (f : ℕ × Counted) (fs : List (ℕ × Counted)) (a n : ℕ) → put_places (f ∷ fs) (range_with_len (a + 1) n) ≡ put_places fs (range_with_len a n)
  behind_first f fs a zero = refl
  behind_first f fs a (suc n) =
      let next : a + 1 ≡ suc a = omega arith in
      (λ i. json.put (name_in names (f ∷ fs) (next i)) (text_in names (f ∷ fs) (next i)) (put_places (f ∷ fs) (range_with_len (a + 1 + 1) n)))
      ∙ ap (json.put (name_in names fs a) (text_in names fs a)) (behind_first f fs (a + 1) n)

  pub put_places_are : (fs : List (ℕ × Counted)) → put_places fs (range_with_len 0 (length fs)) ≡ fields_text names (field_nodes_of (listed fs))
  put_places_are [] = refl
  put_places_are (f ∷ fs) = ap (json.put (name_in names (f ∷ fs) 0) (text_in names (f ∷ fs) 0)) (behind_first f fs 0 (length fs) ∙ put_places_are fs)

-- the field at a place
pub field_there : (fields : List Field) (place : ℕ) (field : Field) → place < length fields → field ≡ get_or fields place field → slice_get (map field_counted fields) place ≡ Some (field_counted field)
field_there fields place field inside is = slice_get-map field_counted fields place ∙ ap (option_map field_counted) (slice_get_read fields (length fields) place field refl inside is)

-- a member more
pub field_put : (names : List Name) (fields : List Field) (places : List ℕ) (i : ℕ) (later : Bool) (field : Field) (name : Name) (node : Node) (out a b : List ℕ)
    → i < length places → get_or places i 0 < length fields → field ≡ get_or fields (get_or places i 0) field → name ≡ name_at names (out-Field field).number → node ≡ (out-Field field).node.value
    → a ≡ out ++ (comma_if later ++ (quoted name ++ 58 ∷ [])) → b ≡ a ++ compact_text (node_text names (node_of (place_counted node)))
    → b ++ members_text true (members_in_order names (map field_counted fields) (drop (i + 1) places)) ≡ out ++ members_text later (members_in_order names (map field_counted fields) (drop i places))
field_put names fields places i later field name node out a b some inside is named noded one two =
    let place = get_or places i 0 in
    let fs = map field_counted fields in
    let rest = members_in_order names fs (drop (i + 1) places) in
    let text = node_text names (node_of (place_counted node)) in
    let there = field_there fields place field inside is in
    let name_is : name ≡ name_in names fs place = named ∙ ap (λ f. name_at names f.0) (sym (field_parts field)) ∙ ap (λ o. unwrap_or (option_map (λ f. name_at names f.0) o) []) (sym there) in
    let text_is : text ≡ text_in names fs place =
    ap (λ n. node_text names (node_of (place_counted n))) noded ∙ ap (λ f. node_text names (node_of f.1)) (sym (field_parts field)) ∙ ap (λ o. unwrap_or (option_map (λ f. node_text names (node_of f.1)) o) json.null) (sym there) in
    let whole : b ++ members_text true rest ≡ ((out ++ (comma_if later ++ (quoted name ++ 58 ∷ []))) ++ compact_text text) ++ members_text true rest = rw (two, one) refl in
    whole ∙ parts out (comma_if later) (quoted name) (compact_text text) (members_text true rest)
    ∙ (λ j. out ++ (comma_if later ++ (quoted (name_is j) ++ 58 ∷ (compact_text (text_is j) ++ members_text true rest))))
    ∙ ap (λ ps. out ++ members_text later (members_in_order names fs ps)) (sym (drop_more places i 0 some))
  where
    parts : (o a b x y : List ℕ) → ((o ++ (a ++ (b ++ 58 ∷ []))) ++ x) ++ y ≡ o ++ (a ++ (b ++ 58 ∷ (x ++ y)))
    parts o a b x y = simp append_assoc
