-- The field of a member: where it stands, what is counted there once a shape is taken off, and whether it is kept.
use Rattle.std.proofs.Common.{◌≡◌, ◌≢◌, ℕ, zero, suc, ◌<◌, ◌==◌, Bool, true, false, List, [], ◌∷◌, Option, Some, IsTrue, is_some, length, map, set, get_or, get_or-set_same, refl, sym, ap, ◌∙◌, subst, arith}
use Rattle.std.specs.List.{remove}
use Rattle.std.specs.declared.alloc.Global.{Global}
use Rattle.std.specs.declared.boxed.Box.{Box}
use Rattle.std.proofs.lemmas.Bool.Decides.{Decides-eqb}
use Rattle.std.proofs.lemmas.List.{length-map}
use Rattle.std.proofs.lemmas.Option.{same_Some}
use Rattle.tc_model.specs.Document.{Name}
use Rattle.tc_model.specs.Dictionary.{number_of, number}
use Rattle.tc_schema_model.specs.Counted.{Counted, Fields, field_at, documents_of, total}
use Rattle.tc_schema_model.specs.Added.{put_field, without_field, kept_field}
use Rattle.tc_model.proofs.NameNumbers.{numbered}
use Rattle.tc_schema.specs.Places.{place_counted, field_counted, fields_counted, listed}
use Rattle.tc_schema.specs.Search.{IsPlaceOf}
use Rattle.tc_schema.specs.declared.place.Node.{Node}
use Rattle.tc_schema.specs.declared.place.Field.{Field}
use Rattle.tc_schema.specs.declared.place.Field.TheViews.{out-Node, out-Field, roll-Field, out-roll-Field}
use Rattle.tc_schema.proofs.FieldViews.{counted_at}
use Rattle.tc_schema.proofs.PlaceViews.{place_parts}
use Rattle.tc_schema.proofs.FieldWrites.{number_at, written_field}

-- ---- the field that a search found

pub record Found (n i : ℕ) (all : List Field) (here : Field) : Type 0 where
  pub place : IsPlaceOf n (map field_counted all) i
  pub inside : i < length all
  pub own : (out-Field here).number ≡ n
  pub counted : place_counted (out-Field here).node.value ≡ field_at n (fields_counted all)

-- by the number that the dictionary told
pub found : (names : List Name) (name asked : Name) (told : Option ℕ) (n i : ℕ) (all searched : List Field) (here : Field)
    → IsTrue (is_some (number_of names name)) → asked ≡ name → told ≡ number_of names asked → told ≡ Some n → searched ≡ all → IsPlaceOf n (map field_counted searched) i → here ≡ get_or all i here → Found (number names name) i all here
found names name asked told n i all searched here known same answer some over stands is =
    let number_is : n ≡ number names name = same_Some _ _ (sym some ∙ answer ∙ ap (number_of names) same ∙ numbered names name known) in
    let place = subst (λ k. IsPlaceOf k (map field_counted all) i) number_is (subst (λ fs. IsPlaceOf n (map field_counted fs) i) over stands) in
    let there = field_at (number names name) (fields_counted all) in
    record {
      place = place;
      inside = subst (λ l. i < l) (length-map all field_counted) place.inside;
      own = ap (λ f. (out-Field f).number) is ∙ number_at all i here (number names name) there place.here;
      counted = ap (λ f. place_counted (out-Field f).node.value) is ∙ counted_at all i here (number names name) there place.here;
    }

-- ---- what is written there, and taken out

taken_after_set : {X Y : Type 0} (f : X → Y) (xs : List X) (i : ℕ) (x : X) → i < length xs → map f (remove (set xs i x) i) ≡ remove (map f xs) i
taken_after_set f [] i x inside = absurd (omega arith)
taken_after_set f (y ∷ xs) zero x inside = refl
taken_after_set f (y ∷ xs) (suc i) x inside = ap (λ ys. f y ∷ ys) (taken_after_set f xs i x (omega arith))

-- what is counted there once it is written
counted_there : (fs : List Field) (i k : ℕ) (node : Box Node Global) (here : Field) → i < length fs → here ≡ get_or (set fs i (roll-Field record { number = k; node = node })) i here
    → total (out-Node (out-Field here).node.value).counts ≡ documents_of (place_counted node.value)
counted_there fs i k node here inside is =
    ap (λ f. total (out-Node (out-Field f).node.value).counts) (is ∙ get_or-set_same fs i (roll-Field record { number = k; node = node }) here inside) ∙ rw (out-roll-Field) (sym (ap documents_of (place_parts node.value)))

-- ---- whether it is kept

is_none : (d : Counted) → documents_of d ≡ 0 → (documents_of d == 0) ≡ true
is_none d none = (Decides-eqb (documents_of d) 0).1 none

is_some_there : (d : Counted) → documents_of d ≢ 0 → (documents_of d == 0) ≡ false
is_some_there d some = cases (documents_of d == 0) (Decides-eqb (documents_of d) 0).0
  where
    cases : (test : Bool) → (test ≡ true → documents_of d ≡ 0) → test ≡ false
    cases true decides = absurd (some (decides refl))
    cases false decides = refl

field_leaves : (n : ℕ) (d : Counted) (fs : Fields) → documents_of d ≡ 0 → without_field n fs ≡ kept_field n d fs
field_leaves n d fs none = rw (is_none d none) refl

field_stays : (n : ℕ) (d : Counted) (fs : Fields) → documents_of d ≢ 0 → put_field n d fs ≡ kept_field n d fs
field_stays n d fs some = rw (is_some_there d some) refl

-- the node is written, and stays where it counts something
pub stays : (n i : ℕ) (all : List Field) (here there : Field) (node : Box Node Global) (d : Counted) → Found n i all here → place_counted node.value ≡ d
    → there ≡ get_or (set all i (roll-Field record { number = (out-Field here).number; node = node })) i there → total (out-Node (out-Field there).node.value).counts ≢ 0
    → fields_counted (set all i (roll-Field record { number = (out-Field here).number; node = node })) ≡ kept_field n d (fields_counted all)
stays n i all here there node d f is again some =
    written_field all i n (out-Field here).number node d f.own is
    ∙ f.place.written d
    ∙ field_stays n d (fields_counted all) (λ none. some (counted_there all i (out-Field here).number node there f.inside again ∙ ap documents_of is ∙ none))

-- and leaves where it counts nothing
pub leaves : (n i : ℕ) (all : List Field) (here there : Field) (node : Box Node Global) (d : Counted) → Found n i all here → place_counted node.value ≡ d
    → there ≡ get_or (set all i (roll-Field record { number = (out-Field here).number; node = node })) i there → total (out-Node (out-Field there).node.value).counts ≡ 0
    → fields_counted (remove (set all i (roll-Field record { number = (out-Field here).number; node = node })) i) ≡ kept_field n d (fields_counted all)
leaves n i all here there node d f is again none =
    ap listed (taken_after_set field_counted all i (roll-Field record { number = (out-Field here).number; node = node }) f.inside)
    ∙ f.place.taken
    ∙ field_leaves n d (fields_counted all) (ap documents_of (sym is) ∙ sym (counted_there all i (out-Field here).number node there f.inside again) ∙ none)
