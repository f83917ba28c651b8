-- Places of the code and their fields, where others are added to them, and the room that these take.
use Rattle.std.proofs.Common.{◌≡◌, ℕ, zero, suc, ◌+◌, ◌==◌, nat_lt, Bool, true, false, if◌then◌else◌, subst, ◌<◌, ◌≤◌, List, [], ◌∷◌, length, map, get_or, drop, refl, sym, ap, ◌∙◌, arith}
use Rattle.std.specs.List.{insert}
use Rattle.std.proofs.lemmas.List.{drop_more}
use Rattle.std.specs.declared.alloc.Global.{Global}
use Rattle.std.specs.declared.boxed.Box.{Box}
use Rattle.tc_schema_model.specs.Counted.{Counted, counted, Fields, no_fields, a_field, nothing, field_at, AreFieldsCanonical, HasSmallCounters, FieldsHaveSmallCounters}
use Rattle.tc_schema_model.specs.Added.{put_field}
use Rattle.tc_schema_model.proofs.CountingLaws.{at_first}
use Rattle.tc_schema_model.proofs.FieldLaws.{fields_ordered}
use Rattle.tc_schema.specs.Places.{place_counted, below_counted, field_counted, fields_counted, listed}
use Rattle.tc_schema.specs.Search.{IsGapFor}
use Rattle.tc_schema.specs.declared.place.Node.{Node}
use Rattle.tc_schema.specs.declared.place.Field.{Field}
use Rattle.tc_schema.specs.declared.place.Field.TheViews.{out-Node, out-Field, roll-Field}
use Rattle.tc_schema.proofs.PlaceViews.{place_parts, field_parts}
use Rattle.tc_schema.proofs.FieldWrites.{made_field}
use Rattle.tc_audit.proofs.TimesLaws.{field_at-with}
use Rattle.tc_audit.specs.Times.{counters_with, with_times, below_with, fields_with, field_with}

-- the one there, and the rest
pub fields_from : (fs : List Field) (i : ℕ) (f : Field) → i < length fs → f ≡ get_or fs i f → fields_counted (drop i fs) ≡ a_field (field_counted f).0 (field_counted f).1 (fields_counted (drop (i + 1) fs))
fields_from fs i f inside is = ap fields_counted (drop_more fs i f inside ∙ ap (λ g. g ∷ drop (i + 1) fs) (sym is))

-- what is added to the place of its number
pub added_field : (k : ℕ) (f : Field) (gs : Fields) → put_field (out-Field f).number (with_times k (place_counted (out-Field f).node.value) (field_at (out-Field f).number gs)) gs ≡ field_with k (field_counted f) gs
added_field k f gs = ap (λ p. field_with k p gs) (sym (field_parts f))

map_inserted : {X Y : Type 0} (f : X → Y) (xs : List X) (i : ℕ) (x : X) → i ≤ length xs → map f (insert xs i x) ≡ insert (map f xs) i (f x)
map_inserted f xs zero x inside = refl
map_inserted f [] (suc i) x inside = absurd (omega arith)
map_inserted f (y ∷ xs) (suc i) x inside = ap (λ ys. f y ∷ ys) (map_inserted f xs i x (omega arith))

-- a new field is put where there is none of its number
pub filled_field : (fs : List Field) (i n : ℕ) (node : Box Node Global) (d : Counted) → i ≤ length fs → IsGapFor n (map field_counted fs) i → place_counted node.value ≡ d
    → fields_counted (insert fs i (roll-Field record { number = n; node = node })) ≡ put_field n d (fields_counted fs)
filled_field fs i n node d inside gap is =
    ap listed (map_inserted field_counted fs i (roll-Field record { number = n; node = node }) inside ∙ ap (insert (map field_counted fs) i) (made_field n node d is)) ∙ gap.filled d

-- a place is what it is by its parts
pub parts_with : (k : ℕ) (one place made : Node) → (out-Node made).counts ≡ counters_with k (out-Node one).counts (out-Node place).counts
    → below_counted (out-Node made).item ≡ below_with k (below_counted (out-Node one).item) (below_counted (out-Node place).item)
    → fields_counted (out-Node made).fields.items ≡ fields_with k (fields_counted (out-Node one).fields.items) (fields_counted (out-Node place).fields.items)
    → place_counted made ≡ with_times k (place_counted one) (place_counted place)
parts_with k one place made counts item fields =
    let parts = counted (out-Node one).counts (below_counted (out-Node one).item) (fields_counted (out-Node one).fields.items) in
    place_parts made ∙ (λ i. counted (counts i) (item i) (fields i)) ∙ sym (ap (λ d. with_times k d (place_counted place)) (place_parts one) ∙ ap (with_times k parts) (place_parts place))

-- ---- room

each_small : (fs : Fields) → FieldsHaveSmallCounters fs → (n : ℕ) → HasSmallCounters (field_at n fs)
each_small no_fields small n = (omega arith, tt, tt)
each_small (a_field m d fs) small n = by_tests (nat_lt n m) (m == n) d (field_at n fs) small.0 (each_small fs small.1 n)
  where
    by_tests : (before here : Bool) (one other : Counted) → HasSmallCounters one → HasSmallCounters other → HasSmallCounters (if before then nothing else (if here then one else other))
    by_tests true here one other first rest = (omega arith, tt, tt)
    by_tests false true one other first rest = first
    by_tests false false one other first rest = rest

-- the first field has room where all of them have
pub first_small : (k limit low n : ℕ) (e : Counted) (fs gs : Fields) → AreFieldsCanonical limit low (a_field n e fs) → FieldsHaveSmallCounters (fields_with k (a_field n e fs) gs) → HasSmallCounters (with_times k e (field_at n gs))
first_small k limit low n e fs gs canonical small =
    subst HasSmallCounters (field_at-with k low n (a_field n e fs) gs (fields_ordered limit low (a_field n e fs) canonical)
    ∙ ap (λ d. with_times k d (field_at n gs)) (at_first n e fs)) (each_small (fields_with k (a_field n e fs) gs) small n)
