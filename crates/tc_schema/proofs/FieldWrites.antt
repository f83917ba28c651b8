-- A field that is written, or put in, among the fields of a place.
use Rattle.std.proofs.Common.{◌≡◌, ℕ, zero, suc, ◌≤◌, List, [], ◌∷◌, Some, length, map, get_or, set, refl, sym, ap, ◌∙◌, arith}
use Rattle.std.specs.Prelude.{slice_get}
use Rattle.std.specs.declared.alloc.Global.{Global}
use Rattle.std.specs.declared.boxed.Box.{Box}
use Rattle.std.specs.List.{insert}
use Rattle.std.proofs.lemmas.List.{map-set}
use Rattle.tc_schema_model.specs.Counted.{Counted}
use Rattle.tc_schema.specs.Places.{place_counted, field_counted, fields_counted, listed}
use Rattle.tc_schema.specs.declared.place.Node.{Node}
use Rattle.tc_schema.specs.declared.place.Field.{Field}
use Rattle.tc_schema.specs.declared.place.Field.TheViews.{out-Field, roll-Field}
use Rattle.tc_schema.proofs.PlaceViews.{field_parts, field_made}

pub made_field : (n : ℕ) (node : Box Node Global) (d : Counted) → place_counted node.value ≡ d → field_counted (roll-Field record { number = n; node = node }) ≡ (n, d)
made_field n node d is = field_made n node ∙ ap (λ e. let pair : ℕ × Counted = (n, e) in pair) is

pub inserted_here : {X Y : Type 0} (f : X → Y) (xs : List X) (i : ℕ) (x : X) → i ≤ length xs → slice_get (map f (insert xs i x)) i ≡ Some (f x)
inserted_here f xs zero x inside = refl
inserted_here f [] (suc i) x inside = absurd (omega arith)
inserted_here f (y ∷ xs) (suc i) x inside = inserted_here f xs i x (omega arith)

pub inserted_written : {X Y : Type 0} (f : X → Y) (xs : List X) (i : ℕ) (x : X) (y : Y) → i ≤ length xs → set (map f (insert xs i x)) i y ≡ insert (map f xs) i y
inserted_written f xs zero x y inside = refl
inserted_written f [] (suc i) x y inside = absurd (omega arith)
inserted_written f (z ∷ xs) (suc i) x y inside = ap (λ ys. f z ∷ ys) (inserted_written f xs i x y (omega arith))

-- the number of a field that stands there
pub number_at : (fs : List Field) (i : ℕ) (f : Field) (n : ℕ) (d : Counted) → slice_get (map field_counted fs) i ≡ Some (n, d) → (out-Field (get_or fs i f)).number ≡ n
number_at [] i f n d here = cc
number_at (g ∷ fs) zero f n d here =
    let pair : field_counted g ≡ (n, d) = cc in
    ap (λ p. p.0) (sym (field_parts g) ∙ pair)
number_at (g ∷ fs) (suc i) f n d here = number_at fs i f n d here

-- its place is written anew
pub written_field : (fs : List Field) (i n k : ℕ) (node : Box Node Global) (d : Counted) → k ≡ n → place_counted node.value ≡ d → fields_counted (set fs i (roll-Field record { number = k; node = node })) ≡ listed (set (map field_counted fs) i (n, d))
written_field fs i n k node d number is = ap listed (map-set field_counted fs i (roll-Field record { number = k; node = node }) ∙ ap (set (map field_counted fs) i) (made_field k node d is ∙ ap (λ m. let pair : ℕ × Counted = (m, d) in pair) number))
