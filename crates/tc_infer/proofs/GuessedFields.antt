-- A field that was found by a guess at its place.
use Rattle.std.proofs.Common.{◌≡◌, ℕ, ◌∙◌, List, Some, option_map, map, ap}
use Rattle.std.specs.Prelude.{slice_get}
use Rattle.std.proofs.lemmas.Option.{slice_get-map}
use Rattle.tc_schema_model.specs.Counted.{Counted, AreFieldsOrdered}
use Rattle.tc_schema.specs.Places.{place_counted, field_counted, fields_counted}
use Rattle.tc_schema.specs.Search.{IsPlaceOf}
use Rattle.tc_schema.specs.declared.place.Field.{Field}
use Rattle.tc_schema.specs.declared.place.Field.TheViews.{out-Field}
use Rattle.tc_schema.proofs.PlaceViews.{field_parts}
use Rattle.tc_schema.proofs.PlacesOfFields.{place_from}

-- the field of a number stands where one that has this number does
pub stands_here : (n : ℕ) (fs : List Field) (at : ℕ) (f : Field) → AreFieldsOrdered 0 (fields_counted fs) → slice_get fs at ≡ Some f → (out-Field f).number ≡ n → IsPlaceOf n (map field_counted fs) at
stands_here n fs at f ordered there own =
    let d = place_counted (out-Field f).node.value in
    let here : slice_get (map field_counted fs) at ≡ Some (n, d) =
    slice_get-map field_counted fs at ∙ ap (option_map field_counted) there ∙ ap Some (field_parts f ∙ ap (λ m. let pair : ℕ × Counted = (m, d) in pair) own) in
    place_from 0 n d (map field_counted fs) at ordered here
