-- The field at a place of a list of fields, and the steps of a path.
use Rattle.std.proofs.Common.{◌≡◌, ℕ, zero, suc, ◌+◌, ◌<◌, ◌≤◌, List, [], ◌∷◌, Some, length, map, get_or, drop, refl, sym, ap, ◌∙◌}
use Rattle.std.specs.Prelude.{slice_get}
use Rattle.tc_model.specs.Document.{Name}
use Rattle.tc_schema_model.specs.Occurrences.{Step, field, each_item, Path}
use Rattle.tc_model.specs.Kinds.{Kind}
use Rattle.tc_schema_model.specs.Counted.{Counted, nothing, counter, counters_of, place_at, shows}
use Rattle.tc_schema_model.proofs.CountingLaws.{shows_nothing}
use Rattle.tc_schema.specs.Places.{place_counted, field_counted}
use Rattle.tc_schema.specs.declared.place.Field.{Field}
use Rattle.tc_schema.specs.declared.place.Node.{Node}
use Rattle.tc_schema.specs.declared.place.Field.TheViews.{out-Field, out-Node}
use Rattle.tc_schema.specs.Paths.{step_meant, path_meant}
use Rattle.tc_value.specs.declared.names.Step as code
use Rattle.std.proofs.lemmas.List.{drop_more, drop_all}
use Rattle.tc_schema.proofs.PlaceViews.{field_parts, place_parts}

pub counted_at : (fs : List Field) (i : ℕ) (f : Field) (n : ℕ) (d : Counted) → slice_get (map field_counted fs) i ≡ Some (n, d) → place_counted (out-Field (get_or fs i f)).node.value ≡ d
counted_at [] i f n d here = cc
counted_at (g ∷ fs) zero f n d here =
    let pair : field_counted g ≡ (n, d) = cc in
    ap (λ p. p.1) (sym (field_parts g) ∙ pair)
counted_at (g ∷ fs) (suc i) f n d here = counted_at fs i f n d here

-- a path is a step and the rest
pub one_step : (names : List Name) (d : Counted) (step : Step) (path : Path) → place_at names d (step ∷ path) ≡ place_at names (place_at names d (step ∷ [])) path
one_step names d (field name) path = refl
one_step names d each_item path = refl

-- where a step leads to nothing, the path shows nothing
pub ended_at_nothing : (names : List Name) (place here : Counted) (path left rest : Path) (step : Step) (t : Kind)
    → place_at names here left ≡ place_at names place path → left ≡ step ∷ rest → place_at names here (step ∷ []) ≡ nothing → 0 ≡ shows names place path t
ended_at_nothing names place here path left rest step t leads parts none =
    sym (ap (λ d. counter (counters_of d) t) (sym leads ∙ ap (place_at names here) parts ∙ one_step names here step rest ∙ ap (λ d. place_at names d rest) none) ∙ shows_nothing names rest t)

-- the rest of a path, at the step that is taken
pub path_left : (path : List code.Step) (i : ℕ) (step : code.Step) → i < length path → step ≡ get_or path i step → path_meant (drop i path) ≡ step_meant step ∷ path_meant (drop (i + 1) path)
path_left path i step inside is = ap path_meant (drop_more path i step inside ∙ ap (λ s. s ∷ drop (i + 1) path) (sym is))

-- where nothing of the path is left, the place here is the place at the path
pub arrived : (names : List Name) (place : Counted) (here : Node) (path : List code.Step) (i : ℕ) (t : Kind) (n : ℕ)
    → place_at names (place_counted here) (path_meant (drop i path)) ≡ place_at names place (path_meant path) → length path ≤ i → n ≡ counter (out-Node here).counts t → n ≡ shows names place (path_meant path) t
arrived names place here path i t n leads done counts =
    let whole : place_at names (place_counted here) [] ≡ place_at names place (path_meant path) = ap (λ p. place_at names (place_counted here) (path_meant p)) (sym (drop_all i path done)) ∙ leads in
    counts ∙ ap (λ d. counter (counters_of d) t) (sym (place_parts here) ∙ whole)
