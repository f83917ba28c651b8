-- An object that is the last one of its place fits where no field is left.
use Rattle.std.proofs.Common.{◌≡◌, ℕ, ◌-◌, ◌≤◌, ◌==◌, ◌&&◌, ◌||◌, Bool, true, false, nat_lt, List, [], ◌∷◌, length, map, refl, sym, ap, ◌∙◌, arith}
use Rattle.std.proofs.lemmas.Bool.{ne_eqb, le-ltb}
use Rattle.std.proofs.lemmas.List.{length-map}
use Rattle.tc_model.specs.Tree.{object, Members}
use Rattle.tc_model.specs.Document.{Name, ShapeTree, ScalarKind}
use Rattle.tc_schema_model.specs.Counted.{Counted}
use Rattle.tc_schema_model.specs.Added.{members_removed}
use Rattle.tc_schema_model.specs.Fits.{is_no_fields, is_fit, are_members_fit}
use Rattle.tc_schema.specs.Places.{place_counted, field_counted, fields_counted, listed}
use Rattle.tc_schema.specs.declared.place.Node.{Node}
use Rattle.tc_schema.specs.declared.place.Field.{Field}
use Rattle.tc_schema.specs.declared.place.Field.TheViews.{out-Node}
use Rattle.tc_schema.proofs.PlaceViews.{place_parts}

none_listed : (fs : List (ℕ × Counted)) → (length fs == 0) ≡ is_no_fields (listed fs)
none_listed [] = refl
none_listed (f ∷ fs) = ne_eqb (length (f ∷ fs)) 0 (λ none. omega (arith, none))

last_test : (a b c x : Bool) → a ≡ true → b ≡ true → c ≡ false → (a && (b && (c || x))) ≡ x
last_test a b c x first second third = ap (λ a. a && (b && (c || x))) first ∙ ap (λ b. b && (c || x)) second ∙ ap (λ c. c || x) third

pub last_object : (names : List Name) (ms : Members Name ScalarKind) (s : ShapeTree) (p : Node) (left : List Field) (empty : Bool) → s ≡ object ms → nat_lt 0 (out-Node p).counts.objects ≡ true
    → are_members_fit names ms (fields_counted (out-Node p).fields.items) ≡ true → fields_counted left ≡ members_removed names ms (fields_counted (out-Node p).fields.items) → (out-Node p).counts.objects - 1 ≤ 0 → empty ≡ (length left == 0)
    → empty ≡ is_fit names s (place_counted p)
last_object names ms s p left empty whole some fit taken last told =
    let fs = fields_counted (out-Node p).fields.items in
    let n = (out-Node p).counts.objects in
    told
    ∙ ap (λ k. k == 0) (sym (length-map left field_counted))
    ∙ none_listed (map field_counted left)
    ∙ ap is_no_fields taken
    ∙ sym (last_test (nat_lt 0 n) (are_members_fit names ms fs) (nat_lt 1 n) (is_no_fields (members_removed names ms fs)) some fit (le-ltb 1 n (omega (arith, last))))
    ∙ sym (ap (λ s. is_fit names s (place_counted p)) whole ∙ ap (is_fit names (object ms)) (place_parts p))
