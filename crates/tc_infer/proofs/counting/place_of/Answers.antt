use Rattle.std.proofs.Common.{ℕ, ◌≤◌, Some, length, map, set, sym, ap, ◌∙◌, subst}
use Rattle.std.specs.Prelude.{slice_get}
use Rattle.std.proofs.lemmas.List.{length-map}
use Rattle.tc_schema_model.specs.Counted.{Counted}
use Rattle.tc_schema.specs.Places.{place_counted, field_counted, listed}
use Rattle.tc_schema.specs.Search.{IsGapFor}
use Rattle.tc_schema.proofs.FieldWrites.{made_field, inserted_here, inserted_written}
use Rattle.tc_infer.proofs.counting.place_of.Goals as goal

gap : (c : goal.In_ok-insert-in-Err) → IsGapFor c.args.number (map field_counted c.args.fields.now.items) c.in-Err.gap
gap c = subst (λ fs. IsGapFor c.args.number (map field_counted fs) c.in-Err.gap) c.deref.ensures.value c.in-Err.ensures.missing

inside : (c : goal.In_ok-insert-in-Err) → c.in-Err.gap ≤ length c.args.fields.now.items
inside c = subst (λ n. c.in-Err.gap ≤ n) (length-map c.args.fields.now.items field_counted) (gap c).inside

pub returns-in_ok-insert-in-Err-clause-here : goal.returns-in_ok-insert-in-Err-clause-here
returns-in_ok-insert-in-Err-clause-here c =
    ap (λ fs. slice_get (map field_counted fs) c.in-Err.gap) c.in_ok-insert-in-Err.ensures.items
    ∙ inserted_here field_counted c.args.fields.now.items c.in-Err.gap _ (inside c)
    ∙ ap Some (made_field c.args.number _ _ (ap place_counted c.in_ok-node-in-Err.ensures.ok ∙ c.new.ensures ∙ sym (gap c).none))

pub returns-in_ok-insert-in-Err-clause-written : goal.returns-in_ok-insert-in-Err-clause-written
returns-in_ok-insert-in-Err-clause-written c = λ d.
    let one : ℕ × Counted = (c.args.number, d) in
    ap (λ fs. listed (set (map field_counted fs) c.in-Err.gap one)) c.in_ok-insert-in-Err.ensures.items
    ∙ ap listed (inserted_written field_counted c.args.fields.now.items c.in-Err.gap _ one (inside c))
    ∙ (gap c).filled d
