use Rattle.std.proofs.Common.{◌≡◌, ◌≢◌, IsTrue, is_some, map, Some, unwrap_or, sym, ap, ◌∙◌, subst}
use Rattle.std.specs.Prelude.{slice_get, slice_set, IfOk, IsOk}
use Rattle.tc_model.specs.Dictionary.{number_of, number}
use Rattle.tc_record.specs.WalkView.{key_of}
use Rattle.tc_schema_model.specs.Counted.{Counted, nothing, field_at}
use Rattle.tc_schema_model.specs.Added.{put_field}
use Rattle.tc_schema.specs.Places.{field_counted, fields_counted, listed}
use Rattle.tc_infer.specs.Levels.{name_under}
use Rattle.tc_infer.proofs.guessing.place_of_label.Goals as goal

-- ---- by the number that the label carries

pub returns-in-Some-clause-here : goal.returns-in-Some-clause-here
returns-in-Some-clause-here c =
    let fields = fields_counted c.args.fields.now.items in
    let own : c.in-Some.number ≡ number c.args.names.now (name_under c.args.names.now (key_of c.args.label)) = sym (ap (λ o. unwrap_or o 0) c.in-Some.ensures.some) in
    subst (λ n. IfOk c.place_of_number.result (λ i. slice_get (map field_counted c.place_of_number.new.fields.items) i ≡ Some (n, field_at n fields))) own c.place_of_number.ensures.here

pub returns-in-Some-clause-sure : goal.returns-in-Some-clause-sure
returns-in-Some-clause-sure c =
    let own : c.in-Some.number ≡ number c.args.names.now (name_under c.args.names.now (key_of c.args.label)) = sym (ap (λ o. unwrap_or o 0) c.in-Some.ensures.some) in
    subst (λ n. field_at n (fields_counted c.args.fields.now.items) ≢ nothing → IsOk c.place_of_number.result) own c.place_of_number.ensures.sure

pub returns-in-Some-clause-written : goal.returns-in-Some-clause-written
returns-in-Some-clause-written c =
    let fields = fields_counted c.args.fields.now.items in
    let own : c.in-Some.number ≡ number c.args.names.now (name_under c.args.names.now (key_of c.args.label)) = sym (ap (λ o. unwrap_or o 0) c.in-Some.ensures.some) in
    subst (λ n. IfOk c.place_of_number.result (λ i. (d : Counted) → listed (slice_set (map field_counted c.place_of_number.new.fields.items) i (n, d)) ≡ put_field n d fields)) own c.place_of_number.ensures.written

-- ---- by the name

-- the name that the label is, where it carries no number of one
pub place_by_guess-requires-clause-known : goal.place_by_guess-requires-clause-known
place_by_guess-requires-clause-known c = subst (λ name. IsTrue (is_some (number_of c.args.names.now name))) (c.in-None.ensures.none ∙ sym c.name_in.ensures) c.requires.known

pub returns-in-None-clause-here : goal.returns-in-None-clause-here
returns-in-None-clause-here c =
    let fields = fields_counted c.args.fields.now.items in
    let names = c.args.names.now in
    subst (λ name. IfOk c.place_by_guess.result (λ i. slice_get (map field_counted c.place_by_guess.new.fields.items) i ≡ Some (number names name, field_at (number names name) fields))) (c.name_in.ensures ∙ sym c.in-None.ensures.none)
    c.place_by_guess.ensures.here

pub returns-in-None-clause-sure : goal.returns-in-None-clause-sure
returns-in-None-clause-sure c =
    subst (λ name. field_at (number c.args.names.now name) (fields_counted c.args.fields.now.items) ≢ nothing → IsOk c.place_by_guess.result) (c.name_in.ensures ∙ sym c.in-None.ensures.none) c.place_by_guess.ensures.sure

pub returns-in-None-clause-written : goal.returns-in-None-clause-written
returns-in-None-clause-written c =
    let fields = fields_counted c.args.fields.now.items in
    let names = c.args.names.now in
    subst (λ name. IfOk c.place_by_guess.result (λ i. (d : Counted) → listed (slice_set (map field_counted c.place_by_guess.new.fields.items) i (number names name, d)) ≡ put_field (number names name) d fields))
    (c.name_in.ensures ∙ sym c.in-None.ensures.none) c.place_by_guess.ensures.written
