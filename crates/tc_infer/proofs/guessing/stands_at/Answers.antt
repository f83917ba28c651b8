use Rattle.std.proofs.Common.{◌≡◌, ◌<◌, Some, is_some, unwrap_or, length, get_or, sym, ap, ◌∙◌, arith}
use Rattle.std.proofs.lemmas.Option.{slice_get-get_or}
use Rattle.tc_model.specs.Dictionary.{number_of, number}
use Rattle.tc_model.proofs.NameNumbers.{number_of-slice_get}
use Rattle.tc_schema.specs.declared.place.Field.TheViews.{out-Field}
use Rattle.tc_infer.proofs.GuessedFields.{stands_here}
use Rattle.tc_infer.proofs.guessing.stands_at.Goals as goal

-- the number of the field is that of the name
known_here : (c : goal.After-are_same) → c.in-Some.known.now ≡ c.args.name.now → number_of c.args.names.now c.args.name.now ≡ Some (out-Field (get_or c.args.fields.now c.args.at c.index-fields-at.result)).number
known_here c equal = number_of-slice_get c.args.names.now c.args.name.now (out-Field (get_or c.args.fields.now c.args.at c.index-fields-at.result)).number c.len-known.ensures.dictionary.distinct (sym c.in-Some.ensures.name ∙ ap Some equal)

pub returns-in-Some-clause-known : goal.returns-in-Some-clause-known
returns-in-Some-clause-known c = λ same. ap is_some (known_here c (c.are_same.ensures same))

pub returns-in-Some-clause-place : goal.returns-in-Some-clause-place
returns-in-Some-clause-place c = λ same.
    let names = c.args.names.now in
    let name = c.args.name.now in
    let fs = c.args.fields.now in
    let f = get_or fs c.args.at c.index-fields-at.result in
    let its_number : (out-Field f).number ≡ number names name = sym (ap (λ o. unwrap_or o 0) (known_here c (c.are_same.ensures same))) in
    let inside : c.args.at < length fs = omega (arith, c.if-at-fields.false) in
    stands_here (number names name) fs c.args.at f c.requires (slice_get-get_or fs c.args.at c.index-fields-at.result inside) its_number
