use Rattle.std.proofs.Common.{◌<◌, length, get_or, arith}
use Rattle.std.proofs.lemmas.Bool.{eqb-true}
use Rattle.std.proofs.lemmas.Option.{slice_get-get_or}
use Rattle.tc_schema.specs.declared.place.Field.TheViews.{out-Field}
use Rattle.tc_infer.proofs.GuessedFields.{stands_here}
use Rattle.tc_infer.proofs.guessing.has_number_at.Goals as goal

pub returns : goal.returns
returns c = λ same.
    let fs = c.args.fields.now in
    let f = get_or fs c.args.at c.index-fields-at.result in
    let inside : c.args.at < length fs = omega (arith, c.if-at-fields.false) in
    stands_here c.args.number fs c.args.at f c.requires (slice_get-get_or fs c.args.at c.index-fields-at.result inside) (eqb-true (out-Field f).number c.args.number same)
