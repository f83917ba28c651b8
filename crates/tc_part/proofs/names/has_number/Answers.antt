use Rattle.std.proofs.Common.{◌≡◌, Some, sym, ap, ◌∙◌}
use Rattle.std.proofs.lemmas.Slice.Eq.{bytes_eq-Decides}
use Rattle.tc_model.proofs.NameNumbers.{number_of-slice_get}
use Rattle.tc_part.proofs.names.has_number.Goals as goal

pub returns-in-Some : goal.returns-in-Some
returns-in-Some c = λ same.
    let names = c.args.names.now in
    let name = c.args.name.now in
    let equal : c.in-Some.known.now ≡ name = (bytes_eq-Decides c.in-Some.known.now name).0 (sym c.eq.ensures ∙ same) in
    number_of-slice_get names name c.args.number c.len-known.ensures.dictionary.distinct (sym c.in-Some.ensures.name ∙ ap Some equal)
