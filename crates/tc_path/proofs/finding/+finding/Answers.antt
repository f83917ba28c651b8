use Rattle.std.proofs.Common.{map, option_map}
use Rattle.tc_command.specs.Asks.{hop_of}
use Rattle.tc_record.specs.WalkView.{key_of, piece_of}
use Rattle.tc_compact.specs.Meant.{key_meant, tokens_meant, levels_meant}
use Rattle.tc_record_text.specs.Left.{array_left, object_left}
use Rattle.tc_path.proofs.Firsts.{hop_then}
use Rattle.tc_path.proofs.Lawful.{token_holds}
use Rattle.tc_path.proofs.finding.+finding.Goals as goal

pub first_hopped-returns-in-Array-clause-found : goal.first_hopped-returns-in-Array-clause-found
first_hopped-returns-in-Array-clause-found t c =
    rw (c.in-Array.is, hop_then (hop_of c.args.hop.now) (map hop_of c.args.rest.now) (array_left (levels_meant c.args.names.now c.args.cursor.now))) c.first_in_array.ensures.found

pub first_hopped-returns-in-Object-clause-found : goal.first_hopped-returns-in-Object-clause-found
first_hopped-returns-in-Object-clause-found t c =
    rw (c.in-Object.is, hop_then (hop_of c.args.hop.now) (map hop_of c.args.rest.now) (object_left (levels_meant c.args.names.now c.args.cursor.now))) c.first_in_object.ensures.found

pub first_from-returns-in-len1-up-clause-lawful : goal.first_from-returns-in-len1-up-clause-lawful
first_from-returns-in-len1-up-clause-lawful t c = λ holds.
    let names = c.args.names.now in
    c.first_hopped.ensures.lawful (token_holds (piece_of c.args.token.value) (option_map (key_meant names) (key_of c.args.token.label)) (tokens_meant names c.args.cursor.now) holds)
