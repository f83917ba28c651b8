use Rattle.std.proofs.Common.{option_map}
use Rattle.tc_record.specs.WalkView.{key_of, piece_of}
use Rattle.tc_compact.specs.Meant.{key_meant, tokens_meant}
use Rattle.tc_path.proofs.Lawful.{token_holds}
use Rattle.tc_path.proofs.selecting.+selecting.Goals as goal

pub all_from-returns-in-len1-up-clause-lawful : goal.all_from-returns-in-len1-up-clause-lawful
all_from-returns-in-len1-up-clause-lawful t c = λ holds all.
    let names = c.args.names.now in
    c.all_hopped.ensures.lawful (token_holds (piece_of c.args.token.value) (option_map (key_meant names) (key_of c.args.token.label)) (tokens_meant names c.args.cursor.now) holds) all
