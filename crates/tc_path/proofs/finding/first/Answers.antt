use Rattle.std.proofs.Common.{◌≡◌, ◌∙◌, Some, option_map, ap}
use Rattle.tc_path.specs.Reached.{value_at}
use Rattle.tc_path.proofs.Firsts.{first_of}
use Rattle.tc_path.proofs.finding.first.Goals as goal

pub returns-clause-first : goal.returns-clause-first
returns-clause-first c = λ d is.
    let names = c.args.names.now in
    let meant : value_at names c.cursor.result ≡ Some d = ap (value_at names) c.cursor.ensures ∙ c.document_meant.ensures.read c.args.of names d c.bytes-bytes.ensures.spells is in
    rw (← c.as_slice.ensures) (c.first_of_tokens.ensures.first ∙ ap (option_map (λ x. Some x)) (first_of _ (value_at names c.cursor.result) d meant))
