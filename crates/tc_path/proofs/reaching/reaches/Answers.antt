use Rattle.std.proofs.Common.{◌≡◌, ◌∙◌, Some, ap}
use Rattle.tc_value.specs.Meaning.{tree_of}
use Rattle.tc_path.specs.Reached.{value_at}
use Rattle.tc_path.proofs.Among.{from_known}
use Rattle.tc_path.proofs.reaching.reaches.Goals as goal

pub returns : goal.returns
returns c = λ d is.
    let names = c.args.names.now in
    let meant : value_at names c.cursor-cursor.result ≡ Some d = ap (value_at names) c.cursor-cursor.ensures ∙ c.document_meant.ensures.read c.args.of names d c.bytes-bytes.ensures.spells is in
    rw (← c.as_slice.ensures) (c.reaches_of_tokens.ensures.found ∙ from_known (tree_of c.args.doc.now) _ (value_at names c.cursor-cursor.result) d meant)
