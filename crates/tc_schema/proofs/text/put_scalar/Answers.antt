use Rattle.std.proofs.Common.{[], ◌∷◌, codes}
use Rattle.json.specs.Print.{quoted}
use Rattle.tc_schema.specs.Values.{named_text}
use Rattle.tc_schema.proofs.PlaceTexts.{kind_put, named_is}
use Rattle.tc_schema.proofs.text.put_scalar.Goals as goal

pub returns-clause-text : goal.returns-clause-text
returns-clause-text c =
    let kind = c.args.kind.now in
    kind_put c.args.later c.args.count (named_text kind c.args.count) _ _ _ _ _ (codes ",\"kind\":") (quoted kind) (125 ∷ []) c.if-count-eq0.false (named_is kind c.args.count)
    c.in_ok-put_count.ensures c.in_ok-extend_from_slice.ensures.items c.in_ok-put_quoted.ensures c.in_ok-put_mark.ensures
