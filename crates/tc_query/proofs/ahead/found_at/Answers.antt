use Rattle.std.proofs.Common.{◌∙◌, sym}
use Rattle.tc_query.proofs.AheadKeys.{absent_at, other_first, first_within}
use Rattle.tc_query.proofs.ahead.found_at.Goals as goal

pub returns-then-ne : goal.returns-then-ne
returns-then-ne g c =
    absent_at c.args.component.now.index.slots c.args.at c.args.key c.file_len-lawful.ensures.lawful.ascend c.requires.ahead c.requires.from
    (λ same. other_first c.key_at.result c.args.key (sym c.ne.ensures ∙ c.if-ne.true) (c.key_at.ensures ∙ same))

pub entry-requires-after_bounds : goal.entry-requires-after_bounds
entry-requires-after_bounds g c = λ κs lives. first_within c.args.component.now.index.slots c.args.at c.args.key c.key_at.result c.key_at.ensures (sym c.ne.ensures ∙ c.if-ne.false)
