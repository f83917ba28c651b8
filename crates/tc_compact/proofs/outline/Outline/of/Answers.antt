use Rattle.std.proofs.Common.{◌∙◌}
use Rattle.tc_compact.proofs.Outlines.{tree_tags}
use Rattle.tc_compact.proofs.outline.Outline.of.Goals as goal

pub returns : goal.returns
returns c = λ n same. record { tags_are = c.tags.ensures ∙ tree_tags n c.args.from.now.tokens same; slots_are = c.slots.ensures n same }
