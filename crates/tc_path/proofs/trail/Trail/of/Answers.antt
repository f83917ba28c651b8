use Rattle.std.proofs.Common.{◌∙◌, None, ap}
use Rattle.tc_record.specs.Preorder.{tokens_of}
use Rattle.tc_record.specs.Record.{tags}
use Rattle.tc_record.specs.Walk.{number}
use Rattle.tc_record.proofs.Keyed.{preorder-relabel, tags-retoken}
use Rattle.tc_path.proofs.trail.Trail.of.Goals as goal

pub returns-clause-trail : goal.returns-clause-trail
returns-clause-trail c = λ n same. record {
  tags_are = c.tags.ensures ∙ ap tags (same ∙ preorder-relabel number n None) ∙ tags-retoken number (tokens_of n);
  slots_are = c.slots.ensures n same;
}
