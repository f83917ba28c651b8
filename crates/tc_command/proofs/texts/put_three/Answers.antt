use Rattle.std.proofs.lemmas.Result.{on_ok_weaker}
use Rattle.tc_command.proofs.ReplyLemmas.{added, three_pieces}
use Rattle.tc_command.proofs.texts.put_three.Goals as goal

pub returns : goal.returns
returns c = on_ok_weaker c.extend_from_slice-3.result (λ last. three_pieces _ _ _ _ _ _ _ c.in_ok-extend_from_slice.ensures.items c.in_ok-extend_from_slice-2.ensures.items last) (added c.extend_from_slice-3.result _ _ _ c.extend_from_slice-3.ensures.items)
