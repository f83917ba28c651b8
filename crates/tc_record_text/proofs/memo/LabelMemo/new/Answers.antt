use Rattle.tc_record_text.proofs.LabelLaws.{no_labels}
use Rattle.tc_record_text.proofs.memo.LabelMemo.new.Goals as goal

pub returns : goal.returns
returns c = λ names. rw c.new.ensures.items (no_labels names)
