use Rattle.std.proofs.Common.{◌≡◌, ◌++◌, drop}
use Rattle.serde_json.specs.Data.{array}
use Rattle.serde_json.specs.Written.{compact_text, items_text}
use Rattle.tc_request_model.specs.Reply.{counts_data}
use Rattle.tc_command.proofs.document_lines.put_counts.Given as goal

abbrev pub invariant-loop-upto : goal.invariant-loop-upto
invariant-loop-upto l = l.out.items ++ items_text l.later (counts_data (drop l.upto-index l.counts)) ≡ l.fn.out.items ++ compact_text (array (counts_data l.counts))
