use Rattle.std.proofs.Common.{◌≡◌, ◌++◌, false, drop}
use Rattle.serde_json.specs.Written.{items_text}
use Rattle.tc_verdicts.specs.Lines.{files_data}
use Rattle.tc_verdicts.proofs.reasons.put_file_items.Given as goal

abbrev pub invariant-loop-file : goal.invariant-loop-file
invariant-loop-file l = l.out.items ++ items_text l.later (files_data (drop l.file-index l.files)) ≡ l.fn.out.items ++ items_text false (files_data l.files)
