use Rattle.std.proofs.Common.{◌∙◌, ap, option_map}
use Rattle.tc_record.proofs.LevelsBehind.{length-behind_closes, levels_behind_close}
use Rattle.tc_compact.specs.Meant.{key_meant, levels_meant}
use Rattle.tc_record_text.proofs.skipping.skip_to_close.Goals as goal

pub returns-clause-behind : goal.returns-clause-behind
returns-clause-behind c = λ names. ap (levels_meant names) c.pass_to_close.ensures ∙ levels_behind_close (option_map (key_meant names)) c.args.cursor.now

pub returns-clause-shorter : goal.returns-clause-shorter
returns-clause-shorter c = rw c.pass_to_close.ensures (length-behind_closes 1 c.args.cursor.now)
