use Rattle.tc_recover.specs.Refusals.{asked}
use Rattle.tc_recover.proofs.HeadSteps.{component_cause, log_cause}
use Rattle.tc_recover.proofs.heads.judge_head.Goals as goal

pub returns-in-Err-clause-causes : goal.returns-in-Err-clause-causes
returns-in-Err-clause-causes g c =
    component_cause _ (asked c.args.part) c.args.file.now c.in-Component.from c.in-Component.to c.read_head.result c.in-Err.fault c.of_read.result c.requires c.in-Component.is c.of_read.ensures c.read_head.ensures.damaged c.in-Err.is

pub returns-in-Err-read_log_head-clause-causes : goal.returns-in-Err-read_log_head-clause-causes
returns-in-Err-read_log_head-clause-causes g c =
    log_cause _ (asked c.args.part) c.args.file.now c.in-Log.generation c.read_log_head.result c.in-Err-read_log_head.fault c.of_read-in-Err-read_log_head.result c.requires c.in-Log.is c.of_read-in-Err-read_log_head.ensures
    c.read_log_head.ensures.damaged c.in-Err-read_log_head.is
