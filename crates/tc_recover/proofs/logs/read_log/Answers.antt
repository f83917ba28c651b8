use Rattle.tc_recover.proofs.LogSteps.{log_damage}
use Rattle.tc_recover.proofs.logs.read_log.Goals as goal

pub returns-in-Err-clause-causes : goal.returns-in-Err-clause-causes
returns-in-Err-clause-causes g c = let size = g.F.Frozen.size in log_damage (λ f. size f) c.args.log.now c.read_frames.result c.in-Err.fault c.of_read.result c.of_read.ensures c.read_frames.ensures.damaged c.in-Err.is
