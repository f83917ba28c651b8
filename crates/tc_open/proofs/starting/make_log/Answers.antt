use Rattle.std.proofs.Common.{◌∙◌, ap, inr}
use Rattle.tc_store.specs.declared.file_name.FileName.TheVariants.{Log as log_name}
use Rattle.tc_log.specs.Appending.{created}
use Rattle.tc_open.proofs.CreatedLogs.{came_home, made_creates}
use Rattle.tc_open.proofs.starting.make_log.Goals as goal

pub returns-in-Ok-create-clause-created : goal.returns-in-Ok-create-clause-created
returns-in-Ok-create-clause-created g c =
    let head = c.args.head in
    let device = g.S.Device.Device.history c.in-Ok.device in
    let log = g.S.Device.Device.history c.in-Ok-create.log.device in
    record {
      creates = made_creates head (log_name head.generation) (g.S.Store.history c.args.kit.store) device log c.in-Ok.ensures.file c.in-Ok-create.ensures.moments (λ untold. c.in-Ok-create.ensures.created ∙ ap (created head) untold);
      content = c.in-Ok-create.ensures.content;
    }

pub returns-in-Err-create-clause-failed : goal.returns-in-Err-create-clause-failed
returns-in-Err-create-clause-failed g c =
    let name = log_name c.args.head.generation in
    let old = g.S.Store.history c.args.kit.store in
    let device = g.S.Device.Device.history c.in-Ok.device in
    let broken = g.S.Device.Device.history c.in-Err-create.broken.device in
    let begun = made_creates c.args.head name old device broken c.in-Ok.ensures.file c.in-Err-create.ensures.broken_moments c.in-Err-create.ensures.untold in
    let back = came_home name (g.S.Device.Device.name c.in-Err-create.broken.device) broken old (g.S.Store.history c.fresh.new.self) (g.S.Store.history c.abandon.new.self) c.abandon.ensures.home (c.in-Err-create.ensures.broken_name ∙ c.in-Ok.ensures.name) c.in-Ok.ensures.made in
    inr (broken, begun, back)
