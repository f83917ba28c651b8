use Rattle.std.proofs.Common.{◌+◌, refl}
use Rattle.part_rows.proofs.Parts.{at_desk, fails_by, on_err, on_ok, on_ok_where, staged_goes_on}
use Rattle.part_rows.proofs.Writes.{for_frame, of_document}
use Rattle.part_rows.proofs.steps.stage.Goals as goal

pub stage-requires-clause-frame : goal.stage-requires-clause-frame
stage-requires-clause-frame c κs = for_frame c.args.part.now.staged c.args.write c.args.waiting c.requires.few (c.requires.desk.staged c.requires.sound) c.requires.write

pub returns : goal.returns
returns c =
    let old = c.args.part.now in
    let new = c.stage.new.self in
    let n = c.args.waiting in
    let w = of_document c.args.write c.requires.write in
    let means = on_ok_where c.stage.result _ _ (λ standing. let m = c.requires.desk.means standing c.requires.sound in on_ok c.stage.result _ _ (c.stage.ensures.staged m.0 w.plain m.1 w.storable w.is) (λ is. (_, is))) in
    at_desk c.stage.result old new n (n + 1) c.args.stands c.requires.desk
    (staged_goes_on c.stage.result c.args.write old new n c.args.stands c.requires.write (c.requires.desk.staged c.requires.sound) c.stage.ensures.same means)
    (on_err c.stage.result _ _ c.stage.ensures.left (λ is. fails_by old new _ refl refl refl refl is))
