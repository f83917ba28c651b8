use Rattle.std.proofs.Common.{refl}
use Rattle.part_rows.proofs.Parts.{at_desk, fails_by, on_err, on_ok_both, same_by, same_wait}
use Rattle.part_rows.proofs.steps.sweep.Goals as goal

pub returns : goal.returns
returns c =
    let old = c.args.part.now in
    let new = c.sweep.new.self in
    at_desk c.sweep.result old new c.args.waiting c.args.waiting c.args.stands c.requires.desk
    (on_ok_both c.sweep.result _ _ _ c.sweep.ensures.same c.sweep.ensures.part (λ same part. record {
      jobs = same_by old new _ same refl refl refl;
      means = λ standing. let m = c.requires.desk.means standing c.requires.sound in (m.0, part m.0 m.1);
      waits = same_wait old new _ c.args.waiting same refl (c.requires.desk.staged c.requires.sound);
    }))
    (on_err c.sweep.result _ _ c.sweep.ensures.left (λ is. fails_by old new _ refl refl refl refl is))
