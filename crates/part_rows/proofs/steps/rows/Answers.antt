use Rattle.std.proofs.Common.{refl, subst, sym}
use Rattle.part_rows.specs.Standing.{MemPart, Means}
use Rattle.part_rows.proofs.Parts.{at_desk, fails_by, on_err, on_ok, same_by, same_wait}
use Rattle.part_rows.proofs.steps.rows.Goals as goal

pub returns : goal.returns
returns c =
    let old = c.args.part.now in
    let new = c.rows.new.self in
    at_desk c.rows.result old new c.args.waiting c.args.waiting c.args.stands c.requires.desk
    (on_ok c.rows.result _ _ c.rows.ensures.same (λ same. record {
      jobs = same_by old new _ same refl refl refl;
      means = λ standing. subst (λ (p : MemPart). Means p) (sym same) (c.requires.desk.means standing c.requires.sound);
      waits = same_wait old new _ c.args.waiting same refl (c.requires.desk.staged c.requires.sound);
    }))
    (on_err c.rows.result _ _ c.rows.ensures.left (λ is. fails_by old new _ refl refl refl refl is))
