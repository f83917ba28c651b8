use Rattle.std.proofs.Common.{refl}
use Rattle.part_rows.proofs.Parts.{goes_on, same_by}
use Rattle.part_rows.proofs.Writes.{none_waits}
use Rattle.part_rows.proofs.steps.commit.Goals as goal

pub returns-clause-ok : goal.returns-clause-ok
returns-clause-ok c =
    let old = c.args.part.now in
    let new = c.commit.new.self in
    goes_on old new c.args.waiting 0 c.args.stands c.requires.desk (record {
      jobs = same_by old new _ c.in_ok-commit.ensures.same refl refl refl;
      means = λ standing. let m = c.requires.desk.means standing c.requires.sound in (_, (c.in_ok-commit.ensures.committed m.0 m.1).0);
      waits = none_waits new.staged 0 c.in_ok-commit.ensures.cleared;
    })
