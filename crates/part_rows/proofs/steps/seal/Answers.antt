use Rattle.std.proofs.Common.{refl}
use Rattle.part_rows.proofs.Parts.{at_desk, fails_by, none_is, on_err, on_ok, same_by, same_wait}
use Rattle.part_rows.proofs.Writes.{nothing_waits}
use Rattle.part_rows.proofs.steps.seal.Goals as goal

pub seal-requires-clause-nothing_staged : goal.seal-requires-clause-nothing_staged
seal-requires-clause-nothing_staged c κs = nothing_waits c.args.part.now.staged c.args.waiting (c.requires.desk.staged c.requires.sound) c.requires.none_waits

pub seal-requires-clause-none_sealed : goal.seal-requires-clause-none_sealed
seal-requires-clause-none_sealed c κs = none_is c.args.part.now.sealed _ refl c.requires.none_sealed

pub seal-requires-clause-own : goal.seal-requires-clause-own
seal-requires-clause-own c κs = let m = c.requires.desk.means c.requires.standing c.requires.sound in c.parts_own_files.ensures.part _ m.0 m.1

pub returns : goal.returns
returns c =
    let old = c.args.part.now in
    let new = c.seal.new.self in
    at_desk c.seal.result old new c.args.waiting c.args.waiting c.args.stands c.requires.desk
    (on_ok c.seal.result _ _ c.seal.ensures.seals (λ seals. record {
      jobs = same_by old new _ seals.same refl refl refl;
      means = λ standing. let m = c.requires.desk.means standing c.requires.sound in (_, (seals.sealed m.0 m.1).0);
      waits = same_wait old new _ c.args.waiting seals.same refl (c.requires.desk.staged c.requires.sound);
    }))
    (on_err c.seal.result _ _ c.seal.ensures.left (λ is. fails_by old new _ refl refl refl refl is))
