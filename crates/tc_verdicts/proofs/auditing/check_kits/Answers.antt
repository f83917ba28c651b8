use Rattle.std.proofs.Common.{◌<◌, ◌∙◌, arith, ap}
use Rattle.std.proofs.lemmas.Result.{err_from_is_err_and}
use Rattle.tc_bytes.specs.Counts.{Rose}
use Rattle.tc_store.specs.KitFaults.{KitFaults}
use Rattle.tc_verdicts.proofs.Audits.{back_more, kit_ended, stands_first, stands_next, Comes}
use Rattle.tc_verdicts.proofs.auditing.check_kits.Goals as goal

pub loop-number-init : goal.loop-number-init
loop-number-init g c = record {
  stands = stands_first g.H.Store.Store.history g.H.Store.Watch.Watch.counts g.H.Store.Frozen.Frozen.content g.H.Shelf.files g.H.Shelf.kit_faults g.H.Shelf.faults c.args.partitions c.args.shelf.now c.args.kits.now.items c.new-lines.result.items c.requires.none c.new-lines.ensures.items;
  within = omega arith;
  room = c.requires.room;
}

pub loop-number-preserved : goal.loop-number-preserved
loop-number-preserved g c =
    let l = c.loop-number in
    let below : l.number < c.args.partitions = let test = c.loop-number-test.true in omega arith in
    let kept = c.in_ok-check_kit-in-Ok.ensures.kept in
    let said = c.in_ok-check_kit-in-Ok.ensures.verdict in
    let comes : Comes g.H.Store.Store.history g.H.Store.Watch.Watch.counts g.H.Shelf.files g.H.Shelf.kit_faults g.H.Shelf.faults l.number l.shelf c.kit.new.self c.in-Ok.kit = record {
      files_are = c.in-Ok.ensures.files;
      main = c.in-Ok.ensures.main;
      flusher = c.in-Ok.ensures.flusher;
      merger = c.in-Ok.ensures.merger;
      reader = c.in-Ok.ensures.reader;
      other_files = c.kit.ensures.other_files;
      other_faults = c.kit.ensures.other_faults;
      kept = c.kit.ensures.faults;
    } in
    record {
      stands = stands_next g.H.Store.Store.history g.H.Store.Watch.Watch.counts g.H.Store.Frozen.Frozen.content g.H.Shelf.files g.H.Shelf.kit_faults g.H.Shelf.faults c.args.partitions c.args.shelf.now
          l.shelf c.kit.new.self l.kits.items c.check_kit.new.kits.items l.lines.items c.check_kit.new.lines.items l.number c.in-Ok.kit kept.0 said.0 l.invariant.stands comes kept.1 kept.2 said.1 said.2;
      within = omega (arith, below);
      room = omega (arith, l.invariant.room, c.check_kit.ensures.room);
    }

pub returns-in_err-check_kit-in-Ok-clause-ended : goal.returns-in_err-check_kit-in-Ok-clause-ended
returns-in_err-check_kit-in-Ok-clause-ended g c =
    let l = c.loop-number in
    let p = err_from_is_err_and c.from_residual.result c.from_residual.ensures.1 in
    let below : l.number < c.args.partitions = let test = c.loop-number-test.true in omega arith in
    let kept = c.in_err-check_kit-in-Ok.ensures.kept in
    let main = ◌∙◌ {b = (g.H.Shelf.kit_faults l.shelf l.number).main} c.in-Ok.ensures.main (ap (λ (k : KitFaults). k.main) (l.invariant.stands.behind l.number (omega arith)).1) in
    rw (p.1, p.2) (kit_ended g.H.Store.Watch.Watch.counts c.args.partitions (g.H.Shelf.kit_faults c.args.shelf.now) (Rose (g.H.Shelf.faults c.args.shelf.now) (g.H.Shelf.faults c.kit.new.self)) l.kits.items c.check_kit.new.kits.items
    l.number c.in-Ok.kit kept.0 c.in_err-check_kit-in-Ok.field-0.0 below l.invariant.stands.many kept.1 main kept.3)

pub returns-in_err-check_kit-in-Ok-clause-given_back : goal.returns-in_err-check_kit-in-Ok-clause-given_back
returns-in_err-check_kit-in-Ok-clause-given_back g c =
    let l = c.loop-number in
    let kept = c.in_err-check_kit-in-Ok.ensures.kept in
    let comes : Comes g.H.Store.Store.history g.H.Store.Watch.Watch.counts g.H.Shelf.files g.H.Shelf.kit_faults g.H.Shelf.faults l.number l.shelf c.kit.new.self c.in-Ok.kit = record {
      files_are = c.in-Ok.ensures.files;
      main = c.in-Ok.ensures.main;
      flusher = c.in-Ok.ensures.flusher;
      merger = c.in-Ok.ensures.merger;
      reader = c.in-Ok.ensures.reader;
      other_files = c.kit.ensures.other_files;
      other_faults = c.kit.ensures.other_faults;
      kept = c.kit.ensures.faults;
    } in
    back_more g.H.Store.Store.history g.H.Store.Watch.Watch.counts g.H.Store.Frozen.Frozen.content g.H.Shelf.files g.H.Shelf.kit_faults g.H.Shelf.faults c.args.partitions c.args.shelf.now
    l.shelf c.kit.new.self l.kits.items c.check_kit.new.kits.items l.lines.items l.number c.in-Ok.kit kept.0 l.invariant.stands comes kept.1 kept.2
