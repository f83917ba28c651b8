use Rattle.std.proofs.Common.{◌-◌, All, sym, subst, arith}
use Rattle.tc_log.specs.Writes.{IsWrite}
use Rattle.tc_shown.proofs.NewestWrites.{all_of_one}
use Rattle.tc_view.specs.Changes.{writes_in}
use Rattle.tc_shown.proofs.newest.newest_written.Goals as goal

pub put_all_below-requires : goal.put_all_below-requires
put_all_below-requires c =
    let inside = c.loop-at.invariant.inside in
    let some = c.loop-at-test.true in
    record {
      stored = subst (λ ws. All IsWrite ws) (sym c.deref.ensures)
          (all_of_one IsWrite writes_in c.args.chunks.now (c.loop-at.at - 1) c.index-chunks-at.result (omega (arith, inside, some)) c.index-chunks-at.is c.requires.stored);
    }
