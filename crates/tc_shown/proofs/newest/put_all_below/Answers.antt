use Rattle.std.proofs.Common.{◌∙◌, ◌++◌, sym, ap, drop, arith}
use Rattle.tc_shown.specs.Newest.{newest_of}
use Rattle.tc_shown.proofs.NewestWrites.{from_get}
use Rattle.tc_shown.proofs.newest.put_all_below.Goals as goal

pub loop-at-preserved : goal.loop-at-preserved
loop-at-preserved c =
    let inside = c.loop-at.invariant.inside in
    record {
      inside = omega (arith, inside);
      newest = λ newer same.
          c.in_ok-put_below.ensures (drop c.loop-at.at c.args.chunk.now ++ newer) (c.loop-at.invariant.newest newer same)
          ∙ ap (λ ws. newest_of (ws ++ newer)) (sym (from_get c.args.chunk.now c.loop-at.at _ c.loop-at-test.true c.write-key.ensures));
    }
