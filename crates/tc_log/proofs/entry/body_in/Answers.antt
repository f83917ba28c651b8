use Rattle.std.proofs.Common.{◌≡◌, ◌∙◌, ◌<◌, ◌+◌, ◌-◌, [], ◌∷◌, ◌++◌, Some, option_map, ap, sym, refl, arith}
use Rattle.tc_bytes.specs.Codec.{any_order}
use Rattle.tc_bytes.specs.Reading.{◌>>=◌}
use Rattle.tc_bytes.proofs.Lists.{elements_more}
use Rattle.tc_log.specs.Reading.{entry_at}
use Rattle.tc_log.specs.Writes.{write_of}
use Rattle.tc_log.proofs.entry.body_in.Goals as goal

pub loop-preserved : goal.loop-preserved
loop-preserved c =
    let write = write_of (c.in-Some.key, option_map (λ r. r.now) c.in-Some.record) in
    let read : entry_at c.loop.rest.now ≡ Some (write, c.in-Some.behind.now) = ap (λ r. r >>= λ x. Some (write_of x.0, x.1)) (sym c.in-Some.ensures) in
    let left : 0 < c.args.count - c.loop.counter = let more = c.loop-test.true in omega arith in
    let fewer : c.args.count - (c.loop.counter + 1) ≡ c.args.count - c.loop.counter - 1 = omega arith in
    let pushed = c.in_ok-push.ensures.items ∙ ap (λ w. c.loop.writes.items ++ w ∷ []) c.in_ok-owned.ensures in
    record { reads = rw (pushed, fewer) (sym (elements_more any_order entry_at (c.args.count - c.loop.counter) c.loop.writes.items c.loop.rest.now write c.in-Some.behind.now left read refl) ∙ c.loop.invariant.reads) }
