use Rattle.std.proofs.Common.{◌∙◌, ◌<◌, ◌≤◌, ◌+◌, ◌/◌, ◌^◌, [], ◌++◌, sym, ap, arith}
use Rattle.std.specs.Int.{bytes_high_first}
use Rattle.std.proofs.Math.Nat.{pow-le-pow_right}
use Rattle.tc_bits.specs.Bits.{Waiting, written}
use Rattle.tc_bits.proofs.Written.{ended}
use Rattle.tc_bits.proofs.writer.ColumnWriter.end.Goals as goal

pub filled-requires-clause-small : goal.filled-requires-clause-small
filled-requires-clause-small c =
    let s = c.self.inside in
    let below : s.waiting < 2 ^ s.bits = c.self.invariant.3 in
    let few : s.bits ≤ 32 = omega (arith, c.self.invariant.2) in
    let most : 2 ^ s.bits ≤ 2 ^ 32 = pow-le-pow_right (omega arith) few in
    omega (arith, below, most)

pub returns : goal.returns
returns c =
    let s = c.self.inside in
    c.in_ok-put_low.ensures
    ∙ ap (λ n. c.args.out.now.items ++ bytes_high_first ((s.bits + 7) / 8) n) c.filled.ensures
    ∙ ap (λ bs. c.args.out.now.items ++ bs) (sym (ended s.width s.waiting s.bits))
    ∙ ap (λ (v : Waiting). c.args.out.now.items ++ written v []) c.self.view_is
