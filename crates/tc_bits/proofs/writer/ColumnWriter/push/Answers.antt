use Rattle.std.proofs.Common.{◌≡◌, ◌∙◌, ◌<◌, ◌+◌, ◌-◌, ◌/◌, ◌%◌, ◌^◌, ◌∷◌, ◌++◌, sym, ap, subst, arith}
use Rattle.std.specs.Int.{bytes_high_first}
use Rattle.tc_bits.specs.Bits.{Waiting, written}
use Rattle.tc_bits.proofs.Joined.{AreBelow}
use Rattle.tc_bits.proofs.Written.{joined_below, pushed_four, pushed_none}
use Rattle.tc_bits.proofs.writer.ColumnWriter.push.Goals as goal

pub invariant_of-self : goal.invariant_of-self
invariant_of-self c =
    let s = c.self.inside in
    let fits : c.args.number < 2 ^ s.width = subst (λ w. c.args.number < 2 ^ w) (sym (ap (λ (v : Waiting). v.width) c.self.view_is)) c.requires.fits in
    (c.self.invariant.0, c.self.invariant.1, c.if-bits-lt32.true, subst (λ n. n < 2 ^ (s.bits + s.width)) (sym c.with_number-waiting.ensures) (joined_below s.waiting s.bits s.width c.args.number c.self.invariant.3 fits))

pub returns-then-bits-lt32-clause-written : goal.returns-then-bits-lt32-clause-written
returns-then-bits-lt32-clause-written c = λ ns each.
    let s = c.self.inside in
    let width : s.width ≡ c.args.self.now.width = ap (λ (v : Waiting). v.width) c.self.view_is in
    let below : AreBelow s.width ns = subst (λ w. AreBelow w ns) (sym width) each in
    let fits : c.args.number < 2 ^ s.width = subst (λ w. c.args.number < 2 ^ w) (sym width) c.requires.fits in
    ap (λ bs. c.args.out.now.items ++ bs)
    (ap (λ n. written (record { width = s.width; number = n; bits = s.bits + s.width }) ns) c.with_number-waiting.ensures
    ∙ pushed_none s.width s.waiting s.bits c.args.number ns c.self.invariant.3 fits below
    ∙ ap (λ (v : Waiting). written v (c.args.number ∷ ns)) c.self.view_is)

pub put_four-requires-clause-small : goal.put_four-requires-clause-small
put_four-requires-clause-small c =
    let s = c.self.inside in
    let fits : c.args.number < 2 ^ s.width = subst (λ w. c.args.number < 2 ^ w) (sym (ap (λ (v : Waiting). v.width) c.self.view_is)) c.requires.fits in
    let all : s.bits + s.width ≡ 32 + (s.bits + s.width - 32) = omega (arith, c.if-bits-lt32.false) in
    subst (λ b. c.with_number-waiting.result < 2 ^ b) all (subst (λ n. n < 2 ^ (s.bits + s.width)) (sym c.with_number-waiting.ensures) (joined_below s.waiting s.bits s.width c.args.number c.self.invariant.3 fits))

pub returns-clause-written : goal.returns-clause-written
returns-clause-written c = λ ns each.
    let s = c.self.inside in
    let rest = s.bits + s.width - 32 in
    let below : AreBelow s.width ns = subst (λ w. AreBelow w ns) (sym (ap (λ (v : Waiting). v.width) c.self.view_is)) each in
    ap (λ n. c.put_four.new.out.items ++ written (record { width = s.width; number = n; bits = rest }) ns) (c.lowest-self-inside.ensures ∙ ap (λ n. n % 2 ^ rest) c.with_number-waiting.ensures)
    ∙ pushed_four s.width s.waiting s.bits c.args.number c.args.out.now.items c.put_four.new.out.items ns (omega (arith, c.if-bits-lt32.false))
    (c.in_ok-put_four.ensures ∙ ap (λ n. c.args.out.now.items ++ bytes_high_first 4 (n / 2 ^ rest)) c.with_number-waiting.ensures) below
    ∙ ap (λ (v : Waiting). c.args.out.now.items ++ written v (c.args.number ∷ ns)) c.self.view_is
