use Rattle.std.proofs.Common.{◌≡◌, ◌∙◌, ◌≤◌, ◌<◌, ◌+◌, ◌-◌, ◌*◌, ◌/◌, ◌^◌, [], ◌∷◌, ◌++◌, max, sym, ap, subst, arith}
use Rattle.std.specs.List.{sum}
use Rattle.tc_bits.specs.Bits.{bits_at}
use Rattle.tc_record.specs.NumbersLeft.{elements_from, IsSeen}
use Rattle.tc_record.specs.Record.{greatest}
use Rattle.tc_record.proofs.Scans.{end_before, last_of, greatest_last, sum_last, one_width, lowest_seen, seen_on}
use Rattle.tc_record.proofs.totals.Totals.add_last.Goals as goal

pub loop-todo-preserved : goal.loop-todo-preserved
loop-todo-preserved c =
    let l = c.loop-todo in
    let i = l.invariant in
    let n = c.args.numbers.now in
    let w = n.width in
    let end = n.place + w * l.found.left in
    let one = c.with-found.ensures in
    let number = c.field_of-number.result in
    let ns = elements_from w n.place c.with-found.result.left n.bytes.now in
    let some : 0 < l.found.left = omega (arith, i.few) in
    let bits = one_width w l.todo (omega arith) in
    let within : w ≤ end = omega (arith, n.headed, n.most) in
    let least : 1 ≤ w = n.some (omega (arith, some, i.within)) in
    let read : number ≡ bits_at w (end - w) n.bytes.now = c.field_of-number.ensures ∙ lowest_seen l.window (w * l.todo) end w n.bytes.now i.seen least bits.0 within in
    let last : elements_from w n.place l.found.left n.bytes.now ≡ ns ++ (number ∷ []) = rw (read, one.left) (last_of w n.place l.found.left n.bytes.now some) in
    let most : greatest (elements_from w n.place l.found.left n.bytes.now) ≡ max number (greatest ns) = ap greatest last ∙ greatest_last ns number in
    let all : sum (elements_from w n.place l.found.left n.bytes.now) ≡ sum ns + number = ap sum last ∙ sum_last ns number in
    let seen : IsSeen (l.window / 2 ^ w) (w * (l.todo - 1)) (n.place + w * (l.found.left - 1)) n.bytes.now =
    subst (λ e. IsSeen (l.window / 2 ^ w) (w * (l.todo - 1)) e n.bytes.now) (sym (end_before w n.place l.found.left some))
    (subst (λ s. IsSeen (l.window / 2 ^ w) s (end - w) n.bytes.now) bits.1 (seen_on l.window (w * l.todo) end w n.bytes.now i.seen bits.0)) in
    record {
      few = omega (arith, one.left, i.few);
      within = omega (arith, one.left, i.within);
      left = omega (arith, one.left, i.few, i.left);
      seen = rw one.left seen;
      most = omega (arith, one.greatest, most, i.most);
      all = omega (arith, one.total, all, i.all);
    }
