use Rattle.std.proofs.Common.{◌≡◌, true, length, sym, ap, arith}
use Rattle.codec_bench.proofs.forms.form_of_numbers.Goals as goal

pub compact-requires-clause-room : goal.compact-requires-clause-room
compact-requires-clause-room c =
    let r = c.in-Some.record in
    let named : r.named ≡ true = sym c.if-not-named.ensures in
    omega (arith, c.names_agree.ensures.few r c.args.names.now c.in-Some.ensures.spells named, ap length c.in-Some.ensures.bytes, c.len.ensures.count, c.if-len-ge1000000.false, c.if-bytes-ge1000000.false)
