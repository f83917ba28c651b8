use Rattle.std.proofs.Common.{◌≡◌, ◌∙◌, ◌+◌, ◌*◌, ◌^◌, nat_lt, true, length, sym}
use Rattle.tc_names.specs.Longest.{longest_of}
use Rattle.tc_record.specs.Record.{labels, texts}
use Rattle.tc_alike.proofs.Bounds.{short_by_bound}
use Rattle.tc_alike.proofs.bound.is_surely_short.Goals as goal

pub returns : goal.returns
returns c = λ short n tokens.
    let r = c.args.of.now in
    let names = c.args.names.now in
    let test : nat_lt (length r.bytes + (length (labels r.tokens) * (longest_of names + 4) + length (texts r.tokens) * 4)) (2 ^ 30) ≡ true =
    rw (← c.bytes-bytes.ensures.same, ← c.member_count.ensures, ← c.text_count.ensures, ← c.longest_name.ensures) (sym c.is_short_with_names.ensures ∙ short) in
    short_by_bound names r n c.bytes-bytes.ensures.spells tokens test
