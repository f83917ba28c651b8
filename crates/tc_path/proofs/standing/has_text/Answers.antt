use Rattle.std.proofs.Common.{◌≡◌, None, Some, sym}
use Rattle.tc_bytes.specs.Reading.{bytes_at}
use Rattle.tc_record.specs.Record.{texts}
use Rattle.tc_path.proofs.Spots.{text_there, text_passed}
use Rattle.tc_path.proofs.standing.has_text.Goals as goal

pub returns-in_default-slice_at : goal.returns-in_default-slice_at
returns-in_default-slice_at c = λ own more at.
    let all = texts c.args.of.now.tokens in
    let none : bytes_at c.in-Some.len c.loop-len.rest.now ≡ None = sym c.in_default-slice_at.ensures in
    absurd (text_there all c.args.which c.loop-len.left c.loop-len.lengths c.loop-len.rest.now c.in-Some.len c.next.new.self c.loop-len.invariant c.in-Some.ensures.some none)

pub loop-len-preserved : goal.loop-len-preserved
loop-len-preserved c =
    let all = texts c.args.of.now.tokens in
    let read : bytes_at c.in-Some.len c.loop-len.rest.now ≡ Some (c.in-Some-slice_at.own.now, c.in-Some-slice_at.more.now) = sym c.in-Some-slice_at.ensures in
    text_passed all c.args.which c.loop-len.left c.loop-len.lengths c.loop-len.rest.now c.in-Some.len c.next.new.self _ _ c.loop-len.invariant c.in-Some.ensures.some read c.if-left-eq0.false
