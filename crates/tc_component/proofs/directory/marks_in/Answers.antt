use Rattle.std.proofs.Common.{◌≡◌, ◌<◌, ◌≤◌, ◌+◌, ◌&&◌, nat_le, true, false, [], ◌∷◌, ◌++◌, length, sym, arith}
use Rattle.std.proofs.lemmas.Bool.Decides.{nat_tests}
use Rattle.tc_component.specs.Columns.{AreMarks}
use Rattle.tc_component.proofs.Marks.{none_read, one_read, no_slot, slot_refused, all_read}
use Rattle.tc_component.proofs.directory.marks_in.Goals as goal

pub loop-index-init : goal.loop-index-init
loop-index-init c = rw (c.in_ok-push.ensures.items, c.in_ok-marks.ensures.items) (none_read c.args.sizes.entries c.args.sizes.records c.args.bytes.now)

pub returns-in_default-clause-none : goal.returns-in_default-clause-none
returns-in_default-clause-none c = λ none.
    let l = c.loop-index in
    let more : l.index < c.args.sizes.entries = let test = c.loop-index-test.true in omega arith in
    no_slot c.args.sizes.entries c.args.sizes.records l.index l.low l.end c.args.bytes.now l.rest.now l.marks.items l.invariant more (sym c.in_default.ensures.slot)

pub returns-then-not-follows-clause-none : goal.returns-then-not-follows-clause-none
returns-then-not-follows-clause-none c = λ none.
    let l = c.loop-index in
    let more : l.index < c.args.sizes.entries = let test = c.loop-index-test.true in omega arith in
    let test : (nat_le l.low c.in-Some.slot.key && nat_le (l.end + c.in-Some.slot.length) c.args.sizes.records) ≡ false = let told = c.follows.ensures in let is = c.if-not-follows.true in cc in
    slot_refused c.args.sizes.entries c.args.sizes.records l.index l.low l.end c.args.bytes.now l.rest.now l.marks.items c.in-Some.slot c.in-Some.behind.now l.invariant more (sym c.in-Some.ensures.slot) test

pub loop-index-preserved : goal.loop-index-preserved
loop-index-preserved c =
    let l = c.loop-index in
    let is = l.invariant in
    let more : l.index < c.args.sizes.entries = let test = c.loop-index-test.true in omega arith in
    let test : (nat_le l.low c.in-Some.slot.key && nat_le (l.end + c.in-Some.slot.length) c.args.sizes.records) ≡ true = let told = c.follows.ensures in let is = c.if-not-follows.false in cc in
    let marks_are : AreMarks c.put_mark.new.marks.items (is.slots ++ c.in-Some.slot ∷ []) =
    c.in_ok-put_mark.ensures is.slots c.in-Some.slot (omega (arith, is.count_is)) (omega (arith, is.end_is, c.from-end.ensures)) is.marks_are in
    rw c.from-end.ensures
    (one_read c.args.sizes.entries c.args.sizes.records l.index l.low l.end c.args.bytes.now l.rest.now l.marks.items c.in-Some.slot c.in-Some.behind.now c.put_mark.new.marks.items is more (sym c.in-Some.ensures.slot) test marks_are)

pub returns-clause-marked : goal.returns-clause-marked
returns-clause-marked c =
    let l = c.loop-index in
    let done : c.args.sizes.entries ≤ l.index = let test = c.loop-index-test.false in omega arith in
    let none : length l.rest.now ≡ 0 = let told = c.is_empty.ensures in let is = c.if-not-is_empty.false in grind (arith, nat_tests) in
    let all : l.end ≡ c.args.sizes.records = let is = c.if-end-sizes.false in omega arith in
    all_read c.args.sizes l.index l.low l.end c.args.bytes.now l.rest.now l.marks.items l.invariant done none all (λ i. (c.type_inv.bytes i).fits)
