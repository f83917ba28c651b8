use Rattle.std.proofs.Common.{◌≡◌, ◌∙◌, ◌<◌, ◌≤◌, ℕ, length, arith, refl, sym, subst}
use Rattle.std.specs.Prelude.{slice_index_or}
use Rattle.std.specs.declared.alloc.Global.{Global}
use Rattle.std.specs.declared.vec.Vec.{Vec}
use Rattle.tc_log.specs.declared.write.Write.{Write}
use Rattle.std.proofs.lemmas.List.{length-set}
use Rattle.tc_keeper.specs.Showing.{IsReadAsBefore, StaysOwn}
use Rattle.tc_keeper.proofs.ShownWorlds.{Wrote}
use Rattle.tc_keeper.proofs.OwnShown.{failed_own}
use Rattle.tc_keeper.proofs.ShowLoops.{failed_read, stays_read, wrote_read, wrote_stays, wrote_there}
use Rattle.tc_keeper.proofs.Turns.{turns_all, turns_end, turns_more, turns_none, turns_some, set_other}
use Rattle.tc_keeper.proofs.showing.write_all.Goals as goal

pub loop-at-init : goal.loop-at-init
loop-at-init g c = record {
  turns = turns_none (Wrote c.args.frames.now.items) c.args.shown.now.items;
  frames = λ p frame from. refl;
  many = refl;
}

pub returns-clause-wrote : goal.returns-clause-wrote
returns-clause-wrote g c =
    let l = c.loop-at in
    let ends : length l.shown.items ≤ l.at = let test = c.loop-at-test.false in let end = c.len-at-end.ensures in omega (arith, test, end, l.invariant.turns.many, c.args.shown.now.ok.0) in
    turns_all (Wrote c.args.frames.now.items) c.args.shown.now.items l.shown.items l.at l.invariant.turns ends

pub returns-clause-books : goal.returns-clause-books
returns-clause-books g c =
    let l = c.loop-at in
    turns_some (Wrote c.args.frames.now.items) (λ p old new. IsReadAsBefore old new) c.args.shown.now.items l.shown.items l.at (λ q o n is. wrote_read c.args.frames.now.items q o n is) (λ q o. stays_read o) l.invariant.turns

pub returns-clause-own : goal.returns-clause-own
returns-clause-own g c =
    let l = c.loop-at in
    let content = g.F.Frozen.content in
    turns_some (Wrote c.args.frames.now.items) (λ p old new. (number count : ℕ) → StaysOwn content number count old new) c.args.shown.now.items l.shown.items l.at
    (λ q o n is. wrote_stays content c.args.frames.now.items q o n is) (λ q o number count own. own) l.invariant.turns

pub returns-in_err-write-clause-own : goal.returns-in_err-write-clause-own
returns-in_err-write-clause-own g c =
    let l = c.loop-at in
    let content = g.F.Frozen.content in
    let below : l.at < length l.shown.items = let test = c.loop-at-test.true in let end = c.len-at-end.ensures in omega (arith, test, end, l.invariant.turns.many, c.args.shown.now.ok.0) in
    turns_end (Wrote c.args.frames.now.items) (λ p old new. (number count : ℕ) → StaysOwn content number count old new) c.args.shown.now.items l.shown.items l.at c.index_mut-in-loop-at.result.now
    c.write.new.self (λ q o n is. wrote_stays content c.args.frames.now.items q o n is) (λ q o number count own. own) l.invariant.turns below c.index_mut-in-loop-at.ensures.value
    (λ number count. failed_own content number count c.index_mut-in-loop-at.result.now c.write.new.self c.in_err-write.ensures.failed)

pub returns-in_err-write-clause-books : goal.returns-in_err-write-clause-books
returns-in_err-write-clause-books g c =
    let l = c.loop-at in
    let below : l.at < length l.shown.items = let test = c.loop-at-test.true in let end = c.len-at-end.ensures in omega (arith, test, end, l.invariant.turns.many, c.args.shown.now.ok.0) in
    turns_end (Wrote c.args.frames.now.items) (λ p old new. IsReadAsBefore old new) c.args.shown.now.items l.shown.items l.at c.index_mut-in-loop-at.result.now
    c.write.new.self (λ q o n is. wrote_read c.args.frames.now.items q o n is) (λ q o. stays_read o) l.invariant.turns below c.index_mut-in-loop-at.ensures.value
    (failed_read c.index_mut-in-loop-at.result.now c.write.new.self c.in_err-write.ensures.failed)

pub loop-at-preserved : goal.loop-at-preserved
loop-at-preserved g c =
    let l = c.loop-at in
    let below : l.at < length l.shown.items = let test = c.loop-at-test.true in let end = c.len-at-end.ensures in omega (arith, test, end, l.invariant.turns.many, c.args.shown.now.ok.0) in
    let there = c.index_mut.ensures.value ∙ l.invariant.frames l.at c.index_mut.result.now (omega arith) in
    let framed = subst (λ (f : Vec Write Global). f ≡ slice_index_or c.args.frames.now.items l.at f) (sym c.replace-frame.ensures.value) there in
    record {
      turns = turns_more (Wrote c.args.frames.now.items) c.args.shown.now.items l.shown.items l.at c.index_mut-in-loop-at.result.now c.write.new.self l.invariant.turns below c.index_mut-in-loop-at.ensures.value
          (wrote_there c.args.frames.now.items l.at c.replace-frame.result c.index_mut-in-loop-at.result.now c.write.new.self (omega (arith, below, l.invariant.turns.many, c.requires.as_many)) framed c.in_ok-write.ensures.wrote);
      frames = λ p frame from. set_other l.frames.items l.at p c.replace-frame.new.dest frame (omega (arith, from)) ∙ l.invariant.frames p frame (omega (arith, from));
      many = length-set l.frames.items l.at c.replace-frame.new.dest ∙ l.invariant.many;
    }
