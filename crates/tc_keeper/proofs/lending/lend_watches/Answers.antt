use Rattle.std.proofs.Common.{rules, ◌≡◌, ◌∙◌, ◌+◌, ◌++◌, ◌∷◌, [], length, length-append, append-nil, map, arith, refl, ap, sym, subst}
use Rattle.std.specs.Prelude.{is_some, true, None, Some}
use Rattle.std.specs.Vec.Iter.{into_iter_items}
use Rattle.std.proofs.lemmas.List.{nil_from_length}
use Rattle.tc_keeper.specs.Places.{AtEach, IsAt}
use Rattle.tc_keeper.specs.WithJobs.{with_reader, ReadsBy, WithJobs}
use Rattle.tc_shown.specs.declared.scan.Pass.{Pass}
use Rattle.tc_keeper.proofs.LendLoops.{lenses_more}
use Rattle.tc_keeper.proofs.Turns.{beside_all, beside_more, beside_none, is_at-there, turns_all, turns_by, turns_next, turns_none, turns_was, Beside, InTurn}
use Rattle.tc_keeper.proofs.lending.lend_watches.Goals as goal

pub loop-lens-init : goal.loop-lens-init
loop-lens-init g c =
    let none = c.requires.none.0 in
    let given = c.into_iter-lens-iterator.ensures.into_iter_gives.0 in
    let many = ap length given in
    let nothing = ap length none in
    record {
      counted = search rules;
      lenses = rw (none, given) refl;
      watches = subst (Beside (λ p e pass. Some pass.watch ≡ e.engine.part.reader) c.args.engines.now) (sym none) (beside_none (λ p (e : WithJobs _ _ _ _) (pass : Pass _ _). Some pass.watch ≡ e.engine.part.reader) c.args.engines.now);
      out = subst (InTurn (λ p old new. new ≡ with_reader None old) c.args.engines.now c.args.engines.now) (sym nothing) (turns_none (λ p old new. new ≡ with_reader None old) c.args.engines.now);
      filled = c.requires.none.1 ∙ sym nothing;
      room = omega (arith, c.requires.room, nothing, many);
      many = omega (arith, c.requires.as_many, nothing, many);
      held = λ only w h. h;
    }

pub lend_watch-watch-requires-clause-home : goal.lend_watch-watch-requires-clause-home
lend_watch-watch-requires-clause-home g c κs within =
    let l = c.loop-lens in
    let steps : into_iter_items l.lens-iterator ≡ c.in-Some.lens ∷ into_iter_items c.next.new.self = c.in-Some.ensures.steps.0 in
    let here : c.len.result ≡ length l.passes.items = c.len.ensures ∙ l.invariant.filled in
    subst (λ n. IsAt n l.engines (λ e. is_some e.engine.part.reader ≡ true)) (sym here)
    (turns_next (λ p old new. new ≡ with_reader None old) (λ e. is_some e.engine.part.reader ≡ true) c.args.engines.now l.engines (length l.passes.items) l.invariant.out (omega (arith, ap length steps, l.invariant.many, l.invariant.out.many)) c.requires.home)

pub loop-lens-preserved : goal.loop-lens-preserved
loop-lens-preserved g c =
    let l = c.loop-lens in
    let rest = into_iter_items c.next.new.self in
    let steps : into_iter_items l.lens-iterator ≡ c.in-Some.lens ∷ rest = c.in-Some.ensures.steps.0 in
    let fewer = ap length steps in
    let here : c.len.result ≡ length l.passes.items = c.len.ensures ∙ l.invariant.filled in
    let pass : Pass g.row.S-Frozen.Denot g.row.S-Watch.Denot = record { lens = c.in-Some.lens; watch = c.lend_watch-watch.result } in
    let more = c.push_reserved.ensures.items in
    let longer : length c.push_reserved.new.self.items ≡ length l.passes.items + 1 = ap length more ∙ length-append l.passes.items (pass ∷ []) in
    let lent = turns_was (λ p old new. new ≡ with_reader None old) (λ e. Some c.lend_watch-watch.result ≡ e.engine.part.reader) c.args.engines.now l.engines (length l.passes.items) l.invariant.out
    (subst (λ n. IsAt n l.engines (λ e. Some c.lend_watch-watch.result ≡ e.engine.part.reader)) here c.lend_watch-watch.ensures.lent) in
    record {
      counted = omega (arith, l.invariant.counted, c.in-Some.ensures.steps.1, fewer);
      lenses = lenses_more l.passes.items c.push_reserved.new.self.items pass (into_iter_items l.lens-iterator) rest c.args.lenses.items more steps l.invariant.lenses;
      watches = subst (Beside (λ p e pass. Some pass.watch ≡ e.engine.part.reader) c.args.engines.now) (sym more)
          (beside_more (λ p (e : WithJobs _ _ _ _) (pass : Pass _ _). Some pass.watch ≡ e.engine.part.reader) c.args.engines.now l.passes.items pass
          (λ e is. is_at-there (λ (e : WithJobs _ _ _ _). Some c.lend_watch-watch.result ≡ e.engine.part.reader) (length l.passes.items) c.args.engines.now e lent is) l.invariant.watches);
      out = subst (InTurn (λ p old new. new ≡ with_reader None old) c.args.engines.now c.lend_watch-watch.new.self) (sym longer)
          (turns_by (λ p old new. new ≡ with_reader None old) (with_reader None) c.args.engines.now l.engines c.lend_watch-watch.new.self (length l.passes.items) l.invariant.out (λ o. refl)
          (subst (λ n. AtEach (ReadsBy n None) 0 l.engines c.lend_watch-watch.new.self) here c.lend_watch-watch.ensures.out));
      filled = omega (arith, c.push_reserved.ensures.len, l.invariant.filled, longer);
      room = omega (arith, l.invariant.room, c.push_reserved.ensures.capacity, longer, fewer);
      many = omega (arith, l.invariant.many, longer, fewer);
      held = λ only w h. c.lend_watch-watch.ensures.held only w (l.invariant.held only w h);
    }

pub returns-clause-lenses : goal.returns-clause-lenses
returns-clause-lenses g c =
    let l = c.loop-lens in
    let lens_of = λ (pass : Pass g.row.S-Frozen.Denot g.row.S-Watch.Denot). pass.lens in
    let nothing : into_iter_items l.lens-iterator ≡ [] = nil_from_length (into_iter_items l.lens-iterator) (sym l.invariant.counted ∙ c.in-None.ensures.steps.0) in
    sym (append-nil (map lens_of l.passes.items)) ∙ ap (λ ls. map lens_of l.passes.items ++ ls) (sym nothing) ∙ l.invariant.lenses

pub returns-clause-watches : goal.returns-clause-watches
returns-clause-watches g c =
    let l = c.loop-lens in
    let nothing : length (into_iter_items l.lens-iterator) ≡ 0 = sym l.invariant.counted ∙ c.in-None.ensures.steps.0 in
    beside_all (λ p (e : WithJobs _ _ _ _) (pass : Pass _ _). Some pass.watch ≡ e.engine.part.reader) c.args.engines.now l.passes.items (omega (arith, l.invariant.many, nothing)) l.invariant.watches

pub returns-clause-out : goal.returns-clause-out
returns-clause-out g c =
    let l = c.loop-lens in
    let nothing : length (into_iter_items l.lens-iterator) ≡ 0 = sym l.invariant.counted ∙ c.in-None.ensures.steps.0 in
    turns_all (λ p old new. new ≡ with_reader None old) c.args.engines.now l.engines (length l.passes.items) l.invariant.out (omega (arith, l.invariant.out.many, l.invariant.many, nothing))
