use Rattle.std.proofs.Common.{rules, ◌≡◌, ◌∙◌, ◌+◌, ◌++◌, ◌∷◌, [], false, length, length-append, append-nil, arith, refl, ap, sym, subst}
use Rattle.std.specs.Prelude.{None, Some, slice_get}
use Rattle.std.specs.Vec.Iter.{into_iter_items}
use Rattle.std.proofs.lemmas.List.{nil_from_length}
use mathlib.Core.List.{IsPrefix}
use Rattle.tc_keeper.specs.Places.{AtEach, IsAt}
use Rattle.tc_keeper.specs.WithJobs.{with_reader, WithJobs}
use Rattle.tc_shown.specs.Shown.{ShownState}
use Rattle.tc_shown.specs.declared.scan.Pass.{Pass}
use Rattle.tc_view.specs.Places.{kept_by}
use Rattle.tc_keeper.proofs.LendLoops.{lens_reads, taken_below, taken_more, watch_back}
use Rattle.tc_keeper.proofs.Turns.{beside_all, beside_more, beside_none, there_is, turns_all, turns_by, turns_next, turns_none}
use Rattle.tc_keeper.proofs.lending.take_back.Goals as goal

pub loop-pass-init : goal.loop-pass-init
loop-pass-init g c = record {
  back = [];
  counted = search rules;
  passes = c.into_iter-pass-iterator.ensures.into_iter_gives.0;
  here = refl;
  covers = λ all. beside_none (λ p (s : ShownState _ _) (pass : Pass _ _). (s.failed ≡ false) × IsPrefix (kept_by pass.lens).history s.history) c.args.shown.now;
  home = turns_none (λ p old new. IsAt p c.args.passes.items (λ (pass : Pass _ _). new ≡ with_reader (Some pass.watch) old)) c.args.engines.now;
  held = λ only w h. h;
  kept = λ only w v h. h;
}

pub take_watch-requires-clause-out : goal.take_watch-requires-clause-out
take_watch-requires-clause-out g c κs within =
    let l = c.loop-pass in
    let rest = into_iter_items c.next.new.self in
    let steps : into_iter_items l.pass-iterator ≡ c.in-Some.pass ∷ rest = c.in-Some.ensures.steps.0 in
    let below = taken_below l.invariant.back (into_iter_items l.pass-iterator) rest c.args.passes.items c.in-Some.pass l.at l.invariant.here steps l.invariant.passes in
    turns_next (λ p old new. IsAt p c.args.passes.items (λ (pass : Pass _ _). new ≡ with_reader (Some pass.watch) old))
    (λ (e : WithJobs _ _ _ _). e.engine.part.reader ≡ None) c.args.engines.now l.engines l.at l.invariant.home
    (omega (arith, below, l.invariant.home.many, c.requires.as_many.0)) c.requires.out

pub bounds-shown-at : goal.bounds-shown-at
bounds-shown-at g c =
    let l = c.loop-pass in
    let rest = into_iter_items c.next.new.self in
    let steps : into_iter_items l.pass-iterator ≡ c.in-Some.pass ∷ rest = c.in-Some.ensures.steps.0 in
    let below = taken_below l.invariant.back (into_iter_items l.pass-iterator) rest c.args.passes.items c.in-Some.pass l.at l.invariant.here steps l.invariant.passes in
    omega (arith, below, c.requires.as_many.0, c.requires.as_many.1)

pub covers_too-covered-requires-clause-lens : goal.covers_too-covered-requires-clause-lens
covers_too-covered-requires-clause-lens g c κs within =
    let l = c.loop-pass in
    let rest = into_iter_items c.next.new.self in
    let steps : into_iter_items l.pass-iterator ≡ c.in-Some.pass ∷ rest = c.in-Some.ensures.steps.0 in
    let below = taken_below l.invariant.back (into_iter_items l.pass-iterator) rest c.args.passes.items c.in-Some.pass l.at l.invariant.here steps l.invariant.passes in
    let whole : l.invariant.back ++ c.in-Some.pass ∷ rest ≡ c.args.passes.items = ap (λ ps. l.invariant.back ++ ps) (sym steps) ∙ l.invariant.passes in
    let shown = there_is c.args.shown.now l.at c.index-shown-at.result (omega (arith, below, c.requires.as_many.0, c.requires.as_many.1)) c.index-shown-at.is in
    lens_reads c.args.shown.now l.invariant.back rest c.args.passes.items c.in-Some.pass c.index-shown-at.result l.at l.invariant.here whole shown c.requires.lenses

pub loop-pass-preserved : goal.loop-pass-preserved
loop-pass-preserved g c =
    let l = c.loop-pass in
    let pass = c.in-Some.pass in
    let rest = into_iter_items c.next.new.self in
    let steps : into_iter_items l.pass-iterator ≡ pass ∷ rest = c.in-Some.ensures.steps.0 in
    let below = taken_below l.invariant.back (into_iter_items l.pass-iterator) rest c.args.passes.items pass l.at l.invariant.here steps l.invariant.passes in
    let whole : l.invariant.back ++ pass ∷ rest ≡ c.args.passes.items = ap (λ ps. l.invariant.back ++ ps) (sym steps) ∙ l.invariant.passes in
    let shown = there_is c.args.shown.now l.at c.index-shown-at.result (omega (arith, below, c.requires.as_many.0, c.requires.as_many.1)) c.index-shown-at.is in
    record {
      back = l.invariant.back ++ pass ∷ [];
      counted = omega (arith, l.invariant.counted, c.in-Some.ensures.steps.1, ap length steps);
      passes = taken_more l.invariant.back (into_iter_items l.pass-iterator) rest c.args.passes.items pass steps l.invariant.passes;
      here = omega (arith, l.invariant.here, length-append l.invariant.back (pass ∷ []));
      covers = λ all. beside_more (λ p (s : ShownState _ _) (pass : Pass _ _). (s.failed ≡ false) × IsPrefix (kept_by pass.lens).history s.history) c.args.shown.now l.invariant.back pass
          (λ s is. let is_at : slice_get c.args.shown.now l.at ≡ Some s = subst (λ n. slice_get c.args.shown.now n ≡ Some s) (sym l.invariant.here) is in
          let same : c.index-shown-at.result ≡ s = (cc) in
          subst (λ (s : ShownState _ _). (s.failed ≡ false) × IsPrefix (kept_by pass.lens).history s.history) same (c.covers_too-covered.ensures.works all, c.covers_too-covered.ensures.begins all))
          (l.invariant.covers (c.covers_too-covered.ensures.others all));
      home = turns_by (λ p old new. IsAt p c.args.passes.items (λ (pass : Pass _ _). new ≡ with_reader (Some pass.watch) old)) (with_reader (Some pass.watch))
          c.args.engines.now l.engines c.take_watch.new.self l.at l.invariant.home
          (λ e. watch_back l.invariant.back rest c.args.passes.items pass l.at l.invariant.here whole e) c.take_watch.ensures.home;
      held = λ only w h. c.take_watch.ensures.held only w (l.invariant.held only w h);
      kept = λ only w v h. c.take_watch.ensures.kept only w v (l.invariant.kept only w v h);
    }

pub returns-clause-covers : goal.returns-clause-covers
returns-clause-covers g c =
    let l = c.loop-pass in
    let nothing : into_iter_items l.pass-iterator ≡ [] = nil_from_length (into_iter_items l.pass-iterator) (sym l.invariant.counted ∙ c.in-None.ensures.steps.0) in
    let same : l.invariant.back ≡ c.args.passes.items = sym (append-nil l.invariant.back) ∙ ap (λ ps. l.invariant.back ++ ps) (sym nothing) ∙ l.invariant.passes in
    λ all. subst (AtEach (λ p (s : ShownState _ _) (pass : Pass _ _). (s.failed ≡ false) × IsPrefix (kept_by pass.lens).history s.history) 0 c.args.shown.now) same
    (beside_all (λ p (s : ShownState _ _) (pass : Pass _ _). (s.failed ≡ false) × IsPrefix (kept_by pass.lens).history s.history) c.args.shown.now l.invariant.back
    (omega (arith, c.requires.as_many.0, c.requires.as_many.1, ap length same)) (l.invariant.covers all))

pub returns-clause-home : goal.returns-clause-home
returns-clause-home g c =
    let l = c.loop-pass in
    let nothing : into_iter_items l.pass-iterator ≡ [] = nil_from_length (into_iter_items l.pass-iterator) (sym l.invariant.counted ∙ c.in-None.ensures.steps.0) in
    let same : l.invariant.back ≡ c.args.passes.items = sym (append-nil l.invariant.back) ∙ ap (λ ps. l.invariant.back ++ ps) (sym nothing) ∙ l.invariant.passes in
    turns_all (λ p old new. IsAt p c.args.passes.items (λ (pass : Pass _ _). new ≡ with_reader (Some pass.watch) old)) c.args.engines.now l.engines l.at l.invariant.home (omega (arith, l.invariant.home.many, l.invariant.here, c.requires.as_many.0, ap length same))
