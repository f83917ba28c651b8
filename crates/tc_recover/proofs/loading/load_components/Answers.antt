use Rattle.std.proofs.Common.{rules, ◌≡◌, ◌∙◌, Err, List, [], ◌∷◌, ◌++◌, false, true, ap, length, refl, sym, subst, append-nil, arith}
use Rattle.std.specs.Vec.Iter.{into_iter_items}
use Rattle.std.proofs.lemmas.List.{nil_from_length}
use Rattle.std.proofs.lemmas.Result.{err_from_is_err_and}
use Rattle.tc_recover.specs.Refusals.{asked}
use Rattle.tc_recover.proofs.LogSteps.{counted_memory}
use Rattle.tc_recover.proofs.LoadSteps.{IsNotNext, all_left, all_loaded, answers_result, begins_behind, caused_result, counted_result, load_caused, load_refused, one_left, one_loaded, these_indexes}
use Rattle.tc_component.specs.Spelling.{Index}
use Rattle.tc_recover.proofs.loading.load_components.Goals as goal

pub loop-file-init : goal.loop-file-init
loop-file-init g c = record {
  many = search rules;
  tiles = all_left _ (asked c.args.part) c.args.files.items _ c.args.tiles.now _ _ _ c.requires.ascend c.requires.tiling c.into_iter-file-iterator.ensures.into_iter_gives.0 c.new-list.ensures c.new-left.ensures.items;
}

pub returns-in_err-component-clause-judged : goal.returns-in_err-component-clause-judged
returns-in_err-component-clause-judged g c = λ told.
    let p = err_from_is_err_and c.from_residual.result c.from_residual.ensures.1 in
    let at = c.loop-file in
    let tile = c.in-Some-split_first in
    answers_result _ c.from_residual.result _ c.in_err-component.field-0.0 _ p.1 p.2
    (load_refused (List Index) these_indexes _ (asked c.args.part) c.args.files.items _ _ c.args.tiles.now _ tile.behind.now tile.tile.now at.list _ _ _ c.in-Some.file c.in_err-component.field-0.0 c.requires.ascend at.invariant.tiles c.in-Some.ensures.steps.0 tile.ensures.cases.0
    (subst (λ is. is ≡ true) c.is_file_of.ensures c.if-is_file_of.true) c.in_err-component.ensures.judged told)

pub returns-in_err-component-clause-causes : goal.returns-in_err-component-clause-causes
returns-in_err-component-clause-causes g c =
    let p = err_from_is_err_and c.from_residual.result c.from_residual.ensures.1 in
    let at = c.loop-file in
    let tile = c.in-Some-split_first in
    caused_result _ (asked c.args.part) c.args.tiles.now c.args.files.items c.from_residual.result _ c.in_err-component.field-0.0 p.1 p.2
    (load_caused _ _ (asked c.args.part) c.args.files.items _ _ c.args.tiles.now _ tile.behind.now tile.tile.now at.list _ _ _ c.in-Some.file c.in_err-component.field-0.0 at.invariant.tiles c.in-Some.ensures.steps.0 tile.ensures.cases.0
    (subst (λ is. is ≡ true) c.is_file_of.ensures c.if-is_file_of.true) c.in_err-component.ensures.causes)

pub returns-in_err-component-clause-counted : goal.returns-in_err-component-clause-counted
returns-in_err-component-clause-counted g c =
    let p = err_from_is_err_and c.from_residual.result c.from_residual.ensures.1 in
    counted_result c.from_residual.result _ c.in_err-component.field-0.0 _ _ (g.F.Watch.Watch.counts c.loop-file.watch) _ p.1 p.2 c.loop-file.invariant.tiles.faults c.in_err-component.ensures.counted.faults (λ is. c.in_err-component.ensures.counted.cause (ap Err is))

pub returns-in_err-new-clause-counted : goal.returns-in_err-new-clause-counted
returns-in_err-new-clause-counted g c = counted_memory c.from_residual-in_err-new.result _ _ (g.F.Watch.Watch.counts c.loop-file.watch) _ c.from_residual-in_err-new.ensures.1 c.loop-file.invariant.tiles.faults c.in_ok-component.ensures.counted.faults

pub push-requires-after_bounds : goal.push-requires-after_bounds
push-requires-after_bounds g c = λ _ _.
    let at = c.loop-file in
    let tile = c.in-Some-split_first in
    let begins = begins_behind _ (asked c.args.part) c.args.files.items _ c.args.tiles.now _ tile.behind.now tile.tile.now at.list _ _ _ c.in-Some.file c.in_ok-component.component at.invariant.tiles tile.ensures.cases.0
    (subst (λ is. is ≡ true) c.is_file_of.ensures c.if-is_file_of.true) c.in_ok-component.ensures.name in
    rw c.in_ok-new.ensures.ok begins

pub returns-in_err-push-clause-counted : goal.returns-in_err-push-clause-counted
returns-in_err-push-clause-counted g c = counted_memory c.from_residual-in_err-push.result _ _ (g.F.Watch.Watch.counts c.loop-file.watch) _ c.from_residual-in_err-push.ensures.1 c.loop-file.invariant.tiles.faults c.in_ok-component.ensures.counted.faults

pub loop-file-preserved-then-is_file_of : goal.loop-file-preserved-then-is_file_of
loop-file-preserved-then-is_file_of g c =
    let at = c.loop-file in
    let tile = c.in-Some-split_first in
    let x = c.in-Some.file in
    let steps : into_iter_items at.file-iterator ≡ x ∷ into_iter_items c.next.new.self = c.in-Some.ensures.steps.0 in
    let short = ap length steps in
    let counted = c.in_ok-component.ensures.counted in
    record {
      many = omega (arith, at.invariant.many, c.in-Some.ensures.steps.1, short);
      tiles = one_loaded _ (asked c.args.part) c.args.files.items _ _ c.args.tiles.now _ tile.behind.now tile.tile.now at.list _ _ _ _ _ x c.in_ok-component.component c.requires.ascend at.invariant.tiles steps tile.ensures.cases.0
          (subst (λ is. is ≡ true) c.is_file_of.ensures c.if-is_file_of.true) (c.in_ok-push.ensures.ok ∙ ap (λ m. at.list ++ m ∷ []) c.in_ok-new.ensures.ok) c.in_ok-component.ensures.judged c.in_ok-component.ensures.file c.in_ok-component.ensures.name
          c.in_ok-component.ensures.lawful c.in_ok-component.ensures.listed counted.faults (counted.done refl);
    }

pub loop-file-preserved-in_ok-push-2 : goal.loop-file-preserved-in_ok-push-2
loop-file-preserved-in_ok-push-2 g c =
    let at = c.loop-file in
    let tile = c.in-Some-split_first in
    let x = c.in-Some.file in
    let steps : into_iter_items at.file-iterator ≡ x ∷ into_iter_items c.next.new.self = c.in-Some.ensures.steps.0 in
    let short = ap length steps in
    record {
      many = omega (arith, at.invariant.many, c.in-Some.ensures.steps.1, short);
      tiles = one_left _ (asked c.args.part) c.args.files.items _ _ c.args.tiles.now _ at.list _ _ _ _ x at.invariant.tiles steps (subst (λ r. IsNotNext r x) (sym tile.ensures.cases.0) (subst (λ is. is ≡ false) c.is_file_of.ensures c.if-is_file_of.false))
          c.in_ok-push-2.ensures.items;
    }

pub returns-in_err-push-2-clause-counted : goal.returns-in_err-push-2-clause-counted
returns-in_err-push-2-clause-counted g c =
    counted_memory c.from_residual-in_err-push-2.result _ _ (g.F.Watch.Watch.counts c.loop-file.watch) (g.F.Watch.Watch.counts c.loop-file.watch) c.from_residual-in_err-push-2.ensures.1 c.loop-file.invariant.tiles.faults (omega arith)

pub loop-file-preserved : goal.loop-file-preserved
loop-file-preserved g c =
    let at = c.loop-file in
    let x = c.in-Some.file in
    let steps : into_iter_items at.file-iterator ≡ x ∷ into_iter_items c.next.new.self = c.in-Some.ensures.steps.0 in
    let short = ap length steps in
    let nothing : at.rest.now ≡ [] = nil_from_length at.rest.now c.in_default.ensures.cases in
    record {
      many = omega (arith, at.invariant.many, c.in-Some.ensures.steps.1, short);
      tiles = one_left _ (asked c.args.part) c.args.files.items _ _ c.args.tiles.now _ at.list _ _ _ _ x at.invariant.tiles steps (subst (λ r. IsNotNext r x) (sym nothing) tt) c.in_ok-push-3.ensures.items;
    }

pub returns-in_err-push-3-clause-counted : goal.returns-in_err-push-3-clause-counted
returns-in_err-push-3-clause-counted g c =
    counted_memory c.from_residual-in_err-push-3.result _ _ (g.F.Watch.Watch.counts c.loop-file.watch) (g.F.Watch.Watch.counts c.loop-file.watch) c.from_residual-in_err-push-3.ensures.1 c.loop-file.invariant.tiles.faults (omega arith)

pub returns-clause-judged : goal.returns-clause-judged
returns-clause-judged g c = λ told.
    let nothing : into_iter_items c.loop-file.file-iterator ≡ [] = nil_from_length (into_iter_items c.loop-file.file-iterator) (sym c.loop-file.invariant.many ∙ c.in-None.ensures.steps.0) in
    (all_loaded _ _ _ _ _ _ _ _ _ _ c.loop-file.invariant.tiles nothing).judged told

pub returns-clause-tiles : goal.returns-clause-tiles
returns-clause-tiles g c =
    let nothing : into_iter_items c.loop-file.file-iterator ≡ [] = nil_from_length (into_iter_items c.loop-file.file-iterator) (sym c.loop-file.invariant.many ∙ c.in-None.ensures.steps.0) in
    let p = all_loaded _ _ _ _ _ _ _ _ _ _ c.loop-file.invariant.tiles nothing in
    sym (p.done ∙ append-nil _)

pub returns-clause-counted : goal.returns-clause-counted
returns-clause-counted g c =
    let nothing : into_iter_items c.loop-file.file-iterator ≡ [] = nil_from_length (into_iter_items c.loop-file.file-iterator) (sym c.loop-file.invariant.many ∙ c.in-None.ensures.steps.0) in
    let p = all_loaded _ _ _ _ _ _ _ _ _ _ c.loop-file.invariant.tiles nothing in
    record { faults = p.faults; cause = λ failed. absurd (cc); done = λ done. p.reads }
