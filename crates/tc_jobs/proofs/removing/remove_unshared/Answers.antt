use Rattle.std.proofs.Common.{◌≡◌, ◌∙◌, ◌∷◌, refl, sym, subst, ap, length, rules, arith}
use Rattle.std.proofs.lemmas.List.Elements.{All-contains_itself, All-nil}
use Rattle.std.specs.Arc.{arc_value}
use Rattle.std.specs.List.{Contains}
use Rattle.std.specs.Prelude.{All, map}
use Rattle.std.specs.Vec.Iter.{into_iter_items}
use Rattle.tc_store.specs.StoreCalls.{RemovesSome}
use Rattle.tc_jobs.proofs.Removals.{kept_still, left_still, names_of, removes_left, removes_none}
use Rattle.tc_jobs.proofs.removing.remove_unshared.Goals as goal

pub loop-component-preserved : goal.loop-component-preserved
loop-component-preserved g c =
    let at = c.loop-component in
    let x = c.in-Some.component in
    let h = g.S.Store.history in
    let steps : into_iter_items at.component-iterator ≡ x ∷ into_iter_items c.next.new.self = c.in-Some.ensures.steps.0 in
    let short = ap length steps in
    let kind = Contains (map arc_value (into_iter_items c.into_iter-component-iterator.result)) in
    record {
      removed = λ new some. at.invariant.removed new (removes_left arc_value g.S.Frozen.Frozen.name _ (into_iter_items c.next.new.self) x (h at.store) (h c.remove_or_keep.new.store) new steps c.remove_or_keep.ensures.removed some);
      rest = left_still arc_value kind _ (into_iter_items c.next.new.self) x steps at.invariant.rest;
      shared = kept_still arc_value kind _ (into_iter_items c.next.new.self) at.shared.items _ x steps at.invariant.rest c.in_ok-remove_or_keep.ensures.kept at.invariant.shared;
      left = omega (arith, at.invariant.left, c.in-Some.ensures.steps.1, short);
      faults = omega (arith, at.invariant.faults, c.remove_or_keep.ensures.counted.faults);
      reads = c.remove_or_keep.ensures.counted.reads ∙ at.invariant.reads;
    }

pub returns-in_err-remove_or_keep-clause-removed : goal.returns-in_err-remove_or_keep-clause-removed
returns-in_err-remove_or_keep-clause-removed g c =
    let at = c.loop-component in
    let x = c.in-Some.component in
    let h = g.S.Store.history in
    let rest = into_iter_items c.next.new.self in
    let steps : into_iter_items at.component-iterator ≡ x ∷ rest = c.in-Some.ensures.steps.0 in
    let last = h c.remove_or_keep.new.store in
    let some = at.invariant.removed last (removes_left arc_value g.S.Frozen.Frozen.name _ rest x (h at.store) last last steps c.remove_or_keep.ensures.removed (removes_none (names_of arc_value g.S.Frozen.Frozen.name rest) last)) in
    subst (λ items. RemovesSome (names_of arc_value g.S.Frozen.Frozen.name items) (h c.args.store.now) last) c.into_iter-component-iterator.ensures.into_iter_gives.0 some

pub returns-clause-removed : goal.returns-clause-removed
returns-clause-removed g c =
    let at = c.loop-component in
    let h = g.S.Store.history in
    let some = at.invariant.removed (h at.store) (removes_none (names_of arc_value g.S.Frozen.Frozen.name (into_iter_items at.component-iterator)) (h at.store)) in
    subst (λ items. RemovesSome (names_of arc_value g.S.Frozen.Frozen.name items) (h c.args.store.now) (h at.store)) c.into_iter-component-iterator.ensures.into_iter_gives.0 some

pub returns-clause-shared : goal.returns-clause-shared
returns-clause-shared g c =
    let at = c.loop-component in
    subst (λ items. All (Contains (map arc_value items)) (map arc_value at.shared.items)) c.into_iter-component-iterator.ensures.into_iter_gives.0 at.invariant.shared

pub returns-in_err-shared-clause-removed : goal.returns-in_err-shared-clause-removed
returns-in_err-shared-clause-removed g c = removes_none (names_of arc_value g.S.Frozen.Frozen.name c.args.components.items) (g.S.Store.history c.args.store.now)

pub loop-component-init : goal.loop-component-init
loop-component-init g c =
    let kind = Contains (map arc_value (into_iter_items c.into_iter-component-iterator.result)) in
    record {
      removed = λ new some. some;
      rest = All-contains_itself _;
      shared = subst (λ ys. All kind (map arc_value ys)) (sym c.in_ok-shared.ensures.items) (All-nil kind);
      left = search rules;
      faults = omega arith;
      reads = refl;
    }
