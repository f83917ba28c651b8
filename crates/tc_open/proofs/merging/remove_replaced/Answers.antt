use Rattle.std.proofs.Common.{rules, ◌≡◌, ◌∙◌, ◌∷◌, Err, ap, arith, inr, length, map, refl, subst, sym}
use Rattle.std.specs.Arc.{arc_value}
use Rattle.std.proofs.lemmas.List.{nil_from_length}
use Rattle.std.specs.Vec.Iter.{into_iter_items}
use Rattle.tc_store.specs.declared.kit.Kit.{Kit}
use Rattle.tc_store.specs.StoreCalls.{removes, RemovesSome}
use Rattle.tc_component.specs.Loading.{ComponentState}
use Rattle.tc_recover.specs.Removing.{removes_all}
use Rattle.tc_open.proofs.MergedOpenings.{store_disk}
use Rattle.tc_open.proofs.OpenStates.{none_some}
use Rattle.tc_open.proofs.merging.remove_replaced.Goals as goal

pub loop-component-init : goal.loop-component-init
loop-component-init g c =
    let all = c.into_iter-component-iterator.ensures.into_iter_gives.0 in
    let disks = g.S.Store.history c.args.kit.store in
    record {
      exact = ap (λ items. removes_all (map (λ (m : ComponentState g.row.S-Frozen.Denot). g.S.Frozen.Frozen.name m.file) (map arc_value items)) disks) all;
      some = λ new some. subst (λ items. RemovesSome (map (λ (m : ComponentState g.row.S-Frozen.Denot). g.S.Frozen.Frozen.name m.file) (map arc_value items)) disks new) all some;
      left = search rules;
      same = refl;
      watched = record { faults = omega arith; cause = λ never. absurd never };
    }

pub loop-component-preserved : goal.loop-component-preserved
loop-component-preserved g c =
    let at = c.loop-component in
    let disks = g.S.Store.history at.kit.store in
    let rest = into_iter_items c.next.new.self in
    let steps : into_iter_items at.component-iterator ≡ c.in-Some.component ∷ rest = c.in-Some.ensures.steps.0 in
    let short = ap length steps in
    let gone = c.remove.ensures.removed ∙ ap (λ f. removes (g.S.Frozen.Frozen.name f) disks) (c.into_file.ensures ∙ ap (λ (m : ComponentState g.row.S-Frozen.Denot). m.file) c.in-Ok.ensures.ok) in
    record {
      exact = ap (removes_all (map (λ (m : ComponentState g.row.S-Frozen.Denot). g.S.Frozen.Frozen.name m.file) (map arc_value rest))) gone
          ∙ sym (ap (λ items. removes_all (map (λ (m : ComponentState g.row.S-Frozen.Denot). g.S.Frozen.Frozen.name m.file) (map arc_value items)) disks) steps)
          ∙ at.invariant.exact;
      some = λ new some. at.invariant.some new (subst (λ items. RemovesSome
          (map (λ (m : ComponentState g.row.S-Frozen.Denot). g.S.Frozen.Frozen.name m.file) (map arc_value items)) disks new) (sym steps)
          (inr (subst (λ ds. RemovesSome (map (λ (m : ComponentState g.row.S-Frozen.Denot). g.S.Frozen.Frozen.name m.file) (map arc_value rest)) ds new) gone some)));
      left = omega (arith, at.invariant.left, c.in-Some.ensures.steps.1, short);
      same = ap (λ (k : Kit _ _ _ _). record k { store = c.remove.new.self; main = c.remove.new.watch }) at.invariant.same;
      watched = record { faults = omega (arith, at.invariant.watched.faults, c.remove.ensures.counted.faults); cause = λ never. absurd never };
    }

pub returns-in-Err-remove-clause-partly : goal.returns-in-Err-remove-clause-partly
returns-in-Err-remove-clause-partly g c =
    let at = c.loop-component in
    let disks = g.S.Store.history at.kit.store in
    let rest = into_iter_items c.next.new.self in
    let steps : into_iter_items at.component-iterator ≡ c.in-Some.component ∷ rest = c.in-Some.ensures.steps.0 in
    let last = g.S.Store.history c.remove.new.self in
    let gone = c.remove.ensures.removed ∙ ap (λ f. removes (g.S.Frozen.Frozen.name f) disks) (c.into_file.ensures ∙ ap (λ (m : ComponentState g.row.S-Frozen.Denot). m.file) c.in-Ok.ensures.ok) in
    at.invariant.some last (subst (λ items. RemovesSome (map (λ (m : ComponentState g.row.S-Frozen.Denot). g.S.Frozen.Frozen.name m.file) (map arc_value items)) disks
    last) (sym steps) (inr (subst (λ ds. RemovesSome (map (λ (m : ComponentState g.row.S-Frozen.Denot). g.S.Frozen.Frozen.name m.file) (map arc_value rest)) ds
    last) gone (none_some (map (λ (m : ComponentState g.row.S-Frozen.Denot). g.S.Frozen.Frozen.name m.file) (map arc_value rest)) last last refl))))

pub returns-in-Err-remove-clause-given_back : goal.returns-in-Err-remove-clause-given_back
returns-in-Err-remove-clause-given_back g c = ap (λ (k : Kit _ _ _ _). record k { store = c.remove.new.self; main = c.remove.new.watch }) c.loop-component.invariant.same

pub returns-in-Err-remove-clause-failed : goal.returns-in-Err-remove-clause-failed
returns-in-Err-remove-clause-failed g c =
    let at = c.loop-component in
    let counted = c.remove.ensures.counted in
    record {
      faults = omega (arith, at.invariant.watched.faults, counted.faults);
      cause = λ failed. omega (arith, at.invariant.watched.faults, counted.cause (c.in-Err-remove.is ∙ ap Err (store_disk c.in-Err-remove.fault (sym c.from.ensures ∙ failed))));
    }

pub returns-in-Err-clause-partly : goal.returns-in-Err-clause-partly
returns-in-Err-clause-partly g c =
    let at = c.loop-component in
    let disks = g.S.Store.history at.kit.store in
    at.invariant.some disks (none_some (map (λ (m : ComponentState g.row.S-Frozen.Denot). g.S.Frozen.Frozen.name m.file) (map arc_value (into_iter_items at.component-iterator))) disks disks refl)

pub returns-in-Err-clause-given_back : goal.returns-in-Err-clause-given_back
returns-in-Err-clause-given_back g c = c.loop-component.invariant.same

pub returns-in-Err-clause-failed : goal.returns-in-Err-clause-failed
returns-in-Err-clause-failed g c = record { faults = c.loop-component.invariant.watched.faults; cause = λ failed. absurd (cc) }

pub returns-clause-removed : goal.returns-clause-removed
returns-clause-removed g c =
    let at = c.loop-component in
    let disks = g.S.Store.history at.kit.store in
    sym (ap (λ items. removes_all (map (λ (m : ComponentState g.row.S-Frozen.Denot). g.S.Frozen.Frozen.name m.file) (map arc_value items)) disks) (nil_from_length (into_iter_items at.component-iterator) (sym at.invariant.left ∙ c.in-None.ensures.steps.0))) ∙ at.invariant.exact

pub returns-clause-kit : goal.returns-clause-kit
returns-clause-kit g c = c.loop-component.invariant.same

pub returns-clause-watched : goal.returns-clause-watched
returns-clause-watched g c = c.loop-component.invariant.watched
