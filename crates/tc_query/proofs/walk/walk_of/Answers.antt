use Rattle.std.proofs.Common.{◌∙◌, Some, None, option_map, sym, subst}
use Rattle.tc_query.proofs.AheadKeys.{starts_ahead}
use Rattle.tc_query.proofs.WalkSteps.{start_places}
use Rattle.tc_query.specs.Walking.{IsAhead, IsSealedAhead}
use Rattle.tc_query.proofs.walk.walk_of.Goals as goal
use Rattle.tc_query.proofs.walk.walk_of.Goals.{in-Some, in-None}

pub returns-clause-walk : goal.returns-clause-walk
returns-clause-walk g c = record {
  listed = start_places c.args.list.now _ _ _ _ c.in_ok-resize.ensures.items c.new-places.ensures.items c.new-places.ensures.len c.len.ensures;
  sealed_ahead = elim c.match-sealed.branch [
    | in-Some w ↦
        let table = w.in-Some.table.now in
        subst (λ o. IsSealedAhead 0 (option_map (λ t. t.now) o) c.match-sealed.sealed) (sym w.in-Some.is)
        (subst (IsSealedAhead 0 (Some table)) (sym w.sealed-is) (subst (IsAhead 0 table) (sym (w.of.ensures ∙ w.entries-in-Some.ensures.all)) (starts_ahead table)))
    | in-None w ↦ subst (λ o. IsSealedAhead 0 (option_map (λ t. t.now) o) c.match-sealed.sealed) (sym w.in-None.is) (subst (IsSealedAhead 0 None) (sym w.sealed-is) tt)
  ];
  active_ahead = subst (IsAhead 0 c.args.active.now) (sym (c.of-active.ensures ∙ c.entries.ensures.all)) (starts_ahead c.args.active.now);
}
