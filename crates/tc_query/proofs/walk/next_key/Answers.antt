use Rattle.std.proofs.Common.{◌≡◌, ◌≤◌, ◌∙◌, ℕ, List, None, length, sym, ap, subst}
use Rattle.std.specs.Prelude.{IfSome}
use Rattle.tc_list.specs.Lookups.{HaveNone}
use Rattle.tc_query.proofs.WalkSteps.{stand_next, written_back, next_both, next_tabled, next_sealed, next_unsealed, none_newest}
use Rattle.tc_query.specs.Shown.{held_in, held_sealed, held_newest}
use Rattle.tc_query.specs.Walking.{least_left, entries_ahead, IsAhead, IsNext, StandAt, HasNoneIn}
use Rattle.tc_query.specs.declared.walk.Walk.{Walk}
use Rattle.tc_query.proofs.walk.next_key.Goals as goal
use Rattle.tc_query.proofs.walk.next_key.Goals.{in-Some, in-None}

pub returns-clause-next : goal.returns-clause-next
returns-clause-next g c = λ sealed active sealed_is active_is walk.
    let low = least_left c.args.last in
    let first = c.lesser.ensures in
    let second = c.lesser-2.ensures in
    let from = c.match-walk.sealed in
    let from_sealed : IsNext low from (λ k. held_sealed k sealed ≡ None) = elim c.match-walk.branch [
      | in-Some w ↦
          let told = w.next-sealed.ensures in
          subst (λ next. IsNext low next (λ k. held_sealed k sealed ≡ None)) (sym w.sealed-is)
          (next_sealed low sealed c.args.walk.now.sealed _ (entries_ahead w.next-sealed.new.self) w.next-sealed.result sealed_is walk.sealed_ahead w.in-Some.is told.ahead told.from told.first)
      | in-None w ↦ next_unsealed low sealed c.args.walk.now.sealed from walk.sealed_ahead w.in-None.is w.sealed-is
    ] in
    let ahead : IsAhead low active (entries_ahead c.match-walk.walk.active) = elim c.match-walk.branch [
      | in-Some w ↦ subst (λ (n : Walk). IsAhead low active (entries_ahead n.active)) (sym w.walk-is) walk.active_ahead
      | in-None w ↦ subst (λ (n : Walk). IsAhead low active (entries_ahead n.active)) (sym w.walk-is) walk.active_ahead
    ] in
    let told = c.next-active.ensures in
    let from_active = next_tabled low active (entries_ahead c.next-active.new.self) c.next-active.result active_is (told.ahead active ahead) told.from told.first in
    let from_tables = next_both low from c.next-active.result c.lesser.result (λ k. held_sealed k sealed ≡ None) (λ k. held_in k active ≡ None) (λ k. held_newest k sealed active ≡ None)
    (λ k older newer. none_newest k sealed active older newer) first.from first.first first.second from_sealed from_active in
    next_both low c.next_listed-listed.result c.lesser.result c.lesser-2.result (HaveNone c.args.list.now) (λ k. held_newest k sealed active ≡ None) (HasNoneIn c.args.list.now sealed active)
    (λ k listed tabled. (listed, tabled)) second.from second.first second.second c.next_listed-listed.ensures.next from_tables

pub returns-clause-stand : goal.returns-clause-stand
returns-clause-stand g c =
    let low = least_left c.args.last in
    let listed = c.next_listed-listed.ensures in
    let from_sealed : IfSome c.match-walk.sealed (λ key. low ≤ key) = elim c.match-walk.branch [
      | in-Some w ↦ subst (λ next. IfSome next (λ key. low ≤ key)) (sym w.sealed-is) w.next-sealed.ensures.from
      | in-None w ↦ subst (λ next. IfSome next (λ key. low ≤ key)) (sym w.sealed-is) tt
    ] in
    let from = c.lesser-2.ensures.from low listed.next.0 (c.lesser.ensures.from low from_sealed c.next-active.ensures.from) in
    let stands = stand_next low c.lesser-2.result c.args.list.now c.next_listed-listed.new.places from listed.ahead listed.from (λ k least before. listed.next.1 k least (c.lesser-2.ensures.first k before)) in
    let written = written_back c.next_listed-listed.new.places c.args.walk.now.places.items _ (listed.ahead.many ∙ sym c.requires.many) (sym c.deref_mut.ensures.len ∙ ap (λ (ps : List ℕ). length ps) c.deref_mut.ensures.value) in
    let there = subst (λ ps. IfSome c.lesser-2.result (λ key. StandAt key c.args.list.now ps)) (sym written) stands in
    elim c.match-walk.branch as (λ x. IfSome c.lesser-2.result (λ key. StandAt key c.args.list.now c.match-walk.walk.places.items)) [
      | in-Some w ↦ subst (λ (n : Walk). IfSome c.lesser-2.result (λ key. StandAt key c.args.list.now n.places.items)) (sym w.walk-is) there
      | in-None w ↦ subst (λ (n : Walk). IfSome c.lesser-2.result (λ key. StandAt key c.args.list.now n.places.items)) (sym w.walk-is) there
    ]
