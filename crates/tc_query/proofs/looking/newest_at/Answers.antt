use Rattle.std.proofs.Common.{◌≡◌, ◌<◌, Some, get_or, inl, inr, length, slice_get, sym, ap, subst, ◌∙◌}
use Rattle.std.specs.Arc.{arc_value}
use Rattle.std.proofs.lemmas.List.{nil_from_length}
use Rattle.std.proofs.lemmas.Option.{slice_get-get_or, slice_get_within}
use Rattle.tc_component.specs.Columns.{IsFound}
use Rattle.tc_component.specs.declared.found.Found.TheVariants.{Absent, Gone, At}
use Rattle.tc_list.proofs.Walks.{walked_newest, walked_older, walked_all}
use Rattle.tc_list.specs.Lookups.{HaveNone, IsNewest}
use Rattle.tc_query.proofs.WalkSteps.{last_left, place_ahead}
use Rattle.tc_query.proofs.looking.newest_at.Goals as goal

pub found_at-requires-clause-ahead : goal.found_at-requires-clause-ahead
found_at-requires-clause-ahead g c κs within =
    let cs = c.args.list.now in
    let m = c.deref.result.now in
    let older = c.in-Some.older.now in
    let there : slice_get cs (length older) ≡ Some m =
    last_left arc_value c.as_slice-rest.result.now c.loop-newest.rest.now older c.in-Some.newest.now c.args.key cs c.as_slice-rest.ensures.all c.loop-newest.invariant c.in-Some.ensures.cases.0 ∙ ap Some (sym c.deref.ensures) in
    place_ahead c.args.key cs c.args.places.now (length older) m c.requires.ahead there

pub found_at-requires-clause-from : goal.found_at-requires-clause-from
found_at-requires-clause-from g c κs within =
    let cs = c.args.list.now in
    let m = c.deref.result.now in
    let older = c.in-Some.older.now in
    let places = c.args.places.now in
    let there : slice_get cs (length older) ≡ Some m =
    last_left arc_value c.as_slice-rest.result.now c.loop-newest.rest.now older c.in-Some.newest.now c.args.key cs c.as_slice-rest.ensures.all c.loop-newest.invariant c.in-Some.ensures.cases.0 ∙ ap Some (sym c.deref.ensures) in
    c.requires.from (length older) (get_or places (length older) 0) m there (slice_get-get_or places (length older) 0 (subst (λ k. length older < k) (sym c.requires.ahead.many) (slice_get_within cs (length older) m there)))

pub loop-newest-preserved : goal.loop-newest-preserved
loop-newest-preserved g c =
    let has = subst (λ m. IsFound m.index.slots c.args.key Absent) c.deref.ensures c.in-Absent.ensures in
    walked_older arc_value c.as_slice-rest.result.now c.loop-newest.rest.now c.in-Some.older.now c.in-Some.newest.now c.args.key c.loop-newest.invariant c.in-Some.ensures.cases.0 has

pub returns-in-Gone : goal.returns-in-Gone
returns-in-Gone g c =
    let all = c.as_slice-rest.result.now in
    let has = subst (λ m. IsFound m.index.slots c.args.key Gone) c.deref.ensures c.in-Gone.ensures in
    inr (
      length c.in-Some.older.now,
      subst (λ cs. IsNewest cs c.args.key (length c.in-Some.older.now) Gone) c.as_slice-rest.ensures.all
          (walked_newest arc_value all c.loop-newest.rest.now c.in-Some.older.now c.in-Some.newest.now c.args.key Gone c.loop-newest.invariant c.in-Some.ensures.cases.0 has),
    )

pub returns-in-At : goal.returns-in-At
returns-in-At g c =
    let all = c.as_slice-rest.result.now in
    let has = subst (λ m. IsFound m.index.slots c.args.key (At c.in-At.place)) c.deref.ensures c.in-At.ensures in
    subst (λ cs. IsNewest cs c.args.key (length c.in-Some.older.now) (At c.in-At.place)) c.as_slice-rest.ensures.all
    (walked_newest arc_value all c.loop-newest.rest.now c.in-Some.older.now c.in-Some.newest.now c.args.key (At c.in-At.place) c.loop-newest.invariant c.in-Some.ensures.cases.0 has)

pub returns : goal.returns
returns g c = inl (subst (λ cs. HaveNone cs c.args.key) c.as_slice-rest.ensures.all
    (walked_all arc_value c.as_slice-rest.result.now c.loop-newest.rest.now c.args.key c.loop-newest.invariant (nil_from_length c.loop-newest.rest.now c.in_default.ensures.cases)))
