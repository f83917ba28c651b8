use Rattle.std.proofs.Common.{inl, inr, length, subst}
use Rattle.std.specs.Arc.{arc_value}
use Rattle.std.proofs.lemmas.List.{nil_from_length}
use Rattle.tc_component.specs.Columns.{IsFound}
use Rattle.tc_component.specs.declared.found.Found.TheVariants.{Absent, Gone, At}
use Rattle.tc_list.proofs.Walks.{walked_newest, walked_older, walked_all}
use Rattle.tc_list.proofs.list.newest_of.Goals as goal

pub loop-newest-preserved : goal.loop-newest-preserved
loop-newest-preserved g c =
    let has = subst (λ m. IsFound m.index.slots c.args.key Absent) c.deref.ensures c.in-Absent.ensures in
    walked_older arc_value c.args.components.now c.loop-newest.rest.now c.in-Some.older.now c.in-Some.newest.now c.args.key c.loop-newest.invariant c.in-Some.ensures.cases.0 has

pub returns-in-Gone : goal.returns-in-Gone
returns-in-Gone g c =
    let has = subst (λ m. IsFound m.index.slots c.args.key Gone) c.deref.ensures c.in-Gone.ensures in
    inr (length c.in-Some.older.now, walked_newest arc_value c.args.components.now c.loop-newest.rest.now c.in-Some.older.now c.in-Some.newest.now c.args.key Gone c.loop-newest.invariant c.in-Some.ensures.cases.0 has)

pub returns-in-At : goal.returns-in-At
returns-in-At g c =
    let has = subst (λ m. IsFound m.index.slots c.args.key (At c.in-At.place)) c.deref.ensures c.in-At.ensures in
    walked_newest arc_value c.args.components.now c.loop-newest.rest.now c.in-Some.older.now c.in-Some.newest.now c.args.key (At c.in-At.place) c.loop-newest.invariant c.in-Some.ensures.cases.0 has

pub returns : goal.returns
returns g c = inl (walked_all arc_value c.args.components.now c.loop-newest.rest.now c.args.key c.loop-newest.invariant (nil_from_length c.loop-newest.rest.now c.in_default.ensures.cases))
