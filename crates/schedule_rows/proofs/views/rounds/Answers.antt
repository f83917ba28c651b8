use Rattle.std.proofs.Common.{◌≡◌, ◌+◌, ◌∙◌, sym, ap, subst, length, arith}
use Rattle.tc_view.specs.declared.content.Content.{Content}
use Rattle.tc_view.specs.Changes.{writes_in}
use Rattle.tc_view.specs.Places.{awaited_by}
use Rattle.tc_view.specs.Rules.{IsViewOf}
use Rattle.schedule_rows.proofs.views.rounds.Goals as goal

pub publish-requires-clause-ready : goal.publish-requires-clause-ready
publish-requires-clause-ready g c κs within = let i = c.loop-round.invariant in (i.0, c.in_ok-append.ensures.ready i.0 i.1)

pub learn-requires-clause-lens : goal.learn-requires-clause-lens
learn-requires-clause-lens g c κs within = let i = c.loop-round.invariant in (i.0, i.2, subst (λ (x : Content _ _). IsViewOf i.0 x) (sym c.in_ok-note.ensures) i.1.open_to.shown)

pub snapshot-requires-2-clause-lens : goal.snapshot-requires-2-clause-lens
snapshot-requires-2-clause-lens g c κs within = let i = c.loop-round.invariant in (i.0, c.learn.ensures.lens i.0 i.2)

pub loop-round-preserved : goal.loop-round-preserved
loop-round-preserved g c =
    let i = c.loop-round.invariant in
    let upto : (awaited_by c.publish.new.self).upto ≡ (awaited_by c.loop-round.publisher).upto + length (writes_in c.in_ok-one.field-0) = ap (λ x. x.upto) (c.in_ok-publish.ensures.published.1 ∙ c.in_ok-append.ensures.changed) in (
      i.0,
      c.publish.ensures.ready i.0 (c.in_ok-append.ensures.ready i.0 i.1),
      c.snapshot.ensures.lens i.0 i.2,
      omega (arith, upto, i.3, c.in_ok-one.ensures.count),
    )
