use Rattle.std.proofs.Common.{◌∙◌, inl, Bor}
use Rattle.std.specs.Arc.{arc_value}
use Rattle.tc_model.proofs.KeyedMaps.{is_some-option_map}
use Rattle.tc_shown.proofs.Remembered.{placed_history, placed_remembered, state_added}
use Rattle.tc_shown.proofs.shown.Shown.place.Goals as goal

pub invariant_of-self-2 : goal.invariant_of-self-2
invariant_of-self-2 g c = λ _. (
  c.in_ok-publish_twice.ensures.current,
  placed_remembered _ _ c.in_ok-placed.change _ _ _ _ c.in_ok-publish_twice.ensures.added c.in_ok-placed.ensures.change c.in_ok-placed.ensures.list
      (c.is_some-self-inside.ensures ∙ is_some-option_map (λ (table : Bor _). arc_value table.now) c.args.sealed),
)

pub returns-clause-placed : goal.returns-clause-placed
returns-clause-placed g c = inl (state_added _ _ _ _ _ c.self.inside.failed c.args.self.now c.self.view_is c.in_ok-publish_twice.ensures.book
    (placed_history _ _ c.in_ok-placed.change _ _ c.in_ok-publish_twice.ensures.added c.in_ok-placed.ensures.change) c.if-self.false)
