use Rattle.std.proofs.Common.{◌∙◌, ◌++◌, ◌∷◌, [], None, ap, refl}
use Rattle.tc_view.specs.declared.content.Content.{Content}
use Rattle.tc_view.specs.declared.happened.Happened.TheVariants.{Placed}
use Rattle.tc_shown.proofs.Remembered.{placed_history, placed_remembered}
use Rattle.tc_shown.proofs.shown.Shown.open.Goals as goal

pub invariant_of-result : goal.invariant_of-result
invariant_of-result g c = λ _. (
  c.in-Ok.ensures.current,
  placed_remembered _ _ c.in_ok-placed.change _ _ _ _ c.in-Ok.ensures.added c.in_ok-placed.ensures.change c.in_ok-placed.ensures.list refl,
)

pub returns-in-Ok : goal.returns-in-Ok
returns-in-Ok g c = (
  placed_history _ _ c.in_ok-placed.change _ _ c.in-Ok.ensures.added c.in_ok-placed.ensures.change
      ∙ ap (λ (x : Content _ _). x.history ++ Placed c.args.list.now None ∷ []) c.in_ok-publisher.ensures.2,
  refl,
)
