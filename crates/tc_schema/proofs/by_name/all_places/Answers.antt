use Rattle.std.proofs.Common.{◌++◌, ◌∷◌, [], ◌∙◌, sym, ap, arith}
use Rattle.tc_schema.proofs.FieldsByName.{one_more_place}
use Rattle.tc_schema.proofs.by_name.all_places.Goals as goal

pub loop-place-preserved : goal.loop-place-preserved
loop-place-preserved c = c.in_ok-push.ensures.items ∙ ap (λ l. l ++ c.loop-place.place ∷ []) c.loop-place.invariant ∙ sym (one_more_place 0 c.loop-place.place c.loop-place.place (omega arith))
