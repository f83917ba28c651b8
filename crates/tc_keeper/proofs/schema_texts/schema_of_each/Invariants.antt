use Rattle.std.proofs.Common.{take}
use Rattle.tc_part_model.specs.PartState.{told}
use Rattle.tc_keeper.specs.Places.{AtEach}
use Rattle.tc_keeper.specs.SchemaTexts.{IsSchemaText}
use Rattle.tc_keeper.proofs.schema_texts.schema_of_each.Given as goal

abbrev pub invariant-loop-at : goal.invariant-loop-at
invariant-loop-at g l =
    AtEach (λ p s text. IsSchemaText (told g.S.Store.history g.S.Device.Device.history g.S.Frozen.Frozen.content) g.S.Frozen.Frozen.content g.S.Device.Device.size s.engine text) 0 (take l.at l.fn.seats) l.texts.items
