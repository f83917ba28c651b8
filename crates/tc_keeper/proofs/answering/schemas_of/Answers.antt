use Rattle.std.proofs.Common.{subst, sym}
use Rattle.tc_part_model.specs.PartState.{told}
use Rattle.tc_keeper.specs.SchemaTexts.{AreJsonTexts}
use Rattle.tc_keeper.proofs.SchemasShown.{json_texts}
use Rattle.tc_keeper.proofs.answering.schemas_of.Goals as goal

pub returns-in-Ok-clause-json : goal.returns-in-Ok-clause-json
returns-in-Ok-clause-json g c =
    subst AreJsonTexts (sym c.of.ensures) (json_texts (told g.S.Store.history g.S.Device.Device.history g.S.Frozen.Frozen.content) g.S.Frozen.Frozen.content
    g.S.Device.Device.size 0 c.args.engines.now c.in-Ok.texts.items c.in-Ok.ensures.each)
