use Rattle.std.proofs.Common.{◌∙◌, None, true, refl, sym, subst}
use Rattle.tc_part_model.specs.Meaning.{HasFailedAs}
use Rattle.tc_part_model.specs.PartState.{PartState, told}
use Rattle.tc_part.proofs.part.Part.lookup.Goals as goal

pub returns-in-Err-clause-failed : goal.returns-in-Err-clause-failed
returns-in-Err-clause-failed g c = λ p is.
    let t = told g.S.Store.history g.S.Device.Device.history g.S.Frozen.Frozen.content c.args.self.now in
    subst (λ (s : PartState _ _ _ _). HasFailedAs (record (told g.S.Store.history g.S.Device.Device.history g.S.Frozen.Frozen.content s) { failed = true }) p None) (sym (c.self.view_is ∙ c.text.ensures.same))
    (c.failed_parts_keep_files.ensures.fails t (record t { failed = true }) p is refl refl refl refl)
