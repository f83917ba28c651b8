use Rattle.std.proofs.Common.{◌∙◌, Some, sym, ap, subst, option_map}
use Rattle.tc_record.specs.Record.{IsRecordOf}
use Rattle.tc_memory.specs.Meaning.{held_of}
use Rattle.tc_part.proofs.BelowKeys.{same_record}
use Rattle.tc_part.proofs.part.Part.text_active.Goals as goal

pub returns-in-Ok-clause-text : goal.returns-in-Ok-clause-text
returns-in-Ok-clause-text g c =
    let held = sym (ap (option_map held_of) (c.in-Some-Live.is ∙ ap Some c.in-Some-Live.field-0-is)) ∙ c.get.ensures.held in
    rw (← c.self.view_is) λ d bytes some of. ap Some (c.in-Ok.ensures.text d (subst (IsRecordOf d) (sym (c.as_slice.ensures.same ∙ same_record _ _ _ held some)) of))
