use Rattle.std.proofs.Common.{◌∙◌, Some, sym, ap, subst, option_map}
use Rattle.tc_record.specs.Record.{IsRecordOf}
use Rattle.tc_record.specs.StoredRecord.{IsStoredRecord}
use Rattle.tc_memory.specs.Meaning.{held_of, IsLawfulHeld}
use Rattle.tc_part.proofs.Spelled.{if_ok_then}
use Rattle.tc_part.proofs.BelowKeys.{same_record}
use Rattle.tc_part.proofs.part.Part.text_sealed.Goals as goal

pub returns-clause-text : goal.returns-clause-text
returns-clause-text g c =
    let held = sym (ap (option_map held_of) (c.in-Some-Live.is ∙ ap Some c.in-Some-Live.field-0-is)) ∙ c.held_in.ensures.held in
    rw (← c.self.view_is)
    (if_ok_then c.text_of_record.result _ _
    (λ doc _ spelled d bytes some of. spelled d (subst (IsRecordOf d) (sym (c.as_slice.ensures.same ∙ same_record _ _ _ held some)) of))
    c.text_of_record.ensures.text)

pub returns-clause-lawful : goal.returns-clause-lawful
returns-clause-lawful g c =
    let held = sym (ap (option_map held_of) (c.in-Some-Live.is ∙ ap Some c.in-Some-Live.field-0-is)) ∙ c.held_in.ensures.held in
    rw (← c.self.view_is) λ bytes some. subst IsStoredRecord (same_record _ _ _ held some) (subst IsLawfulHeld c.in-Some-Live.field-0-is c.in-Some-Live.ensures.lawful)
