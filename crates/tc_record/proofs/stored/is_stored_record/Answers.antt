use Rattle.std.proofs.Common.{◌∙◌, sym}
use Rattle.tc_record.proofs.StoredRecords.{IsStoredRecord-from_test, test-from_IsStoredRecord}
use Rattle.tc_record.proofs.stored.is_stored_record.Goals as goal

pub returns-clause-stored : goal.returns-clause-stored
returns-clause-stored c =
    (λ passes. IsStoredRecord-from_test c.args.bytes.now (λ i. (c.type_inv.bytes i).fits) (sym c.passes.ensures ∙ passes), λ is. c.passes.ensures ∙ test-from_IsStoredRecord c.args.bytes.now is)
