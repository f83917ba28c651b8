use Rattle.std.proofs.Common.{refl}
use Rattle.tc_model.specs.Document.{boolean, integer, text}
use Rattle.tc_record.proofs.flat_rows.scalar_of.Goals as goal

pub returns-in-Bool : goal.returns-in-Bool
returns-in-Bool c = (refl, (boolean c.in-Bool.field-0, rw c.in-Bool.is refl))

pub returns-in-Int : goal.returns-in-Int
returns-in-Int c = (refl, (integer c.in-Int.field-0, rw c.in-Int.is refl))

pub returns-in-Text : goal.returns-in-Text
returns-in-Text c = (refl, (text c.in-Text.field-0.now, rw c.in-Text.is refl))
