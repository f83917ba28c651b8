use Rattle.std.proofs.Common.{length}
use Rattle.tc_component.specs.Reading.{version_of}
use Rattle.tc_component.specs.Rows.{component_index}
use Rattle.tc_audit.proofs.ContentLaws.{made, stored_up_to}
use Rattle.tc_audit.specs.Told.{content_in}
use Rattle.tc_audit.proofs.law.stored_records_make_contents.Goals as goal

pub returns-clause-made : goal.returns-clause-made
returns-clause-made c = λ index bytes holds stored. made c.document_meant.ensures.read index bytes holds stored

pub returns-clause-stored : goal.returns-clause-stored
returns-clause-stored c = λ content bytes end is. stored_up_to content bytes end (c.components_are_contents.ensures.fetched content bytes) is

pub returns-clause-one : goal.returns-clause-one
returns-clause-one c = λ content bytes is.
    let index = component_index (version_of bytes) content in
    let laws = c.components_are_contents.ensures in
    let again = made c.document_meant.ensures.read index bytes (laws.holds content bytes is) (stored_up_to content bytes (length index.slots) (laws.fetched content bytes) is) in
    laws.apart (content_in index bytes) content bytes again.0 is
