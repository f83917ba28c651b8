use Rattle.std.proofs.Common.{ap, refl}
use Rattle.tc_store.specs.Gate.{is_open_file}
use Rattle.tc_component.specs.Reading.{front_of, version_of}
use Rattle.tc_component.specs.Rows.{head_of, component_index}
use Rattle.tc_component.specs.Spelling.{name_of}
use Rattle.tc_component.proofs.EntryPlaces.{means, entry_of}
use Rattle.tc_component.proofs.EntryRecords.{kept, only, within_names}
use Rattle.tc_component.proofs.Files.{judged_spelled}
use Rattle.tc_component.proofs.Versions.{told_version}
use Rattle.tc_component.proofs.SpelledContents.{component_holds, one_content, fetched}
use Rattle.tc_component.proofs.law.components_are_contents.Goals as goal

pub returns-clause-holds : goal.returns-clause-holds
returns-clause-holds c = component_holds

pub returns-clause-open : goal.returns-clause-open
returns-clause-open c = λ content bytes is. ap is_open_file is.spelled

pub returns-clause-judged : goal.returns-clause-judged
returns-clause-judged c = λ content bytes is. judged_spelled (name_of (head_of content)) bytes (component_index (version_of bytes) content) (component_holds content bytes is) refl

pub returns-clause-apart : goal.returns-clause-apart
returns-clause-apart c = one_content

pub returns-clause-found : goal.returns-clause-found
returns-clause-found c = λ content bytes key found is. means (version_of bytes) (told_version (front_of bytes)) content key found is.content is.records

pub returns-clause-fetched : goal.returns-clause-fetched
returns-clause-fetched c = fetched

pub returns-clause-spelled : goal.returns-clause-spelled
returns-clause-spelled c = λ content bytes at key d is here.
    let e = entry_of content at key _ is.content is.records here in only (version_of bytes) (told_version (front_of bytes)) content.names d (kept (version_of bytes) (told_version (front_of bytes)) content.names key d is.content.dictionary e.0 e.1)

pub returns-clause-within : goal.returns-clause-within
returns-clause-within c = λ content bytes at key d is here.
    let e = entry_of content at key _ is.content is.records here in within_names (version_of bytes) (told_version (front_of bytes)) content.names d (kept (version_of bytes) (told_version (front_of bytes)) content.names key d is.content.dictionary e.0 e.1)
