use Rattle.std.proofs.Common.{◌∙◌, sym}
use Rattle.tc_component.specs.Reading.{version_of}
use Rattle.tc_component.specs.Rows.{component_index}
use Rattle.tc_store.proofs.Judged.{same_Ok}
use Rattle.tc_list.proofs.LoadedContents.{all_show, holds_live}
use Rattle.tc_list.proofs.laws.loaded_components_show_contents.Goals as goal

pub returns-clause-loaded : goal.returns-clause-loaded
returns-clause-loaded g c component content bytes tells is judged = record {
  bytes = bytes;
  tells = tells;
  is = is;
  index = same_Ok component.index (component_index (version_of bytes) content) (sym judged ∙ c.components_are_contents.ensures.judged content bytes is);
}

pub returns-clause-shown : goal.returns-clause-shown
returns-clause-shown g c components cs all = all_show _ c.components_are_contents.ensures.found components cs all

pub returns-clause-fetched : goal.returns-clause-fetched
returns-clause-fetched g c part components cs key at place is all found =
    let law = c.components_are_contents.ensures in
    holds_live _ law.found (λ d bytes i k e here there. record { there = law.fetched d bytes i k e here there; one = law.spelled d bytes i k e here there; within = law.within d bytes i k e here there })
    part components cs key at place is all found
