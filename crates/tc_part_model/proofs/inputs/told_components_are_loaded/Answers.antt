use Rattle.tc_component.specs.Loaded.{IsLoadedOf}
use Rattle.tc_list.proofs.RunPairs.{AllZip-in_run}
use Rattle.tc_part_model.proofs.LoadedComponents.{all_loaded, is_of, loaded_of, run_names, swapped_told}
use Rattle.tc_part_model.proofs.inputs.told_components_are_loaded.Goals as goal

pub returns-clause-loaded : goal.returns-clause-loaded
returns-clause-loaded g c = loaded_of g.F.Frozen.content

pub returns-clause-all_loaded : goal.returns-clause-all_loaded
returns-clause-all_loaded g c = all_loaded g.F.Frozen.content

pub returns-clause-run : goal.returns-clause-run
returns-clause-run g c run components cs all = AllZip-in_run (IsLoadedOf g.F.Frozen.content) run components cs all

pub returns-clause-of_content : goal.returns-clause-of_content
returns-clause-of_content g c = is_of g.F.Frozen.content

pub returns-clause-swapped : goal.returns-clause-swapped
returns-clause-swapped g c = swapped_told g.F.Frozen.content

pub returns-clause-names : goal.returns-clause-names
returns-clause-names g c = run_names g.F.Frozen.content
