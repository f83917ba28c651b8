use Rattle.tc_list.specs.Contents.{Shows}
use Rattle.tc_list.proofs.RunPairs.{AllZip-in_run, AllZip-swapped}
use Rattle.tc_list.proofs.laws.runs_show_contents.Goals as goal

pub returns-clause-run : goal.returns-clause-run
returns-clause-run g c run components cs all = AllZip-in_run Shows run components cs all

pub returns-clause-swapped : goal.returns-clause-swapped
returns-clause-swapped g c run components cs merged content order all shows = AllZip-swapped Shows run components cs merged content order all shows
