use Rattle.std.proofs.Common.{[]}
use Rattle.tc_schema_model.specs.Counted.{nothing}
use Rattle.tc_jobs.proofs.NewestContents.{same_names, same_schema}
use Rattle.tc_jobs.proofs.laws.inputs_are_newest.Goals as goal

pub returns-clause-names : goal.returns-clause-names
returns-clause-names g c components cs all = same_names [] components cs all

pub returns-clause-schema : goal.returns-clause-schema
returns-clause-schema g c components cs all = same_schema nothing components cs all
