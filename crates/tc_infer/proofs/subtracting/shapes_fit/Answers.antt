use Rattle.std.proofs.Common.{subst}
use Rattle.tc_schema_model.specs.Fits.{FitsByPath}
use Rattle.tc_schema_model.proofs.FitLaws.{document_fits}
use Rattle.tc_infer.proofs.subtracting.shapes_fit.Goals as goal

pub returns : goal.returns
returns c = λ before after doc is stands. subst (FitsByPath c.args.names.now c.args.schema.now) is (document_fits c.args.names.now c.args.schema.now before after doc stands)
