use Rattle.std.proofs.Common.{[], subst}
use Rattle.tc_model.specs.Dictionary.{Extends}
use Rattle.tc_merge.specs.Merging.{newest_names}
use Rattle.tc_jobs.proofs.Growing.{listed_behind}
use Rattle.tc_jobs.proofs.naming.goes_behind.Goals as goal

pub returns-clause-listed : goal.returns-clause-listed
returns-clause-listed g c = λ number count yes listed of.
    let extends = subst (λ ms. Extends c.names.result.now (newest_names [] ms)) c.as_slice.ensures.all (c.extend_last.ensures.0 yes) in
    listed_behind number count c.args.list.now c.args.component.now (subst (λ ns. Extends ns (newest_names [] c.args.list.now)) c.names.ensures extends) listed of
