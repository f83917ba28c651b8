use Rattle.std.proofs.Common.{◌+◌, [], take, drop, subst}
use Rattle.std.specs.Arc.{arc_value}
use Rattle.std.specs.Prelude.{◌↔◌, IsTrue}
use Rattle.tc_model.specs.Dictionary.{Extends}
use Rattle.tc_merge.specs.Merging.{newest_names}
use Rattle.tc_jobs.specs.Lists.{FirstExtends}
use Rattle.tc_jobs.proofs.Growing.{between_is, between_not, listed_between}
use Rattle.tc_jobs.proofs.Tiles.{back_seen, front_seen}
use Rattle.tc_jobs.proofs.naming.goes_between.Goals as goal

pub returns-then-extend_last-clause-exact : goal.returns-then-extend_last-clause-exact
returns-then-extend_last-clause-exact g c =
    let items = c.as_slice-components.result.now in
    let n = c.args.run.last + 1 in
    let older = front_seen arc_value items c.args.list.now c.as_slice-components.ensures.all c.args.run.first in
    let newer = back_seen arc_value items c.args.list.now c.as_slice-components.ensures.all n in
    between_is (take c.args.run.first c.args.list.now) (drop n c.args.list.now) c.args.merged.now c.names-names.result.now c.extend_last.result c.first_extends.result c.names-names.ensures
    (subst (λ ms. IsTrue c.extend_last.result ↔ Extends c.names-names.result.now (newest_names [] ms)) older c.extend_last.ensures)
    (subst (λ ms. IsTrue c.first_extends.result ↔ FirstExtends c.names-names.result.now ms) newer c.first_extends.ensures) c.if-extend_last.true

pub returns-then-extend_last-clause-listed : goal.returns-then-extend_last-clause-listed
returns-then-extend_last-clause-listed g c = λ number count yes listed of.
    let items = c.as_slice-components.result.now in
    let n = c.args.run.last + 1 in
    let older = front_seen arc_value items c.args.list.now c.as_slice-components.ensures.all c.args.run.first in
    let newer = back_seen arc_value items c.args.list.now c.as_slice-components.ensures.all n in
    let exact = between_is (take c.args.run.first c.args.list.now) (drop n c.args.list.now) c.args.merged.now c.names-names.result.now c.extend_last.result c.first_extends.result c.names-names.ensures
    (subst (λ ms. IsTrue c.extend_last.result ↔ Extends c.names-names.result.now (newest_names [] ms)) older c.extend_last.ensures)
    (subst (λ ms. IsTrue c.first_extends.result ↔ FirstExtends c.names-names.result.now ms) newer c.first_extends.ensures) c.if-extend_last.true in
    listed_between number count c.args.run c.args.list.now c.args.merged.now (exact.0 yes) listed of

pub returns-else-extend_last-clause-exact : goal.returns-else-extend_last-clause-exact
returns-else-extend_last-clause-exact g c =
    let items = c.as_slice-components.result.now in
    let older = front_seen arc_value items c.args.list.now c.as_slice-components.ensures.all c.args.run.first in
    between_not (take c.args.run.first c.args.list.now) (drop (c.args.run.last + 1) c.args.list.now) c.args.merged.now c.names-names.result.now c.extend_last.result c.names-names.ensures
    (subst (λ ms. IsTrue c.extend_last.result ↔ Extends c.names-names.result.now (newest_names [] ms)) older c.extend_last.ensures) c.if-extend_last.false
