use Rattle.std.proofs.Common.{◌∙◌, [], map, ap, subst, sym, true}
use Rattle.std.specs.Arc.{arc_value}
use Rattle.std.specs.Prelude.{◌↔◌, IsTrue}
use Rattle.std.proofs.lemmas.List.{nil_from_length}
use Rattle.tc_model.specs.Dictionary.{Extends}
use Rattle.tc_merge.specs.Merging.{newest_names}
use Rattle.tc_jobs.proofs.Growing.{extends_nothing, last_names}
use Rattle.tc_jobs.proofs.naming.extend_last.Goals as goal

pub returns-in-Some : goal.returns-in-Some
returns-in-Some g c =
    let here = c.names.ensures ∙ ap (λ m. m.index.names) c.deref.ensures in
    let last = last_names arc_value c.args.components.now c.in-Some._older.now c.in-Some.last.now c.in-Some.ensures.cases.0 in
    subst (λ ns. IsTrue c.extends.result ↔ Extends c.args.names.now ns) (here ∙ sym last) c.extends.ensures.prefix

pub returns-in-None : goal.returns-in-None
returns-in-None g c =
    subst (λ ms. IsTrue true ↔ Extends c.args.names.now (newest_names [] (map arc_value ms))) (sym (nil_from_length c.args.components.now c.in-None.ensures.cases)) (extends_nothing c.args.names.now)
