use Rattle.std.proofs.Common.{◌≡◌, ◌∙◌, ap, subst, sym}
use Rattle.std.specs.Arc.{arc_value}
use Rattle.std.specs.Prelude.{IfOk}
use Rattle.tc_schema_model.specs.Counted.{nothing}
use Rattle.tc_merge.specs.Merging.{newest_schema}
use Rattle.tc_jobs.proofs.Growing.{last_schema}
use Rattle.tc_jobs.proofs.flushing.schema_of_newest.Goals as goal

pub returns-in-Some : goal.returns-in-Some
returns-in-Some g c =
    let here = ap (λ m. m.index.schema) c.deref.ensures in
    let last = last_schema arc_value c.as_slice.result.now c.in-Some._older.now c.in-Some.newest.now c.in-Some.ensures.cases.0 in
    subst (λ s. IfOk c.schema.result (λ schema. schema ≡ s)) (here ∙ sym last ∙ ap (newest_schema nothing) c.as_slice.ensures.all) c.schema.ensures
