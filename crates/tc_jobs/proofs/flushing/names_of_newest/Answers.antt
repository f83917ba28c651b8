use Rattle.std.proofs.Common.{◌≡◌, ◌∙◌, [], ap, subst, sym}
use Rattle.std.specs.Arc.{arc_value}
use Rattle.std.specs.Prelude.{IfOk}
use Rattle.tc_merge.specs.Merging.{newest_names}
use Rattle.tc_jobs.proofs.Growing.{last_names}
use Rattle.tc_jobs.proofs.flushing.names_of_newest.Goals as goal

pub returns-in-Some : goal.returns-in-Some
returns-in-Some g c =
    let here = c.names.ensures ∙ ap (λ m. m.index.names) c.deref.ensures in
    let last = last_names arc_value c.as_slice.result.now c.in-Some._older.now c.in-Some.newest.now c.in-Some.ensures.cases.0 in
    subst (λ ns. IfOk c.copy.result (λ copied. copied ≡ ns)) (here ∙ sym last ∙ ap (newest_names []) c.as_slice.ensures.all) c.copy.ensures.same
