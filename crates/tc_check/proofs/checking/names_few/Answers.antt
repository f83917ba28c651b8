use Rattle.std.proofs.Common.{◌∙◌, [], map, ap, subst, sym}
use Rattle.std.specs.Arc.{arc_value}
use Rattle.std.specs.Prelude.{IfOk}
use Rattle.std.proofs.lemmas.List.{nil_from_length}
use Rattle.tc_merge.specs.Merging.{newest_names}
use Rattle.tc_check.specs.Naming.{FitBehind}
use Rattle.tc_check.proofs.CheckedReads.{last_mapped}
use Rattle.tc_check.proofs.checking.names_few.Goals as goal

pub returns-in-Some : goal.returns-in-Some
returns-in-Some g c =
    let here = c.names.ensures ∙ ap (λ m. m.index.names) c.deref.ensures in
    let last = ap (λ ms. newest_names [] (map arc_value ms)) c.in-Some.ensures.cases.0 ∙ last_mapped arc_value [] c.in-Some._older.now c.in-Some.newest.now in
    subst (λ ns. IfOk c.names_fit_behind.result (FitBehind c.args.logs.items ns)) (here ∙ sym last ∙ ap (newest_names []) c.as_slice.ensures.all) c.names_fit_behind.ensures

pub returns-in-None : goal.returns-in-None
returns-in-None g c =
    let none = nil_from_length c.as_slice.result.now c.in-None.ensures.cases in
    let all = sym (ap (map arc_value) none) ∙ c.as_slice.ensures.all in
    subst (λ ns. IfOk c.names_fit_behind-in-None.result (FitBehind c.args.logs.items ns)) (c.new.ensures.empty ∙ ap (newest_names []) all) c.names_fit_behind-in-None.ensures
