use Rattle.std.proofs.Common.{◌∙◌, [], ◌∷◌, map, sym, ap}
use Rattle.std.proofs.lemmas.List.{map-append}
use Rattle.std.specs.Arc.{arc_value}
use Rattle.tc_component.specs.Loading.{ComponentState}
use Rattle.tc_list.specs.Intervals.{last_of}
use Rattle.tc_jobs.proofs.ListEnds.{last_pushed}
use Rattle.tc_open.proofs.starting.last_generation.Goals as goal

pub returns-in-Some : goal.returns-in-Some
returns-in-Some g c =
    let older = c.in-Some._older.now in
    let newest = c.in-Some.newest.now in
    let all = sym c.as_slice.ensures.all ∙ ap (map arc_value) c.in-Some.ensures.cases.0 ∙ map-append arc_value older (newest ∷ []) in
    ap (λ h. h.to) c.head.ensures ∙ ap (λ (x : ComponentState _). x.index.head.to) c.deref.ensures ∙ sym (last_pushed 0 (map arc_value older) (arc_value newest)) ∙ sym (ap last_of all)
