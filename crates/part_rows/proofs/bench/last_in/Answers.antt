use Rattle.std.proofs.Common.{◌∙◌, [], ◌∷◌, map, ap, sym}
use Rattle.std.specs.Arc.{arc_value}
use Rattle.std.proofs.lemmas.List.{map-append, nil_from_length}
use Rattle.tc_component.specs.declared.head.Head.{Head}
use Rattle.tc_component.specs.Loading.{ComponentState}
use Rattle.tc_list.specs.Intervals.{last_of}
use Rattle.tc_jobs.proofs.ListEnds.{last_pushed}
use Rattle.tc_store.specs.declared.mem.frozen.MemFrozen.{MemFrozen}
use Rattle.part_rows.proofs.bench.last_in.Goals as goal

pub returns-in-Some : goal.returns-in-Some
returns-in-Some c =
    let all = ap (map arc_value) c.in-Some.ensures.cases.0 ∙ map-append arc_value c.in-Some._older.now (c.in-Some.newest.now ∷ []) in
    ap (λ (h : Head). h.to) (c.head.ensures ∙ ap (λ (m : ComponentState MemFrozen). m.index.head) c.deref.ensures)
    ∙ sym (last_pushed 0 (map arc_value c.in-Some._older.now) (arc_value c.in-Some.newest.now)) ∙ sym (ap last_of all) ∙ ap last_of c.as_slice.ensures.all

pub returns-in-None : goal.returns-in-None
returns-in-None c = sym (ap (λ xs. last_of (map arc_value xs)) (nil_from_length c.as_slice.result.now c.in-None.ensures.cases)) ∙ ap last_of c.as_slice.ensures.all
