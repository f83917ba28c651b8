use Rattle.std.proofs.Common.{◌∙◌, ap, map}
use Rattle.std.specs.Arc.{arc_value}
use Rattle.tc_component.specs.declared.head.Head.{Head}
use Rattle.tc_list.specs.Intervals.{first_of}
use Rattle.tc_jobs.proofs.Tiles.{head_with, run_begins, run_ends}
use Rattle.tc_jobs.proofs.merging.head_over.Goals as goal

pub returns : goal.returns
returns g c =
    let from = ap (λ (h : Head). h.from) c.head.ensures ∙ ap (λ m. m.index.head.from) c.deref.ensures ∙ run_begins arc_value c.args.run.now c.index-run-0.result c.requires c.index-run-0.is in
    let to = ap (λ (h : Head). h.to) c.head-2.ensures ∙ ap (λ m. m.index.head.to) c.deref-2.ensures ∙ run_ends arc_value c.args.run.now c.index-run-run.result c.requires c.index-run-run.is in
    ap (λ n. head_with c.args.number c.args.count n c.head-2.result.to) from ∙ ap (λ n. head_with c.args.number c.args.count (first_of (map arc_value c.args.run.now)) n) to
