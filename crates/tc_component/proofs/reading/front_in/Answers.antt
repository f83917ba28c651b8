use Rattle.std.proofs.Common.{◌∙◌, ◌-◌, min, ap}
use Rattle.tc_component.proofs.Fronts.{front_answers}
use Rattle.tc_component.proofs.reading.front_in.Goals as goal

pub returns-clause-read : goal.returns-clause-read
returns-clause-read g c =
    let laws = g.met.F.Frozen g.world.𝓛 g.world.𝓜 g.world.𝓡 ((λ s x. x), (λ x. x), (λ x. x), λ x. x) in
    let size = g.F.Frozen.size c.args.file.now in
    front_answers c.bytes_of.result (g.F.Frozen.content c.args.file.now) size c.min-at.result c.min-count.result (laws.told_size c.args.file.now) (c.min-at.ensures ∙ ap (λ n. min n 1) c.len.ensures.exact)
    (c.min-count.ensures ∙ ap (λ n. min (n - c.min-at.result) 60) c.len-2.ensures.exact) c.bytes_of.ensures.read
