use Rattle.tc_recover.proofs.Taking.{short_bytes}
use Rattle.tc_recover.proofs.gates.take_file.Goals as goal

pub returns-clause-bytes : goal.returns-clause-bytes
returns-clause-bytes g c =
    let laws = g.met.S.Frozen.Frozen g.world.𝓛 g.world.𝓜 g.world.𝓡 ((λ s x. x), (λ x. x), (λ x. x), λ x. x) in
    short_bytes (g.S.Frozen.Frozen.content c.in_ok-file.file) (g.S.Frozen.Frozen.size c.in_ok-file.file) c.len-length.ensures.bytes c.len-length.ensures.limit (laws.told_size c.in_ok-file.file)
