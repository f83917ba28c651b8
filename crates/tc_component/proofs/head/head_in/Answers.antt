use Rattle.std.proofs.Common.{◌∙◌, ℕ, ap}
use Rattle.tc_component.specs.Reading.{head_at}
use Rattle.tc_component.proofs.head.head_in.Goals as goal

pub returns : goal.returns
returns c = c.head_of_version.ensures ∙ ap (λ (v : ℕ). head_at v c.args.bytes.now) c.version_in.ensures
