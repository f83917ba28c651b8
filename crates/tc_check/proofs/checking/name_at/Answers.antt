use Rattle.std.proofs.Common.{◌≡◌, ◌∙◌, ap}
use Rattle.tc_component.specs.Spelling.{name_of}
use Rattle.tc_check.proofs.checking.name_at.Goals as goal

pub returns : goal.returns
returns g c = λ component here.
    let there = c.component_at.ensures in
    let same : c.component_at.result.now ≡ component = cc in
    c.file_name.ensures ∙ ap (λ m. name_of m.index.head) same
