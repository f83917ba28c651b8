use Rattle.std.proofs.Common.{ap, ◌∙◌, flat_map, None}
use Rattle.tc_view.specs.Changes.{writes_in}
use Rattle.tc_view.proofs.publisher.opened.Goals as goal

pub returns : goal.returns
returns g c =
    let list = c.in_ok-new.ensures.ok ∙ c.new.ensures in
    let written = ap (λ l. flat_map writes_in l) c.new-3.ensures.items in
    let log = ap (λ s. s.log) c.again.ensures ∙ c.requires in
    λ i. record { list = list i; sealed = None; written = written i; upto = 0; changes = 0; history = log i; book = (c.again.ensures i).book }
