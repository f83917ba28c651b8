use Rattle.std.proofs.Common.{◌≡◌}
use Rattle.std.specs.Arc.{arc_value}
use Rattle.tc_view.specs.Changes.{writes_in}
use Rattle.tc_view.proofs.ShareLemmas.{flat_map-clones}
use Rattle.tc_view.proofs.view.View.share.Goals as goal

pub returns : goal.returns
returns g c =
    let view = c.args.self.now in
    let chunks = flat_map-clones writes_in (λ x y. arc_value y ≡ arc_value x) (λ x y e. e) view.chunks.items c.in_ok-clone.field-0.items c.in_ok-clone.ensures.cases.0 in
    λ i. record { list = c.in_ok-try_clone.ensures i; sealed = c.in_ok-share_of.ensures i; written = chunks i; upto = (c.again.ensures i).upto; changes = (c.again.ensures i).changes; history = (c.again.ensures i).seen.log; book = (c.again.ensures i).seen.book }
