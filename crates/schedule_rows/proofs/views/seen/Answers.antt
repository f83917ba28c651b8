use Rattle.std.proofs.Common.{ap, ◌∙◌}
use Rattle.schedule_rows.proofs.views.seen.Goals as goal

pub rounds-seen-requires-after_bounds : goal.rounds-seen-requires-after_bounds
rounds-seen-requires-after_bounds g c κs within =
    let made = c.in_ok-publisher.ensures in
    let lens = c.lens.ensures in (
      made.0,
      lens.ready made.0 made.1,
      c.in-Ok.ensures.lens.0 made.0 made.1,
      ap (λ x. x.upto) (lens.same.1 ∙ made.2),
    )
