use Rattle.std.proofs.Common.{refl, sym, ap, ◌∙◌}
use Rattle.tc_part_model.specs.Staging.{counted_with}
use Rattle.tc_part_model.proofs.HeldKeys.{stage_counts, stage_plain}
use Rattle.tc_part_model.proofs.Stagings.{stage_is_part}
use Rattle.tc_part_model.proofs.staging.staged_is_kept.Goals as goal

pub returns-clause-staged : goal.returns-clause-staged
returns-clause-staged c = λ t u p w handed is storable hands same count.
    stage_is_part t p w handed is storable hands u same (count ∙ ap (counted_with w _) is.view.live ∙ sym (stage_counts p w))

pub returns-clause-plain : goal.returns-clause-plain
returns-clause-plain c = stage_plain

pub returns-clause-room : goal.returns-clause-room
returns-clause-room c = λ t p limits key is. rw is.view.live refl
