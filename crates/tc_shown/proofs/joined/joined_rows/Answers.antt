use Rattle.std.proofs.Common.{◌≤◌, ◌∙◌, ap, sym, subst, length}
use Rattle.tc_route.specs.Gathered.{gathered_rendered}
use Rattle.tc_shown.proofs.UnitedRows.{few_alone}
use Rattle.tc_shown.proofs.joined.joined_rows.Goals as goal

pub rows_in-requires : goal.rows_in-requires
rows_in-requires c = record { one = subst (λ rs. length rs ≤ 1) (sym (c.in_ok-replies.ensures ∙ ap gathered_rendered c.loop-rows.invariant)) (few_alone c.loop-rows.yielded) }
