use Rattle.std.proofs.Common.{◌+◌, refl, ap, ◌∙◌, arith}
use Rattle.std.specs.Prelude.{min}
use Rattle.tc_flush.proofs.CountedTables.{few_members}
use Rattle.tc_flush.proofs.counting.have_names_room.Goals as goal

pub returns-then-saturating_add-lt-MOST : goal.returns-then-saturating_add-lt-MOST
returns-then-saturating_add-lt-MOST c = λ t of. (
  (λ _. few_members c.args.names.now t c.member_count.result c.saturating_add.result (c.member_count.ensures t of)
      (c.saturating_add.ensures ∙ ap (λ n. min (c.member_count.result + n) 18446744073709551615) (c.from.ensures ∙ c.len.ensures.count)) (omega (arith, c.if-saturating_add-lt-MOST.true))),
  λ _. refl,
)
