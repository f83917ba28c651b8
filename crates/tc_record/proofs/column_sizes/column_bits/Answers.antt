use Rattle.std.proofs.Common.{◌∙◌, ◌<◌, ◌^◌, sym, ap, subst, arith}
use Rattle.std.specs.List.{AllByRecursion}
use Rattle.tc_bits.specs.Bits.{column}
use Rattle.tc_record.specs.Record.{spelling_of}
use Rattle.tc_record.proofs.Spellings.{form_spells}
use Rattle.tc_record.proofs.ColumnSizes.{told_below, told_column}
use Rattle.tc_record.proofs.column_sizes.column_bits.Goals as goal

pub returns-clause-some : goal.returns-clause-some
returns-clause-some c = let some = (form_spells c.args.form).some c.args.greatest in omega (arith, some, c.bits_holding.ensures)

pub returns-clause-most : goal.returns-clause-most
returns-clause-most c = let most = (form_spells c.args.form).most c.args.greatest in omega (arith, most, c.bits_holding.ensures)

pub returns-clause-holds : goal.returns-clause-holds
returns-clause-holds c = λ ns same.
    subst (λ b. AllByRecursion (λ n. n < 2 ^ b) ns) (sym c.bits_holding.ensures) (told_below (spelling_of c.args.form) (form_spells c.args.form) ns c.args.greatest (omega arith) same)

pub returns-clause-spells : goal.returns-clause-spells
returns-clause-spells c = λ ns same.
    ap (λ b. column b ns) c.bits_holding.ensures ∙ told_column (spelling_of c.args.form) (form_spells c.args.form) ns c.args.greatest (omega arith) same
