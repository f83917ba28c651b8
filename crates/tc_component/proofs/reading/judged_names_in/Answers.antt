use Rattle.std.proofs.Common.{ap, Err}
use Rattle.tc_names.specs.Section.{read_section}
use Rattle.tc_store.specs.Judging.{damage, or_damage}
use Rattle.tc_component.proofs.Sections.{refused_judges, names_read, names_refused}
use Rattle.tc_component.proofs.reading.judged_names_in.Goals as goal

pub returns-in-Ok-clause-judged : goal.returns-in-Ok-clause-judged
returns-in-Ok-clause-judged c =
    ap (λ o. or_damage o (damage c.args.place c.args.named.now)) (names_read c.args.named.now c.in-Ok.names c.in-Ok.ensures.found c.in-Ok.ensures.dictionary)

pub returns-in-Err-NotNames-clause-judged : goal.returns-in-Err-NotNames-clause-judged
returns-in-Err-NotNames-clause-judged c =
    refused_judges (λ names. names) (read_section c.args.named.now) c.damaged.result c.args.place c.args.named.now
    (names_refused c.args.named.now (λ i. (c.type_inv.named i).fits) (c.in-Err-NotNames.ensures.refused (ap Err c.in-Err-NotNames.field-0-is))) c.damaged.ensures.damage
