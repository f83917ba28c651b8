use Rattle.std.proofs.Common.{◌∙◌, Ok, Err, sym, ap}
use Rattle.tc_schema.specs.Reading.{read_schema}
use Rattle.tc_store.specs.Judging.{damage, or_damage}
use Rattle.tc_component.proofs.Sections.{refused_judges, schema_read, schema_no}
use Rattle.tc_component.proofs.reading.judged_schema_in.Goals as goal

pub returns-in_ok-of-in-Ok-clause-judged : goal.returns-in_ok-of-in-Ok-clause-judged
returns-in_ok-of-in-Ok-clause-judged c =
    ap (λ o. or_damage o (damage c.args.place c.args.counted.now)) (schema_read c.args.names c.args.counted.now c.in-Ok.schema c.ranges.names.fits c.in-Ok.ensures.found c.in-Ok.ensures.schema) ∙ ap Ok (sym c.in_ok-of-in-Ok.ensures)

pub returns-in-Err-NotASchema-clause-judged : goal.returns-in-Err-NotASchema-clause-judged
returns-in-Err-NotASchema-clause-judged c =
    refused_judges (λ schema. schema) (read_schema c.args.names c.args.counted.now) c.damaged.result c.args.place c.args.counted.now
    (schema_no c.args.names c.args.counted.now c.ranges.names.fits (λ i. (c.type_inv.counted i).fits) (c.in-Err-NotASchema.ensures.refused (ap Err c.in-Err-NotASchema.field-0-is))) c.damaged.ensures.damage
