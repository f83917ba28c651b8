use Rattle.std.proofs.Common.{◌+◌, ◌<◌, ◌^◌, length, map, ap, ◌∙◌}
use Rattle.std.proofs.lemmas.Result.{on_ok_weaker}
use Rattle.tc_model.specs.Dictionary.{all_learned, number}
use Rattle.tc_model.specs.ShapeNames.{names_within}
use Rattle.tc_record.specs.Record.{joined}
use Rattle.tc_schema_model.specs.Occurrences.{Path}
use Rattle.tc_schema_model.specs.Counted.{total_at}
use Rattle.tc_schema_model.specs.Added.{added}
use Rattle.tc_schema_model.specs.Values.{values_at}
use Rattle.tc_infer.proofs.RecordShape.{told_shape, of_told}
use Rattle.tc_infer.proofs.learned.add_learning.Goals as goal

pub count_learned-requires-clause-counters : goal.count_learned-requires-clause-counters
count_learned-requires-clause-counters c =
    of_told c.args.of c.bytes-bytes.ensures.spells c.requires.named (λ s. (path : Path) → total_at c.args.names.now c.args.schema.now path + values_at s path < 2 ^ 64) c.requires.counters

pub count_learned-requires-clause-room : goal.count_learned-requires-clause-room
count_learned-requires-clause-room c = of_told c.args.of c.bytes-bytes.ensures.spells c.requires.named (λ s. length (all_learned c.args.names.now (names_within s)) < 2 ^ 32) c.requires.room

pub count_learned-requires-clause-short : goal.count_learned-requires-clause-short
count_learned-requires-clause-short c = of_told c.args.of c.bytes-bytes.ensures.spells c.requires.named (λ s. length (joined (names_within s)) < 2 ^ 32) c.requires.short

pub returns-clause-added : goal.returns-clause-added
returns-clause-added c =
    on_ok_weaker c.count_learned.result
    (λ told doc is. told ∙ ap (λ s. added c.count_learned.new.names s c.args.schema.now) (told_shape c.args.of c.bytes-bytes.ensures.spells c.requires.named doc is))
    c.count_learned.ensures.added

pub returns-clause-names : goal.returns-clause-names
returns-clause-names c =
    on_ok_weaker c.count_learned.result
    (λ told doc is. told ∙ ap (λ s. all_learned c.args.names.now (names_within s)) (told_shape c.args.of c.bytes-bytes.ensures.spells c.requires.named doc is))
    c.count_learned.ensures.names

pub returns-clause-numbers : goal.returns-clause-numbers
returns-clause-numbers c =
    on_ok_weaker c.count_learned.result
    (λ told doc is. told ∙ ap (λ s. map (number c.count_learned.new.names) (names_within s)) (told_shape c.args.of c.bytes-bytes.ensures.spells c.requires.named doc is))
    c.count_learned.ensures.numbers

pub returns-clause-bytes : goal.returns-clause-bytes
returns-clause-bytes c =
    on_ok_weaker c.count_learned.result
    (λ told doc is. told ∙ ap (λ s. length (joined (names_within s))) (told_shape c.args.of c.bytes-bytes.ensures.spells c.requires.named doc is))
    c.count_learned.ensures.bytes
