use Rattle.std.proofs.Common.{◌∙◌, ap}
use Rattle.tc_infer.specs.Levels.{shape_under}
use Rattle.tc_infer.proofs.LevelSteps.{first_taken}
use Rattle.tc_infer.proofs.known.in_document.Goals as goal

pub returns-clause-under : goal.returns-clause-under
returns-clause-under c = λ names.
    first_taken names c.cursor-cursor.result c.next-document.new.self c.next-document.result c.next-document.ensures.taken c.next-document.ensures.end ∙ ap (shape_under names) c.cursor-cursor.ensures
