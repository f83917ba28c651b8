-- The log of a part that begins has the name of its generation.
use Rattle.std.proofs.Common.{◌≡◌, ◌+◌, List, None, ap, arith}
use Rattle.tc_store.specs.declared.file_name.FileName.TheVariants.{Log}
use Rattle.tc_lsm_model.specs.Contents.{Content}
use Rattle.tc_lsm_model.specs.Lists.{last_of}
use Rattle.tc_part_model.specs.Meaning.{IsPart}
use Rattle.tc_part_model.specs.Newest.{newest_index, next_by}
use Rattle.tc_part_model.specs.Starting.{ToldOpening, first_log, started, started_part}

pub named_first : (o : ToldOpening) (list : List Content) → IsPart (started o) (started_part o.part list) → Log (next_by (newest_index None o.components)) ≡ first_log list
named_first o list is =
    let first : next_by (newest_index None o.components) ≡ last_of list + 1 = omega (arith, is.view.generation) in
    ap (λ g. Log g) first
