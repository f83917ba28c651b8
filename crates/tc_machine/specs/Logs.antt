-- The write-ahead logs of a partition, and when the bytes of a file are those of a log.
use Rattle.std.specs.Prelude.{◌≡◌, ℕ, List, map, flat_map, Some, None, Ok}
use Rattle.tc_record.specs.Record.{record_of}
use Rattle.tc_store.specs.Images.{Image}
use Rattle.tc_log.specs.declared.head.LogHead.{LogHead}
use Rattle.tc_log.specs.declared.write.Write as log
use Rattle.tc_log.specs.declared.write.Write.TheVariants.{Upsert, Delete}
use Rattle.tc_log.specs.Reading.{front_of, front_judged}
use Rattle.tc_log.specs.Spelling.{Means}
use Rattle.tc_plain_model.specs.Writes.{Write}
use Rattle.tc_lsm_model.specs.Contents.{Partition}

abbrev pub log_head : Partition → ℕ → LogHead
log_head part generation = record { number = part.number; count = part.count; generation = generation }

-- a write as a log keeps it: the document as its record
abbrev pub kept_write : Write → log.Write
kept_write (key, Some d) = Upsert key (record_of d)
kept_write (key, None) = Delete key

-- bytes mean these writes, in a log of this generation
abbrev pub IsLog : Partition → ℕ → List Write → List ℕ → Type 0
IsLog part generation ws bytes = Means bytes (log_head part generation) (map kept_write ws)

-- there is such a log
abbrev pub LeavesLog : Partition → ℕ → List Write → Image → Type 0
LeavesLog part generation ws None = ⊥
LeavesLog part generation ws (Some bytes) = IsLog part generation ws bytes

-- whatever stands behind it, the header is that of a log of this generation
abbrev pub HasLogHead : Partition → ℕ → List ℕ → Type 0
HasLogHead part generation bytes = front_judged generation (front_of bytes) ≡ Ok (log_head part generation)

-- the writes of logs, of which the oldest comes first
abbrev pub all_writes : List (List Write) → List Write
all_writes logs = flat_map (λ ws. ws) logs
