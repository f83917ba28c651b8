-- Logs of one frame, byte by byte: what the definitions make of them.
use Rattle.std.proofs.Common.{◌≡◌, ℕ, List, [], ◌∷◌, ◌++◌, Ok, Err, refl}
use Rattle.tc_record.specs.Rows.{flag_record}
use Rattle.tc_log.specs.declared.head.LogHead.{LogHead}
use Rattle.tc_log.specs.declared.write.Write.{Write}
use Rattle.tc_log.specs.declared.write.Write.TheVariants.{Upsert, Delete}
use Rattle.tc_log.specs.Reading.{log_judged}
use Rattle.tc_log.specs.Spelling.{log_at_rest}
use Rattle.tc_store.specs.Judging.{damage}

-- the first log of partition 0 of 1
abbrev first_head : LogHead
first_head = record { number = 0; count = 1; generation = 1 }

-- the upsert of `{"a":true}` at key 1
abbrev one_upsert : List Write
one_upsert = Upsert 1 flag_record ∷ []

-- this gate, the header, this gate of the frame, its fields, its body, and a closed gate
abbrev log_with : ℕ → List ℕ → List ℕ
log_with gate body =
    1 ∷ 0x54 ∷ 0x43 ∷ 0x4c ∷ 0x31 ∷ 0 ∷ 0 ∷ 0 ∷ 0 ∷ 0 ∷ 0 ∷ 0 ∷ 1 ∷ 0 ∷ 0 ∷ 0 ∷ 0 ∷ 0 ∷ 0 ∷ 0 ∷ 1 ∷ gate ∷ 0 ∷ 0 ∷ 0 ∷ 1 ∷ 0 ∷ 0 ∷ 0 ∷ 0x26 ∷ (body ++ 0 ∷ [])

-- a key, the kind of an upsert, and a record with names of so many bytes
abbrev body_with : ℕ → List ℕ
body_with total =
    0 ∷ 0 ∷ 0 ∷ 0 ∷ 0 ∷ 0 ∷ 0 ∷ 1 ∷ 1 ∷ 0 ∷ 0 ∷ 0 ∷ total ∷ 0 ∷ 0 ∷ 0 ∷ 0 ∷ 3 ∷ 0 ∷ 0 ∷ 0 ∷ 1 ∷ 0 ∷ 0 ∷ 0 ∷ 0 ∷ 0 ∷ 0 ∷ 0 ∷ 0 ∷ 1 ∷ 1 ∷ 6 ∷ 2 ∷ 7 ∷ 1 ∷ 1 ∷ 0x61 ∷ []

-- a log whose one frame deletes key 7
abbrev deleting_log : List ℕ
deleting_log =
    1 ∷ 0x54 ∷ 0x43 ∷ 0x4c ∷ 0x31 ∷ 0 ∷ 0 ∷ 0 ∷ 0 ∷ 0 ∷ 0 ∷ 0 ∷ 1 ∷ 0 ∷ 0 ∷ 0 ∷ 0 ∷ 0 ∷ 0 ∷ 0 ∷ 1 ∷ 1 ∷ 0 ∷ 0 ∷ 0 ∷ 1 ∷ 0 ∷ 0 ∷ 0 ∷ 9 ∷ 0 ∷ 0 ∷ 0 ∷ 0 ∷ 0 ∷ 0 ∷ 0 ∷ 7 ∷ 2 ∷ 0 ∷ []

spelled : log_at_rest first_head (one_upsert ∷ []) ≡ log_with 1 (body_with 0x1d)
spelled = refl

deleted : log_judged deleting_log ≡ Ok (first_head, Delete 7 ∷ [])
deleted = refl

-- the frame's gate is closed
closed : log_judged (log_with 0x57 (body_with 0x1d)) ≡ Ok (first_head, [])
closed = refl

-- the record tells another length
damaged : log_judged (log_with 1 (body_with 0x1e)) ≡ Err (damage 30 (body_with 0x1e))
damaged = refl
