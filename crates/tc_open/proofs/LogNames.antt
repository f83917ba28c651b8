-- The names of logs, one after the other.
use Rattle.std.proofs.Common.{◌≡◌, ◌+◌, ◌-◌, ◌<◌, ℕ, suc, ◌∷◌, ap, arith}
use Rattle.tc_store.specs.declared.file_name.FileName.TheVariants.{Log}
use Rattle.tc_open.specs.FlushedLogs.{log_names}

pub next_log : (generation end : ℕ) → generation < end → log_names generation (end - generation) ≡ Log generation ∷ log_names (generation + 1) (end - (generation + 1))
next_log generation end before = let one : end - generation ≡ suc (end - (generation + 1)) = omega (arith, before) in ap (log_names generation) one
