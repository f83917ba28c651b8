use Rattle.std.proofs.Common.{◌≡◌, ℕ, ◌<◌, map, length}
use Rattle.tc_route.specs.Shares.{share}
use Rattle.tc_route.specs.Meaning.{routed_of, requests_at}
use Rattle.tc_route.proofs.splitting.split.Given as goal

abbrev pub invariant-loop-routed : goal.invariant-loop-routed
invariant-loop-routed l = (length l.parts.items ≡ l.fn.partitions) × ((p : ℕ) → p < l.fn.partitions → requests_at p l.parts.items ≡ share l.fn.partitions p (map routed_of l.yielded))
