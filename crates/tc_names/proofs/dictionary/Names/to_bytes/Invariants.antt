use Rattle.std.proofs.Common.{◌≡◌, ◌++◌, length, take, flat_map}
use Rattle.std.specs.Int.{w32, to_be_bytes}
use Rattle.tc_bytes.specs.Codec.{counted_bytes}
use Rattle.tc_names.proofs.dictionary.Names.to_bytes.Given as goal

abbrev pub invariant-loop-id : goal.invariant-loop-id
invariant-loop-id l = l.out.items ≡ to_be_bytes w32 (length l.self) ++ flat_map counted_bytes (take l.id l.self)
