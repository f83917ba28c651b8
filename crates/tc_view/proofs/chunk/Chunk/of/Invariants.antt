use Rattle.std.proofs.Common.{take}
use Rattle.tc_view.proofs.PieceLemmas.{AreOf}
use Rattle.tc_view.proofs.chunk.Chunk.of.Given as goal

-- the pieces are those of the writes so far
abbrev pub invariant-loop-write : goal.invariant-loop-write
invariant-loop-write l = AreOf l.bytes.items l.pieces.items (take l.write-index l.writes)
