use Rattle.std.proofs.Common.{◌≡◌, ◌≤◌, ℕ, length}
use Rattle.std.specs.Prelude.{slice_index_or}
use Rattle.std.specs.declared.alloc.Global.{Global}
use Rattle.std.specs.declared.vec.Vec.{Vec}
use Rattle.tc_log.specs.declared.write.Write.{Write}
use Rattle.tc_keeper.proofs.ShownWorlds.{Wrote}
use Rattle.tc_keeper.proofs.Turns.{InTurn}
use Rattle.tc_keeper.proofs.showing.write_all.Given as goal

-- those below a number were written, and the other frames are still there
abbrev pub invariant-loop-at : goal.invariant-loop-at
invariant-loop-at g l = record {
  turns : InTurn (Wrote l.fn.frames.items) l.fn.shown.items l.shown.items l.at;
  frames : (p : ℕ) (frame : Vec Write Global) → l.at ≤ p → slice_index_or l.frames.items p frame ≡ slice_index_or l.fn.frames.items p frame;
  many : length l.frames.items ≡ length l.fn.frames.items;
}
