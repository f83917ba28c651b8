use Rattle.tc_component.proofs.Closing.{closed_twice}
use Rattle.tc_component.proofs.builder.put_bytes.Goals as goal
use Rattle.tc_component.proofs.builder.put_bytes.Goals.{then-bytes-ge-PIECE_LEN+in_ok-flush, else-bytes-ge-PIECE_LEN}

pub returns-in_err-put-clause-moments : goal.returns-in_err-put-clause-moments
returns-in_err-put-clause-moments g c =
    let h = g.D.Device.history in
    elim c.if-bytes-ge-PIECE_LEN.branch [
      | then-bytes-ge-PIECE_LEN+in_ok-flush w ↦ closed_twice (h c.args.spool.now.gated) (h w.flush.new.self.gated) (h c.put.new.self.gated) w.flush.ensures.moments (rw (← w.spool-is) c.put.ensures.moments)
      | else-bytes-ge-PIECE_LEN w ↦ rw (← w.spool-is) c.put.ensures.moments
    ]

pub returns-clause-moments : goal.returns-clause-moments
returns-clause-moments g c =
    let h = g.D.Device.history in
    elim c.if-bytes-ge-PIECE_LEN.branch [
      | then-bytes-ge-PIECE_LEN+in_ok-flush w ↦ closed_twice (h c.args.spool.now.gated) (h w.flush.new.self.gated) (h c.put.new.self.gated) w.flush.ensures.moments (rw (← w.spool-is) c.put.ensures.moments)
      | else-bytes-ge-PIECE_LEN w ↦ rw (← w.spool-is) c.put.ensures.moments
    ]
