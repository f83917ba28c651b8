use Rattle.std.proofs.Common.{refl, sym, subst}
use Rattle.tc_memory.specs.DocumentTables.{IsTableOf}
use Rattle.tc_memory.specs.Table.{IsTable}
use Rattle.tc_flush.specs.Flushing.{flush_of}
use Rattle.tc_flush.proofs.FlushedBytes.{short_writes}
use Rattle.tc_flush.proofs.job.FlushJob.run.Goals as goal

pub returns-in-Ok-clause-flushed : goal.returns-in-Ok-clause-flushed
returns-in-Ok-clause-flushed g c =
    let parts = c.self.inside.parts in
    rw (← c.self.view_is) (λ cs t generations behind. (
      flush_of parts.head parts.names parts.schema t,
      c.flushes_are_made.ensures parts.head cs t generations parts.names parts.schema _ behind (subst IsTable c.deref-table.ensures c.len-entries.ensures.table) (c.self.invariant.1 t behind.of) c.header_fits.ensures.number c.header_fits.ensures.count,
      short_writes t (c.self.invariant.1 t behind.of).short,
      refl,
    ))

pub returns-in-Ok-clause-moments : goal.returns-in-Ok-clause-moments
returns-in-Ok-clause-moments g c =
    rw (← c.self.view_is) (λ before t of shut. c.in-Ok.ensures.moments before t (subst (IsTableOf t) (sym c.deref-table.ensures) of) shut)

pub returns-clause-flushed : goal.returns-clause-flushed
returns-clause-flushed g c =
    let parts = c.self.inside.parts in
    rw (← c.self.view_is) (λ cs t generations behind. (
      flush_of parts.head parts.names parts.schema t,
      c.flushes_are_made.ensures parts.head cs t generations parts.names parts.schema _ behind (subst IsTable c.deref-table.ensures c.len-entries.ensures.table) (c.self.invariant.1 t behind.of) c.header_fits.ensures.number c.header_fits.ensures.count,
      short_writes t (c.self.invariant.1 t behind.of).short,
      refl,
    ))

pub returns-clause-moments : goal.returns-clause-moments
returns-clause-moments g c =
    rw (← c.self.view_is) (λ before t of shut. c.in-Err.ensures.broken_moments before t (subst (IsTableOf t) (sym c.deref-table.ensures) of) shut)
