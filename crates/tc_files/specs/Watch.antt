-- What a watch over files shows.
use Rattle.std.specs.Prelude.{Option}
use Rattle.std.specs.declared.io.Error.{Error}
use Rattle.tc_files.specs.declared.watch.FileWatch.{FileWatch}
use Rattle.tc_store.specs.Counted.{Counts}

-- its member `counts`
abbrev pub counts_of : FileWatch → Counts
counts_of watch = record { faults = watch.faults; reads = watch.reads }

-- the error of the last call that failed by a fault
abbrev pub error_of : FileWatch → Option Error
error_of watch = watch.last_error
