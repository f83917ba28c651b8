-- What a watch of files that tell nothing has counted.
use Rattle.tc_store.specs.Counted.{Counts}
use Rattle.codec_bench.specs.declared.silent.Tally.{Tally}

abbrev pub counts_of : Tally → Counts
counts_of watch = record { faults = watch.faults; reads = watch.reads }
