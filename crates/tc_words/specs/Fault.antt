-- Which fault an error of clap is.
use Rattle.clap.specs.declared.error.kind.ErrorKind.{ErrorKind}
use Rattle.clap.specs.declared.error.kind.ErrorKind.TheVariants.{OutOfMemory}
use Rattle.tc_words.specs.declared.fault.WordsFault.{WordsFault}
use Rattle.tc_words.specs.declared.fault.WordsFault.TheVariants.{Usage, Memory}

-- want of memory, and otherwise words that ask for nothing
abbrev pub fault_of_kind : ErrorKind → WordsFault
fault_of_kind OutOfMemory = Memory
fault_of_kind _ = Usage
