-- What a program's words ask for.
use Rattle.std.specs.Prelude.{ℕ, List, Option, option_and_then}
use Rattle.tc_keeper.specs.declared.fault.RunFault.{RunFault}
use Rattle.tc_keeper.specs.declared.fault.RunFault.TheVariants.{Usage, Memory}
use Rattle.tc_words.specs.Options.{invocation_of}
use Rattle.tc_words.specs.declared.asked.Invocation.{Invocation}
use Rattle.tc_words.specs.declared.fault.WordsFault.{WordsFault}
use Rattle.tc_words.specs.declared.fault.WordsFault.TheVariants as words

-- what a program's words ask for; nothing where it has no words
abbrev pub invocation_given : Option (List (List ℕ)) → Option Invocation
invocation_given given = option_and_then invocation_of given

-- the fault of a run whose words are refused so
abbrev pub fault_of_words : WordsFault → RunFault
fault_of_words words.Usage = Usage
fault_of_words words.Memory = Memory
