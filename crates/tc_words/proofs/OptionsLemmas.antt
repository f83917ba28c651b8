-- From what clap makes of the words to the options that they ask for.
use Rattle.std.proofs.Common.{◌≡◌, ◌≢◌, ◌∙◌, ap, sym, List, Option, Some, None, Result, Ok, Err, IfOk, IsErrAnd, IsErrOf}
use Rattle.std.specs.Prelude.{ok_or, option_and_then}
use Rattle.clap.specs.Words.{Row, Text}
use Rattle.clap.specs.declared.error.kind.ErrorKind.{ErrorKind}
use Rattle.clap.specs.declared.error.kind.ErrorKind.TheVariants.{OutOfMemory}
use Rattle.tc_words.specs.Fault.{fault_of_kind}
use Rattle.tc_words.specs.Grammar.{named_matches}
use Rattle.tc_words.specs.Options.{invocation_in, invocation_of}
use Rattle.tc_words.specs.declared.fault.WordsFault.{WordsFault}
use Rattle.tc_words.specs.declared.fault.WordsFault.TheVariants.{Usage, Memory}

pub nothing_asked : (words : List Text) → named_matches words ≡ None → invocation_of words ≡ None
unfolding invocation_of
nothing_asked words none = ap (option_and_then invocation_in) none

pub is_asked : (words : List Text) (met : Option (Text × List Row)) → named_matches words ≡ met → invocation_of words ≡ option_and_then invocation_in met
unfolding invocation_of
is_asked words met is = ap (option_and_then invocation_in) is

-- an error that is one of usage is not want of memory
pub usage_kind : (fault : WordsFault) (kind : ErrorKind) → fault ≡ fault_of_kind kind → fault ≡ Usage → kind ≢ OutOfMemory
usage_kind fault kind named usage memory =
    let is : fault ≡ Memory = named ∙ ap fault_of_kind memory in
    cc

-- nor is one that is handed on as usage
pub not_memory : {T : Type 0} (r : Result T WordsFault) (kind : ErrorKind) → IsErrAnd r (λ fault. fault ≡ fault_of_kind kind)
    → IsErrOf r Usage → kind ≢ OutOfMemory
not_memory (Ok x) kind named usage memory = absurd named
not_memory (Err fault) kind named usage memory = usage_kind fault kind named (cc) memory

-- ---- options that are there, or else a fault

pub options_answered : {T F : Type 0} (o : Option T) (fault : F) (r : Result T F) (wanted : Option T) → r ≡ ok_or o fault → wanted ≡ o
    → IfOk r (λ x. wanted ≡ Some x)
options_answered None fault r wanted is same = rw is tt
options_answered (Some x) fault r wanted is same = rw is same

pub usage_answered : {T F : Type 0} (o : Option T) (fault : F) (r : Result T F) (wanted : Option T) → r ≡ ok_or o fault → wanted ≡ o
    → IsErrOf r fault → wanted ≡ None
usage_answered None fault r wanted is same err = same
usage_answered (Some x) fault r wanted is same err =
    let bad : Ok x ≡ Err fault = sym is ∙ err in
    cc
