-- From what clap makes of the words to the check that they ask for; what asks for one is no invocation.
use Rattle.std.proofs.Common.{◌≡◌, ℕ, Bool, true, false, List, Option, Some, None, ap, sym, subst, refl, codes}
use Rattle.std.specs.Prelude.{IfSome, if◌then◌else◌, option_and_then}
use Rattle.std.proofs.lemmas.Slice.Eq.{bytes_eq-Decides}
use Rattle.clap.specs.Words.{Row, Text}
use Rattle.tc_words.specs.Grammar.{named_matches}
use Rattle.tc_words.specs.Options.{check_in, check_of, invocation_in, invocation_of}

there_where : (b : Bool) (o : Option ℕ) (n : ℕ) → (if b then o else None) ≡ Some n → b ≡ true
there_where true o n same = refl
there_where false o n same = absurd (cc)

apart_named : (named : Text × List Row) (asked : Option ℕ) → check_in named ≡ asked → IfSome asked (λ partitions. invocation_in named ≡ None)
apart_named named None same = tt
apart_named named (Some n) same =
    let is = (bytes_eq-Decides named.0 (codes "check")).0 (there_where _ _ n same) in
    subst (λ name. invocation_in (name, named.1) ≡ None) (sym is) refl

apart_in : (met : Option (Text × List Row)) → IfSome (option_and_then check_in met) (λ partitions. option_and_then invocation_in met ≡ None)
apart_in None = tt
apart_in (Some named) = apart_named named (check_in named) refl

-- what the words are answered with, and that they are no invocation where they ask for a check
abbrev pub IsCheckAnswer : List Text → Option ℕ → Type 0
IsCheckAnswer words asked = (check_of words ≡ asked) × IfSome asked (λ partitions. invocation_of words ≡ None)

pub is_check : (words : List Text) (met : Option (Text × List Row)) (asked : Option ℕ) → named_matches words ≡ met
    → asked ≡ option_and_then check_in met → IsCheckAnswer words asked
unfolding check_of invocation_of
is_check words met asked is same =
    rw (same, is) (refl, apart_in met)

pub no_check : (words : List Text) → named_matches words ≡ None → check_of words ≡ None
unfolding check_of
no_check words none = ap (option_and_then check_in) none
