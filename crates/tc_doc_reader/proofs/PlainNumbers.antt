-- The number that digits write, with neither a sign nor a point nor an exponent.
use Rattle.std.proofs.Common.{◌≡◌, ◌∙◌, ◌<◌, ◌^◌, ℕ, pos, refl, sym, ap, List, [], length, get_or, true, false, ◌==◌, nat_lt, Some, option_and_then, arith}
use Rattle.std.proofs.lemmas.Bool.Decides.{nat_tests}
use Rattle.std.proofs.lemmas.List.{append-nil}
use Rattle.std.proofs.lemmas.Str.Parse.{digit_at}
use Rattle.std.proofs.lemmas.Float.Parse.{scan_numeral-text_of}
use Rattle.std.specs.Str.Parse.{digits_value, AllDigits}
use Rattle.fast_float.specs.Text.{Parts, scan, text_of, IsWellFormed}
use Rattle.serde_json.specs.Find.{as_i64}
use Rattle.serde_json.specs.Read.{number_of, number_from}

-- the parts of digits alone
abbrev digits_alone : List ℕ → Parts
digits_alone ds = record { whole = ds; point = false; fraction = []; exponent_negative = false; exponent = []; len = length ds }

scanned : (ds : List ℕ) → AllDigits 10 ds → scan ds ≡ digits_alone ds
scanned ds all =
    let text : text_of (digits_alone ds) ≡ ds = append-nil ds in
    let formed : IsWellFormed (digits_alone ds) = record { whole_digits = all; fraction_digits = tt; exponent_digits = tt; no_point = λ _. refl; no_exponent = λ _. refl; len_is = ap length (sym text) } in
    ap scan (sym text) ∙ scan_numeral-text_of (digits_alone ds) formed

held : (ds : List ℕ) → 0 < length ds → digits_value 10 ds < 2 ^ 63 → option_and_then as_i64 (number_from false (digits_alone ds)) ≡ Some (pos (digits_value 10 ds))
held ds some small =
    let value = append-nil ds in
    let there : nat_lt 0 (length ds) ≡ true = grind (arith, nat_tests) in
    let fits : nat_lt (digits_value 10 ds) (2 ^ 64) ≡ true = grind (arith, nat_tests) in
    let signed : nat_lt (digits_value 10 ds) (2 ^ 63) ≡ true = grind (arith, nat_tests) in
    rw (value, there, fits, signed) refl

pub plain_number : (ds : List ℕ) → 0 < length ds → AllDigits 10 ds → digits_value 10 ds < 2 ^ 63 → option_and_then as_i64 (number_of ds) ≡ Some (pos (digits_value 10 ds))
unfolding number_of
plain_number ds some all small =
    let first = digit_at ds 0 all some in
    let unsigned : (get_or ds 0 0 == 45) ≡ false = grind (arith, nat_tests) in
    let read : number_of ds ≡ number_from false (scan ds) = rw unsigned in
    ap (option_and_then as_i64) (read ∙ ap (number_from false) (scanned ds all)) ∙ held ds some small
