-- A dictionary is read from its spelling alone.
use Rattle.std.proofs.Common.{◌≡◌, ◌<◌, ◌^◌, ℕ, Bool, true, false, not, List, [], ◌∷◌, ◌++◌, None, is_some, IsTrue, length, refl, sym, ◌∙◌, subst, rules, append_assoc, append-nil, Result, Ok, Err, IfOk, IsErrOf, ◌≢◌}
use Rattle.std.specs.List.{AllByRecursion, IsDistinct}
use Rattle.std.specs.Str.{is_utf8, bytes_eq}
use Rattle.std.specs.Cmp.Lexicographic.{nat_list_eq_equiv}
use Rattle.std.proofs.lemmas.Map.Keys.{IsDistinct-push}
use Rattle.std.proofs.lemmas.Str.{IsUtf8-from_is_utf8, is_utf8-from_IsUtf8}
use Rattle.tc_bytes.specs.Codec.{IsBytes, IsCodec, MayFollow, Gives}
use Rattle.tc_bytes.specs.Reading.{counted_list_at}
use Rattle.tc_bytes.proofs.Codecs.{restated_codec, passing_codec, counted_bytes_codec}
use Rattle.tc_bytes.proofs.Lists.{counted_list_codec}
use Rattle.tc_bytes.proofs.Whole.{one_value, whole_found, whole_refused}
use Rattle.tc_model.specs.Dictionary.{number_of, IsName, IsDictionary}
use Rattle.tc_names.specs.Section.{section, name_at, is_new, read_section}
use Rattle.tc_names.specs.declared.fault.NamesFault.{NamesFault}
use Rattle.tc_names.specs.declared.fault.NamesFault.TheVariants.{NotNames}
use Rattle.tc_model.proofs.NameNumbers.{list_any-number_of, number_of-new}
use Rattle.tc_model.proofs.DictionaryGrowth.{IsDictionary-nil}

-- names of which each is new are distinct
distinct_from_new : (before names : List (List ℕ)) → IsDistinct bytes_eq before → MayFollow is_new before names → IsDistinct bytes_eq (before ++ names)
distinct_from_new before [] distinct each = subst (IsDistinct bytes_eq) (sym (append-nil before)) distinct
distinct_from_new before (name ∷ names) distinct each =
    let new : is_some (number_of before name) ≡ false = is_false (is_some (number_of before name)) each.0 in
    subst (IsDistinct bytes_eq) (append_assoc before (name ∷ []) names)
    (distinct_from_new (before ++ name ∷ []) names (IsDistinct-push nat_list_eq_equiv before name distinct (list_any-number_of before name ∙ new)) each.1)
  where
    is_false : (b : Bool) → IsTrue (not b) → b ≡ false
    is_false true h = absurd (search (rules, h))
    is_false false h = refl

-- and of distinct names each is new
new_from_distinct : (before names : List (List ℕ)) → IsDistinct bytes_eq (before ++ names) → MayFollow is_new before names
new_from_distinct before [] distinct = tt
new_from_distinct before (name ∷ names) distinct =
    let new : number_of before name ≡ None = number_of-new before name names distinct in
    (rw new (search rules), new_from_distinct (before ++ name ∷ []) names (subst (IsDistinct bytes_eq) (sym (append_assoc before (name ∷ []) names)) distinct))

-- what is read as a name may be one
names_from_read : (names : List (List ℕ)) → AllByRecursion (λ name. (length name < 2 ^ 32) × (is_utf8 name ≡ true)) names → AllByRecursion IsName names
names_from_read [] each = tt
names_from_read (name ∷ names) each = (record { text = IsUtf8-from_is_utf8 name each.0.1; short = each.0.0 }, names_from_read names each.1)

read_from_names : (names : List (List ℕ)) → AllByRecursion IsName names → AllByRecursion (λ name. (length name < 2 ^ 32) × (is_utf8 name ≡ true)) names
read_from_names [] each = tt
read_from_names (name ∷ names) each = ((each.0.short, is_utf8-from_IsUtf8 name each.0.text), read_from_names names each.1)

-- a names section, read from the front
pub dictionary_codec : IsCodec (counted_list_at is_new name_at) section IsDictionary
dictionary_codec = restated_codec
    (λ names fits. record { distinct = distinct_from_new [] names IsDictionary-nil.distinct fits.2; each = names_from_read names fits.1; few = fits.0 })
    (λ names dictionary. (dictionary.few, read_from_names names dictionary.each, new_from_distinct [] names dictionary.distinct))
    (counted_list_codec is_new (passing_codec is_utf8 counted_bytes_codec))

-- what reading a section returned is a dictionary with these bytes
pub section-found : (result : Result (List (List ℕ)) NamesFault) (bytes : List ℕ) → IsBytes bytes → Gives (λ names. names) NotNames result (read_section bytes)
    → IfOk result (λ names. bytes ≡ section names)
section-found (Ok names) bytes each gives = (whole_found dictionary_codec bytes names each gives).0
section-found (Err fault) bytes each gives = tt

-- no other dictionary has these bytes
pub section-only : (result : Result (List (List ℕ)) NamesFault) (bytes : List ℕ) → IsBytes bytes → Gives (λ names. names) NotNames result (read_section bytes)
    → IfOk result (λ names. (other : List (List ℕ)) → IsDictionary other → bytes ≡ section other → names ≡ other)
section-only (Ok names) bytes each gives =
    let here = whole_found dictionary_codec bytes names each gives in
    λ other dictionary same. one_value dictionary_codec names other here.1 dictionary (sym here.0 ∙ same)
section-only (Err fault) bytes each gives = tt

-- and it refuses bytes only where no dictionary has them
pub section-refused : (result : Result (List (List ℕ)) NamesFault) (bytes : List ℕ) → Gives (λ names. names) NotNames result (read_section bytes)
    → IsErrOf result NotNames → (names : List (List ℕ)) → IsDictionary names → bytes ≢ section names
section-refused (Ok names) bytes gives refused = cc
section-refused (Err fault) bytes gives refused = let same : fault ≡ NotNames = cc in whole_refused dictionary_codec bytes (gives same)
