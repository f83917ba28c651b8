-- What a line with a key alone asks for, from its bytes.
use Rattle.std.proofs.Common.{◌≡◌, ◌∙◌, ◌≤◌, ◌<◌, ◌^◌, ℕ, List, [], ◌∷◌, ◌++◌, true, false, codes, decimal, map, Option, Some, None, IfSome, option_and_then, Bor, IsUtf8, inl, refl, sym, ap, arith, lt-ltb}
use Rattle.std.specs.Prelude.{MatchOption}
use Rattle.std.proofs.lemmas.Fmt.{IsAscii-decimal}
use Rattle.std.proofs.lemmas.Str.{IsUtf8-append, IsUtf8-from_ascii}
use Rattle.json.specs.Token.{Token, begin_object, end_object, key, string, number}
use Rattle.json.specs.Json as json
use Rattle.json.specs.Print.{ArePrintable}
use Rattle.json.specs.Spaced.{AreGaps, IsGap, print_spaced}
use Rattle.json.proofs.OnLiterals.{json_on_literals}
use Rattle.json.proofs.Printed.Decimals.{IsNumber-decimal}
use Rattle.json.proofs.Printed.Tokens.{tokens-print_spaced}
use Rattle.json.proofs.Printed.Utf8.{are_ascii, IsUtf8-are_ascii}
use Rattle.serde_json.specs.Data as values
use Rattle.serde_json.specs.Read.{of_json, read}
use Rattle.serde_json.proofs.Numbers.{number_of-decimal}
use Rattle.tc_model.specs.Json.{json_of}
use Rattle.tc_model.specs.Limits.{max_key}
use Rattle.tc_request_model.specs.Request.{get, delete, request_if_json}
use Rattle.tc_command.proofs.Utf8Lemmas.{json_of-utf8}

-- ---- texts cut at a front or an end

pub some_stripped : (P : Type 0) (Q : Bor (List ℕ) → Type 0) (r : Option (Bor (List ℕ))) → MatchOption r P Q → IfSome r Q
some_stripped P Q None h = tt
some_stripped P Q (Some x) h = h

-- ---- the JSON value of a line of a get or a delete

-- the tokens of such a line, each with the gap before it
abbrev spaced_tokens : List ℕ → List ℕ → ℕ → List (List ℕ × Token)
spaced_tokens gap op n =
    ([], begin_object) ∷ ([], key (codes "op")) ∷ (gap, string op) ∷ (gap, key (codes "id")) ∷ (gap, number (decimal n)) ∷ ([], end_object) ∷ []

abbrev keyed_json : List ℕ → ℕ → json.Json
keyed_json op n = json.object (json.member (codes "op") (json.string op) (json.member (codes "id") (json.number (decimal n)) json.no_members))

abbrev keyed_data : List ℕ → ℕ → values.Data
keyed_data op n = values.object (values.member (codes "id") (values.number (values.unsigned n)) (values.member (codes "op") (values.string op) values.no_members))

printable : (gap op : List ℕ) (n : ℕ) → n < 2 ^ 64 → ArePrintable (map (λ p. p.1) (spaced_tokens gap op n))
unfolding ArePrintable
printable gap op n h = (tt, (tt, (tt, (tt, (IsNumber-decimal n h, (tt, tt))))))

parsed : (gap op : List ℕ) (n : ℕ) → json.value 127 (map (λ p. p.1) (spaced_tokens gap op n)) ≡ Some (keyed_json op n, [])
unfolding json_on_literals
parsed gap op n = refl

meant : (op : List ℕ) (n : ℕ) → n < 2 ^ 64 → of_json (keyed_json op n) ≡ Some (keyed_data op n)
meant op n h = rw (number_of-decimal n h) refl

spaced_read : (gap op : List ℕ) (n : ℕ) → AreGaps (spaced_tokens gap op n) → n < 2 ^ 64 → read (print_spaced false (spaced_tokens gap op n)) ≡ Some (keyed_data op n)
spaced_read gap op n gaps h =
    ap (λ ts. option_and_then of_json (option_and_then (λ p. json.if_last p.0 p.1) (json.value 127 ts))) (tokens-print_spaced (spaced_tokens gap op n) gaps (printable gap op n h))
    ∙ ap (λ v. option_and_then of_json (option_and_then (λ p. json.if_last p.0 p.1) v)) (parsed gap op n) ∙ meant op n h

utf8 : (front : List ℕ) (n : ℕ) → are_ascii front ≡ true → n < 2 ^ 64 → IsUtf8 (front ++ (decimal n ++ codes "}"))
utf8 front n ascii h =
    IsUtf8-append front _ (IsUtf8-are_ascii front ascii) (IsUtf8-append (decimal n) _ (IsUtf8-from_ascii (decimal n) (IsAscii-decimal n h)) (IsUtf8-are_ascii (codes "}") refl))

-- the value of a line with a front of one of the spellings
keyed : (front gap op : List ℕ) (n : ℕ) → print_spaced false (spaced_tokens gap op n) ≡ front ++ (decimal n ++ codes "}") → AreGaps (spaced_tokens gap op n) → are_ascii front ≡ true
    → n ≤ max_key → json_of (front ++ (decimal n ++ codes "}")) ≡ Some (keyed_data op n)
keyed front gap op n spelled gaps ascii h =
    let small : n < 2 ^ 64 = omega (arith, h) in
    json_of-utf8 _ (utf8 front n ascii small) ∙ ap read (sym spelled) ∙ spaced_read gap op n gaps small

spelled_get : (n : ℕ) → print_spaced false (spaced_tokens [] (codes "get") n) ≡ codes "{\"op\":\"get\",\"id\":" ++ (decimal n ++ codes "}")
unfolding json_on_literals print_spaced
spelled_get n = refl

spelled_spaced_get : (n : ℕ) → print_spaced false (spaced_tokens (codes " ") (codes "get") n) ≡ codes "{\"op\": \"get\", \"id\": " ++ (decimal n ++ codes "}")
unfolding json_on_literals print_spaced
spelled_spaced_get n = refl

spelled_delete : (n : ℕ) → print_spaced false (spaced_tokens [] (codes "delete") n) ≡ codes "{\"op\":\"delete\",\"id\":" ++ (decimal n ++ codes "}")
unfolding json_on_literals print_spaced
spelled_delete n = refl

spelled_spaced_delete : (n : ℕ) → print_spaced false (spaced_tokens (codes " ") (codes "delete") n) ≡ codes "{\"op\": \"delete\", \"id\": " ++ (decimal n ++ codes "}")
unfolding json_on_literals print_spaced
spelled_spaced_delete n = refl

no_gaps : (op : List ℕ) (n : ℕ) → AreGaps (spaced_tokens [] op n)
no_gaps op n = (tt, (tt, (tt, (tt, (tt, (tt, tt))))))

one_space : IsGap (codes " ")
one_space = (inl refl, tt)

one_space_gaps : (op : List ℕ) (n : ℕ) → AreGaps (spaced_tokens (codes " ") op n)
one_space_gaps op n = (tt, (tt, (one_space, (one_space, (one_space, (tt, tt))))))

asked_get : (n : ℕ) → n ≤ max_key → request_if_json (Some (keyed_data (codes "get") n)) ≡ get n
asked_get n h = let fits : n < 2 ^ 63 = omega (arith, h) in rw (lt-ltb _ _ fits) refl

asked_delete : (n : ℕ) → n ≤ max_key → request_if_json (Some (keyed_data (codes "delete") n)) ≡ delete n
asked_delete n h = let fits : n < 2 ^ 63 = omega (arith, h) in rw (lt-ltb _ _ fits) refl

-- ---- the four spellings

pub get_line : (line : List ℕ) (n : ℕ) → line ≡ codes "{\"op\":\"get\",\"id\":" ++ (decimal n ++ codes "}") → n ≤ max_key → request_if_json (json_of line) ≡ get n
get_line line n is h =
    ap (λ l. request_if_json (json_of l)) is
    ∙ ap request_if_json (keyed (codes "{\"op\":\"get\",\"id\":") [] (codes "get") n (spelled_get n) (no_gaps (codes "get") n) refl h) ∙ asked_get n h

pub spaced_get_line : (line : List ℕ) (n : ℕ) → line ≡ codes "{\"op\": \"get\", \"id\": " ++ (decimal n ++ codes "}") → n ≤ max_key → request_if_json (json_of line) ≡ get n
spaced_get_line line n is h =
    ap (λ l. request_if_json (json_of l)) is
    ∙ ap request_if_json (keyed (codes "{\"op\": \"get\", \"id\": ") (codes " ") (codes "get") n (spelled_spaced_get n) (one_space_gaps (codes "get") n) refl h) ∙ asked_get n h

pub delete_line : (line : List ℕ) (n : ℕ) → line ≡ codes "{\"op\":\"delete\",\"id\":" ++ (decimal n ++ codes "}") → n ≤ max_key → request_if_json (json_of line) ≡ delete n
delete_line line n is h =
    ap (λ l. request_if_json (json_of l)) is
    ∙ ap request_if_json (keyed (codes "{\"op\":\"delete\",\"id\":") [] (codes "delete") n (spelled_delete n) (no_gaps (codes "delete") n) refl h) ∙ asked_delete n h

pub spaced_delete_line : (line : List ℕ) (n : ℕ) → line ≡ codes "{\"op\": \"delete\", \"id\": " ++ (decimal n ++ codes "}") → n ≤ max_key → request_if_json (json_of line) ≡ delete n
spaced_delete_line line n is h =
    ap (λ l. request_if_json (json_of l)) is
    ∙ ap request_if_json (keyed (codes "{\"op\": \"delete\", \"id\": ") (codes " ") (codes "delete") n (spelled_spaced_delete n) (one_space_gaps (codes "delete") n) refl h) ∙ asked_delete n h
