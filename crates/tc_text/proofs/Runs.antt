-- A text that has escapes: a run of bytes that need none, and the byte that ends it.
use Rattle.std.proofs.Common.{◌≡◌, ℕ, ◌+◌, ◌<◌, List, ◌++◌, length, get_or, take, drop, sym, ap, ◌∙◌, append_assoc}
use Rattle.std.proofs.lemmas.List.{drop_more, take-append-drop}
use Rattle.std.proofs.lemmas.Grind.{flat_map-append}
use Rattle.json.specs.Print.{escape_byte, escape}

run_then_byte : (text : List ℕ) (n : ℕ) → n < length text → escape (take n text) ≡ take n text → escape text ≡ take n text ++ (escape_byte (get_or text n 0) ++ escape (drop (n + 1) text))
run_then_byte text n inside plain =
    ap escape (sym (take-append-drop n text)) ∙ flat_map-append escape_byte (take n text) (drop n text)
    ∙ ap (λ run. run ++ escape (drop n text)) plain
    ∙ ap (λ rest. take n text ++ escape rest) (drop_more text n 0 inside)

-- once a run was put after other text, and the escape of the next byte, what is left to put is the rest
pub run_put : (out all text : List ℕ) (n : ℕ) → n < length text → escape (take n text) ≡ take n text → out ++ escape text ≡ all
    → ((out ++ take n text) ++ escape_byte (get_or text n 0)) ++ escape (drop (n + 1) text) ≡ all
run_put out all text n inside plain whole =
    append_assoc (out ++ take n text) (escape_byte (get_or text n 0)) (escape (drop (n + 1) text)) ∙ append_assoc out (take n text) (escape_byte (get_or text n 0) ++ escape (drop (n + 1) text))
    ∙ ap (λ rest. out ++ rest) (sym (run_then_byte text n inside plain)) ∙ whole
