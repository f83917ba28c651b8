-- Lemmas on the lines of replies.
use Rattle.std.proofs.Common.{◌≡◌, ℕ, List, ◌++◌, codes, true, false, cond, Result, Ok, Err, is_ok, OnOk, refl, sym, ap, ◌∙◌, append_assoc}
use Rattle.std.specs.Prelude.{decimal}
use Rattle.serde_json.proofs.OnLiterals.{serde_json_on_literals}
use Rattle.tc_request_model.specs.Request.{Refusal, oversized, malformed, unknown, not_whole, too_deep, no_key, names_full, full, busy, no_scan}
use Rattle.tc_request_model.specs.Reply.{reply_line, refusal_name, upserted, deleted, flushed, started, turned_down}

-- ---- pieces that are put one after the other

-- what a call adds is there where it gives `Ok`
pub added : {T E : Type 0} (r : Result T E) (now whole was : List ℕ) → now ≡ cond (is_ok r) whole was → OnOk r (now ≡ whole)
added (Ok v) now whole was e = e
added (Err x) now whole was e = tt

pub three_pieces : (a b c d p q r : List ℕ) → b ≡ a ++ p → c ≡ b ++ q → d ≡ c ++ r → d ≡ a ++ (p ++ (q ++ r))
three_pieces a b c d p q r first second third =
    third ∙ ap (λ bs. bs ++ r) (second ∙ ap (λ bs. bs ++ q) first ∙ append_assoc a p q) ∙ append_assoc a (p ++ q) r ∙ ap (λ bs. a ++ bs) (append_assoc p q r)

pub five_pieces : (a b c d e f p q r s t : List ℕ) → b ≡ a ++ p → c ≡ b ++ q → d ≡ c ++ r → e ≡ d ++ s → f ≡ e ++ t → f ≡ a ++ (p ++ (q ++ (r ++ (s ++ t))))
five_pieces a b c d e f p q r s t first second third fourth fifth =
    three_pieces c d e f r s t third fourth fifth ∙ ap (λ bs. bs ++ (r ++ (s ++ t))) (second ∙ ap (λ bs. bs ++ q) first)
    ∙ append_assoc (a ++ p) q (r ++ (s ++ t)) ∙ append_assoc a p (q ++ (r ++ (s ++ t)))

-- ---- the lines of short replies

pub replaced_line : (n : ℕ) → codes "{\"id\":" ++ (decimal n ++ codes ",\"replaced\":true}\n") ≡ reply_line (upserted n true)
unfolding serde_json_on_literals
replaced_line n = ap (λ more. codes "{\"id\":" ++ more) (sym (append_assoc (decimal n) (codes ",\"replaced\":true}") (codes "\n")))

pub inserted_line : (n : ℕ) → codes "{\"id\":" ++ (decimal n ++ codes ",\"replaced\":false}\n") ≡ reply_line (upserted n false)
unfolding serde_json_on_literals
inserted_line n = ap (λ more. codes "{\"id\":" ++ more) (sym (append_assoc (decimal n) (codes ",\"replaced\":false}") (codes "\n")))

pub found_line : (n : ℕ) → codes "{\"found\":true,\"id\":" ++ (decimal n ++ codes "}\n") ≡ reply_line (deleted n true)
unfolding serde_json_on_literals
found_line n = ap (λ more. codes "{\"found\":true,\"id\":" ++ more) (sym (append_assoc (decimal n) (codes "}") (codes "\n")))

pub missing_line : (n : ℕ) → codes "{\"found\":false,\"id\":" ++ (decimal n ++ codes "}\n") ≡ reply_line (deleted n false)
unfolding serde_json_on_literals
missing_line n = ap (λ more. codes "{\"found\":false,\"id\":" ++ more) (sym (append_assoc (decimal n) (codes "}") (codes "\n")))

pub flushed_line : codes "{\"flush\":" ++ (codes "\"done\"" ++ codes "}\n") ≡ reply_line flushed
unfolding serde_json_on_literals
flushed_line = refl

pub started_line : codes "{\"scan\":" ++ (codes "\"started\"" ++ codes "}\n") ≡ reply_line started
unfolding serde_json_on_literals
started_line = refl

pub refused_line : (r : Refusal) → codes "{\"refused\":\"" ++ (refusal_name r ++ codes "\"}\n") ≡ reply_line (turned_down r)
unfolding serde_json_on_literals
refused_line oversized = refl
refused_line malformed = refl
refused_line unknown = refl
refused_line not_whole = refl
refused_line too_deep = refl
refused_line no_key = refl
refused_line names_full = refl
refused_line full = refl
refused_line busy = refl
refused_line no_scan = refl
