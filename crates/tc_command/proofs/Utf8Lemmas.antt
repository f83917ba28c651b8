-- Lemmas on the JSON value that bytes spell.
use Rattle.std.proofs.Common.{◌≡◌, ℕ, List, Bool, true, false, None, IsUtf8, refl}
use Rattle.std.specs.Str.{is_utf8}
use Rattle.std.proofs.lemmas.Str.{IsUtf8-from_is_utf8, is_utf8-from_IsUtf8}
use Rattle.serde_json.specs.Read.{read}
use Rattle.tc_model.specs.Json.{json_of}

pub json_of-utf8 : (bytes : List ℕ) → IsUtf8 bytes → json_of bytes ≡ read bytes
json_of-utf8 bytes h = rw (is_utf8-from_IsUtf8 bytes h)

at_test : (b : Bool) (bytes : List ℕ) → is_utf8 bytes ≡ b → (IsUtf8 bytes → ⊥) → json_of bytes ≡ None
at_test true bytes e h = absurd (h (IsUtf8-from_is_utf8 bytes e))
at_test false bytes e h = rw e

pub json_of-not_utf8 : (bytes : List ℕ) → (IsUtf8 bytes → ⊥) → json_of bytes ≡ None
json_of-not_utf8 bytes h = at_test (is_utf8 bytes) bytes refl h
