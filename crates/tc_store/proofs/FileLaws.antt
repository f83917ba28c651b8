-- What a write makes of the bytes of a file.
use Rattle.std.proofs.Common.{◌≡◌, ◌∙◌, ◌+◌, ℕ, List, [], ◌∷◌, ◌++◌, length, drop, sym, ap, arith, length-append, append_assoc, append-nil}
use Rattle.std.proofs.lemmas.List.{take_all, drop_all, take_at, drop_at}
use Rattle.tc_store.specs.DiskFile.{overlaid}

-- bytes laid over the end
pub over_end : (n : ℕ) (bytes content : List ℕ) → n ≡ length content → overlaid n bytes content ≡ content ++ bytes
over_end n bytes content is = rw (take_all n content (omega (arith, is)), drop_all (n + length bytes) content (omega (arith, is))) (append-nil (content ++ bytes))

-- a gate that is opened
pub over_gate : (n x : ℕ) (front bytes : List ℕ) → n ≡ length front → overlaid n (1 ∷ []) (front ++ x ∷ bytes) ≡ front ++ 1 ∷ bytes
over_gate n x front bytes is =
    let behind : drop (n + 1) (front ++ x ∷ bytes) ≡ bytes = ap (drop (n + 1)) (sym (append_assoc front (x ∷ []) bytes)) ∙ drop_at (front ++ x ∷ []) bytes (n + 1) (omega (arith, is, length-append front (x ∷ []))) in
    rw (take_at front (x ∷ bytes) n (sym is), behind) (append_assoc front (1 ∷ []) bytes)
