-- Texts that stand one behind the other: which text is where, and one more behind them.
use Rattle.std.proofs.Common.{◌≡◌, ◌≤◌, ◌-◌, ℕ, zero, suc, List, [], ◌∷◌, ◌++◌, Some, take, drop, flat_map, length, slice_get, slice_index_or, refl, ap, ◌∙◌, arith, length-append}
use Rattle.std.proofs.lemmas.List.{take-append-le, drop-append-le, length-drop, length-take-le}
use Rattle.std.proofs.lemmas.Option.{same_Some}
use Rattle.std.proofs.Math.Seq.{drop-append_seam, take-length}
use Rattle.tc_names.specs.Cutting.{cut, AreEnds}

-- they start no later than the bytes end
start-within : (start : ℕ) (ends bytes : List ℕ) → AreEnds start ends bytes → start ≤ length bytes
start-within start [] bytes are = omega (arith, are)
start-within start (end ∷ ends) bytes are = omega (arith, are.0, start-within end ends bytes are.1)

-- there are as many as ends
pub length-cut : (start : ℕ) (ends bytes : List ℕ) → length (cut start ends bytes) ≡ length ends
length-cut start [] bytes = refl
length-cut start (end ∷ ends) bytes = ap suc (length-cut end ends bytes)

-- the text at a place is what stands between two ends
pub cut-at : (start : ℕ) (ends bytes : List ℕ) (place from to : ℕ) → slice_get (start ∷ ends) place ≡ Some from → slice_get ends place ≡ Some to
    → slice_get (cut start ends bytes) place ≡ Some (take (to - from) (drop from bytes))
cut-at start [] bytes place from to begins stops = cc
cut-at start (end ∷ ends) bytes zero from to begins stops =
    let first : start ≡ from = same_Some start from begins in
    let second : end ≡ to = same_Some end to stops in
    rw (← first, ← second) refl
cut-at start (end ∷ ends) bytes (suc place) from to begins stops = cut-at end ends bytes place from to begins stops

-- and both stand within the bytes
pub ends-within : (start : ℕ) (ends bytes : List ℕ) (place from to : ℕ) → AreEnds start ends bytes → slice_get (start ∷ ends) place ≡ Some from → slice_get ends place ≡ Some to
    → (from ≤ to) × (to ≤ length bytes)
ends-within start [] bytes place from to are begins stops = cc
ends-within start (end ∷ ends) bytes zero from to are begins stops =
    let first : start ≡ from = same_Some start from begins in
    let second : end ≡ to = same_Some end to stops in
    rw (← first, ← second) (are.0, start-within end ends bytes are.1)
ends-within start (end ∷ ends) bytes (suc place) from to are begins stops = ends-within end ends bytes place from to are.1 begins stops

-- one text more
pub cut-push : (start : ℕ) (ends bytes text : List ℕ) → AreEnds start ends bytes → cut start (ends ++ length (bytes ++ text) ∷ []) (bytes ++ text) ≡ cut start ends bytes ++ text ∷ []
cut-push start [] bytes text are =
    let left : drop start (bytes ++ text) ≡ text = rw are (drop-append_seam bytes text) in
    let long : length (bytes ++ text) - start ≡ length text = omega (arith, are, length-append bytes text) in
    let whole : take (length (bytes ++ text) - start) (drop start (bytes ++ text)) ≡ text = ap (take (length (bytes ++ text) - start)) left ∙ ap (λ n. take n text) long ∙ take-length text in
    ap (λ t. t ∷ []) whole
cut-push start (end ∷ ends) bytes text are =
    let within : end ≤ length bytes = start-within end ends bytes are.1 in
    let before : start ≤ length bytes = omega (arith, within, are.0) in
    let room : end - start ≤ length (drop start bytes) = omega (arith, within, are.0, length-drop start bytes) in
    let first : take (end - start) (drop start (bytes ++ text)) ≡ take (end - start) (drop start bytes) =
    ap (take (end - start)) (drop-append-le start bytes text before) ∙ take-append-le (end - start) (drop start bytes) text room in
    let rest = cut-push end ends bytes text are.1 in
    ap (λ t. t ∷ cut end (ends ++ length (bytes ++ text) ∷ []) (bytes ++ text)) first ∙ ap (λ others. take (end - start) (drop start bytes) ∷ others) rest

-- and each still ends where the next starts
pub ends-push : (start : ℕ) (ends bytes text : List ℕ) → AreEnds start ends bytes → AreEnds start (ends ++ length (bytes ++ text) ∷ []) (bytes ++ text)
ends-push start [] bytes text are = (omega (arith, are, length-append bytes text), refl)
ends-push start (end ∷ ends) bytes text are = (are.0, ends-push end ends bytes text are.1)

-- all texts together have the bytes behind the start
pub size-cut : (start : ℕ) (ends bytes : List ℕ) → AreEnds start ends bytes → length (flat_map (λ text. text) (cut start ends bytes)) ≡ length bytes - start
size-cut start [] bytes are = omega (arith, are)
size-cut start (end ∷ ends) bytes are =
    let within : end ≤ length bytes = start-within end ends bytes are.1 in
    let first : length (take (end - start) (drop start bytes)) ≡ end - start = length-take-le (end - start) (drop start bytes) (omega (arith, within, are.0, length-drop start bytes)) in
    let both = length-append (take (end - start) (drop start bytes)) (flat_map (λ text. text) (cut end ends bytes)) in
    omega (arith, within, are.0, first, both, size-cut end ends bytes are.1)

-- and where the last of them ends, or the start where there is none, is where the bytes end
pub last-end : (start : ℕ) (ends bytes : List ℕ) → AreEnds start ends bytes → slice_index_or (start ∷ ends) (length ends) 0 ≡ length bytes
last-end start [] bytes are = are
last-end start (end ∷ ends) bytes are = last-end end ends bytes are.1
