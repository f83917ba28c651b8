-- Texts that stand one behind the other, by where each ends.
use Rattle.std.specs.Prelude.{◌≡◌, ◌≤◌, ◌-◌, ℕ, List, [], ◌∷◌, take, drop, length}

-- the texts, of which the first begins at the start
abbrev pub cut : ℕ → List ℕ → List ℕ → List (List ℕ)
cut start [] bytes = []
cut start (end ∷ ends) bytes = take (end - start) (drop start bytes) ∷ cut end ends bytes

-- each text ends where it starts or later, and the last one where the bytes end
abbrev pub AreEnds : ℕ → List ℕ → List ℕ → Type 0
AreEnds start [] bytes = start ≡ length bytes
AreEnds start (end ∷ ends) bytes = (start ≤ end) × AreEnds end ends bytes
