-- What is written part by part, and a column number by number.
use Rattle.std.proofs.Common.{◌≡◌, ◌∙◌, ℕ, List, ◌∷◌, ◌++◌, sym, ap, subst, append_assoc}
use Rattle.tc_bits.specs.Bits.{Waiting, column, written}
use Rattle.tc_bits.proofs.Joined.{AreBelow}

-- before the first number
pub column_begun : (w : Waiting) (bits : ℕ) (out ns all : List ℕ) → w.width ≡ bits → AreBelow bits ns → ((ks : List ℕ) → written w ks ≡ column bits ks) → column bits ns ≡ all → AreBelow w.width ns × (out ++ written w ns ≡ out ++ all)
column_begun w bits out ns all width below nothing spells = (subst (λ b. AreBelow b ns) (sym width) below, ap (λ bs. out ++ bs) (nothing ns ∙ spells))

-- one number more
pub column_pushed : (w v : Waiting) (out after all left rest : List ℕ) (n : ℕ) → left ≡ n ∷ rest → AreBelow w.width left → out ++ written w left ≡ all → v.width ≡ w.width
    → ((ks : List ℕ) → AreBelow w.width ks → after ++ written v ks ≡ out ++ written w (n ∷ ks)) → AreBelow v.width rest × (after ++ written v rest ≡ all)
column_pushed w v out after all left rest n next below so_far width pushed =
    let both : AreBelow w.width (n ∷ rest) = subst (AreBelow w.width) next below in
    (subst (λ b. AreBelow b rest) (sym width) both.1, pushed rest both.1 ∙ ap (λ ks. out ++ written w ks) (sym next) ∙ so_far)
