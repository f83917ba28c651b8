-- Bytes that are the spelling of one value and nothing more: what they give, and where they give nothing.
use Rattle.std.proofs.Common.{◌≡◌, ◌≢◌, ℕ, List, [], ◌∷◌, ◌++◌, None, Some, refl, sym, ap, ◌∙◌, subst, append-nil}
use Rattle.std.proofs.lemmas.Option.{same_Some}
use Rattle.tc_bytes.specs.Reading.{Reader, ◌>>=◌, ended, whole}
use Rattle.tc_bytes.specs.Codec.{IsBytes, IsCodec}
use Rattle.tc_bytes.proofs.Codecs.{then_parts}

ended_parts : {A : Type 0} (x : A) (rest : List ℕ) (y : A) → ended (x, rest) ≡ Some y → (x ≡ y) × (rest ≡ [])
ended_parts x [] y gives = (same_Some x y gives, refl)
ended_parts x (b ∷ rest) y gives = cc

-- what all of the bytes give is spelled so
pub whole_found : {A : Type 0} {read : Reader A} {spell : A → List ℕ} {Fits : A → Type 0} → IsCodec read spell Fits
    → (bytes : List ℕ) (x : A) → IsBytes bytes → whole read bytes ≡ Some x → (bytes ≡ spell x) × Fits x
whole_found {A} {read} {spell} {Fits} codec bytes x each gives =
    let parts = then_parts (read bytes) ended x gives in
    let end = ended_parts parts.0.0 parts.0.1 x parts.2 in
    let here = codec.found bytes parts.0.0 parts.0.1 each parts.1 in
    subst (λ y. (bytes ≡ spell y) × Fits y) end.0 (here.0 ∙ ap (λ r. spell parts.0.0 ++ r) end.1 ∙ append-nil (spell parts.0.0), here.2)

-- what is spelled is read
pub whole_again : {A : Type 0} {read : Reader A} {spell : A → List ℕ} {Fits : A → Type 0} → IsCodec read spell Fits → (x : A) → Fits x → whole read (spell x) ≡ Some x
whole_again {read = read} {spell = spell} codec x fits = ap (λ bytes. read bytes >>= ended) (sym (append-nil (spell x))) ∙ ap (λ r. r >>= ended) (codec.again x [] fits)

-- bytes that give nothing spell no value
pub whole_refused : {A : Type 0} {read : Reader A} {spell : A → List ℕ} {Fits : A → Type 0} → IsCodec read spell Fits
    → (bytes : List ℕ) → whole read bytes ≡ None → (x : A) → Fits x → bytes ≢ spell x
whole_refused {read = read} codec bytes none x fits same = let again = whole_again codec x fits in let here = ap (whole read) same in cc

-- two values have two spellings
pub one_value : {A : Type 0} {read : Reader A} {spell : A → List ℕ} {Fits : A → Type 0} → IsCodec read spell Fits
    → (x y : A) → Fits x → Fits y → spell x ≡ spell y → x ≡ y
one_value {read = read} codec x y fits_x fits_y same =
    same_Some x y (sym (whole_again codec x fits_x) ∙ ap (whole read) same ∙ whole_again codec y fits_y)
