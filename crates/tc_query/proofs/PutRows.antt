-- The row of what a path reaches, by the text that was put of it.
use Rattle.std.proofs.Common.{◌≡◌, ◌∙◌, ℕ, List, [], ◌∷◌, true, false, None, Option, map, append-nil, refl, ap}
use Rattle.std.specs.Prelude.{if◌then◌else◌}
use Rattle.tc_model.specs.Document.{Document}
use Rattle.tc_request_model.specs.Rows.{meets, row_of}
use Rattle.tc_request_model.specs.Rendered.{RowText, row_text}
use Rattle.tc_record_text.specs.Listed.{row_texts}

-- nothing was put where there is no row
pub none_put : (key : ℕ) (ds : List Document) → row_texts (row_of None key ds) ≡ [] → row_of None key ds ≡ []
none_put key [] nothing = refl
none_put key (v ∷ vs) nothing = absurd (some _ nothing)
  where
    some : (rest : List ℕ) → 123 ∷ rest ≡ [] → ⊥
    some rest is = cc

abbrev one : ℕ → List ℕ → List RowText
one key text = record { key = key; text = text } ∷ []

-- else its text
pub one_put : (key : ℕ) (ds : List Document) (text : List ℕ) → text ≡ row_texts (row_of None key ds) → (text ≡ [] → ⊥) → record { key = key; text = text } ∷ [] ≡ map row_text (row_of None key ds)
one_put key [] text is some = absurd (some is)
one_put key (v ∷ vs) text is some = ap (one key) (is ∙ append-nil (row_text (record { key = key; values = v ∷ vs })).text)

-- what is asked for was reached
pub met_row : (wanted : Option Document) (key : ℕ) (ds : List Document) → meets wanted ds ≡ true → row_of wanted key ds ≡ row_of None key ds
met_row wanted key [] met = refl
met_row wanted key (d ∷ ds) met = ap (λ b. if b then record { key = key; values = d ∷ ds } ∷ [] else []) met

-- or it was not, and there is no row
pub left_out : (wanted : Option Document) (key : ℕ) (ds : List Document) → meets wanted ds ≡ false → row_of wanted key ds ≡ []
left_out wanted key [] other = refl
left_out wanted key (d ∷ ds) other = ap (λ b. if b then record { key = key; values = d ∷ ds } ∷ [] else []) other
