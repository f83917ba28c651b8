-- Columns that are equal part by part are equal.
use Rattle.std.proofs.Common.{◌≡◌, ◌∙◌, ℕ, List, [], ap}
use Rattle.tc_record.specs.Walk.{Columns}

abbrev pub columns_by : List ℕ → List ℕ → List ℕ → List ℕ → List ℕ → Columns
columns_by fixed lengths texts slots names = record { fixed = fixed; lengths = lengths; texts = texts; slots = slots; names = names }

abbrev pub no_columns : Columns
no_columns = columns_by [] [] [] [] []

pub same_columns : (c : Columns) (fixed lengths texts slots names : List ℕ) → c.fixed ≡ fixed → c.lengths ≡ lengths → c.texts ≡ texts → c.slots ≡ slots → c.names ≡ names → c ≡ columns_by fixed lengths texts slots names
same_columns c fixed lengths texts slots names p q r s t =
    ap (λ x. columns_by x c.lengths c.texts c.slots c.names) p
    ∙ ap (λ x. columns_by fixed x c.texts c.slots c.names) q
    ∙ ap (λ x. columns_by fixed lengths x c.slots c.names) r
    ∙ ap (λ x. columns_by fixed lengths texts x c.names) s
    ∙ ap (λ x. columns_by fixed lengths texts slots x) t
