-- What a row shows.
use Rattle.std.specs.Prelude.{ℕ, List, refl}
use Rattle.std.specs.Coded.{Coded, code_by, coded_ℕ, coded_list, coded×}
use Rattle.tc_request_model.specs.Rendered.{RowText}
use Rattle.tc_command.specs.declared.replies.Row.{Row}

abbrev pub row_of : Row → RowText
row_of row = record { key = row.id; text = row.text }

-- a row is stored as the pair of its fields
abbrev pub coded_row : Coded RowText
coded_row = code_by (ℕ × List ℕ) (coded× coded_ℕ (coded_list coded_ℕ)) (λ r. (r.key, r.text)) (λ p. record { key = p.0; text = p.1 }) (λ _. refl)
