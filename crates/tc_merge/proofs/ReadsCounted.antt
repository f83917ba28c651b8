-- How many reads are made for rows with a record.
use Rattle.std.proofs.Common.{◌≡◌, ◌∙◌, ◌≤◌, ◌+◌, ◌⊎◌, ℕ, Bool, true, false, List, [], ◌∷◌, ◌++◌, Option, None, Some, length, length-append, refl, sym, ap, subst, arith, inl, inr, filter}
use Rattle.std.specs.Prelude.{◌==◌, if◌then◌else◌, is_some}
use Rattle.std.proofs.lemmas.List.Elements.{filter-append}
use Rattle.tc_bytes.specs.Counts.{next_count}
use Rattle.tc_component.specs.Spelling.{Row}
use Rattle.tc_merge.specs.Merging.{kept, live_rows}

pub one_read : (old new : ℕ) → (new ≡ old) ⊎ (new ≡ next_count old) → new ≤ old + 1
one_read old new counted = elim counted [
  | inl same ↦ omega (arith, same)
  | inr next ↦ omega (arith, next)
]

pub no_read : (old new more : ℕ) → new ≡ old → new ≤ old + more
no_read old new more same = omega (arith, same)

live_append : (done more : List Row) → live_rows (done ++ more) ≡ live_rows done + live_rows more
live_append done more = ap (λ rows. length rows) (filter-append (λ row. is_some row.1) done more) ∙ length-append (filter (λ row. is_some row.1) done) (filter (λ row. is_some row.1) more)

adds : (first middle last few more : ℕ) → middle ≤ first + few → last ≤ middle + more → last ≤ first + (few + more)
adds first middle last few more one two = omega (arith, one, two)

pub more_reads : (first middle last : ℕ) (done more : List Row) → middle ≤ first + live_rows done → last ≤ middle + live_rows more → last ≤ first + live_rows (done ++ more)
more_reads first middle last done more one two = subst (λ n. last ≤ first + n) (sym (live_append done more)) (adds first middle last (live_rows done) (live_rows more) one two)

-- what is left out has no record
pub live_kept : (from : ℕ) (row : Row) → live_rows (kept from (row ∷ [])) ≡ live_rows (row ∷ [])
live_kept from row = held row.1 (from == 1)
  where
    held : (o : Option (List ℕ)) (b : Bool) → live_rows (if b then filter (λ r. is_some r.1) ((row.0, o) ∷ []) else (row.0, o) ∷ []) ≡ live_rows ((row.0, o) ∷ [])
    held None true = refl
    held None false = refl
    held (Some bytes) true = refl
    held (Some bytes) false = refl
