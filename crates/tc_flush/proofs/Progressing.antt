-- A table flushed entry by entry.
use Rattle.std.proofs.Common.{◌≡◌, ℕ, List, [], ◌∷◌, ◌++◌, append_assoc, append-nil, refl, sym, ap, ◌∙◌, subst}
use Rattle.std.proofs.lemmas.List.{map-append}
use Rattle.tc_model.specs.Dictionary.{Extends}
use Rattle.tc_model.specs.Document.{Name}
use Rattle.tc_model.specs.Keyed.{on_value}
use Rattle.tc_plain_model.specs.Writes.{Write}
use Rattle.tc_schema_model.specs.Counted.{Counted}
use Rattle.tc_lsm_model.specs.Tables.{Table, writes_of, shapes_held}
use Rattle.tc_memory.specs.DocumentTables.{IsTableOf}
use Rattle.tc_memory.specs.Table as memory
use Rattle.tc_flush.specs.Flushable.{CanCount}
use Rattle.tc_flush.specs.Progress.{IsUpTo}
use Rattle.tc_flush.specs.Recounting.{names_with, all_added}
use Rattle.tc_flush.proofs.CountingSteps.{names_with-append, all_added-append, shapes_held-first, first_can, rest_can}
use Rattle.tc_flush.proofs.DocumentNames.{Extends-names_with}
use Rattle.tc_flush.proofs.KeptEntries.{IsCut, OneDocument, cut, none_left, one_table}

pub begins : (P : List Write → Type 0) (t : Table) (kept : memory.Table) (names : List Name) (d : Counted) → IsTableOf t kept → CanCount names d t → P [] → IsUpTo P t names d kept names d
begins P t kept names d of can pushed = record { done = []; rest = t; whole = refl; of = of; can = can; learned = refl; counted = refl; pushed = pushed }

-- one entry can be counted
pub can_first : OneDocument → (P : List Write → Type 0) (t : Table) (start : List Name) (old : Counted) (e : ℕ × memory.Kept) (left : memory.Table) (names : List Name) (d : Counted) → memory.IsLawfulEntry e
    → IsUpTo P t start old (e ∷ left) names d → (x : Table) → IsTableOf x (e ∷ []) → CanCount names d x
can_first one P t start old e left names d lawful up x of = step (cut up.rest e left up.of)
  where
    step : IsCut up.rest e left → CanCount names d x
    step parts =
        subst (CanCount names d) (one_table one e lawful (parts.first ∷ []) x parts.first_of of) (first_can names d parts.first parts.rest (subst (CanCount names d) parts.is up.can))

module _ (P Q : List Write → Type 0) (t : Table) (start : List Name) (old : Counted) (e : ℕ × memory.Kept) (left : memory.Table) (names newer : List Name) (d grown : Counted) where
  pub goes_on : IsUpTo P t start old (e ∷ left) names d → ((x : Table) → IsTableOf x (e ∷ []) → newer ≡ names_with names (shapes_held x)) → ((x : Table) → IsTableOf x (e ∷ []) → grown ≡ all_added names (shapes_held x) d)
      → ((ws : List Write) (x : Table) → IsTableOf x (e ∷ []) → Extends (names_with start (shapes_held t)) newer → P ws → Q (ws ++ writes_of x)) → IsUpTo Q t start old left newer grown
  goes_on up learned counted pushed = step (cut up.rest e left up.of)
    where
      step : IsCut up.rest e left → IsUpTo Q t start old left newer grown
      step parts =
          let x : Table = parts.first ∷ [] in
          let names_are : newer ≡ names_with names (shapes_held x) = learned x parts.first_of in
          let schema_is : grown ≡ all_added names (shapes_held x) d = counted x parts.first_of in
          let shapes : shapes_held up.rest ≡ shapes_held x ++ shapes_held parts.rest = ap shapes_held parts.is ∙ shapes_held-first parts.first parts.rest in
          let learned_is : names_with start (shapes_held t) ≡ names_with newer (shapes_held parts.rest) =
          up.learned ∙ ap (names_with names) shapes ∙ names_with-append names (shapes_held x) (shapes_held parts.rest) ∙ ap (λ ns. names_with ns (shapes_held parts.rest)) (sym names_are) in
          record {
            done = up.done ++ x;
            rest = parts.rest;
            whole = up.whole ∙ ap (λ r. up.done ++ r) parts.is ∙ sym (append_assoc up.done x parts.rest);
            of = parts.rest_of;
            can = rw (names_are, schema_is) (rest_can names d parts.first parts.rest (subst (CanCount names d) parts.is up.can));
            learned = learned_is;
            counted = up.counted ∙ ap (λ s. all_added names s d) shapes ∙ all_added-append names (shapes_held x) (shapes_held parts.rest) d
                ∙ ap (λ ns. all_added ns (shapes_held parts.rest) (all_added names (shapes_held x) d)) (sym names_are) ∙ ap (all_added newer (shapes_held parts.rest)) (sym schema_is);
            pushed = subst Q (sym (map-append (on_value (λ s. s.held)) up.done x)) (pushed (writes_of up.done) x parts.first_of (subst (λ ns. Extends ns newer) (sym learned_is) (Extends-names_with newer (shapes_held parts.rest))) up.pushed);
          }

-- all is done
pub record IsDone (P : List Write → Type 0) (t : Table) (start : List Name) (old : Counted) (names : List Name) (d : Counted) : Type 0 where
  pub learned : names ≡ names_with start (shapes_held t)
  pub counted : d ≡ all_added start (shapes_held t) old
  pub pushed : P (writes_of t)

pub ends : (P : List Write → Type 0) (t : Table) (start : List Name) (old : Counted) (names : List Name) (d : Counted) → IsUpTo P t start old [] names d → IsDone P t start old names d
ends P t start old names d up =
    let nothing : up.rest ≡ [] = none_left up.rest up.of in
    record {
      learned = sym (up.learned ∙ ap (λ r. names_with names (shapes_held r)) nothing);
      counted = sym (up.counted ∙ ap (λ r. all_added names (shapes_held r) d) nothing);
      pushed = subst (λ r. P (writes_of r)) (sym (up.whole ∙ ap (λ r. up.done ++ r) nothing ∙ append-nil up.done)) up.pushed;
    }
