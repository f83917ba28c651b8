-- Shapes counted in two parts, and tables that can be counted.
use Rattle.std.proofs.Common.{◌≡◌, ◌+◌, ◌<◌, ◌^◌, ℕ, List, [], ◌∷◌, ◌++◌, length, refl, sym, ap, ◌∙◌, subst, arith, append-nil}
use Rattle.std.specs.Prelude.{option_map, option_to_list}
use Rattle.std.proofs.lemmas.List.Elements.{All-nil, All-cons, All-head, All-tail}
use Rattle.tc_model.specs.Dictionary.{all_learned}
use Rattle.tc_model.specs.Document.{Name, ShapeTree, null_kind, boolean_kind, integer_kind, text_kind, document_shape}
use Rattle.tc_model.specs.Kinds.{Kind, scalar, arrays, objects}
use Rattle.tc_model.specs.ShapeNames.{names_within}
use Rattle.tc_schema_model.specs.Added.{added}
use Rattle.tc_schema_model.specs.Counted.{Counted, IsCanonical, total_at}
use Rattle.tc_schema_model.specs.Occurrences.{Path}
use Rattle.tc_lsm_model.specs.Tables.{Slot, Table, shapes_held, occurring}
use Rattle.tc_flush.specs.Flushable.{CanCount, IsShortRecord, values_of}
use Rattle.tc_flush.specs.Recounting.{names_with, all_added}
use Rattle.tc_flush.proofs.DocumentNames.{length-names_with}
use Rattle.tc_flush.proofs.RecountedLaws.{canonical-all_added, shows-all_added}

pub names_with-append : (names : List Name) (xs ys : List ShapeTree) → names_with names (xs ++ ys) ≡ names_with (names_with names xs) ys
names_with-append names [] ys = refl
names_with-append names (s ∷ xs) ys = names_with-append (all_learned names (names_within s)) xs ys

pub all_added-append : (names : List Name) (xs ys : List ShapeTree) (d : Counted) → all_added names (xs ++ ys) d ≡ all_added (names_with names xs) ys (all_added names xs d)
all_added-append names [] ys d = refl
all_added-append names (s ∷ xs) ys d = all_added-append (all_learned names (names_within s)) xs ys (added (all_learned names (names_within s)) s d)

occurring-append : (xs ys : List ShapeTree) (path : Path) (t : Kind) → occurring (xs ++ ys) path t ≡ occurring xs path t + occurring ys path t
occurring-append [] ys path t = omega arith
occurring-append (s ∷ xs) ys path t = omega (arith, occurring-append xs ys path t)

values_of-append : (xs ys : List ShapeTree) (path : Path) → values_of (xs ++ ys) path ≡ values_of xs path + values_of ys path
values_of-append xs ys path =
    let one : (t : Kind) → _ = λ t. occurring-append xs ys path t in
    omega (arith, one (scalar null_kind), one (scalar boolean_kind), one (scalar integer_kind), one (scalar text_kind), one arrays, one objects)

pub total-all_added : (names : List Name) (shapes : List ShapeTree) (d : Counted) → IsCanonical (length names) d → (path : Path) → total_at (names_with names shapes) (all_added names shapes d) path ≡ total_at names d path + values_of shapes path
total-all_added names shapes d canonical path =
    let one : (t : Kind) → _ = λ t. shows-all_added names shapes d canonical path t in
    omega (arith, one (scalar null_kind), one (scalar boolean_kind), one (scalar integer_kind), one (scalar text_kind), one arrays, one objects)

-- an entry's shape before those of the others
pub shapes_held-first : (x : ℕ × Slot) (t : Table) → shapes_held (x ∷ t) ≡ shapes_held (x ∷ []) ++ shapes_held t
shapes_held-first x t = ap (λ xs. xs ++ shapes_held t) (sym (append-nil (option_to_list (option_map document_shape x.1.held))))

pub names_with-first : (names : List Name) (x : ℕ × Slot) (t : Table) → names_with names (shapes_held (x ∷ t)) ≡ names_with (names_with names (shapes_held (x ∷ []))) (shapes_held t)
names_with-first names x t = ap (names_with names) (shapes_held-first x t) ∙ names_with-append names (shapes_held (x ∷ [])) (shapes_held t)

pub first_can : (names : List Name) (schema : Counted) (x : ℕ × Slot) (t : Table) → CanCount names schema (x ∷ t) → CanCount names schema (x ∷ [])
first_can names schema x t can = record {
  canonical = can.canonical;
  known = omega (
    arith,
    can.known,
    length-names_with (names_with names (shapes_held (x ∷ []))) (shapes_held t),
    ap length (ap (names_with names) (shapes_held-first x t) ∙ names_with-append names (shapes_held (x ∷ [])) (shapes_held t)),
  );
  counters = λ path. omega (arith, can.counters path, ap (λ shapes. values_of shapes path) (shapes_held-first x t), values_of-append (shapes_held (x ∷ [])) (shapes_held t) path);
  short = All-cons IsShortRecord x [] (All-head IsShortRecord x t can.short) (All-nil IsShortRecord);
}

pub rest_can : (names : List Name) (schema : Counted) (x : ℕ × Slot) (t : Table) → CanCount names schema (x ∷ t)
    → CanCount (names_with names (shapes_held (x ∷ []))) (all_added names (shapes_held (x ∷ [])) schema) t
rest_can names schema x t can = record {
  canonical = canonical-all_added names (shapes_held (x ∷ [])) schema can.canonical;
  known = subst (λ ns. length ns < 2 ^ 32) (ap (names_with names) (shapes_held-first x t) ∙ names_with-append names (shapes_held (x ∷ [])) (shapes_held t)) can.known;
  counters = λ path. omega (arith, can.counters path, ap (λ shapes. values_of shapes path) (shapes_held-first x t), values_of-append (shapes_held (x ∷ [])) (shapes_held t) path, total-all_added names (shapes_held (x ∷ [])) schema can.canonical path);
  short = All-tail IsShortRecord x t can.short;
}
