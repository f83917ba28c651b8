-- How the documents count once a table lies over them: each kept shape is taken off, and that of each document is added.
use Rattle.std.proofs.Common.{◌≡◌, ◌+◌, ℕ, Bool, true, false, List, [], ◌∷◌, ◌++◌, refl, ap, ◌∙◌, subst, arith, Option, Some, None}
use Rattle.std.specs.Prelude.{◌==◌, if◌then◌else◌, option_map, option_to_list, IfSome, IsSome}
use Rattle.std.specs.Ordering.{nat_cmp}
use Rattle.std.specs.Map.{keys_of}
use Rattle.std.proofs.lemmas.Bool.{eqb-true}
use Rattle.std.proofs.lemmas.Map.Keys.{sorted_head, sorted_tail}
use Rattle.tc_model.specs.Document.{Document, ShapeTree, document_shape}
use Rattle.tc_model.specs.Kinds.{Kind}
use Rattle.tc_model.specs.Keyed.{Ascends, value_of, values_in}
use Rattle.tc_model.proofs.KeyedLookups.{value_of-above}
use Rattle.tc_model.proofs.KeyedEquality.{value_of-here, value_of-other}
use Rattle.tc_schema_model.specs.Occurrences.{Path, count}
use Rattle.tc_schema_model.proofs.Replaced.{count_at, count_replaced, count_taken_out}
use Rattle.tc_plain_model.specs.Writes.{Pairs, Write, after_write}
use Rattle.tc_plain_model.proofs.WriteLookups.{Ascends-after_write, value_of-after_write}
use Rattle.tc_lsm_model.specs.Tables.{Slot, Table, over, shape_in, KeepsShapes, shapes_held, shapes_below, occurring}

-- ---- one write

count-after_write : (ps : Pairs) (w : Write) (path : Path) (t : Kind) → Ascends ps
    → count (values_in (after_write ps w)) path t + count_at w.0 ps path t ≡ count (values_in ps) path t + count (option_to_list w.1) path t
count-after_write ps (key, Some d) path t up = omega (arith, count_replaced key d ps up path t, count_taken_out key ps path t)
count-after_write ps (key, None) path t up = omega (arith, count_taken_out key ps path t)

-- ---- the other entries

-- behind the first entry all keys are others, so that its write leaves what they have below
keeps_behind : (ps : Pairs) (e : ℕ × Slot) (es : Table) → Ascends ps → Ascends (e ∷ es) → KeepsShapes ps (e ∷ es) → KeepsShapes (after_write ps (e.0, e.1.held)) es
keeps_behind ps e es up ascends keeps = record {
  shapes = λ k. shape_at k (k == e.0) refl;
  gone = λ k. gone_at k (k == e.0) refl;
}
  where
    not_there : (k : ℕ) → (k == e.0) ≡ true → value_of k es ≡ None
    not_there k same = rw (eqb-true k e.0 same) (value_of-above e.0 es (sorted_head nat_cmp e.0 (keys_of es) ascends))

    shape_at : (k : ℕ) (b : Bool) → (k == e.0) ≡ b → IfSome (value_of k es) (λ s. s.below ≡ shape_in (after_write ps (e.0, e.1.held)) k)
    shape_at k true same = rw (not_there k same) tt
    shape_at k false other =
        let unchanged : shape_in (after_write ps (e.0, e.1.held)) k ≡ shape_in ps k = ap (option_map document_shape) (value_of-after_write k ps (e.0, e.1.held) up ∙ ap (λ b. if b then e.1.held else value_of k ps) other) in
        rw unchanged (subst (λ o. IfSome o (λ s. s.below ≡ shape_in ps k)) (value_of-other k e.0 e.1 es other) (keeps.shapes k))

    gone_at : (k : ℕ) (b : Bool) → (k == e.0) ≡ b → IfSome (value_of k es) (λ s. s.held ≡ None → IsSome s.below)
    gone_at k true same = rw (not_there k same) tt
    gone_at k false other = subst (λ o. IfSome o (λ s. s.held ≡ None → IsSome s.below)) (value_of-other k e.0 e.1 es other) (keeps.gone k)

-- so entries keep what is below them once those before them lie over it
pub keeps_rest : (ps : Pairs) (before behind : Table) → Ascends ps → Ascends (before ++ behind) → KeepsShapes ps (before ++ behind) → KeepsShapes (over ps before) behind
keeps_rest ps [] behind up ascends keeps = keeps
keeps_rest ps (e ∷ before) behind up ascends keeps =
    keeps_rest (after_write ps (e.0, e.1.held)) before behind (Ascends-after_write ps (e.0, e.1.held) up) (sorted_tail nat_cmp e.0 (keys_of (before ++ behind)) ascends)
    (keeps_behind ps e (before ++ behind) up ascends keeps)

-- ---- all entries

occurring-option : (o : Option ShapeTree) (shapes : List ShapeTree) (path : Path) (t : Kind) → occurring (option_to_list o ++ shapes) path t ≡ occurring (option_to_list o) path t + occurring shapes path t
occurring-option None shapes path t = omega arith
occurring-option (Some s) shapes path t = omega arith

of_document : (o : Option Document) (path : Path) (t : Kind) → occurring (option_to_list (option_map document_shape o)) path t ≡ count (option_to_list o) path t
of_document None path t = refl
of_document (Some d) path t = refl

pub count-over : (ps : Pairs) (table : Table) (path : Path) (t : Kind) → Ascends ps → Ascends table → KeepsShapes ps table
    → count (values_in (over ps table)) path t + occurring (shapes_below table) path t ≡ count (values_in ps) path t + occurring (shapes_held table) path t
count-over ps [] path t up ascends keeps = omega arith
count-over ps (e ∷ es) path t up ascends keeps =
    let rest = count-over (after_write ps (e.0, e.1.held)) es path t (Ascends-after_write ps (e.0, e.1.held) up) (sorted_tail nat_cmp e.0 (keys_of es) ascends) (keeps_behind ps e es up ascends keeps) in
    let one = count-after_write ps (e.0, e.1.held) path t up in
    let is_below : e.1.below ≡ shape_in ps e.0 = subst (λ o. IfSome o (λ s. s.below ≡ shape_in ps e.0)) (value_of-here e.0 e.1 es) (keeps.shapes e.0) in
    let below : occurring (option_to_list e.1.below) path t ≡ count_at e.0 ps path t = ap (λ o. occurring (option_to_list o) path t) is_below ∙ of_document (value_of e.0 ps) path t in
    omega (arith, rest, one, below, of_document e.1.held path t, occurring-option e.1.below (shapes_below es) path t, occurring-option (option_map document_shape e.1.held) (shapes_held es) path t)
