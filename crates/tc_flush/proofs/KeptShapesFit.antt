-- The schema of documents fits the shapes of those that lie below a table, one after the other.
use Rattle.std.proofs.Common.{◌≡◌, ℕ, Bool, true, false, List, [], ◌∷◌, ◌++◌, refl, sym, ap, ◌∙◌, subst, Option, Some, None}
use Rattle.std.specs.Prelude.{◌==◌, if◌then◌else◌, option_map, option_to_list, IfSome}
use Rattle.std.specs.Map.{keys_of}
use Rattle.std.specs.Ordering.{nat_cmp}
use Rattle.std.proofs.lemmas.Bool.{eqb-true}
use Rattle.std.proofs.lemmas.Map.Keys.{sorted_head, sorted_tail}
use Rattle.tc_model.specs.Document.{Name, Document, ShapeTree, document_shape}
use Rattle.tc_model.specs.Keyed.{Ascends, value_of, values_in, without_key}
use Rattle.tc_model.proofs.KeyedEquality.{value_of-here, value_of-other}
use Rattle.tc_model.proofs.KeyedLookups.{value_of-above, value_of-without_key}
use Rattle.tc_model.proofs.KeyedOrder.{sorted-without_key}
use Rattle.tc_model.proofs.Replacing.{taken_out, none_taken_out}
use Rattle.tc_plain_model.specs.Writes.{Pairs}
use Rattle.tc_schema_model.specs.Added.{removed}
use Rattle.tc_schema_model.specs.Counted.{Counted}
use Rattle.tc_schema_model.specs.Fits.{FitsByPath}
use Rattle.tc_schema_model.specs.Stands.{StandsFor}
use Rattle.tc_schema_model.proofs.FitLaws.{document_fits, fits_by_place, others_stand}
use Rattle.tc_schema_model.proofs.RemovedLaws.{canonical-removed}
use Rattle.tc_lsm_model.specs.Tables.{Slot, Table, shape_in, shapes_below}
use Rattle.tc_flush.specs.Recounting.{FitsEach}

-- each entry keeps the shape of what its key has
abbrev KeepsEach : Pairs → Table → Type 0
KeepsEach p t = (k : ℕ) → IfSome (value_of k t) (λ s. s.below ≡ shape_in p k)

-- the entries behind the first do so too, also once the first one's document is out
rest_keeps : (p : Pairs) (e : ℕ × Slot) (t : Table) → Ascends p → Ascends (e ∷ t) → KeepsEach p (e ∷ t) → KeepsEach (without_key e.0 p) t
rest_keeps p e t up ascends keeps k = step (k == e.0) refl
  where
    not_there : (k == e.0) ≡ true → value_of k t ≡ None
    not_there same = rw (eqb-true k e.0 same) (value_of-above e.0 t (sorted_head nat_cmp e.0 (keys_of t) ascends))

    step : (b : Bool) → (k == e.0) ≡ b → IfSome (value_of k t) (λ s. s.below ≡ shape_in (without_key e.0 p) k)
    step true same = rw (not_there same) tt
    step false other =
        let unchanged : shape_in (without_key e.0 p) k ≡ shape_in p k = ap (option_map document_shape) (value_of-without_key k e.0 p up ∙ ap (λ b. if b then None else value_of k p) other) in
        rw unchanged (subst (λ o. IfSome o (λ s. s.below ≡ shape_in p k)) (value_of-other k e.0 e.1 t other) (keeps k))

-- without the first one's document, if there is one, the schema stands for the others
module _ (names : List Name) (p : Pairs) (key : ℕ) (d : Counted) where
  pub first_fits : (o : Option Document) → value_of key p ≡ o → StandsFor names d (values_in p)
      → (shapes : List ShapeTree) → ((e : Counted) → StandsFor names e (values_in (without_key key p)) → FitsEach names shapes e) → FitsEach names (option_to_list (option_map document_shape o) ++ shapes) d
  first_fits None none stands shapes rest = rest d (subst (λ q. StandsFor names d (values_in q)) (sym (none_taken_out key p none)) stands)
  first_fits (Some doc) there stands shapes rest =
      let out = taken_out key p doc there in
      let whole : StandsFor names d (out.before ++ doc ∷ out.behind) = subst (StandsFor names d) out.is_whole stands in
      let fits : FitsByPath names d (document_shape doc) = document_fits names d out.before out.behind doc whole in
      let place = fits_by_place names stands.distinct d (document_shape doc) fits in (
        fits,
        rest (removed names (document_shape doc) d)
            (subst (StandsFor names (removed names (document_shape doc) d)) (sym out.is_rest)
            (others_stand names d out.before out.behind doc (document_shape doc) refl (canonical-removed names (document_shape doc) d place stands.canonical) place whole)),
      )

pub kept_fit : (names : List Name) (p : Pairs) (d : Counted) (t : Table) → Ascends p → Ascends t → StandsFor names d (values_in p) → KeepsEach p t → FitsEach names (shapes_below t) d
kept_fit names p d [] up ascends stands keeps = stands.canonical
kept_fit names p d (e ∷ t) up ascends stands keeps =
    let below : e.1.below ≡ shape_in p e.0 = subst (λ o. IfSome o (λ s. s.below ≡ shape_in p e.0)) (value_of-here e.0 e.1 t) (keeps e.0) in
    subst (λ o. FitsEach names (option_to_list o ++ shapes_below t) d) (sym below)
    (first_fits names p e.0 d (value_of e.0 p) refl stands (shapes_below t)
    (λ left stands_left. kept_fit names (without_key e.0 p) left t (sorted-without_key e.0 p up) (sorted_tail nat_cmp e.0 (keys_of t) ascends) stands_left (rest_keeps p e t up ascends keeps)))
