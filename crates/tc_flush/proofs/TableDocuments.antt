-- The documents that a table holds, in ascending key, and their names.
use Rattle.std.proofs.Common.{◌≡◌, List, [], ◌∷◌, ◌++◌, map, refl, sym, ap, ◌∙◌, subst, Option, Some, None}
use Rattle.std.specs.Prelude.{flat_map, option_to_list}
use Rattle.std.specs.List.Sorted.{IsStrictlySortedBy}
use Rattle.std.specs.Map.{keys_of}
use Rattle.std.specs.Ordering.{nat_cmp}
use Rattle.tc_model.specs.Dictionary.{all_learned}
use Rattle.tc_model.specs.Document.{Name, Document, document_shape}
use Rattle.tc_model.specs.Keyed.{Ascends, values_in}
use Rattle.tc_model.specs.ShapeNames.{names_within, names_of_documents}
use Rattle.tc_model.proofs.LearnedNames.{all_learned-append}
use Rattle.tc_plain_model.specs.Store.{names_after}
use Rattle.tc_plain_model.specs.Writes.{Write, after_writes}
use Rattle.tc_lsm_model.specs.Tables.{Table, writes_of, shapes_held}
use Rattle.tc_flush.specs.Recounting.{names_with}

pub keys_of-writes_of : (t : Table) → keys_of t ≡ keys_of (writes_of t)
keys_of-writes_of [] = refl
keys_of-writes_of (e ∷ t) = ap (λ ks. e.0 ∷ ks) (keys_of-writes_of t)

-- what writes leave of nothing are the documents that they set, one after the other
abbrev pub SetDocuments : Type 0
SetDocuments = (ws : List Write) → Ascends ws → values_in (after_writes [] ws) ≡ flat_map (λ w. option_to_list w.1) ws

-- ---- their names

shapes-set : (t : Table) → shapes_held t ≡ map document_shape (flat_map (λ w. option_to_list w.1) (writes_of t))
shapes-set [] = refl
shapes-set (e ∷ t) = step e.1.held (shapes-set t)
  where
    step : (o : Option Document) → shapes_held t ≡ map document_shape (flat_map (λ w. option_to_list w.1) (writes_of t))
        → shapes_held ((e.0, record { held = o; below = e.1.below }) ∷ t) ≡ map document_shape (option_to_list o ++ flat_map (λ w. option_to_list w.1) (writes_of t))
    step None is = is
    step (Some d) is = ap (λ shapes. document_shape d ∷ shapes) is

names_with-documents : (names : List Name) (docs : List Document) → names_with names (map document_shape docs) ≡ all_learned names (names_of_documents docs)
names_with-documents names [] = refl
names_with-documents names (d ∷ docs) =
    names_with-documents (all_learned names (names_within (document_shape d))) docs ∙ sym (all_learned-append names (names_within (document_shape d)) (names_of_documents docs))

pub names_with-held : SetDocuments → (names : List Name) (t : Table) → Ascends t → names_with names (shapes_held t) ≡ names_after names (writes_of t)
names_with-held set names t up =
    ap (names_with names) (shapes-set t ∙ ap (map document_shape) (sym (set (writes_of t) (subst (IsStrictlySortedBy nat_cmp) (keys_of-writes_of t) up)))) ∙ names_with-documents names (values_in (after_writes [] (writes_of t)))
