-- One component more of a list, and what is found at its end.
use Rattle.std.proofs.Common.{◌≡◌, ◌∙◌, ◌+◌, ℕ, zero, suc, List, [], ◌∷◌, ◌++◌, Option, Some, length, take, drop, slice_get, refl, sym, ap, subst}
use Rattle.std.specs.Prelude.{All}
use Rattle.std.proofs.lemmas.List.Elements.{All-get_or}
use Rattle.std.proofs.lemmas.Option.{get_or_from_slice_get, same_Some, slice_get_within}
use Rattle.tc_model.specs.Dictionary.{Extends}
use Rattle.tc_model.specs.Document.{Name}
use Rattle.tc_model.proofs.DictionaryGrowth.{Extends-trans}
use Rattle.tc_lsm_model.specs.Contents.{Partition, Content}
use Rattle.tc_lsm_model.specs.Lists.{live, names_of, schema_of}
use Rattle.tc_lsm_model.proofs.ListNewest.{newest_of_list}
use Rattle.tc_schema_model.specs.Counted.{Counted, nothing, documents_of, IsCanonical}
use Rattle.tc_component.specs.Loading.{ComponentState}
use Rattle.tc_component.specs.Spelling.{IsIndex}
use Rattle.tc_list.specs.Intervals.{last_after, Follow}
use Rattle.tc_merge.specs.Merging.{GrowNames, newest_names, newest_schema}
use Rattle.tc_audit.specs.Reasons.{AreRight, IsReason, IsWrongBehind}
use Rattle.tc_audit.specs.Told.{IsHeld, IsOf}
use Rattle.tc_audit.specs.Walking.{AreInFront}
use Rattle.tc_audit.specs.declared.verdict.Wrong.{Wrong}
use Rattle.tc_audit.proofs.RightLists.{schema_loaded}
use Rattle.tc_audit.proofs.Rooms.{pairs_counted}

-- ---- an element of a list

pub parted : {A : Type 0} (xs : List A) (i : ℕ) (x : A) → slice_get xs i ≡ Some x → xs ≡ take i xs ++ x ∷ drop (suc i) xs
parted [] i x here = absurd (cc)
parted (y ∷ xs) zero x here = ap (λ z. z ∷ xs) (same_Some y x here)
parted (y ∷ xs) (suc i) x here = ap (λ zs. y ∷ zs) (parted xs i x here)

module _ {F : Type 0} where
  pub names_at : (ns : List Name) (ms : List (ComponentState F)) (i : ℕ) (m : ComponentState F) → GrowNames ns ms → slice_get ms i ≡ Some m → Extends m.index.names (newest_names ns (take i ms))
  names_at ns [] i m grow here = absurd (cc)
  names_at ns (x ∷ ms) zero m grow here = subst (λ (y : ComponentState F). Extends y.index.names ns) (same_Some x m here) grow.0
  names_at ns (x ∷ ms) (suc i) m grow here = names_at x.index.names ms i m grow.1 here

  -- the names of a component go on those of each that is older
  grown : (ns : List Name) (ms : List (ComponentState F)) (i : ℕ) (m : ComponentState F) → GrowNames ns ms → slice_get ms i ≡ Some m → Extends m.index.names ns × AreInFront (take i ms) m.index.names
  grown ns [] i m grow here = absurd (cc)
  grown ns (x ∷ ms) zero m grow here = (subst (λ (y : ComponentState F). Extends y.index.names ns) (same_Some x m here) grow.0, tt)
  grown ns (x ∷ ms) (suc i) m grow here = let rest = grown x.index.names ms i m grow.1 here in (Extends-trans m.index.names x.index.names ns rest.0 grow.0, (rest.0, rest.1))

  pub in_front : (ns : List Name) (ms : List (ComponentState F)) (i : ℕ) (m : ComponentState F) → GrowNames ns ms → slice_get ms i ≡ Some m → AreInFront (take i ms) m.index.names
  in_front ns ms i m grow here = (grown ns ms i m grow here).1

  pub follows_at : (g : ℕ) (ms : List (ComponentState F)) (i : ℕ) (m : ComponentState F) → Follow g ms → slice_get ms i ≡ Some m → m.index.head.from ≡ last_after g (take i ms) + 1
  follows_at g [] i m follow here = absurd (cc)
  follows_at g (x ∷ ms) zero m follow here = subst (λ (y : ComponentState F). y.index.head.from ≡ g + 1) (same_Some x m here) follow.0
  follows_at g (x ∷ ms) (suc i) m follow here = follows_at x.index.head.to ms i m follow.1 here

  pub newest_names_pushed : (ns : List Name) (ms : List (ComponentState F)) (m : ComponentState F) → newest_names ns (ms ++ m ∷ []) ≡ m.index.names
  newest_names_pushed ns [] m = refl
  newest_names_pushed ns (x ∷ ms) m = newest_names_pushed x.index.names ms m

  pub newest_schema_pushed : (d : Counted) (ms : List (ComponentState F)) (m : ComponentState F) → newest_schema d (ms ++ m ∷ []) ≡ m.index.schema
  newest_schema_pushed d [] m = refl
  newest_schema_pushed d (x ∷ ms) m = newest_schema_pushed x.index.schema ms m

  -- the schema of a component, under its names
  pub canonical_pushed : (ms : List (ComponentState F)) (m : ComponentState F) (d : Counted) → d ≡ m.index.schema → IsIndex m.index → IsCanonical (length (newest_names [] (ms ++ m ∷ []))) d
  canonical_pushed ms m d same lawful =
      subst (λ ns. IsCanonical (length ns) d) (sym (newest_names_pushed [] ms m)) (subst (IsCanonical (length m.index.names)) (sym same) lawful.schema.canonical)

  -- ---- what is found

  module _ (told : F → Option (List ℕ)) (part : Partition) where
    pub held_at : (list : List (ComponentState F)) (i : ℕ) (m : ComponentState F) → All (IsHeld told) list → slice_get list i ≡ Some m → IsHeld told m
    held_at list i m all here = subst (IsHeld told) (get_or_from_slice_get list i m m here) (All-get_or (IsHeld told) list i m (slice_get_within list i m here) all)

    pub of_at : (list : List (ComponentState F)) (i : ℕ) (m : ComponentState F) → All (IsOf part) list → slice_get list i ≡ Some m → IsOf part m
    of_at list i m all here = subst (IsOf part) (get_or_from_slice_get list i m m here) (All-get_or (IsOf part) list i m (slice_get_within list i m here) all)

    pub reason_at : (list older : List (ComponentState F)) (i : ℕ) (m : ComponentState F) (cs : List Content) (w : Wrong) → older ≡ take i list → slice_get list i ≡ Some m → AreRight told part older cs → IsWrongBehind told cs m w → IsReason told part list w
    reason_at list older i m cs w front here right wrong = record {
      older = older;
      component = m;
      newer = drop (suc i) list;
      parts = parted list i m here ∙ ap (λ ms. ms ++ m ∷ drop (suc i) list) (sym front);
      contents = cs;
      right = right;
      wrong = wrong;
    }

    pub documents_live : (list : List (ComponentState F)) (cs : List Content) (schema : Counted) → AreRight told part list cs → schema ≡ newest_schema nothing list → documents_of schema ≡ length (live cs)
    documents_live list cs schema right same =
        ap documents_of (same ∙ schema_loaded told nothing list cs right.loaded) ∙ pairs_counted (names_of cs) (schema_of cs) (live cs) (newest_of_list part cs right.listed).stands
