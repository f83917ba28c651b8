-- The components of a run one after the other, and the names and the schema of the last of them.
use Rattle.std.proofs.Common.{◌≡◌, ◌∙◌, ◌<◌, ◌+◌, ◌-◌, ℕ, zero, suc, List, [], ◌∷◌, ◌++◌, Some, length, map, take, get_or, slice_get, sym, ap, subst, arith}
use Rattle.std.specs.Prelude.{All}
use Rattle.std.proofs.lemmas.List.{length-map, map_push, take_more}
use Rattle.std.proofs.lemmas.List.Elements.{All-push}
use Rattle.std.proofs.lemmas.Option.{same_Some, slice_get-get_or}
use Rattle.tc_model.specs.Document.{Name}
use Rattle.tc_schema_model.specs.Counted.{Counted, nothing}
use Rattle.tc_component.specs.Loading.{ComponentState}
use Rattle.tc_component.specs.declared.head.Head.{Head}
use Rattle.tc_component.specs.Spelling.{Row, file_bytes}
use Rattle.tc_merge.specs.Inputs.{InputState, starts}
use Rattle.tc_merge.specs.Merging.{newest_names, newest_schema}
use Rattle.tc_merge.proofs.InputSteps.{slice_get-map}

last_names : {F : Type 0} (names : List Name) (run : List (ComponentState F)) (n : ℕ) (c : ComponentState F) → slice_get run n ≡ Some c → n + 1 ≡ length run → newest_names names run ≡ c.index.names
last_names names [] n c here last = absurd (cc)
last_names names (d ∷ []) zero c here last = ap (λ k. k.index.names) (same_Some d c here)
last_names names (d ∷ []) (suc n) c here last = absurd (cc)
last_names names (d ∷ e ∷ run) zero c here last = absurd (omega (arith, last))
last_names names (d ∷ e ∷ run) (suc n) c here last = last_names d.index.names (e ∷ run) n c here (omega (arith, last))

last_schema : {F : Type 0} (schema : Counted) (run : List (ComponentState F)) (n : ℕ) (c : ComponentState F) → slice_get run n ≡ Some c → n + 1 ≡ length run → newest_schema schema run ≡ c.index.schema
last_schema schema [] n c here last = absurd (cc)
last_schema schema (d ∷ []) zero c here last = ap (λ k. k.index.schema) (same_Some d c here)
last_schema schema (d ∷ []) (suc n) c here last = absurd (cc)
last_schema schema (d ∷ e ∷ run) zero c here last = absurd (omega (arith, last))
last_schema schema (d ∷ e ∷ run) (suc n) c here last = last_schema d.index.schema (e ∷ run) n c here (omega (arith, last))

module _ {A F : Type 0} (f : A → ComponentState F) (run : List A) where
  -- the file under the names and the schema of the last
  pub last_bytes : (a : A) (head : Head) (rows : List Row) (names : List Name) (schema : Counted) → 0 < length run → a ≡ get_or run (length run - 1) a → names ≡ (f a).index.names → schema ≡ (f a).index.schema
      → file_bytes head rows names schema ≡ file_bytes head rows (newest_names [] (map f run)) (newest_schema nothing (map f run))
  last_bytes a head rows names schema some is named counted =
      let n = length run - 1 in
      let here : slice_get run n ≡ Some a = slice_get-get_or run n a (omega (arith, some)) ∙ ap Some (sym is) in
      let there : slice_get (map f run) n ≡ Some (f a) = slice_get-map f run n a here in
      let last : n + 1 ≡ length (map f run) = omega (arith, some, length-map run f) in
      ap (λ ns. file_bytes head rows ns schema) (named ∙ sym (last_names [] (map f run) n (f a) there last))
      ∙ ap (λ s. file_bytes head rows (newest_names [] (map f run)) s) (counted ∙ sym (last_schema nothing (map f run) n (f a) there last))

  taken : (n : ℕ) (a : A) → n < length run → a ≡ get_or run n a → map f (take (n + 1) run) ≡ map f (take n run) ++ f a ∷ []
  taken n a within is = ap (map f) (take_more run n a within ∙ ap (λ z. take n run ++ z ∷ []) (sym is)) ∙ map_push f (take n run) a

  -- one more of them is an input
  pub input_step : (n : ℕ) (a : A) (inputs : List (InputState F)) (i : InputState F) → n < length run → a ≡ get_or run n a → i ≡ starts (f a) → inputs ≡ map starts (map f (take n run))
      → inputs ++ i ∷ [] ≡ map starts (map f (take (n + 1) run))
  input_step n a inputs i within is starts_so before =
      ap (λ l. l ++ i ∷ []) before ∙ ap (λ z. map starts (map f (take n run)) ++ z ∷ []) starts_so ∙ sym (map_push starts (map f (take n run)) (f a)) ∙ ap (map starts) (sym (taken n a within is))

  pub all_step : (P : ComponentState F → Type 0) (n : ℕ) (a : A) → n < length run → a ≡ get_or run n a → P (f a) → All P (map f (take n run)) → All P (map f (take (n + 1) run))
  all_step P n a within is p before = subst (All P) (sym (taken n a within is)) (All-push P (map f (take n run)) (f a) before p)
