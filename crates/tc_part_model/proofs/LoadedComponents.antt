-- What is told of components, and what they were loaded of.
use Rattle.std.proofs.Common.{◌≡◌, ◌≤◌, ℕ, List, [], ◌∷◌, map, refl, ap, ◌∙◌, subst, Option, Some, None, sym}
use Rattle.std.specs.Prelude.{IfSome, IsSome}
use Rattle.std.specs.List.{AllZip}
use Rattle.std.proofs.lemmas.Bool.{false≢true}
use Rattle.std.proofs.lemmas.List.Elements.{All-head, All-tail}
use Rattle.tc_component.specs.Loaded.{IsLoadedOf}
use Rattle.tc_component.specs.Loading.{ComponentState}
use Rattle.tc_component.specs.Reading.{version_of}
use Rattle.tc_component.specs.Rows.{component_index, IsComponent}
use Rattle.tc_component.specs.Spelling.{Index, name_of}
use Rattle.tc_component.proofs.Versions.{of_version}
use Rattle.tc_lsm_model.specs.Contents.{Content}
use Rattle.tc_lsm_model.specs.Merges.{in_run as contents_in_run, swapped as contents_swapped}
use Rattle.tc_list.specs.declared.run.Run.{Run}
use Rattle.tc_list.specs.Runs.{in_run, neighbours, swapped}
use Rattle.tc_list.proofs.RunPairs.{AllZip-in_run, AllZip-swapped}
use Rattle.tc_machine.specs.Components.{file_of}
use Rattle.tc_part_model.specs.Meaning.{IsOfContent}
use Rattle.tc_part_model.specs.PartState.{AreTold, ToldComponent, told_component}

module _ {F : Type 0} (content : F → Option (List ℕ)) where
  pub loaded_of : (component : ComponentState F) (c : Content) → IsOfContent (told_component content component) c → IsSome (content component.file) → IsLoadedOf content component c
  loaded_of component c of told = at (content component.file) refl of.file of.version told
    where
      at : (o : Option (List ℕ)) → content component.file ≡ o → IfSome o (λ bytes. IsComponent c bytes) → IfSome o (λ bytes. component.index.version ≡ version_of bytes) → IsSome o → IsLoadedOf content component c
      at None same is version some = absurd (false≢true some)
      at (Some bytes) same is version some = record { bytes = bytes; tells = same; is = is; index = of.index ∙ ap (λ (v : ℕ). component_index v c) version }

  pub all_loaded : (components : List (ComponentState F)) (cs : List Content) → AllZip IsOfContent (map (told_component content) components) cs → AreTold (map (told_component content) components) → AllZip (IsLoadedOf content) components cs
  all_loaded [] [] all told = tt
  all_loaded [] (c ∷ cs) all told = absurd all
  all_loaded (m ∷ components) [] all told = absurd all
  all_loaded (m ∷ components) (c ∷ cs) all told =
      let rest = map (told_component content) components in
      (loaded_of m c all.0 (All-head (λ (x : ToldComponent). IsSome x.content) (told_component content m) rest told), all_loaded components cs all.1 (All-tail (λ (x : ToldComponent). IsSome x.content) (told_component content m) rest told))

  pub is_of : (component : ComponentState F) (c : Content) → IsLoadedOf content component c → IsOfContent (told_component content component) c
  is_of component c l = record {
    index = of_version component.index (version_of l.bytes) c l.index;
    file = subst (λ o. IfSome o (λ bytes. IsComponent c bytes)) (sym l.tells) l.is;
    version = subst (λ o. IfSome o (λ bytes. component.index.version ≡ version_of bytes)) (sym l.tells) (ap (λ (i : Index). i.version) l.index);
  }

  -- ---- lists of what is told

  abbrev pub ToldOf : ComponentState F → Content → Type 0
  ToldOf component c = IsOfContent (told_component content component) c

  pub of_told : (components : List (ComponentState F)) (cs : List Content) → AllZip IsOfContent (map (told_component content) components) cs → AllZip ToldOf components cs
  of_told [] [] all = tt
  of_told [] (c ∷ cs) all = absurd all
  of_told (m ∷ components) [] all = absurd all
  of_told (m ∷ components) (c ∷ cs) all = (all.0, of_told components cs all.1)

  to_told : (components : List (ComponentState F)) (cs : List Content) → AllZip ToldOf components cs → AllZip IsOfContent (map (told_component content) components) cs
  to_told [] [] all = tt
  to_told [] (c ∷ cs) all = absurd all
  to_told (m ∷ components) [] all = absurd all
  to_told (m ∷ components) (c ∷ cs) all = (all.0, to_told components cs all.1)

  pub swapped_told : (run : Run) (components : List (ComponentState F)) (cs : List Content) (merged : ComponentState F) (c : Content) → run.first ≤ run.last → AllZip IsOfContent (map (told_component content) components) cs
      → IsOfContent (told_component content merged) c → AllZip IsOfContent (map (told_component content) (swapped run merged components)) (contents_swapped (neighbours run) c cs)
  swapped_told run components cs merged c order all one =
      to_told (swapped run merged components) (contents_swapped (neighbours run) c cs) (AllZip-swapped ToldOf run components cs merged c order (of_told components cs all) one)

  -- ---- the names of their files

  names_of_each : (components : List (ComponentState F)) (cs : List Content) → AllZip ToldOf components cs → map (λ (m : ComponentState F). name_of m.index.head) components ≡ map file_of cs
  names_of_each [] [] all = refl
  names_of_each [] (c ∷ cs) all = absurd all
  names_of_each (m ∷ components) [] all = absurd all
  names_of_each (m ∷ components) (c ∷ cs) all =
      ap (λ (i : Index). name_of i.head ∷ map (λ (m : ComponentState F). name_of m.index.head) components) all.0.index ∙ ap (λ names. file_of c ∷ names) (names_of_each components cs all.1)

  pub run_names : (run : Run) (components : List (ComponentState F)) (cs : List Content) → AllZip IsOfContent (map (told_component content) components) cs
      → map (λ (m : ComponentState F). name_of m.index.head) (in_run run components) ≡ map file_of (contents_in_run (neighbours run) cs)
  run_names run components cs all = names_of_each (in_run run components) (contents_in_run (neighbours run) cs) (AllZip-in_run ToldOf run components cs (of_told components cs all))
