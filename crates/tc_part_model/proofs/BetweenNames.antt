-- The names of what a merge makes go on from those before its run, and those behind the run go on from them.
use Rattle.std.proofs.Common.{◌≡◌, ◌+◌, ◌-◌, ◌<◌, ℕ, zero, suc, List, [], ◌∷◌, ◌++◌, map, take, drop, slice_get, sym, ap, ◌∙◌, subst, arith, Option, Some}
use Rattle.std.specs.List.{AllZip}
use Rattle.std.proofs.lemmas.List.{take-append-drop}
use Rattle.std.proofs.lemmas.Option.{same_Some}
use Rattle.tc_model.specs.Dictionary.{Extends}
use Rattle.tc_model.specs.Document.{Name}
use Rattle.tc_plain_model.specs.Writes.{Pairs, after_writes}
use Rattle.tc_component.specs.Loading.{ComponentState}
use Rattle.tc_component.specs.Spelling.{Index}
use Rattle.tc_lsm_model.specs.Contents.{Content, Partition}
use Rattle.tc_lsm_model.specs.Lists.{GoOn, IsList, held_over, last_after, names_of, newest_names}
use Rattle.tc_lsm_model.specs.Merges.{IsMerge, in_run as contents_in_run}
use Rattle.tc_lsm_model.proofs.ListLaws.{GoOn-back, GoOn-front}
use Rattle.tc_lsm_model.proofs.ListNames.{Extends-newest}
use Rattle.tc_list.specs.declared.run.Run.{Run}
use Rattle.tc_list.specs.Runs.{neighbours}
use Rattle.tc_part_model.specs.Meaning.{IsOfContent, IsPart}
use Rattle.tc_part_model.specs.PartState.{Told, told_component}
use Rattle.tc_part_model.specs.PartView.{PartView}
use Rattle.tc_part_model.proofs.LoadedComponents.{of_told}
use Rattle.tc_part_model.proofs.RunInputs.{Zipped, slice_get-drop}

module _ {F : Type 0} (content : F → Option (List ℕ)) where
  names_at : (names : List Name) (n : ℕ) (ms : List (ComponentState F)) (cs : List Content) (m : ComponentState F) → Zipped content ms cs → slice_get ms n ≡ Some m → newest_names names (take (suc n) cs) ≡ m.index.names
  names_at names n [] cs m zip there = absurd (cc)
  names_at names n (x ∷ ms) [] m zip there = absurd zip
  names_at names zero (x ∷ ms) (c ∷ cs) m zip there = sym (ap (λ (i : Index). i.names) zip.0.index) ∙ ap (λ (y : ComponentState F). y.index.names) (same_Some x m there)
  names_at names (suc n) (x ∷ ms) (c ∷ cs) m zip there = names_at c.names n ms cs m zip.1 there

  names_in_run : (names : List Name) (a n : ℕ) (ms : List (ComponentState F)) (cs : List Content) (m : ComponentState F) → Zipped content ms cs → slice_get (drop a ms) n ≡ Some m → newest_names names (take (suc n) (drop a cs)) ≡ m.index.names
  names_in_run names zero n ms cs m zip there = names_at names n ms cs m zip there
  names_in_run names (suc a) n [] cs m zip there = absurd (cc)
  names_in_run names (suc a) n (x ∷ ms) [] m zip there = absurd zip
  names_in_run names (suc a) n (x ∷ ms) (c ∷ cs) m zip there = names_in_run names a n ms cs m zip.1 there

  -- the names of a component go on from those of the components before it
  goes_on : (part : Partition) (g : ℕ) (p : Pairs) (names : List Name) (n : ℕ) (ms : List (ComponentState F)) (cs : List Content) (m : ComponentState F) → Zipped content ms cs → GoOn part g p names cs → slice_get ms n ≡ Some m
      → Extends m.index.names (newest_names names (take n cs))
  goes_on part g p names n [] cs m zip goes there = absurd (cc)
  goes_on part g p names n (x ∷ ms) [] m zip goes there = absurd zip
  goes_on part g p names zero (x ∷ ms) (c ∷ cs) m zip goes there =
      subst (λ (y : ComponentState F). Extends y.index.names names) (same_Some x m there) (subst (λ (i : Index). Extends i.names names) (sym zip.0.index) goes.0.extends)
  goes_on part g p names (suc n) (x ∷ ms) (c ∷ cs) m zip goes there = goes_on part c.to (after_writes p c.entries) c.names n ms cs m zip.1 goes.1 there

  module _ (t : Told) (p : PartView) (components : List (ComponentState F)) (run : Run) (last : ComponentState F) (c : Content) (is : IsPart t p) (same : t.components ≡ map (told_component content) components) (order : run.first < run.last)
      (there : slice_get components run.last ≡ Some last) (merge : IsMerge (contents_in_run (neighbours run) p.list) c) where
    abbrev n : ℕ
    n = run.last - run.first

    zip : Zipped content components p.list
    zip = of_told content components p.list (subst (λ ts. AllZip IsOfContent ts p.list) same is.view.components)

    many : contents_in_run (neighbours run) p.list ≡ take (suc n) (drop run.first p.list)
    many = let length_is : run.last + 1 - run.first ≡ suc n = omega (arith, order) in ap (λ k. take k (drop run.first p.list)) length_is

    within : slice_get (drop run.first components) n ≡ Some last
    within = let place : run.first + n ≡ run.last = omega (arith, order) in slice_get-drop run.first n components last (ap (slice_get components) place ∙ there)

    names : c.names ≡ last.index.names
    names = merge.names ∙ ap names_of many ∙ names_in_run [] run.first n components p.list last zip within

    pub older_goes_before : (at : ℕ) (older : ComponentState F) → slice_get components at ≡ Some older → at + 1 ≡ run.first → Extends c.names older.index.names
    older_goes_before at older here next =
        let before = take run.first p.list in
        let front = take (suc n) (drop run.first p.list) in
        let behind = drop (suc n) (drop run.first p.list) in
        let split : IsList p.part (before ++ (front ++ behind)) =
        subst (λ xs. IsList p.part xs) (sym (ap (λ rest. before ++ rest) (take-append-drop (suc n) (drop run.first p.list)) ∙ take-append-drop run.first p.list)) is.memory.list in
        let goes : GoOn p.part (last_after 0 before) (held_over [] before) (newest_names [] before) front =
        GoOn-front p.part (last_after 0 before) (held_over [] before) (newest_names [] before) front behind (GoOn-back p.part 0 [] [] before (front ++ behind) split) in
        let first : suc at ≡ run.first = omega (arith, next) in
        subst (λ ns. Extends ns older.index.names) (names_in_run (newest_names [] before) run.first n components p.list last zip within ∙ sym names)
        (subst (λ ns. Extends (newest_names (newest_names [] before) front) ns) (ap (λ k. newest_names [] (take k p.list)) (sym first) ∙ names_at [] at components p.list older zip here)
        (Extends-newest p.part (last_after 0 before) (held_over [] before) (newest_names [] before) front goes))

    pub newer_goes_behind : (newer : ComponentState F) → slice_get components (run.last + 1) ≡ Some newer → Extends newer.index.names c.names
    newer_goes_behind newer here =
        let after : run.last + 1 ≡ suc run.last = omega arith in
        subst (λ ns. Extends newer.index.names ns) (names_at [] run.last components p.list last zip there ∙ sym names)
        (goes_on p.part 0 [] [] (suc run.last) components p.list newer zip is.memory.list (ap (slice_get components) (sym after) ∙ here))
