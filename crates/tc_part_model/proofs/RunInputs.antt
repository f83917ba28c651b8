-- Neighbours in the list of a part can be merged.
use Rattle.std.proofs.Common.{◌≡◌, ◌+◌, ◌-◌, ◌<◌, ◌≤◌, ℕ, zero, suc, List, [], ◌∷◌, length, map, take, drop, slice_get, refl, sym, ap, ◌∙◌, subst, arith, Option, Some}
use Rattle.std.specs.Prelude.{All}
use Rattle.std.specs.List.{AllZip}
use Rattle.std.proofs.lemmas.List.{get_or-drop, length-drop}
use Rattle.std.proofs.lemmas.List.Elements.{All-cons, All-nil, All-tail, All-take, All-weaker}
use Rattle.std.proofs.lemmas.Option.{get_or_from_slice_get, same_Some, slice_get-get_or, slice_get_within}
use Rattle.tc_model.specs.Dictionary.{Extends}
use Rattle.tc_model.specs.Document.{Name}
use Rattle.tc_plain_model.specs.Writes.{Pairs, after_writes}
use Rattle.tc_store.specs.declared.file_name.FileName.TheVariants.{Component}
use Rattle.tc_component.specs.declared.head.Head.{Head}
use Rattle.tc_component.specs.Loading.{ComponentState}
use Rattle.tc_component.specs.Spelling.{Index, name_of}
use Rattle.tc_lsm_model.specs.Contents.{Content, Partition}
use Rattle.tc_lsm_model.specs.Lists.{GoOn, last_after, last_of}
use Rattle.tc_lsm_model.specs.Merges.{IsMerge, in_run as contents_in_run}
use Rattle.tc_list.specs.declared.run.Run.{Run}
use Rattle.tc_list.specs.Runs.{in_run, neighbours}
use Rattle.tc_machine.specs.Components.{file_of}
use Rattle.tc_merge.specs.Merging.{GrowNames, IsRun, Tile}
use Rattle.tc_part_model.specs.Meaning.{IsOfContent, IsPart}
use Rattle.tc_part_model.specs.PartState.{Told, told_component}
use Rattle.tc_part_model.specs.PartView.{PartView}
use Rattle.tc_part_model.proofs.LoadedComponents.{ToldOf, of_told}

-- ---- elements of a run

pub slice_get-drop : {X : Type 0} (a n : ℕ) (xs : List X) (x : X) → slice_get xs (a + n) ≡ Some x → slice_get (drop a xs) n ≡ Some x
slice_get-drop a n xs x there =
    let within = slice_get_within xs (a + n) x there in
    slice_get-get_or (drop a xs) n x (omega (arith, within, length-drop a xs)) ∙ ap Some (get_or-drop a xs n x ∙ get_or_from_slice_get xs (a + n) x x there)

length-front : {X : Type 0} (n : ℕ) (xs : List X) (x : X) → slice_get xs n ≡ Some x → length (take (suc n) xs) ≡ suc n
length-front n [] x there = absurd (cc)
length-front zero (y ∷ xs) x there = refl
length-front (suc n) (y ∷ xs) x there = ap suc (length-front n xs x there)

module _ {F : Type 0} (content : F → Option (List ℕ)) where
  abbrev pub Zipped : List (ComponentState F) → List Content → Type 0
  Zipped ms cs = AllZip (ToldOf content) ms cs

  -- ---- from the first component of a list on

  tiles_to : (part : Partition) (g : ℕ) (p : Pairs) (names : List Name) (n : ℕ) (ms : List (ComponentState F)) (cs : List Content) (last : ComponentState F) → Zipped ms cs → GoOn part g p names cs → slice_get ms n ≡ Some last
      → Tile (g + 1) last.index.head.to (take (suc n) ms)
  tiles_to part g p names n [] cs last zip goes there = absurd (cc)
  tiles_to part g p names n (m ∷ ms) [] last zip goes there = absurd zip
  tiles_to part g p names zero (m ∷ ms) (c ∷ cs) last zip goes there =
      (ap (λ (i : Index). i.head.from) zip.0.index ∙ goes.0.next, ap (λ (x : ComponentState F). x.index.head.to + 1) (same_Some m last there))
  tiles_to part g p names (suc n) (m ∷ ms) (c ∷ cs) last zip goes there = (
    ap (λ (i : Index). i.head.from) zip.0.index ∙ goes.0.next,
    subst (λ (i : Index). Tile (i.head.to + 1) last.index.head.to (take (suc n) ms)) (sym zip.0.index) (tiles_to part c.to (after_writes p c.entries) c.names n ms cs last zip.1 goes.1 there),
  )

  grows_to : (part : Partition) (g : ℕ) (p : Pairs) (names : List Name) (n : ℕ) (ms : List (ComponentState F)) (cs : List Content) → Zipped ms cs → GoOn part g p names cs → GrowNames names (take n ms)
  grows_to part g p names zero ms cs zip goes = tt
  grows_to part g p names (suc n) [] cs zip goes = tt
  grows_to part g p names (suc n) (m ∷ ms) [] zip goes = absurd zip
  grows_to part g p names (suc n) (m ∷ ms) (c ∷ cs) zip goes =
      subst (λ (i : Index). Extends i.names names × GrowNames i.names (take n ms)) (sym zip.0.index) (goes.0.extends, grows_to part c.to (after_writes p c.entries) c.names n ms cs zip.1 goes.1)

  ends_at : (g n : ℕ) (ms : List (ComponentState F)) (cs : List Content) (last : ComponentState F) → Zipped ms cs → slice_get ms n ≡ Some last → last_after g (take (suc n) cs) ≡ last.index.head.to
  ends_at g n [] cs last zip there = absurd (cc)
  ends_at g n (m ∷ ms) [] last zip there = absurd zip
  ends_at g zero (m ∷ ms) (c ∷ cs) last zip there = sym (ap (λ (i : Index). i.head.to) zip.0.index) ∙ ap (λ (x : ComponentState F). x.index.head.to) (same_Some m last there)
  ends_at g (suc n) (m ∷ ms) (c ∷ cs) last zip there = ends_at c.to n ms cs last zip.1 there

  -- ---- from any component on

  tiles : (part : Partition) (g : ℕ) (p : Pairs) (names : List Name) (a n : ℕ) (ms : List (ComponentState F)) (cs : List Content) (first last : ComponentState F) → Zipped ms cs → GoOn part g p names cs → slice_get ms a ≡ Some first → slice_get (drop a ms) n ≡ Some last
      → Tile first.index.head.from last.index.head.to (take (suc n) (drop a ms))
  tiles part g p names a n [] cs first last zip goes here there = absurd (cc)
  tiles part g p names a n (m ∷ ms) [] first last zip goes here there = absurd zip
  tiles part g p names zero n (m ∷ ms) (c ∷ cs) first last zip goes here there =
      subst (λ from. Tile from last.index.head.to (take (suc n) (m ∷ ms)))
      (sym (sym (ap (λ (x : ComponentState F). x.index.head.from) (same_Some m first here)) ∙ ap (λ (i : Index). i.head.from) zip.0.index ∙ goes.0.next))
      (tiles_to part g p names n (m ∷ ms) (c ∷ cs) last zip goes there)
  tiles part g p names (suc a) n (m ∷ ms) (c ∷ cs) first last zip goes here there = tiles part c.to (after_writes p c.entries) c.names a n ms cs first last zip.1 goes.1 here there

  grows : (part : Partition) (g : ℕ) (p : Pairs) (names : List Name) (a n : ℕ) (ms : List (ComponentState F)) (cs : List Content) → Zipped ms cs → GoOn part g p names cs → GrowNames [] (take n (drop a ms))
  grows part g p names a zero ms cs zip goes = tt
  grows part g p names zero (suc n) [] cs zip goes = tt
  grows part g p names (suc a) (suc n) [] cs zip goes = tt
  grows part g p names a (suc n) (m ∷ ms) [] zip goes = absurd zip
  grows part g p names zero (suc n) (m ∷ ms) (c ∷ cs) zip goes =
      ((m.index.names, refl), subst (λ (i : Index). GrowNames i.names (take n ms)) (sym zip.0.index) (grows_to part c.to (after_writes p c.entries) c.names n ms cs zip.1 goes.1))
  grows part g p names (suc a) (suc n) (m ∷ ms) (c ∷ cs) zip goes = grows part c.to (after_writes p c.entries) c.names a (suc n) ms cs zip.1 goes.1

  numbers : (part : Partition) (g : ℕ) (p : Pairs) (names : List Name) (P : Partition → Type 0) (ms : List (ComponentState F)) (cs : List Content) → P part → Zipped ms cs → GoOn part g p names cs
      → All (λ m. P (record { number = m.index.head.number; count = m.index.head.count })) ms
  numbers part g p names P [] cs is zip goes = All-nil _
  numbers part g p names P (m ∷ ms) [] is zip goes = absurd zip
  numbers part g p names P (m ∷ ms) (c ∷ cs) is zip goes =
      All-cons (λ (x : ComponentState F). P (record { number = x.index.head.number; count = x.index.head.count })) m ms
      (subst (λ (i : Index). P (record { number = i.head.number; count = i.head.count })) (sym zip.0.index) (subst P (sym goes.0.here) is))
      (numbers part c.to (after_writes p c.entries) c.names P ms cs is zip.1 goes.1)

  All-behind : (P : ComponentState F → Type 0) (a : ℕ) (ms : List (ComponentState F)) → All P ms → All P (drop a ms)
  All-behind P zero ms all = all
  All-behind P (suc a) [] all = all
  All-behind P (suc a) (m ∷ ms) all = All-behind P a ms (All-tail P m ms all)

  ends : (g a n : ℕ) (ms : List (ComponentState F)) (cs : List Content) (last : ComponentState F) → Zipped ms cs → slice_get (drop a ms) n ≡ Some last → last_after g (take (suc n) (drop a cs)) ≡ last.index.head.to
  ends g zero n ms cs last zip there = ends_at g n ms cs last zip there
  ends g (suc a) n [] cs last zip there = absurd (cc)
  ends g (suc a) n (m ∷ ms) [] last zip there = absurd zip
  ends g (suc a) n (m ∷ ms) (c ∷ cs) last zip there = ends g a n ms cs last zip.1 there

  begins : (a n : ℕ) (ms : List (ComponentState F)) (cs : List Content) (first : ComponentState F) (d : Content) (others : List Content) → Zipped ms cs → slice_get ms a ≡ Some first → take (suc n) (drop a cs) ≡ d ∷ others → d.from ≡ first.index.head.from
  begins a n [] cs first d others zip here is = absurd (cc)
  begins a n (m ∷ ms) [] first d others zip here is = absurd zip
  begins zero n (m ∷ ms) (c ∷ cs) first d others zip here is =
      ap (λ (x : Content). x.from) (head_same d c others (take n cs) is) ∙ sym (ap (λ (i : Index). i.head.from) zip.0.index) ∙ ap (λ (x : ComponentState F). x.index.head.from) (same_Some m first here)
    where
      head_same : (x y : Content) (xs ys : List Content) → y ∷ ys ≡ x ∷ xs → x ≡ y
      head_same x y xs ys e = cc
  begins (suc a) n (m ∷ ms) (c ∷ cs) first d others zip here is = begins a n ms cs first d others zip.1 here is

  -- ---- a run of a part

  module _ (t : Told) (p : PartView) (components : List (ComponentState F)) (run : Run) (head : Head) (first last : ComponentState F) (is : IsPart t p) (same : t.components ≡ map (told_component content) components) (order : run.first < run.last)
      (here : slice_get components run.first ≡ Some first) (there : slice_get components run.last ≡ Some last)
      (head_is : head ≡ record { number = t.part.number; count = t.part.count; from = first.index.head.from; to = last.index.head.to }) where
    abbrev n : ℕ
    n = run.last - run.first

    many : run.last + 1 - run.first ≡ suc n
    many = omega (arith, order)

    zip : Zipped components p.list
    zip = of_told content components p.list (subst (λ ts. AllZip IsOfContent ts p.list) same is.view.components)

    last_there : slice_get (drop run.first components) n ≡ Some last
    last_there = slice_get-drop run.first n components last (ap (slice_get components) (omega (arith, order)) ∙ there)

    abbrev Here : Partition → Type 0
    Here part = (part.number ≡ head.number) × (part.count ≡ head.count)

    here_is : Here p.part
    here_is = (sym (ap (λ (part : Partition). part.number) is.view.part) ∙ sym (ap (λ (h : Head). h.number) head_is), sym (ap (λ (part : Partition). part.count) is.view.part) ∙ sym (ap (λ (h : Head). h.count) head_is))

    all_here : All (λ m. Here (record { number = m.index.head.number; count = m.index.head.count })) (take (suc n) (drop run.first components))
    all_here = All-take (λ m. Here (record { number = m.index.head.number; count = m.index.head.count })) (suc n) (drop run.first components)
        (All-behind (λ m. Here (record { number = m.index.head.number; count = m.index.head.count })) run.first components (numbers p.part 0 [] [] Here components p.list here_is zip is.memory.list))

    abbrev ms : List (ComponentState F)
    ms = take (suc n) (drop run.first components)

    runs : IsRun head ms
    runs = record {
      several = omega (arith, length-front n (drop run.first components) last last_there, order);
      number = All-weaker (λ m. Here (record { number = m.index.head.number; count = m.index.head.count })) (λ m. m.index.head.number ≡ head.number) (λ m both. both.0) ms all_here;
      count = All-weaker (λ m. Here (record { number = m.index.head.number; count = m.index.head.count })) (λ m. m.index.head.count ≡ head.count) (λ m both. both.1) ms all_here;
      tile = subst (λ (h : Head). Tile h.from h.to ms) (sym head_is) (tiles p.part 0 [] [] run.first n components p.list first last zip is.memory.list here last_there);
      names = grows p.part 0 [] [] run.first (suc n) components p.list zip is.memory.list;
    }

    pub run_can_merge : IsRun head (in_run run components)
    run_can_merge = subst (λ k. IsRun head (take k (drop run.first components))) (sym many) runs

    pub merge_named : (c : Content) → IsMerge (contents_in_run (neighbours run) p.list) c → file_of c ≡ name_of head
    merge_named c merge =
        let all : contents_in_run (neighbours run) p.list ≡ take (suc n) (drop run.first p.list) = ap (λ k. take k (drop run.first p.list)) many in
        let from : c.from ≡ head.from = merge.from ∙ begins run.first n components p.list first merge.first merge.others zip here (sym all ∙ merge.is) ∙ sym (ap (λ (h : Head). h.from) head_is) in
        let to : c.to ≡ head.to = merge.to ∙ ap last_of all ∙ ends 0 run.first n components p.list last zip last_there ∙ sym (ap (λ (h : Head). h.to) head_is) in
        ap (λ x. Component x c.to) from ∙ ap (λ x. Component head.from x) to

    pub run_within : (2 ≤ (neighbours run).length) × ((neighbours run).first + (neighbours run).length ≤ length p.list)
    run_within = (omega (arith, order), omega (arith, order, slice_get_within components run.last last there, lengths components p.list zip))
      where
        lengths : (xs : List (ComponentState F)) (cs : List Content) → Zipped xs cs → length xs ≡ length cs
        lengths [] [] all = refl
        lengths [] (c ∷ cs) all = absurd all
        lengths (x ∷ xs) [] all = absurd all
        lengths (x ∷ xs) (c ∷ cs) all = ap suc (lengths xs cs all.1)
