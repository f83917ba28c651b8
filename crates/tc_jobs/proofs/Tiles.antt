-- The intervals of a run make up that of what it is merged into.
use Rattle.std.proofs.Common.{◌≡◌, ◌∙◌, ◌<◌, ◌≤◌, ◌+◌, ◌-◌, ℕ, zero, suc, List, [], ◌∷◌, ◌++◌, Some, length, map, take, drop, slice_get, get_or, refl, sym, ap, subst, arith}
use Rattle.std.specs.Prelude.{option_map}
use Rattle.std.proofs.lemmas.List.{drop-map, length-map, take-map, take_rest}
use Rattle.std.proofs.lemmas.List.Elements.{All-drop, All-take, All-weaker}
use Rattle.std.proofs.lemmas.Option.{same_Some, slice_get-map, slice_get_read}
use Rattle.tc_component.specs.declared.head.Head.{Head}
use Rattle.tc_component.specs.Loading.{ComponentState}
use Rattle.tc_list.specs.declared.run.Run.{Run}
use Rattle.tc_list.specs.Intervals.{first_of, last_after, last_of, Follow}
use Rattle.tc_list.specs.Runs.{in_run}
use Rattle.tc_list.proofs.RunLaws.{in_run-map, run_parts, run_length}
use Rattle.tc_merge.specs.Merging.{IsRun, Tile}
use Rattle.tc_jobs.specs.Lists.{IsListOf, IsOf}
use Rattle.tc_jobs.proofs.Growing.{grow_drop, grow_take}

tile_front : {F : Type 0} (g : ℕ) (run newer : List (ComponentState F)) → Follow g (run ++ newer) → Tile (g + 1) (last_after g run) run
tile_front g [] newer follow = refl
tile_front g (c ∷ run) newer follow = (follow.0, tile_front c.index.head.to run newer follow.1)

tile_within : {F : Type 0} (g : ℕ) (older run newer : List (ComponentState F)) → Follow g (older ++ (run ++ newer)) → 0 < length run → Tile (first_of run) (last_of run) run
tile_within g [] [] newer follow some = absurd (omega (arith, some))
tile_within g [] (c ∷ run) newer follow some = (refl, tile_front c.index.head.to run newer follow.1)
tile_within g (x ∷ older) run newer follow some = tile_within x.index.head.to older run newer follow.1 some

-- a header with these numbers
abbrev pub head_with : ℕ → ℕ → ℕ → ℕ → Head
head_with number count from to = record { number = number; count = count; from = from; to = to }

-- what is merged of a list of one partition
abbrev pub header_of : {F : Type 0} → ℕ → ℕ → List (ComponentState F) → Head
header_of number count run = head_with number count (first_of run) (last_of run)

pub head_seen : {F : Type 0} (number count : ℕ) (head : Head) (xs ys : List (ComponentState F)) → head ≡ header_of number count xs → xs ≡ ys → head ≡ header_of number count ys
head_seen number count head xs ys is same = is ∙ ap (header_of number count) same

pub run_is : {F : Type 0} (number count : ℕ) (run : Run) (cs : List (ComponentState F)) → run.first < run.last → run.last < length cs → Follow 0 cs → IsListOf number count cs
    → IsRun (header_of number count (in_run run cs)) (in_run run cs)
run_is number count run cs several within follow listed =
    let order : run.first ≤ run.last = omega (arith, several) in
    let many = run_length run cs order within in
    let each = All-take (IsOf number count) (run.last + 1 - run.first) (drop run.first cs) (All-drop (IsOf number count) run.first cs listed.each) in
    record {
      several = omega (arith, many, several);
      number = All-weaker (IsOf number count) (λ c. c.index.head.number ≡ number) (λ c is. is.0) (in_run run cs) each;
      count = All-weaker (IsOf number count) (λ c. c.index.head.count ≡ count) (λ c is. is.1) (in_run run cs) each;
      tile = tile_within 0 (take run.first cs) (in_run run cs) (drop (run.last + 1) cs) (subst (Follow 0) (run_parts run cs order) follow) (omega (arith, many, several));
      names = grow_take (run.last + 1 - run.first) (drop run.first cs) (grow_drop run.first cs listed.names);
    }

-- ---- parts of a list that is seen by a function

module _ {A B : Type 0} (f : A → B) (items : List A) (seen : List B) (is : map f items ≡ seen) where
  pub run_seen : (run : Run) → map f (in_run run items) ≡ in_run run seen
  run_seen run = in_run-map f run items ∙ ap (in_run run) is

  pub front_seen : (n : ℕ) → map f (take n items) ≡ take n seen
  front_seen n = sym (take-map f n items) ∙ ap (take n) is

  pub back_seen : (n : ℕ) → map f (take (length items - n) (drop n items)) ≡ drop n seen
  back_seen n = ap (map f) (take_rest items n) ∙ sym (drop-map f n items) ∙ ap (drop n) is

-- ---- the ends of a run

first_at : {F : Type 0} (cs : List (ComponentState F)) (c : ComponentState F) → slice_get cs 0 ≡ Some c → c.index.head.from ≡ first_of cs
first_at [] c here = absurd (cc)
first_at (d ∷ cs) c here = ap (λ k. k.index.head.from) (sym (same_Some d c here))

last_at : {F : Type 0} (g : ℕ) (cs : List (ComponentState F)) (n : ℕ) (c : ComponentState F) → slice_get cs n ≡ Some c → n + 1 ≡ length cs → last_after g cs ≡ c.index.head.to
last_at g [] n c here last = absurd (cc)
last_at g (d ∷ []) zero c here last = ap (λ k. k.index.head.to) (same_Some d c here)
last_at g (d ∷ []) (suc n) c here last = absurd (cc)
last_at g (d ∷ e ∷ cs) zero c here last = absurd (omega (arith, last))
last_at g (d ∷ e ∷ cs) (suc n) c here last = last_at d.index.head.to (e ∷ cs) n c here (omega (arith, last))

module _ {A F : Type 0} (f : A → ComponentState F) (run : List A) (a : A) where
  seen_at : (n : ℕ) → n < length run → a ≡ get_or run n a → slice_get (map f run) n ≡ Some (f a)
  seen_at n within is = slice_get-map f run n ∙ ap (λ o. option_map f o) (slice_get_read run (length run) n a refl within is)

  pub run_begins : 0 < length run → a ≡ get_or run 0 a → (f a).index.head.from ≡ first_of (map f run)
  run_begins some is = first_at (map f run) (f a) (seen_at 0 some is)

  pub run_ends : 0 < length run → a ≡ get_or run (length run - 1) a → (f a).index.head.to ≡ last_of (map f run)
  run_ends some is =
      let n = length run - 1 in
      sym (last_at 0 (map f run) n (f a) (seen_at n (omega (arith, some)) is) (omega (arith, some, length-map run f)))
