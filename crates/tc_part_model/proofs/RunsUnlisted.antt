-- Once a merge is listed in place of its run, no listed component has a file of the run.
use Rattle.std.proofs.Common.{◌≢◌, ◌≤◌, ◌<◌, ℕ, List, [], ◌∷◌, ◌++◌, sym, subst, arith}
use Rattle.std.specs.Prelude.{All, map}
use Rattle.std.proofs.lemmas.List.Elements.{All-append, All-cons, All-head, All-nil, All-tail, All-weaker}
use Rattle.tc_model.specs.Document.{Name}
use Rattle.tc_plain_model.specs.Writes.{Pairs, after_writes}
use Rattle.tc_lsm_model.specs.Contents.{Content, Partition}
use Rattle.tc_lsm_model.specs.Lists.{GoOn, IsList, held_over, last_after, newest_names}
use Rattle.tc_lsm_model.specs.Merges.{Run, before_run, behind_run, in_run, swapped}
use Rattle.tc_lsm_model.proofs.ListLaws.{GoOn-back, GoOn-front, last_after-grows}
use Rattle.tc_lsm_model.proofs.MergeLaws.{split_at_run}
use Rattle.tc_machine.specs.Components.{file_of}
use Rattle.tc_machine.proofs.Options.{All-back, All-both, All-front}
use Rattle.tc_machine.proofs.Targets.{file_from}
use Rattle.tc_part_model.specs.Calls.{IsUnlisted}

-- the generations of a content lie behind one, and end at another
abbrev IsBetween : ℕ → ℕ → Content → Type 0
IsBetween g to c = (g < c.from) × (c.from ≤ c.to) × (c.to ≤ to)

between : (part : Partition) (g : ℕ) (p : Pairs) (ns : List Name) (cs : List Content) → GoOn part g p ns cs → All (IsBetween g (last_after g cs)) cs
between part g p ns [] all = All-nil (IsBetween g g)
between part g p ns (c ∷ cs) all =
    All-cons (IsBetween g (last_after c.to cs)) c cs
    (omega (arith, all.0.next), all.0.content.order, last_after-grows part c.to (after_writes p c.entries) c.names cs all.1)
    (All-weaker (IsBetween c.to (last_after c.to cs)) (IsBetween g (last_after c.to cs)) (λ d is. (omega (arith, all.0.next, all.0.content.order, is.0), is.1, is.2)) cs
    (between part c.to (after_writes p c.entries) c.names cs all.1))

-- contents with generations apart have files apart
files_apart : (g h to : ℕ) (c d : Content) → IsBetween g h c → IsBetween h to d → file_of c ≢ file_of d
files_apart g h to c d first second same = absurd (omega (arith, file_from c d same, first.1, first.2, second.0))

all_files : (P : Content → Type 0) (cs ds : List Content) → ((c : Content) → P c → All (λ d. file_of d ≢ file_of c) ds) → All P cs → All (IsUnlisted ds) (map file_of cs)
all_files P [] ds go all = All-nil (IsUnlisted ds)
all_files P (c ∷ cs) ds go all = All-cons (IsUnlisted ds) (file_of c) (map file_of cs) (go c (All-head P c cs all)) (all_files P cs ds go (All-tail P c cs all))

module _ (part : Partition) (run : Run) (cs : List Content) (target : Content) (is_list : IsList part cs) (apart : All (λ c. file_of c ≢ file_of target) cs) where
  abbrev g : ℕ
  g = last_after 0 (before_run run cs)

  abbrev h : ℕ
  h = last_after g (in_run run cs)

  split : IsList part (before_run run cs ++ (in_run run cs ++ behind_run run cs))
  split = subst (λ xs. IsList part xs) (sym (split_at_run run cs)) is_list

  rest : GoOn part g (held_over [] (before_run run cs)) (newest_names [] (before_run run cs)) (in_run run cs ++ behind_run run cs)
  rest = GoOn-back part 0 [] [] (before_run run cs) (in_run run cs ++ behind_run run cs) split

  abbrev older_pairs : Pairs
  older_pairs = held_over [] (before_run run cs)

  abbrev older_names : List Name
  older_names = newest_names [] (before_run run cs)

  before : All (IsBetween 0 g) (before_run run cs)
  before = between part 0 [] [] (before_run run cs) (GoOn-front part 0 [] [] (before_run run cs) (in_run run cs ++ behind_run run cs) split)

  within : All (IsBetween g h) (in_run run cs)
  within = between part g older_pairs older_names (in_run run cs) (GoOn-front part g older_pairs older_names (in_run run cs) (behind_run run cs) rest)

  behind : All (IsBetween h (last_after h (behind_run run cs))) (behind_run run cs)
  behind = between part h (held_over older_pairs (in_run run cs)) (newest_names older_names (in_run run cs)) (behind_run run cs) (GoOn-back part g older_pairs older_names (in_run run cs) (behind_run run cs) rest)

  apart_within : All (λ c. file_of c ≢ file_of target) (in_run run cs)
  apart_within =
      All-front (λ c. file_of c ≢ file_of target) (in_run run cs) (behind_run run cs)
      (All-back (λ c. file_of c ≢ file_of target) (before_run run cs) (in_run run cs ++ behind_run run cs) (subst (λ xs. All (λ c. file_of c ≢ file_of target) xs) (sym (split_at_run run cs)) apart))

  none_listed : (c : Content) → IsBetween g h c × (file_of c ≢ file_of target) → All (λ d. file_of d ≢ file_of c) (swapped run target cs)
  none_listed c is =
      All-append (λ d. file_of d ≢ file_of c) (before_run run cs) (target ∷ behind_run run cs)
      (All-weaker (IsBetween 0 g) (λ d. file_of d ≢ file_of c) (λ d first. files_apart 0 g h d c first is.0) (before_run run cs) before)
      (All-cons (λ d. file_of d ≢ file_of c) target (behind_run run cs) (λ same. is.1 (sym same))
      (All-weaker (IsBetween h (last_after h (behind_run run cs))) (λ d. file_of d ≢ file_of c) (λ d last same. files_apart g h (last_after h (behind_run run cs)) c d is.0 last (sym same)) (behind_run run cs) behind))

  pub run_unlisted : All (IsUnlisted (swapped run target cs)) (map file_of (in_run run cs))
  run_unlisted =
      all_files (λ c. IsBetween g h c × (file_of c ≢ file_of target)) (in_run run cs) (swapped run target cs) none_listed
      (All-both (IsBetween g h) (λ c. file_of c ≢ file_of target) (λ c. IsBetween g h c × (file_of c ≢ file_of target)) (in_run run cs) (λ c a b. (a, b)) within apart_within)
