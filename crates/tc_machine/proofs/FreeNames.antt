-- The names of the files that a part is about to make are free, as long as the part has not failed.
use Rattle.std.proofs.Common.{◌≡◌, ◌<◌, ◌≤◌, ◌+◌, ℕ, false, List, [], length, refl, sym, ◌∙◌, arith, inl, inr, Option, Some, None}
use Rattle.std.specs.Prelude.{IfSome, IsSome}
use Rattle.std.proofs.lemmas.Bool.{true≢false}
use Rattle.tc_lsm_model.specs.Contents.{Content, Partition}
use Rattle.tc_lsm_model.specs.Lists.{last_of}
use Rattle.tc_lsm_model.specs.Merges.{IsMerge, Run, in_run}
use Rattle.tc_lsm_model.proofs.Covering.{covered_within}
use Rattle.tc_lsm_model.proofs.MergedGenerations.{merge_not_covered}
use Rattle.tc_store.specs.Disk.{Entry, IsThere, home, none, out, still}
use Rattle.tc_store.specs.declared.file_name.FileName.TheVariants.{Log}
use Rattle.tc_machine.specs.Components.{file_of}
use Rattle.tc_machine.specs.Kept.{IsKept, MergeFits}
use Rattle.tc_machine.specs.State.{Flushing, Merging, Sealed, State, flush_name, flushing_of, next_generation, sealed_logs}
use Rattle.tc_machine.specs.Steps.{IsExpected, IsOfFlush, IsOfMerge}
use Rattle.tc_machine.proofs.Targets.{FlushTarget, MergeTarget, flush_target, merge_target, uncovered_apart}

-- what is not there is none
pub none_there : (e : Entry) → (IsThere e → ⊥) → (before : Option (List ℕ)) × (e ≡ none before)
none_there (none before) not_there = (before, refl)
none_there (home f) not_there = absurd (not_there tt)
none_there (still bytes) not_there = absurd (not_there tt)
none_there out not_there = absurd (not_there tt)

no_job : (o : Option Flushing) (from to : ℕ) → o ≡ None → IsOfFlush o from to → ⊥
no_job None from to isnone is = is
no_job (Some j) from to isnone is = absurd (cc)

no_merge : (o : Option Merging) (from to : ℕ) → o ≡ None → IsOfMerge o from to → ⊥
no_merge None from to isnone is = is
no_merge (Some m) from to isnone is = absurd (cc)

module _ (part : Partition) (s : State) (k : IsKept part s) (running : IsSome s.active) (sound : s.failed ≡ false) where
  pub next_log_is_free : s.making ≡ false → IsThere (s.files (Log (next_generation s))) → ⊥
  next_log_is_free not_made there = at (k.expected running sound (Log (next_generation s)) there)
    where
      at : IsExpected s (Log (next_generation s)) → ⊥
      at (inl earlier) = omega (arith, earlier)
      at (inr is) = true≢false (sym is.1 ∙ not_made)

  merge_below : (o : Option Merging) (from to : ℕ) → IfSome o (MergeFits s.list) → last_of s.list < to → IsOfMerge o from to → ⊥
  merge_below None from to fits above is = is
  merge_below (Some m) from to fits above is = let e : MergeTarget s.list m = merge_target part s.list m k.memory.list fits in omega (arith, above, is.1, e.to)

  pub flush_is_free : IsSome s.sealed → s.flush ≡ None → IsThere (s.files (flush_name (flushing_of s))) → ⊥
  flush_is_free is none_out there = at (k.expected running sound (flush_name (flushing_of s)) there)
    where
      more : (o : Option Sealed) → IfSome o (λ d. 0 < length d.logs) → IsSome o → 0 < length (sealed_logs o)
      more None some is = absurd (true≢false (sym is))
      more (Some d) some is = some

      here : 0 < length (sealed_logs s.sealed)
      here = more s.sealed k.memory.some_log is

      at : IsExpected s (flush_name (flushing_of s)) → ⊥
      at (inl covered) = let w = covered_within part 0 [] [] s.list (last_of s.list + 1) (last_of s.list + length (sealed_logs s.sealed)) k.memory.list covered in omega (arith, w.1, here)
      at (inr (inl named)) = no_job s.flush (last_of s.list + 1) (last_of s.list + length (sealed_logs s.sealed)) none_out named
      at (inr (inr named)) = merge_below s.merge (last_of s.list + 1) (last_of s.list + length (sealed_logs s.sealed)) k.memory.merge (omega (arith, here)) named

  flush_above : (o : Option Flushing) (from to : ℕ) → s.flush ≡ o → to ≤ last_of s.list → from ≤ to → IsOfFlush o from to → ⊥
  flush_above None from to e below order is = is
  flush_above (Some j) from to e below order is = let t : FlushTarget s.list s.sealed j = flush_target s.list s.sealed s.flush j e k.memory.flush in omega (arith, is.0, t.from, below, order)

  pub merge_is_free : (run : Run) (c : Content) → 2 ≤ run.length → run.first + run.length ≤ length s.list → IsMerge (in_run run s.list) c → s.merge ≡ None → IsThere (s.files (file_of c)) → ⊥
  merge_is_free run c two within is none_out there = at (k.expected running sound (file_of c) there)
    where
      target : MergeTarget s.list (record { run = run; target = c })
      target = merge_target part s.list (record { run = run; target = c }) k.memory.list (record { is_merge = is; two = two; within = within; apart = uncovered_apart s.list c.from c.to (merge_not_covered part run s.list c k.memory.list two within is) })

      at : IsExpected s (file_of c) → ⊥
      at (inl covered) = merge_not_covered part run s.list c k.memory.list two within is covered
      at (inr (inl named)) = flush_above s.flush c.from c.to refl target.to target.order named
      at (inr (inr named)) = no_merge s.merge c.from c.to none_out named
