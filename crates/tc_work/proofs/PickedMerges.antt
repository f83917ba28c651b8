-- What is listed behind several calls comes of flushes and of merges that the policy picked.
use Rattle.std.proofs.Common.{◌≡◌, ◌+◌, ℕ, List, [], ◌∷◌, ◌++◌, length, map, take, refl, sym, ap, subst, arith}
use Rattle.std.proofs.lemmas.List.{length-append, take-append-le}
use Rattle.tc_component.specs.Loading.{ComponentState}
use Rattle.tc_list.specs.Policies.{IsPicked}
use Rattle.tc_list.specs.Runs.{swapped}
use Rattle.tc_list.specs.declared.policy.Policy.{Policy}
use Rattle.tc_list.specs.declared.run.Run.{Run}
use Rattle.tc_work.specs.JobsOut.{IsPickedFrom}
use Rattle.tc_part_model.specs.PartState.{PartState}
use Rattle.tc_work.specs.Settling.{Listed, flushed, flushes, merged, waiting, AreListed, IsListedBy}

module _ {F : Type 0} (policy : Policy) (size : F → ℕ) where
  listed_more : (jobs more : List (Listed F)) (old mid new : List (ComponentState F)) → AreListed policy size jobs old mid → AreListed policy size more mid new → AreListed policy size (jobs ++ more) old new
  listed_more [] more old mid new is are = subst (λ (list : List (ComponentState F)). AreListed policy size more list new) is are
  listed_more (flushed c ∷ jobs) more old mid new is are = listed_more jobs more (old ++ c ∷ []) mid new is are
  listed_more (merged run c ∷ jobs) more old mid new is are = (is.0, listed_more jobs more (swapped run c old) mid new is.1 are)

  flushes_more : (jobs more : List (Listed F)) → flushes (jobs ++ more) ≡ flushes jobs + flushes more
  flushes_more [] more = omega arith
  flushes_more (flushed c ∷ jobs) more = omega (arith, flushes_more jobs more)
  flushes_more (merged run c ∷ jobs) more = omega (arith, flushes_more jobs more)

  -- a run that is picked of those that are listed, and one that was, behind a flush
  pub picked_of_all : (list : List (ComponentState F)) (run : Run) → IsPicked policy (map (λ (m : ComponentState F). size m.file) list) run → IsPickedFrom policy size list run
  picked_of_all list run picked = record { listed = length list; within = omega arith; picked = subst (λ (xs : List (ComponentState F)). IsPicked policy (map (λ (m : ComponentState F). size m.file) xs) run) (sym (take_all list)) picked }
    where
      take_all : (xs : List (ComponentState F)) → take (length xs) xs ≡ xs
      take_all [] = refl
      take_all (x ∷ xs) = ap (λ ys. x ∷ ys) (take_all xs)

  pub picked_behind : (list : List (ComponentState F)) (c : ComponentState F) (run : Run) → IsPickedFrom policy size list run → IsPickedFrom policy size (list ++ c ∷ []) run
  picked_behind list c run is = record {
    listed = is.listed;
    within = omega (arith, is.within, length-append list (c ∷ []));
    picked = subst (λ (xs : List (ComponentState F)). IsPicked policy (map (λ (m : ComponentState F). size m.file) xs) run) (sym (take-append-le is.listed list (c ∷ []) is.within)) is.picked;
  }

module _ {S D F W : Type 0} (policy : Policy) (size : F → ℕ) where
  -- no job is listed
  pub listed_same : (old new : PartState S D F W) → new.list ≡ old.list → waiting new.sealed + old.generation ≡ waiting old.sealed + new.generation → IsListedBy policy size old new
  listed_same old new same tables = record { jobs = []; are = same; flushed = omega (arith, tables) }

  -- two calls
  pub listed_then : (old mid new : PartState S D F W) → IsListedBy policy size old mid → IsListedBy policy size mid new → IsListedBy policy size old new
  listed_then old mid new one two = record {
    jobs = one.jobs ++ two.jobs;
    are = listed_more policy size one.jobs two.jobs old.list mid.list new.list one.are two.are;
    flushed = omega (arith, one.flushed, two.flushed, flushes_more policy size one.jobs two.jobs);
  }

  pub flush_listed : (old new : PartState S D F W) (c : ComponentState F) → new.list ≡ old.list ++ c ∷ [] → waiting new.sealed + old.generation + 1 ≡ waiting old.sealed + new.generation → IsListedBy policy size old new
  flush_listed old new c is tables = record { jobs = flushed c ∷ []; are = is; flushed = omega (arith, tables) }

  pub merge_listed : (old new : PartState S D F W) (run : Run) (c : ComponentState F) → IsPickedFrom policy size old.list run → new.list ≡ swapped run c old.list → waiting new.sealed + old.generation ≡ waiting old.sealed + new.generation → IsListedBy policy size old new
  merge_listed old new run c picked is tables = record { jobs = merged run c ∷ []; are = (picked, is); flushed = omega (arith, tables) }
