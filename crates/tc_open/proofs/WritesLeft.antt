-- The writes that are left to be replayed, and what was read for those before them.
use Rattle.std.proofs.Common.{◌≡◌, ◌+◌, ◌++◌, ℕ, List, [], length, length-append, refl, arith, Option}
use Rattle.tc_store.specs.Counted.{Counts}
use Rattle.tc_log.specs.declared.write.Write.{Write}
use Rattle.tc_memory.specs.Table.{Table}
use Rattle.tc_component.specs.Loading.{ComponentState}
use Rattle.tc_open.specs.Reads.{IsCountedUpTo}
use Rattle.tc_open.specs.Replays.{Replays}
use Rattle.tc_open.proofs.CountedReads.{counts_follow, none_counts}
use Rattle.tc_open.proofs.ReplayedWrites.{replays-append}

-- What is left, put into the table that is there now, is the whole, put into the one at the beginning.
pub record AreWritesLeft {F : Type 0} (content : F → Option (List ℕ)) (list : List (ComponentState F)) (all rest : List Write) (old now : Table) (before after : Counts) : Type 0 where
  pub replays : (new : Table) → Replays content list rest now new → Replays content list all old new
  pub done : ℕ
  pub left : done + length rest ≡ length all
  pub counted : IsCountedUpTo ⊥ done before after

module _ {F : Type 0} (content : F → Option (List ℕ)) (list : List (ComponentState F)) (all : List Write) (old : Table) (before : Counts) where
  pub all_left : AreWritesLeft content list all all old old before before
  all_left = record { replays = λ new is. is; done = 0; left = omega arith; counted = none_counts ⊥ before (λ never. never) }

  pub fewer_left : (ws rest : List Write) (now between : Table) (mid after : Counts) → AreWritesLeft content list all (ws ++ rest) old now before mid → Replays content list ws now between → IsCountedUpTo ⊥ (length ws) mid after
      → AreWritesLeft content list all rest old between before after
  fewer_left ws rest now between mid after left one counts = record {
    replays = λ new is. left.replays new (replays-append content list ws rest now between new one is);
    done = left.done + length ws;
    left = omega (arith, left.left, length-append ws rest);
    counted = counts_follow ⊥ ⊥ left.done (length ws) (left.done + length ws) before mid after left.counted counts (λ never. never) (omega arith);
  }

  -- at the end
  pub none_left : (now : Table) (after : Counts) → AreWritesLeft content list all [] old now before after → Replays content list all old now
  none_left now after left = left.replays now refl

  pub counted_all : (Fails : Type 0) (rest : List Write) (now : Table) (after : Counts) → (Fails → ⊥) → AreWritesLeft content list all rest old now before after → IsCountedUpTo Fails (length all) before after
  counted_all Fails rest now after never left =
      counts_follow ⊥ Fails left.done 0 (length all) before after after left.counted (none_counts ⊥ after (λ never. never)) never (omega (arith, left.left))
