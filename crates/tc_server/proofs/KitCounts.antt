-- The counts of faults of a kit, and of the engine that was closed.
use Rattle.std.proofs.Common.{◌≡◌, ◌≤◌, arith, refl, subst, inl, inr}
use Rattle.std.specs.Prelude.{Some}
use Rattle.tc_part_model.specs.PartState.{PartState}
use Rattle.tc_store.specs.Counted.{Counts}
use Rattle.tc_store.specs.KitFaults.{KitFaults}
use Rattle.tc_store.specs.declared.kit.Kit.{Kit}
use Rattle.tc_work.specs.Settling.{IsWatchedIn}
use Rattle.tc_keeper.specs.Faults.{faults_in, faults_of_part, NoneFell, OneRose}
use Rattle.tc_keeper.proofs.EngineCauses.{faults_lent, lent_rose, lent_stays}

-- ---- the same counts

pub same_counts : (a b : KitFaults) → a.main ≡ b.main → a.flusher ≡ b.flusher → a.merger ≡ b.merger → a.reader ≡ b.reader → a ≡ b
same_counts a b main flusher merger reader = rw (main, flusher, merger, reader) refl

-- ---- the watches that a part gives back, of which each counted no fewer faults than in the part

module _ {S D F W S' D' F' : Type 0} (counts : W → Counts) (kit : Kit S' W D' F') (part : PartState S D F W) (failed : Type 0) (watched : IsWatchedIn counts failed part (record part { main = kit.main; flusher = Some kit.flusher; merger = Some kit.merger })) where
  pub closed_stays : Some kit.reader ≡ part.reader → NoneFell (faults_of_part counts part) (faults_in counts kit)
  closed_stays reader = record {
    main = watched.main;
    flusher = lent_stays counts part.flusher (Some kit.flusher) watched.flusher;
    merger = lent_stays counts part.merger (Some kit.merger) watched.merger;
    reader = subst (λ o. faults_lent counts o ≤ (counts kit.reader).faults) reader (omega arith);
  }

  -- and one of them more, where a call failed for a fault
  pub closed_rose : failed → OneRose (faults_of_part counts part) (faults_in counts kit)
  closed_rose has = elim (watched.cause has) [
    | inl main ↦ inl main
    | inr others ↦ elim others [ inl flusher ↦ inr (inl (lent_rose counts part.flusher (Some kit.flusher) flusher)) | inr merger ↦ inr (inr (inl (lent_rose counts part.merger (Some kit.merger) merger))) ]
  ]
