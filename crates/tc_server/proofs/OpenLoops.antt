-- Partitions are opened one after the other, each behind those that were.
use Rattle.std.proofs.Common.{◌≡◌, ◌∙◌, ◌+◌, ℕ, List, [], ◌∷◌, ◌++◌, length, length-append, arith, ap, sym, subst}
use Rattle.tc_keeper.specs.Standing.{partition_at}
use Rattle.tc_keeper.specs.WithJobs.{WithJobs}
use Rattle.tc_store.specs.Disk.{Disk}
use Rattle.tc_store.specs.KitFaults.{KitFaults}
use Rattle.tc_work.specs.Moving.{Eyes}
use Rattle.tc_words.specs.declared.run.Options.{Options}
use Rattle.tc_server.specs.Kits.{AreOpened, IsNotGiven, IsOpened}
use Rattle.tc_keeper.specs.Places.{EachFrom}
use Rattle.tc_keeper.specs.declared.fault.RunFault.{RunFault}
use Rattle.tc_keeper.proofs.EachLaws.{each-append}

-- none was opened yet
pub opened_none : {S D F W : Type 0} (eyes : Eyes S D F W) (options : Options) (files : ℕ → List Disk) (came : ℕ → KitFaults) (es : List (WithJobs S D F W)) → es ≡ [] → AreOpened eyes options files came es
opened_none eyes options files came es none = subst (AreOpened eyes options files came) (sym none) tt

-- one more was opened, whose files and counts are those of before
pub opened_more : {S D F W : Type 0} (eyes : Eyes S D F W) (options : Options) (files now : ℕ → List Disk) (came came' : ℕ → KitFaults) (es es' : List (WithJobs S D F W)) (p : ℕ) (e : WithJobs S D F W)
    → length es ≡ p → es' ≡ es ++ e ∷ [] → (now p ≡ files p) × (came' p ≡ came p) → AreOpened eyes options files came es → IsOpened eyes options (partition_at p options.partitions) (now p) (came' p) e
    → AreOpened eyes options files came es'
opened_more eyes options files now came came' es es' p e many same stays opened is =
    subst (λ xs. EachFrom (λ q x. IsOpened eyes options (partition_at q options.partitions) (files q) (came q) x) 0 xs) (sym same)
    (each-append (λ q x. IsOpened eyes options (partition_at q options.partitions) (files q) (came q) x) 0 es (e ∷ []) opened
    (subst (λ n. EachFrom (λ q x. IsOpened eyes options (partition_at q options.partitions) (files q) (came q) x) n (e ∷ [])) place (here, tt)))
  where
    place : p ≡ 0 + length es
    place = omega (arith, many)

    here : IsOpened eyes options (partition_at p options.partitions) (files p) (came p) e
    here = subst (λ counted. IsOpened eyes options (partition_at p options.partitions) (files p) counted e) stays.1 (subst (λ disks. IsOpened eyes options (partition_at p options.partitions) disks (came' p) e) stays.0 is)

pub one_more : {E : Type 0} (es es' : List E) (e : E) (p : ℕ) → length es ≡ p → es' ≡ es ++ e ∷ [] → length es' ≡ p + 1
one_more es es' e p many same = ap length same ∙ omega (arith, length-append es (e ∷ []), many)

pub not_given_since : (rose rose' : Type 0) (p : ℕ) (fault : RunFault) → (rose → rose') → IsNotGiven rose p fault → IsNotGiven rose' p fault
not_given_since rose rose' p fault since n = record { is = n.is; cause = λ disk. since (n.cause disk) }
