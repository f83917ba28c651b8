-- What counts over a run whose scan at its end was waited for.
use Rattle.std.proofs.Common.{◌≡◌, ◌⊎◌, ℕ, inl, inr}
use Rattle.std.specs.Prelude.{IfSome, None, Option, Some, Result, Ok, Err}
use Rattle.tc_store.specs.KitFaults.{KitFaults}
use Rattle.tc_store.specs.declared.damage.Damage.{Damage}
use Rattle.tc_keeper.specs.Faults.{fault_in, DiskFaults, HasDiskCause, HasRunCauses, HaveRisen, HaveStayed, IfDisk, IsOfJob}
use Rattle.tc_server.specs.Kits.{answer_behind}
use Rattle.tc_keeper.specs.declared.fault.RunFault.{RunFault}
use Rattle.tc_keeper.specs.declared.fault.RunFault.TheVariants.{Usage, Read, Write, Spent, Disk, Damaged, Memory, Layout}
use Rattle.tc_keeper.proofs.Causes.{both_stayed, if_disk_rose}
use Rattle.tc_keeper.proofs.KeeperCounts.{damaged_so}
use Rattle.tc_server.proofs.ClosingFaults.{job_of_run, never_read, never_write}
use Rattle.tc_server.proofs.OverEngines.{one_rose_then}

risen_then : (a b c : Option KitFaults) → HaveRisen a b → HaveStayed b c → HaveRisen a c
risen_then None b c rose stayed = absurd rose
risen_then (Some a) None c rose stayed = absurd rose
risen_then (Some a) (Some b) None rose stayed = absurd stayed
risen_then (Some a) (Some b) (Some c) rose stayed = one_rose_then a b c rose stayed

disk_then : (f : RunFault) (a b c : DiskFaults) → ((p : ℕ) → HaveStayed (b p) (c p)) → IfDisk f (λ p. HaveRisen (a p) (b p)) → IfDisk f (λ p. HaveRisen (a p) (c p))
disk_then Usage a b c stayed rose = tt
disk_then Read a b c stayed rose = tt
disk_then (Write n) a b c stayed rose = tt
disk_then Spent a b c stayed rose = tt
disk_then (Disk p) a b c stayed rose = risen_then (a p) (b p) (c p) rose (stayed p)
disk_then (Damaged p damage) a b c stayed rose = tt
disk_then Memory a b c stayed rose = tt
disk_then (Layout p found found_of asked_of) a b c stayed rose = tt

pub run_ended : (answer : Result (Unit {0}) RunFault) (ended : Option RunFault) (reads reads' before now : ℕ) (old mid new : DiskFaults) (first why : RunFault → Type 0)
    → ((p : ℕ) (damage : Damage) → first (Damaged p damage) → why (Damaged p damage)) → IfSome ended IsOfJob → HasRunCauses reads reads' before now old mid first (fault_in answer) → HasDiskCause mid new first ended
    → HasRunCauses reads reads' before now old new why (fault_in (answer_behind answer ended))
run_ended (Err fault) ended reads reads' before now old mid new first why so of one two = record {
  heard = one.heard;
  read = one.read;
  kept = one.kept;
  failed = one.failed;
  stayed = λ p. both_stayed (old p) (mid p) (new p) (one.stayed p) (two.stayed p);
  disk = disk_then fault old mid new two.stayed one.disk;
  damaged = damaged_so fault (λ p damage. first (Damaged p damage)) (λ p damage. why (Damaged p damage)) so one.damaged;
  kind = one.kind;
}
run_ended (Ok done) None reads reads' before now old mid new first why so of one two = record {
  heard = one.heard;
  read = tt;
  kept = one.kept;
  failed = tt;
  stayed = λ p. both_stayed (old p) (mid p) (new p) (one.stayed p) (two.stayed p);
  disk = tt;
  damaged = tt;
  kind = tt;
}
run_ended (Ok done) (Some fault) reads reads' before now old mid new first why so of one two = record {
  heard = one.heard;
  read = never_read fault of;
  kept = one.kept;
  failed = never_write fault of;
  stayed = λ p. both_stayed (old p) (mid p) (new p) (one.stayed p) (two.stayed p);
  disk = if_disk_rose (Some fault) old mid new one.stayed two.disk;
  damaged = damaged_so fault (λ p damage. first (Damaged p damage)) (λ p damage. why (Damaged p damage)) so two.damaged;
  kind = job_of_run fault of;
}

-- numbers that are spent
pub spent_with : {P Q Q' : Type 0} (answer : Result (Unit {0}) RunFault) (ended : Option RunFault) → IfSome ended IsOfJob → (Q → Q') → (fault_in answer ≡ Some Spent → P ⊎ Q) → fault_in (answer_behind answer ended) ≡ Some Spent → P ⊎ Q'
spent_with (Err fault) ended of so spent is = elim (spent is) [ inl p ↦ inl p | inr q ↦ inr (so q) ]
spent_with (Ok done) None of so spent is = absurd (cc)
spent_with (Ok done) (Some Usage) of so spent is = absurd of
spent_with (Ok done) (Some Read) of so spent is = absurd of
spent_with (Ok done) (Some (Write n)) of so spent is = absurd of
spent_with (Ok done) (Some Spent) of so spent is = absurd of
spent_with (Ok done) (Some (Disk p)) of so spent is = absurd (cc)
spent_with (Ok done) (Some (Damaged p damage)) of so spent is = absurd (cc)
spent_with (Ok done) (Some Memory) of so spent is = absurd (cc)
spent_with (Ok done) (Some (Layout p found found_of asked_of)) of so spent is = absurd of
