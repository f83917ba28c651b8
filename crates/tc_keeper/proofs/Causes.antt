-- The causes of calls, one after the other, are those of all together.
use Rattle.std.proofs.Common.{◌≡◌, ◌≤◌, ℕ, subst, inl, inr, arith}
use Rattle.std.specs.Prelude.{Option, Some, None, IfSome}
use Rattle.tc_bytes.specs.Counts.{Rose}
use Rattle.tc_store.specs.KitFaults.{KitFaults}
use Rattle.tc_keeper.specs.Faults.{IfDisk, IfDamaged, IsOfStore, IsOfWindow, IsOfRun, IsWrite, NoneFell, HaveStayed, OneRose, HaveRisen, DiskFaults, HasDiskCause, HasCauses, HasRunCauses}
use Rattle.tc_keeper.specs.declared.fault.RunFault.{RunFault}
use Rattle.tc_keeper.specs.declared.fault.RunFault.TheVariants.{Usage, Read, Write, Spent, Disk, Damaged, Memory, Layout}

-- ---- counts

none_fell : (k : KitFaults) → NoneFell k k
none_fell k = record { main = omega arith; flusher = omega arith; merger = omega arith; reader = omega arith }

pub none_fell_twice : (a b c : KitFaults) → NoneFell a b → NoneFell b c → NoneFell a c
none_fell_twice a b c one two = record {
  main = omega (arith, one.main, two.main);
  flusher = omega (arith, one.flusher, two.flusher);
  merger = omega (arith, one.merger, two.merger);
  reader = omega (arith, one.reader, two.reader);
}

have_stayed : (k : Option KitFaults) → HaveStayed k k
have_stayed None = tt
have_stayed (Some k) = none_fell k

pub both_stayed : (a b c : Option KitFaults) → HaveStayed a b → HaveStayed b c → HaveStayed a c
both_stayed None None c one two = two
both_stayed None (Some b) c one two = absurd one
both_stayed (Some a) None c one two = absurd one
both_stayed (Some a) (Some b) None one two = absurd two
both_stayed (Some a) (Some b) (Some c) one two = none_fell_twice a b c one two

pub one_rose : (a b c : KitFaults) → NoneFell a b → OneRose b c → OneRose a c
one_rose a b c stayed (inl rose) = inl (omega (arith, stayed.main, rose))
one_rose a b c stayed (inr (inl rose)) = inr (inl (omega (arith, stayed.flusher, rose)))
one_rose a b c stayed (inr (inr (inl rose))) = inr (inr (inl (omega (arith, stayed.merger, rose))))
one_rose a b c stayed (inr (inr (inr rose))) = inr (inr (inr (omega (arith, stayed.reader, rose))))

have_risen : (a b c : Option KitFaults) → HaveStayed a b → HaveRisen b c → HaveRisen a c
have_risen None None None stayed risen = absurd risen
have_risen None None (Some c) stayed risen = absurd risen
have_risen None (Some b) c stayed risen = absurd stayed
have_risen (Some a) None c stayed risen = absurd stayed
have_risen (Some a) (Some b) None stayed risen = absurd risen
have_risen (Some a) (Some b) (Some c) stayed risen = one_rose a b c stayed risen

-- ---- a fault of the disk

disk_rose : (f : RunFault) (a b c : DiskFaults) → ((p : ℕ) → HaveStayed (a p) (b p)) → IfDisk f (λ p. HaveRisen (b p) (c p)) → IfDisk f (λ p. HaveRisen (a p) (c p))
disk_rose Usage a b c stayed rose = tt
disk_rose Read a b c stayed rose = tt
disk_rose (Write n) a b c stayed rose = tt
disk_rose Spent a b c stayed rose = tt
disk_rose (Disk p) a b c stayed rose = have_risen (a p) (b p) (c p) (stayed p) rose
disk_rose (Damaged p damage) a b c stayed rose = tt
disk_rose Memory a b c stayed rose = tt
disk_rose (Layout p found found_of asked_of) a b c stayed rose = tt

pub if_disk_rose : (fault : Option RunFault) (a b c : DiskFaults) → ((p : ℕ) → HaveStayed (a p) (b p)) → IfSome fault (λ f. IfDisk f (λ p. HaveRisen (b p) (c p))) → IfSome fault (λ f. IfDisk f (λ p. HaveRisen (a p) (c p)))
if_disk_rose None a b c stayed rose = tt
if_disk_rose (Some f) a b c stayed rose = disk_rose f a b c stayed rose

-- ---- calls of the store

-- a call that counts nothing
pub nothing_counted : (faults : DiskFaults) (why : RunFault → Type 0) → HasDiskCause faults faults why None
nothing_counted faults why = record { stayed = λ p. have_stayed (faults p); disk = tt; damaged = tt; spent = tt }

-- want of memory is no fault that is counted
pub no_memory_counted : (faults : DiskFaults) (why : RunFault → Type 0) → HasDiskCause faults faults why (Some Memory)
no_memory_counted faults why = record { stayed = λ p. have_stayed (faults p); disk = tt; damaged = tt; spent = λ same. cc }

-- two calls, of which the first did not fail
pub calls_follow : (fault : Option RunFault) (a b c : DiskFaults) (first why : RunFault → Type 0) → HasDiskCause a b first None → HasDiskCause b c why fault → HasDiskCause a c why fault
calls_follow fault a b c first why one two = record {
  stayed = λ p. both_stayed (a p) (b p) (c p) (one.stayed p) (two.stayed p);
  disk = if_disk_rose fault a b c one.stayed two.disk;
  damaged = two.damaged;
  spent = two.spent;
}

-- a call, and then want of memory
pub call_without_memory : (a b : DiskFaults) (first why : RunFault → Type 0) → HasDiskCause a b first None → HasDiskCause a b why (Some Memory)
call_without_memory a b first why one = record { stayed = one.stayed; disk = tt; damaged = tt; spent = λ same. cc }

-- ---- windows

window_kind : (f : RunFault) → IsOfStore f → IsOfWindow f
window_kind Usage kind = absurd kind
window_kind Read kind = absurd kind
window_kind (Write n) kind = absurd kind
window_kind Spent kind = tt
window_kind (Disk p) kind = tt
window_kind (Damaged p damage) kind = tt
window_kind Memory kind = tt
window_kind (Layout p found found_of asked_of) kind = absurd kind

no_write : (f : RunFault) (P : Type 0) → IsOfStore f → IsWrite f → P
no_write Usage P kind write = absurd write
no_write Read P kind write = absurd write
no_write (Write n) P kind write = absurd kind
no_write Spent P kind write = absurd write
no_write (Disk p) P kind write = absurd write
no_write (Damaged p damage) P kind write = absurd write
no_write Memory P kind write = absurd write
no_write (Layout p found found_of asked_of) P kind write = absurd write

-- a call of the store failed, and the sink was not asked
pub store_failed : (f : RunFault) (sink : ℕ) (a b : DiskFaults) (why : RunFault → Type 0) → IsOfStore f → HasDiskCause a b why (Some f) → HasCauses sink sink a b why (Some f)
store_failed f sink a b why kind cause = record { kept = omega arith; failed = no_write f (Rose sink sink) kind; kind = window_kind f kind; disks = cause }

-- memory was wanting where nothing was asked
pub memory_wanting : (sink : ℕ) (faults : DiskFaults) (why : RunFault → Type 0) → HasCauses sink sink faults faults why (Some Memory)
memory_wanting sink faults why = record { kept = omega arith; failed = λ write. absurd write; kind = tt; disks = no_memory_counted faults why }

-- nothing failed
pub nothing_failed : (sink : ℕ) (faults : DiskFaults) (why : RunFault → Type 0) → HasCauses sink sink faults faults why None
nothing_failed sink faults why = record { kept = omega arith; failed = tt; kind = tt; disks = nothing_counted faults why }

-- a write behind a call of the store
pub write_failed : (n before now : ℕ) (a b : DiskFaults) (first why : RunFault → Type 0) → HasDiskCause a b first None → before ≤ now → Rose before now → HasCauses before now a b why (Some (Write n))
write_failed n before now a b first why one up rose = record {
  kept = up;
  failed = λ write. rose;
  kind = tt;
  disks = record { stayed = one.stayed; disk = tt; damaged = tt; spent = λ same. cc };
}

pub all_done : (before now : ℕ) (a b : DiskFaults) (first why : RunFault → Type 0) → HasDiskCause a b first None → before ≤ now → HasCauses before now a b why None
all_done before now a b first why one up = record { kept = up; failed = tt; kind = tt; disks = record { stayed = one.stayed; disk = tt; damaged = tt; spent = tt } }

if_write_rose : (fault : Option RunFault) (a b c : ℕ) → a ≤ b → IfSome fault (λ f. IsWrite f → Rose b c) → IfSome fault (λ f. IsWrite f → Rose a c)
if_write_rose None a b c up rose = tt
if_write_rose (Some f) a b c up rose = λ write. omega (arith, up, rose write)

-- two windows, or parts of one, of which the first did not fail
pub windows_follow : (fault : Option RunFault) (x y z : ℕ) (a b c : DiskFaults) (first why : RunFault → Type 0) → HasCauses x y a b first None → HasCauses y z b c why fault → HasCauses x z a c why fault
windows_follow fault x y z a b c first why one two = record {
  kept = omega (arith, one.kept, two.kept);
  failed = if_write_rose fault x y z one.kept two.failed;
  kind = two.kind;
  disks = calls_follow fault a b c first why one.disks two.disks;
}

-- the same, where the first is a call of the store
pub window_behind_call : (fault : Option RunFault) (y z : ℕ) (a b c : DiskFaults) (first why : RunFault → Type 0) → HasDiskCause a b first None → HasCauses y z b c why fault → HasCauses y z a c why fault
window_behind_call fault y z a b c first why one two = record {
  kept = two.kept;
  failed = two.failed;
  kind = two.kind;
  disks = calls_follow fault a b c first why one two.disks;
}

if_spent : (fault : Option RunFault) (spent : Type 0) → IfSome fault (λ f. f ≡ Spent → spent) → fault ≡ Some Spent → spent
if_spent None spent cause same = absurd (cc)
if_spent (Some f) spent cause same = cause (cc)

-- why no generation was left
pub window_spent : (fault : Option RunFault) (before now : ℕ) (a b : DiskFaults) (why : RunFault → Type 0) → HasCauses before now a b why fault → fault ≡ Some Spent → why Spent
window_spent fault before now a b why cause same = if_spent fault (why Spent) cause.disks.spent same

-- ---- runs

run_kind : (f : RunFault) → IsOfWindow f → IsOfRun f
run_kind Usage kind = absurd kind
run_kind Read kind = absurd kind
run_kind (Write n) kind = tt
run_kind Spent kind = tt
run_kind (Disk p) kind = tt
run_kind (Damaged p damage) kind = tt
run_kind Memory kind = tt
run_kind (Layout p found found_of asked_of) kind = absurd kind

if_run_kind : (fault : Option RunFault) → IfSome fault IsOfWindow → IfSome fault IsOfRun
if_run_kind None kind = tt
if_run_kind (Some f) kind = run_kind f kind

not_read : (f : RunFault) (P : Type 0) → IsOfWindow f → f ≡ Read → P
not_read f P kind same = absurd (subst IsOfWindow same kind)

if_not_read : (fault : Option RunFault) (P : Type 0) → IfSome fault IsOfWindow → IfSome fault (λ f. f ≡ Read → P)
if_not_read None P kind = tt
if_not_read (Some f) P kind = not_read f P kind

-- a window, behind reads that did not fail
pub run_by_window : (fault : Option RunFault) (x y before now : ℕ) (a b : DiskFaults) (why : RunFault → Type 0) → x ≤ y → HasCauses before now a b why fault → HasRunCauses x y before now a b why fault
run_by_window fault x y before now a b why up cause = record {
  heard = up;
  read = if_not_read fault (Rose x y) cause.kind;
  kept = cause.kept;
  failed = cause.failed;
  stayed = cause.disks.stayed;
  disk = cause.disks.disk;
  damaged = cause.disks.damaged;
  kind = if_run_kind fault cause.kind;
}

-- reads alone, of which none failed, or the last one
pub run_by_reads : (fault : Option RunFault) (x y sink : ℕ) (faults : DiskFaults) (why : RunFault → Type 0) → x ≤ y → IfSome fault (λ f. f ≡ Read → Rose x y)
    → IfSome fault IsOfRun → IfSome fault (λ f. IsWrite f → Rose sink sink) → IfSome fault (λ f. IfDisk f (λ p. HaveRisen (faults p) (faults p)))
    → IfSome fault (λ f. IfDamaged f (λ p damage. why (Damaged p damage)))
    → HasRunCauses x y sink sink faults faults why fault
run_by_reads fault x y sink faults why up read kind write disk damaged = record {
  heard = up;
  read = read;
  kept = omega arith;
  failed = write;
  stayed = λ p. have_stayed (faults p);
  disk = disk;
  damaged = damaged;
  kind = kind;
}

if_read_rose : (fault : Option RunFault) (x y z : ℕ) → x ≤ y → IfSome fault (λ f. f ≡ Read → Rose y z) → IfSome fault (λ f. f ≡ Read → Rose x z)
if_read_rose None x y z up rose = tt
if_read_rose (Some f) x y z up rose = λ same. omega (arith, up, rose same)

-- lines that follow each other, of which the first did not fail
pub runs_follow : (fault : Option RunFault) (x y z u v w : ℕ) (a b c : DiskFaults) (first why : RunFault → Type 0) → HasRunCauses x y u v a b first None → HasRunCauses y z v w b c why fault → HasRunCauses x z u w a c why fault
runs_follow fault x y z u v w a b c first why one two = record {
  heard = omega (arith, one.heard, two.heard);
  read = if_read_rose fault x y z one.heard two.read;
  kept = omega (arith, one.kept, two.kept);
  failed = if_write_rose fault u v w one.kept two.failed;
  stayed = λ p. both_stayed (a p) (b p) (c p) (one.stayed p) (two.stayed p);
  disk = if_disk_rose fault a b c one.stayed two.disk;
  damaged = two.damaged;
  kind = two.kind;
}

store_run_kind : (f : RunFault) → IsOfStore f → IsOfRun f
store_run_kind f kind = run_kind f (window_kind f kind)

no_read : (f : RunFault) (P : Type 0) → IsOfStore f → f ≡ Read → P
no_read f P kind same = not_read f P (window_kind f kind) same

-- a call of the store, and nothing else
pub run_by_call : (fault : Option RunFault) (reads sink : ℕ) (a b : DiskFaults) (why : RunFault → Type 0) → IfSome fault IsOfStore → HasDiskCause a b why fault → HasRunCauses reads reads sink sink a b why fault
run_by_call None reads sink a b why kind cause = record { heard = omega arith; read = tt; kept = omega arith; failed = tt; stayed = cause.stayed; disk = tt; damaged = tt; kind = tt }
run_by_call (Some f) reads sink a b why kind cause = record {
  heard = omega arith;
  read = no_read f (Rose reads reads) kind;
  kept = omega arith;
  failed = no_write f (Rose sink sink) kind;
  stayed = cause.stayed;
  disk = cause.disk;
  damaged = cause.damaged;
  kind = store_run_kind f kind;
}

-- a run that gives up behind lines of which none failed
pub run_without_memory : (x y u v : ℕ) (a b : DiskFaults) (first why : RunFault → Type 0) → HasRunCauses x y u v a b first None → HasRunCauses x y u v a b why (Some Memory)
run_without_memory x y u v a b first why done = record {
  heard = done.heard;
  read = λ same. cc;
  kept = done.kept;
  failed = λ write. absurd write;
  stayed = done.stayed;
  disk = tt;
  damaged = tt;
  kind = tt;
}
