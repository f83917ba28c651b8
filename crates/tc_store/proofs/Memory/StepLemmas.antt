-- The steps of a store in memory, with the record of the change.
use Rattle.std.proofs.Common.{◌≡◌, ℕ, List, [], ◌∷◌, ◌++◌, reverse, true, ◌∙◌, sym, ap, refl}
use Rattle.std.specs.Prelude.{Option, Vec, option_map}
use Rattle.std.specs.declared.alloc.Global.{Global}
use Rattle.std.specs.declared.sync.Arc.{Arc}
use Rattle.tc_store.specs.declared.file_name.FileName.{FileName}
use Rattle.tc_store.specs.declared.mem.entry.Act.TheVariants.{Taken, Made, Returned, Removed}
use Rattle.tc_store.specs.declared.mem.entry.MemFile.{MemFile}
use Rattle.tc_store.specs.declared.mem.entry.Slot.{Slot}
use Rattle.tc_store.specs.declared.mem.entry.Change.{Change}
use Rattle.tc_store.specs.Disk.{Disk, Entry, none, home, still, out, put, taken, content_of, is_out, is_still}
use Rattle.tc_store.specs.DiskFile.{settled_file}
use Rattle.tc_store.specs.Memory.Disk.{disk_of, entry_before, disks_of, PutsEntry}
use Rattle.tc_store.specs.StoreCalls.{returns_as, removes}
use Rattle.tc_store.proofs.Memory.DiskLemmas.{disks_of-push}

is_out-is : (entry : Entry) → is_out entry ≡ true → out ≡ entry
is_out-is (none before) test = absurd (cc)
is_out-is (home f) test = absurd (cc)
is_out-is (still bytes) test = absurd (cc)
is_out-is out test = refl

still_before : (entry : Entry) → is_still entry ≡ true → entry_before Removed (none (content_of entry)) ≡ entry
still_before (none before) test = absurd (cc)
still_before (home f) test = absurd (cc)
still_before (still bytes) test = refl
still_before out test = absurd (cc)

-- a file that was out comes back
pub returned_step : (files : List MemFile) (slots new : List Slot) (past longer : List Change) (name : FileName) (entry : Entry)
    → PutsEntry name entry slots new → is_out (disk_of files slots name) ≡ true → longer ≡ past ++ (record { name = name; act = Returned }) ∷ []
    → disks_of (disk_of files new) (reverse longer) ≡ returns_as name entry (disks_of (disk_of files slots) (reverse past))
returned_step files slots new past longer name entry puts test pushed =
    let change : Change = record { name = name; act = Returned } in
    rw test (disks_of-push (disk_of files slots) (disk_of files new) past past longer change entry refl pushed (puts.puts files) (is_out-is (disk_of files slots name) test))

-- a still file is removed
pub removed_step : (files : List MemFile) (slots new : List Slot) (past longer : List Change) (name : FileName)
    → PutsEntry name (none (content_of (disk_of files slots name))) slots new → is_still (disk_of files slots name) ≡ true
    → longer ≡ past ++ (record { name = name; act = Removed }) ∷ []
    → disks_of (disk_of files new) (reverse longer) ≡ removes name (disks_of (disk_of files slots) (reverse past))
removed_step files slots new past longer name puts test pushed =
    let change : Change = record { name = name; act = Removed } in
    rw test (disks_of-push (disk_of files slots) (disk_of files new) past past longer change (none (content_of (disk_of files slots name))) refl pushed (puts.puts files) (still_before (disk_of files slots name) test))

-- room for changes leaves the disk alone
pub same_disk : (files files' : List MemFile) (slots slots' : List Slot) → files' ≡ files → slots' ≡ slots → disk_of files' slots' ≡ disk_of files slots
same_disk files files' slots slots' one other = ap (λ (f : List MemFile). disk_of f slots') one ∙ ap (disk_of files) other

-- a file at home is taken
pub taken_step : (disk roomy_disk new : Disk) (past roomy longer : List Change) (name : FileName) (bytes : List ℕ) → roomy_disk ≡ disk
    → new ≡ put name (still bytes) roomy_disk → roomy_disk name ≡ home (settled_file bytes) → roomy ≡ past → longer ≡ roomy ++ (record { name = name; act = Taken }) ∷ []
    → disks_of new (reverse longer) ≡ put name (taken (disk name)) disk ∷ disks_of disk (reverse past)
taken_step disk roomy_disk new past roomy longer name bytes same puts was kept pushed =
    let change : Change = record { name = name; act = Taken } in
    let settled : disk name ≡ home (settled_file bytes) = ap (λ (d : Disk). d name) (sym same) ∙ was in
    disks_of-push disk new past roomy longer change (still bytes) kept pushed (puts ∙ ap (put name (still bytes)) same) (sym settled)
    ∙ ap (λ (entry : Entry). put name entry disk ∷ disks_of disk (reverse past)) (sym (ap taken settled))

-- a file is made
pub made_step : (disk roomy_disk new : Disk) (past roomy longer : List Change) (name : FileName) (before : Option (Arc (Vec ℕ Global) Global)) → roomy_disk ≡ disk
    → new ≡ put name out roomy_disk → roomy_disk name ≡ none (option_map (λ bytes. bytes.value.items) before) → roomy ≡ past
    → longer ≡ roomy ++ (record { name = name; act = Made before }) ∷ []
    → disks_of new (reverse longer) ≡ put name out disk ∷ disks_of disk (reverse past)
made_step disk roomy_disk new past roomy longer name before same puts was kept pushed =
    let change : Change = record { name = name; act = Made before } in
    let absent : disk name ≡ none (option_map (λ bytes. bytes.value.items) before) = ap (λ (d : Disk). d name) (sym same) ∙ was in
    disks_of-push disk new past roomy longer change out kept pushed (puts ∙ ap (put name out) same) (sym absent)
