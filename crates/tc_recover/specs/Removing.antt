-- Files that are removed, one after the other.
use Rattle.std.specs.Prelude.{◌≡◌, ℕ, Bool, true, false, if◌then◌else◌, List, [], ◌∷◌, ◌++◌, map, filter}
use Rattle.tc_store.specs.declared.file_name.FileName.{FileName}
use Rattle.tc_store.specs.Disk.{Disk}
use Rattle.tc_store.specs.StoreCalls.{removes}
use Rattle.tc_recover.specs.declared.taken.Taken.{Taken}
use Rattle.tc_recover.specs.Loads.{is_log}

-- the file is no open log above a generation
abbrev pub is_needless : {F W : Type 0} → ℕ → Taken F W → Bool
is_needless last t = if is_log last t then false else true

-- the names of such files, as the files themselves have them
abbrev pub needless_names : {F W : Type 0} → (F → FileName) → ℕ → List (Taken F W) → List FileName
needless_names name last ts = map (λ t. name t.file) (filter (is_needless last) ts)

-- the files of these names, removed one after the other
abbrev pub removes_all : List FileName → List Disk → List Disk
removes_all [] disks = disks
removes_all (name ∷ names) disks = removes_all names (removes name disks)

-- the first of these were removed, and no other file changed
abbrev pub RemovesFirst : List FileName → List Disk → List Disk → Type 0
RemovesFirst names old new = (first rest : List FileName) × (names ≡ first ++ rest) × (new ≡ removes_all first old)
