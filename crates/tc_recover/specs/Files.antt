-- Files that were taken: what they tell, and what taking them does to a store.
use Rattle.std.specs.Prelude.{◌≡◌, ◌<◌, ◌≤◌, ◌^◌, ℕ, nat_lt, Bool, true, List, [], ◌∷◌, ◌++◌, map, length, Option, unwrap_or, All, IfSome, IsSome}
use Rattle.tc_bytes.specs.Codec.{IsBytes}
use Rattle.tc_store.specs.declared.file_name.FileName.{FileName}
use Rattle.tc_store.specs.declared.file_name.FileName.TheVariants.{Component, Log}
use Rattle.tc_store.specs.Disk.{Disk, Picture, content_of}
use Rattle.tc_store.specs.Gate.{is_open_file}
use Rattle.tc_store.specs.StoreCalls.{takes}
use Rattle.tc_recover.specs.declared.taken.Taken.{Taken}

-- the name of a file, and its bytes where it tells them
abbrev pub entry_in : {F W : Type 0} → (F → Option (List ℕ)) → Taken F W → FileName × List ℕ
entry_in told t = (t.name, unwrap_or (told t.file) [])

-- what the files tell, as a picture
abbrev pub picture_in : {F W : Type 0} → (F → Option (List ℕ)) → List (Taken F W) → Picture
picture_in told ts = map (entry_in told) ts

-- each of them tells its bytes
abbrev pub AreTold : {F W : Type 0} → (F → Option (List ℕ)) → List (Taken F W) → Type 0
AreTold told ts = All (λ t. IsSome (told t.file)) ts

-- what they tell is bytes, no more than a file can have
abbrev pub AreBytes : {F W : Type 0} → (F → Option (List ℕ)) → List (Taken F W) → Type 0
AreBytes told ts = All (λ t. IfSome (told t.file) (λ bytes. IsBytes bytes × (length bytes < 2 ^ 63))) ts

-- whether a gate is open is what the bytes say, where they are told
abbrev pub AreGates : {F W : Type 0} → (F → Option (List ℕ)) → List (Taken F W) → Type 0
AreGates told ts = All (λ t. IfSome (told t.file) (λ bytes. t.open ≡ is_open_file bytes)) ts

-- the name of each is that of its file
abbrev pub AreNamed : {F W : Type 0} → (F → FileName) → List (Taken F W) → Type 0
AreNamed name ts = All (λ t. name t.file ≡ t.name) ts

abbrev pub names_in : {F W : Type 0} → List (Taken F W) → List FileName
names_in ts = map (λ t. t.name) ts

-- the files of these names, with what they hold
abbrev pub picture_at : Disk → List FileName → Picture
picture_at disk names = map (λ name. (name, unwrap_or (content_of (disk name)) [])) names

-- the files of these names, taken one after the other
abbrev pub takes_all : List FileName → List Disk → List Disk
takes_all [] disks = disks
takes_all (name ∷ names) disks = takes_all names (takes name disks)

-- the first of these files were taken, and no other file changed
abbrev pub TakesFirst : List FileName → List Disk → List Disk → Type 0
TakesFirst names old new = (first rest : List FileName) × (names ≡ first ++ rest) × (new ≡ takes_all first old)

-- some files were taken, and nothing else changed
abbrev pub TakesSome : List Disk → List Disk → Type 0
TakesSome old new = (names : List FileName) × (new ≡ takes_all names old)

-- the file has more than one byte
abbrev pub is_long : {F W : Type 0} → (F → ℕ) → Taken F W → Bool
is_long size t = nat_lt 1 (size t.file)

-- generations that a name may have: from 1 to 2^63 - 1, and the first no later than the last
abbrev pub IsLawfulName : FileName → Type 0
IsLawfulName (Component from to) = (0 < from) × (from ≤ to) × (to < 2 ^ 63)
IsLawfulName (Log generation) = (0 < generation) × (generation < 2 ^ 63)

-- the names of the open files are such
abbrev pub AreLawful : {F W : Type 0} → List (Taken F W) → Type 0
AreLawful ts = All (λ t. t.open ≡ true → IsLawfulName t.name) ts
