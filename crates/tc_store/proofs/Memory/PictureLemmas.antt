-- How the picture that a stop leaves of a store in memory grows, name by name.
use Rattle.std.proofs.Common.{◌≡◌, ◌<◌, ℕ, ◌+◌, zero, suc, List, [], ◌∷◌, ◌++◌, length, true, false, refl, ◌∙◌, ap, sym, subst, arith, inl, inr}
use Rattle.std.specs.Prelude.{◌⊎◌, ◌≢◌, Some, None, Contains, slice_index_or, if◌then◌else◌}
use Rattle.std.proofs.lemmas.Bool.{cases_Bool, cases_lt}
use Rattle.std.proofs.lemmas.List.{get_or_default}
use Rattle.std.proofs.lemmas.List.Elements.{Contains-push, Contains-push_cases, Contains-append_left}
use Rattle.std.proofs.lemmas.List.Quantifiers.{all_pairs_push}
use Rattle.tc_store.specs.declared.file_name.FileName.{FileName}
use Rattle.tc_store.specs.declared.mem.entry.Held.TheVariants.{Out}
use Rattle.tc_store.specs.declared.mem.entry.MemFile.{MemFile}
use Rattle.tc_store.specs.declared.mem.entry.Slot.{Slot}
use Rattle.tc_store.specs.Disk.{Disk, none, Picture, bytes_at, same_name, IsPictureOf, MayLeaveAt, IsSettledHome}
use Rattle.tc_store.specs.Memory.Disk.{file_entry, disk_of}
use Rattle.tc_store.specs.Memory.Remains.{IsAbsent, IsPictureSoFar, picture_of, left_disk}
use Rattle.tc_store.proofs.Memory.DiskLemmas.{other_than}
use Rattle.tc_store.proofs.NameLemmas.{same_name-is, same_name-refl}
use Rattle.tc_store.proofs.Memory.NamesLemmas.{slot_named, file_named}

-- a picture with one more file, of a name that it had not
bytes_at-push : (picture : Picture) (name : FileName) (bytes : List ℕ) (n : FileName) → bytes_at picture name ≡ None
    → bytes_at (picture ++ (name, bytes) ∷ []) n ≡ (if same_name name n then Some bytes else bytes_at picture n)
bytes_at-push [] name bytes n absent = refl
bytes_at-push (file ∷ files) name bytes n absent = elim (cases_Bool (same_name file.0 name)) [
  | inl this ↦ absurd (let clash = rw this at absent in cc)
  | inr apart ↦ elim (cases_Bool (same_name file.0 n)) [
    | inl same ↦ rw (same, other_than file.0 name n apart same)
    | inr off ↦ rw off (bytes_at-push files name bytes n (rw apart at absent))
  ]
]

-- the files of a picture have other names than one that it has not
others : (picture : Picture) (name : FileName) → bytes_at picture name ≡ None → (k : ℕ) (d : FileName × List ℕ) → k < length picture
    → (slice_index_or picture k d).0 ≡ name → ⊥
others [] name absent k d within is = omega (arith, within)
others (file ∷ files) name absent zero d within is =
    let there : same_name file.0 name ≡ true = ap (λ (n : FileName). same_name n name) is ∙ same_name-refl name in
    let clash = rw there at absent in cc
others (file ∷ files) name absent (suc k) d within is = elim (cases_Bool (same_name file.0 name)) [
  | inl this ↦ (let clash = rw this at absent in cc)
  | inr apart ↦ others files name (rw apart at absent) k d (omega (arith, within)) is
]

-- one more name is decided, whose file is left
pub picture_push : (decided : List FileName) (disk : Disk) (picture : Picture) (name : FileName) (bytes : List ℕ) → (Contains decided name → ⊥)
    → MayLeaveAt IsAbsent (disk name) (Some bytes) → IsPictureSoFar decided disk picture
    → IsPictureSoFar (decided ++ name ∷ []) disk (picture ++ (name, bytes) ∷ [])
picture_push decided disk picture name bytes fresh leaves was =
    let absent : bytes_at picture name ≡ None = elim (was.among name) [ inl nothing ↦ nothing | inr old ↦ absurd (fresh old) ] in
    let longer = picture ++ (name, bytes) ∷ [] in
    record {
      once = all_pairs_push (λ a b. a.0 ≢ b.0) picture (name, bytes) was.once (others picture name absent);
      among = λ n. elim (cases_Bool (same_name name n)) [
        | inl this ↦ inr (subst (Contains (decided ++ name ∷ [])) (same_name-is name n this) (Contains-push decided name))
        | inr apart ↦ elim (was.among n) [
          | inl nothing ↦ inl (let at = bytes_at-push picture name bytes n absent in rw (at, apart) nothing)
          | inr old ↦ inr (Contains-append_left decided (name ∷ []) n old)
        ]
      ];
      each = λ n has. elim (cases_Bool (same_name name n)) [
        | inl this ↦ (let at = bytes_at-push picture name bytes n absent in let is = same_name-is name n this in rw (at, this, ← is) leaves)
        | inr apart ↦ elim (Contains-push_cases decided name n has) [
          | inl old ↦ (let at = bytes_at-push picture name bytes n absent in rw (at, apart) (was.each n old))
          | inr is ↦ absurd (let same = rw (← is) at apart in let clash : true ≡ false = sym (same_name-refl name) ∙ same in cc)
        ]
      ];
    }

-- the names of the elements before an index and at it are decided
pub decided_more : {X : Type 0} (name_of : X → FileName) (decided : List FileName) (xs : List X) (i : ℕ) (x : X) → i < length xs → x ≡ slice_index_or xs i x
    → ((k : ℕ) (d : X) → k < i → Contains decided (name_of (slice_index_or xs k d))) → Contains decided (name_of x)
    → (k : ℕ) (d : X) → k < i + 1 → Contains decided (name_of (slice_index_or xs k d))
decided_more name_of decided xs i x within is earlier this k d before = elim (cases_lt k i) [
  | inl less ↦ earlier k d less
  | inr last ↦
      let here : i ≡ k = omega (arith, last, before) in
      let read : x ≡ slice_index_or xs k d = is ∙ get_or_default xs i x d within ∙ ap (λ (n : ℕ). slice_index_or xs n d) here in
      subst (λ (y : _). Contains decided (name_of y)) read this
]

-- all names with a slot or a file are decided, so the picture is whole
pub whole_picture : (decided : List FileName) (files : List MemFile) (slots : List Slot) (picture : Picture) → IsPictureSoFar decided (disk_of files slots) picture
    → ((k : ℕ) (d : Slot) → k < length slots → Contains decided (slice_index_or slots k d).name)
    → ((k : ℕ) (d : MemFile) → k < length files → Contains decided (slice_index_or files k d).name)
    → IsPictureOf (λ name. IsAbsent) (disk_of files slots) picture
whole_picture decided files slots picture so_far of_slots of_files = record {
  once = so_far.once;
  each = λ name. elim (so_far.among name) [
    | inl nothing ↦ elim (slot_named slots (file_entry files name) name) [
      | inl (k, within, named) ↦
          let d : Slot = record { name = name; held = Out } in
          so_far.each name (subst (Contains decided) (named d) (of_slots k d within))
      | inr no_slot ↦ elim (file_named files name) [
        | inl (k, within, named) ↦
            let d : MemFile = record { name = name; bytes = [] } in
            so_far.each name (subst (Contains decided) (named d) (of_files k d within))
        | inr no_file ↦ (let is : disk_of files slots name ≡ none None = no_slot ∙ no_file in rw (is, nothing) tt)
      ]
    ]
    | inr old ↦ so_far.each name old
  ];
}

-- the files of a store that was just made are at rest
pub files_at_rest : (files : List MemFile) (name : FileName) → (file_entry files name ≡ none None) ⊎ IsSettledHome (file_entry files name)
files_at_rest [] name = inl refl
files_at_rest (file ∷ files) name = elim (cases_Bool (same_name file.name name)) [
  | inl this ↦ inr (rw this refl)
  | inr off ↦ rw off (files_at_rest files name)
]

-- its disk is the one that the picture of its files leaves
pub files_left_disk : (files : List MemFile) (name : FileName) → file_entry files name ≡ left_disk (picture_of files) name
files_left_disk [] name = refl
files_left_disk (file ∷ files) name = elim (cases_Bool (same_name file.name name)) [
  | inl this ↦ rw this
  | inr off ↦ rw off (files_left_disk files name)
]
