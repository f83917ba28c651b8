-- Files that no listed component has are removed from the store of a part, one after the other.
use Rattle.std.proofs.Common.{◌≡◌, ℕ, Bool, List, [], ◌∷◌, refl, sym, ap, ◌∙◌, subst, inl, inr, Option, Some, None, true, if◌then◌else◌}
use Rattle.std.specs.Prelude.{All, IfSome}
use Rattle.std.proofs.lemmas.Bool.{cases_Bool, false≢true}
use Rattle.std.proofs.lemmas.List.Elements.{All-head, All-tail}
use Rattle.tc_store.specs.declared.file_name.FileName.{FileName}
use Rattle.tc_store.specs.declared.file_name.FileName.TheVariants.{Component, Log}
use Rattle.tc_store.specs.Disk.{Disk, Entry, content_of, home, is_out, is_still, none, out, put, still}
use Rattle.tc_store.specs.DiskFile.{DiskFile}
use Rattle.tc_store.specs.Moments.{EachSince, IfTold}
use Rattle.tc_store.specs.StoreCalls.{removes, RemovesSome}
use Rattle.tc_store.proofs.MomentLemmas.{EachSince-none, EachSince-one, EachSince-trans, told_map}
use Rattle.tc_plain_model.specs.Writes.{Write}
use Rattle.tc_machine.specs.Events.{file_removed}
use Rattle.tc_machine.specs.Kept.{IsKept}
use Rattle.tc_machine.specs.State.{Flushing, Merging, flush_name}
use Rattle.tc_machine.specs.Components.{file_of}
use Rattle.tc_machine.proofs.Events.{event_keeps}
use Rattle.tc_machine.proofs.FilesLeft.{at_name}
use Rattle.tc_part_model.specs.Calls.{IsUnlisted}
use Rattle.tc_part_model.specs.PartFiles.{AreJobsOut, AreKeptAt, IfFiles, IsDevice, IsSealedFile, active_name, device_at, files_at, sealed_name, seen_entry}
use Rattle.tc_part_model.specs.PartView.{PartView, state_with}
use Rattle.tc_part_model.proofs.DeviceFiles.{put_seen}
use Rattle.tc_part_model.proofs.ToldFiles.{MomentsSince}

-- ---- one file of one disk

still_is : (e : Entry) → is_still e ≡ true → (bytes : List ℕ) × (e ≡ still bytes)
still_is (none before) is = absurd (false≢true is)
still_is (home f) is = absurd (false≢true is)
still_is (still bytes) is = (bytes, refl)
still_is out is = absurd (false≢true is)

-- a file that is out is not the one that is removed
stays_out : (name other : FileName) (e : Entry) (disk : Disk) → is_still (disk name) ≡ true → disk other ≡ out → put name e disk other ≡ out
stays_out name other e disk found held = at_name name other e disk (λ d. d ≡ out) (λ same. absurd (false≢true (sym (ap is_still (ap disk same ∙ held)) ∙ found))) (λ apart. held)

abbrev pub without : FileName → Disk → Disk
without name disk = put name (none (content_of (disk name))) disk

module _ (p : PartView) (failed : Bool) (frame : Option (List Write)) where
  unlisted_goes : (from to : ℕ) → IsUnlisted p.list (Component from to) → (disk : Disk) (f g : DiskFile) → is_still (disk (Component from to)) ≡ true → AreKeptAt p failed frame disk f g → AreKeptAt p failed frame (without (Component from to) disk) f g
  unlisted_goes from to unlisted disk f g found k = record {
    log_out = stays_out (Component from to) (active_name p) (none (content_of (disk (Component from to)))) disk found k.log_out;
    sealed_out = λ some. stays_out (Component from to) (sealed_name p) (none (content_of (disk (Component from to)))) disk found (k.sealed_out some);
    devices = λ name is. at_name (Component from to) name (none (content_of (disk (Component from to)))) disk (λ e. is_out e ≡ true → IsDevice p name) (λ same held. absurd (false≢true held)) (λ apart held. k.devices name held) is;
    kept = λ job leave.
        let bytes = still_is (disk (Component from to)) found in
        let files = files_at p disk f g job in
        let seen : files (Component from to) ≡ still bytes.0 = ap (seen_entry (device_at p f g job (Component from to))) bytes.1 in
        subst (λ fs. IsKept p.part (state_with p failed frame fs))
        (ap (λ e. put (Component from to) (none (content_of e)) files) (seen ∙ sym bytes.1) ∙ sym (put_seen p (Component from to) (none (content_of (disk (Component from to)))) disk f g job))
        (event_keeps p.part (state_with p failed frame files) (file_removed (Component from to)) (k.kept job leave) (record { bytes = bytes.0; still = seen; spare = unlisted }));
  }

  goes : (name : FileName) → IsUnlisted p.list name → (disk : Disk) (f g : DiskFile) → is_still (disk name) ≡ true → AreKeptAt p failed frame disk f g → AreKeptAt p failed frame (without name disk) f g
  goes (Component from to) unlisted = unlisted_goes from to unlisted
  goes (Log generation) unlisted = absurd unlisted

  -- ---- where it is told

  removed_files : (name : FileName) → IsUnlisted p.list name → (disks : List Disk) (log : List DiskFile) (sealed : Option (List DiskFile)) → IfFiles disks log sealed (AreKeptAt p failed frame) → IfFiles (removes name disks) log sealed (AreKeptAt p failed frame)
  removed_files name unlisted [] log sealed kept = tt
  removed_files name unlisted (disk ∷ past) log sealed kept = elim (cases_Bool (is_still (disk name))) [
    | inl found ↦ subst (λ b. IfFiles (if b then without name disk ∷ disk ∷ past else disk ∷ past) log sealed (AreKeptAt p failed frame)) (sym found) (at log kept found)
    | inr other ↦ subst (λ b. IfFiles (if b then without name disk ∷ disk ∷ past else disk ∷ past) log sealed (AreKeptAt p failed frame)) (sym other) kept
  ]
    where
      at : (log : List DiskFile) → IfFiles (disk ∷ past) log sealed (AreKeptAt p failed frame) → is_still (disk name) ≡ true → IfFiles (without name disk ∷ disk ∷ past) log sealed (AreKeptAt p failed frame)
      at [] kept found = tt
      at (f ∷ fs) kept found = λ g is. goes name unlisted disk f g found (kept g is)

  removed_moments : (L : Disk → DiskFile → DiskFile → Type 0) → ((disk : Disk) (f g : DiskFile) → AreKeptAt p failed frame disk f g → L disk f g)
      → (name : FileName) → IsUnlisted p.list name → (disks : List Disk) (f g : DiskFile) → IfTold disks (λ disk. AreKeptAt p failed frame disk f g) → EachSince (λ disk. L disk f g) disks (removes name disks)
  removed_moments L leaves name unlisted [] f g kept = EachSince-none (λ disk. L disk f g) [] [] refl
  removed_moments L leaves name unlisted (disk ∷ past) f g kept = elim (cases_Bool (is_still (disk name))) [
    | inl found ↦ subst (λ b. EachSince (λ disk. L disk f g) (disk ∷ past) (if b then without name disk ∷ disk ∷ past else disk ∷ past)) (sym found)
        (EachSince-one (λ disk. L disk f g) (without name) (disk ∷ past) (leaves (without name disk) f g (goes name unlisted disk f g found kept)))
    | inr other ↦ subst (λ b. EachSince (λ disk. L disk f g) (disk ∷ past) (if b then without name disk ∷ disk ∷ past else disk ∷ past)) (sym other)
        (EachSince-none (λ disk. L disk f g) (disk ∷ past) (disk ∷ past) refl)
  ]

  -- ---- files of several names

  pub some_removed : (names : List FileName) → All (IsUnlisted p.list) names → (disks new : List Disk) (log : List DiskFile) (sealed : Option (List DiskFile)) → RemovesSome names disks new
      → IfFiles disks log sealed (AreKeptAt p failed frame) → IfFiles new log sealed (AreKeptAt p failed frame)
  some_removed [] all disks new log sealed same kept = subst (λ ds. IfFiles ds log sealed (AreKeptAt p failed frame)) (sym same) kept
  some_removed (name ∷ names) all disks new log sealed (inl rest) kept = some_removed names (All-tail (IsUnlisted p.list) name names all) disks new log sealed rest kept
  some_removed (name ∷ names) all disks new log sealed (inr rest) kept =
      some_removed names (All-tail (IsUnlisted p.list) name names all) (removes name disks) new log sealed rest (removed_files name (All-head (IsUnlisted p.list) name names all) disks log sealed kept)

  one_file : (disks : List Disk) (log : List DiskFile) (sealed : Option (List DiskFile)) (f : DiskFile) (fs : List DiskFile) (g : DiskFile) → IsSealedFile sealed g → IfFiles disks (f ∷ fs) sealed (AreKeptAt p failed frame) → IfTold disks (λ disk. AreKeptAt p failed frame disk f g)
  one_file [] log sealed f fs g is kept = tt
  one_file (disk ∷ past) log sealed f fs g is kept = kept g is

  some_moments : (L : Disk → DiskFile → DiskFile → Type 0) → ((disk : Disk) (f g : DiskFile) → AreKeptAt p failed frame disk f g → L disk f g)
      → (names : List FileName) → All (IsUnlisted p.list) names → (disks new : List Disk) (f : DiskFile) (fs : List DiskFile) (sealed : Option (List DiskFile)) → RemovesSome names disks new → IfFiles disks (f ∷ fs) sealed (AreKeptAt p failed frame)
      → (g : DiskFile) → IsSealedFile sealed g → EachSince (λ disk. L disk f g) disks new
  some_moments L leaves [] all disks new f fs sealed same kept g is = EachSince-none (λ disk. L disk f g) disks new same
  some_moments L leaves (name ∷ names) all disks new f fs sealed (inl rest) kept g is = some_moments L leaves names (All-tail (IsUnlisted p.list) name names all) disks new f fs sealed rest kept g is
  some_moments L leaves (name ∷ names) all disks new f fs sealed (inr rest) kept g is =
      let unlisted = All-head (IsUnlisted p.list) name names all in
      EachSince-trans (λ disk. L disk f g) disks (removes name disks) new
      (removed_moments L leaves name unlisted disks f g (one_file disks (f ∷ fs) sealed f fs g is kept))
      (some_moments L leaves names (All-tail (IsUnlisted p.list) name names all) (removes name disks) new f fs sealed rest (removed_files name unlisted disks (f ∷ fs) sealed kept) g is)

  pub removal_moments : (L : Disk → DiskFile → DiskFile → Type 0) → ((disk : Disk) (f g : DiskFile) → AreKeptAt p failed frame disk f g → L disk f g)
      → (names : List FileName) → All (IsUnlisted p.list) names → (disks new : List Disk) (log : List DiskFile) (sealed : Option (List DiskFile)) → RemovesSome names disks new → IfFiles disks log sealed (AreKeptAt p failed frame)
      → MomentsSince L disks log sealed new
  removal_moments L leaves names all disks new [] sealed removed kept = tt
  removal_moments L leaves names all disks new (f ∷ fs) sealed removed kept = some_moments L leaves names all disks new f fs sealed removed kept

-- ---- the jobs stay out

out_told : (other : FileName) (name : FileName) (disks : List Disk) → IfTold disks (λ disk. disk other ≡ out) → IfTold (removes name disks) (λ disk. disk other ≡ out)
out_told other name [] held = tt
out_told other name (disk ∷ past) held = elim (cases_Bool (is_still (disk name))) [
  | inl found ↦ subst (λ b. IfTold (if b then without name disk ∷ disk ∷ past else disk ∷ past) (λ d. d other ≡ out)) (sym found) (stays_out name other (none (content_of (disk name))) disk found held)
  | inr apart ↦ subst (λ b. IfTold (if b then without name disk ∷ disk ∷ past else disk ∷ past) (λ d. d other ≡ out)) (sym apart) held
]

some_out : (other : FileName) (names : List FileName) (disks new : List Disk) → RemovesSome names disks new → IfTold disks (λ disk. disk other ≡ out) → IfTold new (λ disk. disk other ≡ out)
some_out other [] disks new same held = subst (λ ds. IfTold ds (λ disk. disk other ≡ out)) (sym same) held
some_out other (name ∷ names) disks new (inl rest) held = some_out other names disks new rest held
some_out other (name ∷ names) disks new (inr rest) held = some_out other names (removes name disks) new rest (out_told other name disks held)

pub removal_untold : (names : List FileName) (disks new : List Disk) → RemovesSome names disks new → disks ≡ [] → new ≡ []
removal_untold [] disks new same untold = same ∙ untold
removal_untold (name ∷ names) disks new (inl rest) untold = removal_untold names disks new rest untold
removal_untold (name ∷ names) disks new (inr rest) untold = removal_untold names (removes name disks) new rest (ap (removes name) untold)

if_told_both : (P Q R : Disk → Type 0) (disks : List Disk) → ((disk : Disk) → P disk → Q disk → R disk) → IfTold disks P → IfTold disks Q → IfTold disks R
if_told_both P Q R [] both a b = tt
if_told_both P Q R (disk ∷ past) both a b = both disk a b

pub jobs_stay_out : (flush : Option Flushing) (merge : Option Merging) (names : List FileName) (disks new : List Disk) → RemovesSome names disks new → IfTold disks (AreJobsOut flush merge) → IfTold new (AreJobsOut flush merge)
jobs_stay_out flush merge names disks new removed jobs =
    if_told_both (λ disk. IfSome flush (λ f. disk (flush_name f) ≡ out)) (λ disk. IfSome merge (λ m. disk (file_of m.target) ≡ out)) (AreJobsOut flush merge) new (λ disk a b. record { flush_out = a; merge_out = b })
    (flush_stays flush (told_map (AreJobsOut flush merge) (λ disk. IfSome flush (λ f. disk (flush_name f) ≡ out)) disks (λ disk j. j.flush_out) jobs))
    (merge_stays merge (told_map (AreJobsOut flush merge) (λ disk. IfSome merge (λ m. disk (file_of m.target) ≡ out)) disks (λ disk j. j.merge_out) jobs))
  where
    nothing_told : (ds : List Disk) → IfTold ds (λ disk. Unit {0})
    nothing_told [] = tt
    nothing_told (d ∷ ds) = tt

    flush_stays : (o : Option Flushing) → IfTold disks (λ disk. IfSome o (λ f. disk (flush_name f) ≡ out)) → IfTold new (λ disk. IfSome o (λ f. disk (flush_name f) ≡ out))
    flush_stays None held = nothing_told new
    flush_stays (Some f) held = some_out (flush_name f) names disks new removed held

    merge_stays : (o : Option Merging) → IfTold disks (λ disk. IfSome o (λ m. disk (file_of m.target) ≡ out)) → IfTold new (λ disk. IfSome o (λ m. disk (file_of m.target) ≡ out))
    merge_stays None held = nothing_told new
    merge_stays (Some m) held = some_out (file_of m.target) names disks new removed held
