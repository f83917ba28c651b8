-- A device is made while a partition is being opened, written, and comes home: what a stop leaves at each moment.
use Rattle.std.proofs.Common.{◌≡◌, ◌∙◌, ◌<◌, ◌^◌, ◌++◌, ℕ, List, [], ◌∷◌, length, refl, sym, ap, subst, arith, inl, inr, false, if◌then◌else◌, None}
use Rattle.std.specs.Prelude.{All}
use Rattle.std.proofs.Math.Path.{fun_ext}
use Rattle.std.proofs.lemmas.Bool.{cases_Bool}
use Rattle.std.proofs.lemmas.List.Elements.{All-head}
use Rattle.tc_store.specs.declared.file_name.FileName.{FileName}
use Rattle.tc_store.specs.Disk.{Disk, Entry, home, is_out, out, put, removed_of, same_name, still}
use Rattle.tc_store.specs.DiskFile.{DiskFile, IsSettled, empty_file, settled_file}
use Rattle.tc_store.specs.Moments.{EachSince, IfTold, LeavesAt}
use Rattle.tc_store.specs.StoreCalls.{FailsMaking, comes_home, frozen_entry, makes}
use Rattle.tc_store.proofs.MomentLemmas.{EachSince-none, EachSince-one, EachSince-trans}
use Rattle.tc_store.proofs.NameLemmas.{put_there}
use Rattle.tc_plain_model.specs.Writes.{Pairs}
use Rattle.tc_component.specs.Rows.{IsComponent, IsShortWrite, component_bytes}
use Rattle.tc_component.proofs.Versions.{written_component}
use Rattle.tc_lsm_model.specs.Contents.{Content, IsContent, Partition}
use Rattle.tc_machine.specs.Kept.{IsKept, IsMemoryKept}
use Rattle.tc_machine.specs.Steps.{IsShutOrHas}
use Rattle.tc_machine.proofs.Moments.{put_twice}
use Rattle.tc_part_model.specs.Leaving.{KeepsStore}
use Rattle.tc_part_model.specs.PartFiles.{seen_entry}
use Rattle.tc_part_model.specs.PartView.{no_files}
use Rattle.tc_part_model.proofs.DeviceFiles.{comes_untold}
use Rattle.tc_open.specs.BeingOpened.{AreIn, IsKeptWriting, IsOpening, IsWritingNow, LeavesWriting, opening_at}
use Rattle.tc_open.proofs.OpeningPictures.{leaves_in, put_in_place, seen_at}

-- a device is seen in its place
seen_out : (x : DiskFile) (name : FileName) (disk : Disk) → AreIn disk → (λ n. seen_entry x (put name out disk n)) ≡ put name (home x) disk
seen_out x name disk is_in = fun_ext λ n. elim (cases_Bool (same_name name n)) [
  | inl same ↦ rw same refl
  | inr apart ↦ rw apart (seen_at x disk n (disk n) is_in refl)
]

-- ---- the device, once it was written

pub writing_now : (Whole : List ℕ → Type 0) (P : DiskFile → Type 0) (first : DiskFile) (device : List DiskFile) → LeavesAt (IsShutOrHas Whole) first → ((x : DiskFile) → P x → LeavesAt (IsShutOrHas Whole) x) → EachSince P (first ∷ []) device → IsWritingNow Whole device
writing_now Whole P first device leaves more since = at since.added since.goes_on since.each
  where
    at : (added : List DiskFile) → device ≡ added ++ first ∷ [] → All P added → IsWritingNow Whole device
    at [] is each = record { now = first; past = []; is = is; leaves = leaves }
    at (x ∷ added) is each = record { now = x; past = added ++ first ∷ []; is = is; leaves = more x (All-head P x added each) }

-- the whole component
pub whole_file : (c : Content) → IsContent c → All IsShortWrite c.entries → (device : List DiskFile) (size : ℕ) → size < 2 ^ 63 → IfTold device (λ f. size ≡ length f.content) → IfTold device (λ f. f ≡ settled_file (component_bytes c)) → IfTold device (λ f. IsComponent c f.content)
whole_file c content short [] size fits told is = tt
whole_file c content short (f ∷ fs) size fits told is = written_component c f.content content short (ap (λ (x : DiskFile). x.content) is) (omega (arith, fits, told))

module _ (part : Partition) (pairs : Pairs) (Whole : List ℕ → Type 0) (name : FileName) where
  abbrev L : Disk → Type 0
  L = LeavesWriting part pairs Whole

  abbrev Keeps : Disk → Type 0
  Keeps disk = KeepsStore part pairs None disk

  abbrev AtEnd : List Disk → List Disk → Type 0
  AtEnd = IsKeptWriting part pairs Whole

  -- what is stored stays where a file of this name is made, written, and never changes any more
  pub record MayWrite (disk : Disk) : Type 0 where
    pub is_in : AreIn disk
    pub kept : KeepsStore part pairs None disk
    pub fresh : LeavesAt (IsShutOrHas Whole) (empty_file (removed_of (disk name)))
    pub called : (x : DiskFile) → LeavesAt (IsShutOrHas Whole) x → KeepsStore part pairs None (put name (home x) disk)
    pub frozen : (x : DiskFile) → LeavesAt (IsShutOrHas Whole) x → IsSettled x → KeepsStore part pairs None (put name (still x.content) disk)

  -- ---- one disk

  module _ (disk : Disk) (may : MayWrite disk) where
    out_leaves : L (put name out disk)
    out_leaves x leaves = subst (λ d. Keeps d) (sym (seen_out x name disk may.is_in)) (may.called x leaves)

    -- the device comes home, as this entry of its file
    came_home : (e : Entry) (past later : List Disk) → later ≡ (if is_out (put name out disk name) then put name e (put name out disk) ∷ put name out disk ∷ disk ∷ past else put name out disk ∷ disk ∷ past)
        → later ≡ put name e disk ∷ put name out disk ∷ disk ∷ past
    came_home e past later is =
        is ∙ ap (λ o. if is_out o then put name e (put name out disk) ∷ put name out disk ∷ disk ∷ past else put name out disk ∷ disk ∷ past) (put_there name out disk)
        ∙ ap (λ d. d ∷ put name out disk ∷ disk ∷ past) (put_twice name out e disk)

    both : (e : Entry) (past later : List Disk) → later ≡ put name e disk ∷ put name out disk ∷ disk ∷ past → is_out e ≡ false → Keeps (put name e disk) → AtEnd (disk ∷ past) later
    both e past later is no_out keeps =
        let in_place = put_in_place name e disk no_out may.is_in in
        subst (λ ds. AtEnd (disk ∷ past) ds) (sym is) (record {
          moments = EachSince-trans L (disk ∷ past) (put name out disk ∷ disk ∷ past) (put name e disk ∷ put name out disk ∷ disk ∷ past)
              (EachSince-one L (put name out) (disk ∷ past) out_leaves)
              (EachSince-one L (λ d. put name e disk) (put name out disk ∷ disk ∷ past) (leaves_in part pairs Whole (put name e disk) in_place keeps));
          kept = (in_place, keeps);
        })

    same_keeps : (past : List Disk) → AtEnd (disk ∷ past) (disk ∷ past)
    same_keeps past = record { moments = EachSince-none L (disk ∷ past) (disk ∷ past) refl; kept = (may.is_in, may.kept) }

    made_in_vain : (past : List Disk) → AtEnd (disk ∷ past) (put name (home (empty_file (removed_of (disk name)))) disk ∷ disk ∷ past)
    made_in_vain past =
        let e = home (empty_file (removed_of (disk name))) in
        let keeps = may.called (empty_file (removed_of (disk name))) may.fresh in
        let in_place = put_in_place name e disk refl may.is_in in
        record {
          moments = EachSince-one L (λ d. put name (home (empty_file (removed_of (d name)))) d) (disk ∷ past) (leaves_in part pairs Whole (put name e disk) in_place keeps);
          kept = (in_place, keeps);
        }

  -- ---- where the store tells

  untold_keeps : (later : List Disk) → later ≡ [] → AtEnd [] later
  untold_keeps later none = subst (λ ds. AtEnd [] ds) (sym none) (record { moments = EachSince-none L [] [] refl; kept = tt })

  -- no device was made
  pub never_made : (disks later : List Disk) → IfTold disks MayWrite → FailsMaking name disks later → AtEnd disks later
  never_made [] later may (inl same) = untold_keeps later same
  never_made [] later may (inr made) = untold_keeps later made
  never_made (disk ∷ past) later may (inl same) = subst (λ ds. AtEnd (disk ∷ past) ds) (sym same) (same_keeps disk may past)
  never_made (disk ∷ past) later may (inr made) = subst (λ ds. AtEnd (disk ∷ past) ds) (sym made) (made_in_vain disk may past)

  -- it comes home as it is
  pub came_again : (disks later : List Disk) (device : List DiskFile) → IfTold disks MayWrite → IfTold disks (λ disk. IsWritingNow Whole device) → later ≡ comes_home name (λ f. home f) device (makes name disks) → AtEnd disks later
  came_again [] later device may now came = untold_keeps later (came ∙ comes_untold name (λ f. home f) device)
  came_again (disk ∷ past) later device may now came =
      let came_now = came ∙ ap (λ d. comes_home name (λ f. home f) d (makes name (disk ∷ past))) now.is in
      both disk may (home now.now) past later (came_home disk may (home now.now) past later came_now) refl (may.called now.now now.leaves)

  settled_now : (device : List DiskFile) (n : IsWritingNow Whole device) → IfTold device IsSettled → IsSettled n.now
  settled_now device n settled = subst (λ fs. IfTold fs IsSettled) n.is settled

  -- or still
  pub came_still : (disks later : List Disk) (device : List DiskFile) → IfTold disks MayWrite → IfTold disks (λ disk. IsWritingNow Whole device) → IfTold device IsSettled → later ≡ comes_home name frozen_entry device (makes name disks) → AtEnd disks later
  came_still [] later device may now settled came = untold_keeps later (came ∙ comes_untold name frozen_entry device)
  came_still (disk ∷ past) later device may now settled came =
      let came_now = came ∙ ap (λ d. comes_home name frozen_entry d (makes name (disk ∷ past))) now.is in
      both disk may (still now.now.content) past later (came_home disk may (still now.now.content) past later came_now) refl (may.frozen now.now now.leaves (settled_now device now settled))

  -- and its component is listed
  pub came_opened : (cs : List Content) (disks later : List Disk) (device : List DiskFile) → IsMemoryKept part (opening_at cs [] no_files) → IfTold disks MayWrite → IfTold disks (λ disk. IsWritingNow Whole device)
      → IfTold disks (λ disk. (n : IsWritingNow Whole device) → IsKept part (opening_at cs [] (put name (still n.now.content) disk))) → later ≡ comes_home name frozen_entry device (makes name disks) → IsOpening part cs [] later
  came_opened cs [] later device memory may now listed came = subst (λ ds. IsOpening part cs [] ds) (sym (came ∙ comes_untold name frozen_entry device)) (record { memory = memory; kept = tt; home = tt })
  came_opened cs (disk ∷ past) later device memory may now listed came =
      let came_now = came ∙ ap (λ d. comes_home name frozen_entry d (makes name (disk ∷ past))) now.is in
      subst (λ ds. IsOpening part cs [] ds) (sym (came_home disk may (still now.now.content) past later came_now))
      (record { memory = memory; kept = listed now; home = put_in_place name (still now.now.content) disk refl may.is_in })
