-- Files that nobody needs are removed while a partition is being opened.
use Rattle.std.proofs.Common.{◌≡◌, List, [], ◌∷◌, refl, sym, subst, inl, inr, true, None}
use Rattle.std.specs.Prelude.{ℕ}
use Rattle.std.proofs.lemmas.Bool.{cases_Bool, false≢true}
use Rattle.std.proofs.lemmas.List.Elements.{All-head, All-tail, All-weaker}
use Rattle.tc_store.specs.declared.file_name.FileName.{FileName}
use Rattle.tc_store.specs.Disk.{Disk, Entry, content_of, home, is_still, none, out, still}
use Rattle.tc_store.specs.Moments.{EachSince, IfTold}
use Rattle.tc_store.specs.StoreCalls.{removes, RemovesSome}
use Rattle.tc_store.proofs.MomentLemmas.{EachSince-none, EachSince-one, EachSince-trans}
use Rattle.tc_plain_model.specs.Writes.{Write}
use Rattle.tc_lsm_model.specs.Contents.{Content, Partition}
use Rattle.tc_machine.specs.Events.{file_removed, replayed}
use Rattle.tc_machine.specs.Kept.{IsKept}
use Rattle.tc_machine.specs.Steps.{IsFlushed, IsSpare}
use Rattle.tc_machine.proofs.Events.{event_keeps}
use Rattle.tc_machine.proofs.FilesLeft.{at_name}
use Rattle.tc_part_model.proofs.Removals.{without}
use Rattle.tc_open.specs.BeingOpened.{AreIn, AreNeedless, IsOpening, LeavesLogged, opening_at, stored_by}
use Rattle.tc_open.proofs.OpeningPictures.{keeps_store, leaves_in, put_in_place}

still_file : (disk : Disk) (name : FileName) → is_still (disk name) ≡ true → (bytes : List ℕ) × (disk name ≡ still bytes)
still_file disk name = at (disk name) refl
  where
    at : (e : Entry) → disk name ≡ e → is_still e ≡ true → (bytes : List ℕ) × (disk name ≡ still bytes)
    at (none before) same is = absurd (false≢true is)
    at (home f) same is = absurd (false≢true is)
    at (still bytes) same is = (bytes, same)
    at out same is = absurd (false≢true is)

-- no file may be needed that is still
abbrev IsNeedless : List Content → Disk → FileName → Type 0
IsNeedless cs disk name = (bytes : List ℕ) → disk name ≡ still bytes → IsSpare (opening_at cs [] disk) name bytes

module _ (part : Partition) (cs : List Content) (logs : List (List Write)) where
  -- what the machine keeps of a disk on which nothing is out
  record IsOpenedOn (disk : Disk) : Type 0 where
    kept : IsKept part (opening_at cs logs disk)
    home : AreIn disk

  goes : (name : FileName) (disk : Disk) → is_still (disk name) ≡ true → IsNeedless cs disk name → IsOpenedOn disk → IsOpenedOn (without name disk)
  goes name disk found needless is =
      let bytes = still_file disk name found in
      record {
        kept = event_keeps part (opening_at cs logs disk) (file_removed name) is.kept (record { bytes = bytes.0; still = bytes.1; spare = needless bytes.0 bytes.1 });
        home = put_in_place name (none (content_of (disk name))) disk refl is.home;
      }

  leaves : (disk : Disk) → IsOpenedOn disk → LeavesLogged part cs logs disk
  leaves disk is = leaves_in part (stored_by cs logs) (IsFlushed part cs (replayed cs logs)) disk is.home (keeps_store part cs logs None None disk is.kept)

  -- what is needless is so of fewer files
  needless_without : (name : FileName) (disk : Disk) (names : List FileName) → AreNeedless cs disk names → AreNeedless cs (without name disk) names
  needless_without name disk names all = All-weaker (IsNeedless cs disk) (IsNeedless cs (without name disk)) (λ other needless bytes there. needless bytes (was other bytes there)) names all
    where
      was : (other : FileName) (bytes : List ℕ) → without name disk other ≡ still bytes → disk other ≡ still bytes
      was other bytes = at_name name other (none (content_of (disk name))) disk (λ e. e ≡ still bytes → disk other ≡ still bytes) (λ same gone. absurd (cc)) (λ apart there. there)

  -- ---- one file

  record AreGone (names : List FileName) (disks : List Disk) : Type 0 where
    now : IfTold disks IsOpenedOn
    rest : IfTold disks (λ disk. AreNeedless cs disk names)

  removed : (name : FileName) (names : List FileName) (disks : List Disk) → AreGone (name ∷ names) disks → AreGone names (removes name disks) × EachSince (LeavesLogged part cs logs) disks (removes name disks)
  removed name names [] is = (record { now = tt; rest = tt }, EachSince-none (LeavesLogged part cs logs) [] [] refl)
  removed name names (disk ∷ past) is = elim (cases_Bool (is_still (disk name))) [
    | inl found ↦ rw found
        (let after = goes name disk found (All-head (IsNeedless cs disk) name names is.rest) is.now in
        (record { now = after; rest = needless_without name disk names (All-tail (IsNeedless cs disk) name names is.rest) }, EachSince-one (LeavesLogged part cs logs) (without name) (disk ∷ past) (leaves (without name disk) after)))
    | inr other ↦ rw other
        (record { now = is.now; rest = All-tail (IsNeedless cs disk) name names is.rest }, EachSince-none (LeavesLogged part cs logs) (disk ∷ past) (disk ∷ past) refl)
  ]

  passed : (name : FileName) (names : List FileName) (disks : List Disk) → AreGone (name ∷ names) disks → AreGone names disks
  passed name names [] is = record { now = tt; rest = tt }
  passed name names (disk ∷ past) is = record { now = is.now; rest = All-tail (IsNeedless cs disk) name names is.rest }

  -- ---- all of them

  all_gone : (names : List FileName) (disks later : List Disk) → AreGone names disks → RemovesSome names disks later → IfTold later IsOpenedOn × EachSince (LeavesLogged part cs logs) disks later
  all_gone [] disks later is same = (subst (λ ds. IfTold ds IsOpenedOn) (sym same) is.now, EachSince-none (LeavesLogged part cs logs) disks later same)
  all_gone (name ∷ names) disks later is (inl rest) = all_gone names disks later (passed name names disks is) rest
  all_gone (name ∷ names) disks later is (inr rest) =
      let one = removed name names disks is in
      let more = all_gone names (removes name disks) later one.0 rest in
      (more.0, EachSince-trans (LeavesLogged part cs logs) disks (removes name disks) later one.1 more.1)

  opened_on : (disks : List Disk) → IsOpening part cs logs disks → IfTold disks IsOpenedOn
  opened_on [] is = tt
  opened_on (disk ∷ past) is = record { kept = is.kept; home = is.home }

  gone : (names : List FileName) (disks later : List Disk) → IsOpening part cs logs disks → IfTold disks (λ disk. AreNeedless cs disk names) → RemovesSome names disks later → IfTold later IsOpenedOn × EachSince (LeavesLogged part cs logs) disks later
  gone names disks later is needless removed = all_gone names disks later (record { now = opened_on disks is; rest = needless }) removed

  still_opening : (disks later : List Disk) → IsOpening part cs logs disks → IfTold later IsOpenedOn → IsOpening part cs logs later
  still_opening disks [] is now = record { memory = is.memory; kept = tt; home = tt }
  still_opening disks (disk ∷ past) is now = record { memory = is.memory; kept = now.kept; home = now.home }

  pub needless_go : (names : List FileName) (disks later : List Disk) → IsOpening part cs logs disks → IfTold disks (λ disk. AreNeedless cs disk names) → RemovesSome names disks later → IsOpening part cs logs later
  needless_go names disks later is needless removed = still_opening disks later is (gone names disks later is needless removed).0

  pub needless_moments : (names : List FileName) (disks later : List Disk) → IsOpening part cs logs disks → IfTold disks (λ disk. AreNeedless cs disk names) → RemovesSome names disks later → EachSince (LeavesLogged part cs logs) disks later
  needless_moments names disks later is needless removed = (gone names disks later is needless removed).1
