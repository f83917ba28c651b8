-- A partition that starts over components alone is the one whose files were lawful, and a stop leaves meanwhile what they held.
use Rattle.std.proofs.Common.{◌≡◌, ◌∙◌, ◌+◌, ◌⊎◌, ℕ, List, [], ◌∷◌, map, refl, sym, ap, subst, inl, inr, Option, None}
use Rattle.std.specs.Prelude.{All, Contains}
use Rattle.std.specs.List.{AllZip}
use Rattle.tc_store.specs.declared.file_name.FileName.{FileName}
use Rattle.tc_store.specs.declared.file_name.FileName.TheVariants.{Log}
use Rattle.tc_store.specs.Disk.{Disk, IsThere, out}
use Rattle.tc_store.specs.DiskFile.{DiskFile}
use Rattle.tc_store.specs.Moments.{EachSince, IfTold, LeavesAt}
use Rattle.tc_store.specs.StoreCalls.{makes}
use Rattle.tc_store.proofs.MomentLemmas.{EachSince-trans, told_map}
use Rattle.tc_store.proofs.StopLaws.{since_weaker}
use Rattle.tc_component.specs.Loading.{ComponentState}
use Rattle.tc_list.specs.Intervals as listed
use Rattle.tc_lsm_model.specs.Contents.{Content, Partition}
use Rattle.tc_lsm_model.specs.Lists.{IsList, last_of, live}
use Rattle.tc_jobs.specs.Lists.{file_names}
use Rattle.tc_machine.specs.Logs.{IsLog}
use Rattle.tc_machine.specs.Pictures.{recovered}
use Rattle.tc_machine.specs.Steps.{IsShutOrHas}
use Rattle.tc_machine.proofs.FilesLeft.{at_name}
use Rattle.tc_part_model.specs.Leaving.{KeepsStore}
use Rattle.tc_part_model.specs.Meaning.{IsOfContent, IsPart}
use Rattle.tc_part_model.specs.Newest.{names_by, newest_index}
use Rattle.tc_part_model.specs.PartState.{AreTold, IsTold, Told, told_component}
use Rattle.tc_part_model.specs.Starting.{started_part}
use Rattle.tc_part_model.proofs.NewestComponents.{names_are, next_is}
use Rattle.tc_plain_model.specs.Store.{Store}
use Rattle.tc_plain_model.specs.Writes.{Pairs, Write}
use Rattle.tc_recover.proofs.Members.{no_member}
use Rattle.tc_open.specs.BeingOpened.{AreIn}
use Rattle.tc_open.proofs.CountedLogs.{loaded_are, loaded_tell}
use Rattle.tc_open.specs.Answered.{HasOnlyThese}
use Rattle.tc_open.specs.FirstLog.{EachStarts, IsStarting, MakesLog}
use Rattle.tc_open.specs.Listed.{AreOpenedFrom}
use Rattle.tc_open.specs.Openings.{IsOpenedAs, LeavesStored}
use Rattle.tc_open.specs.Resting.{AreOwn, IsTidy}
use Rattle.tc_open.specs.Steps.{Keeps, Rests}
use Rattle.tc_open.proofs.OpenStates.{if_tells, keeps_on, no_log_listed, tidy_at_last}
use Rattle.tc_open.proofs.StartedLogs.{next_loaded}

-- ---- over every store

module _ {F : Type 0} (list : List (ComponentState F)) where
  -- where all files are those of components, no log is there
  pub no_log_there : (generation : ℕ) (disks : List Disk) → IfTold disks (AreOwn list []) → IfTold disks (λ disk. IsThere (disk (Log generation)) → ⊥)
  no_log_there generation disks own = told_map (AreOwn list []) (λ disk. IsThere (disk (Log generation)) → ⊥) disks (λ disk is there. elim (is.own (Log generation) there) [
    | inl among ↦ no_log_listed list generation among
    | inr none ↦ no_member (Log generation) none
  ]) own

  -- once a log is made, it is the one file more
  pub made_own : (generation : ℕ) (disks : List Disk) → IfTold disks (AreOwn list []) → IfTold (makes (Log generation) disks) (HasOnlyThese list (Log generation))
  made_own generation [] own = tt
  made_own generation (disk ∷ past) own = λ name there. at_name (Log generation) name out disk (λ e. IsThere e → Contains (file_names list) name ⊎ (name ≡ Log generation)) (λ same here. inr (sym same)) (λ apart here. before name (own.own name here)) there
    where
      before : (name : FileName) → Contains (file_names list) name ⊎ Contains [] name → Contains (file_names list) name ⊎ (name ≡ Log generation)
      before name (inl among) = inl among
      before name (inr none) = absurd (no_member name none)

made_tells : (name : FileName) (old new : List Disk) → new ≡ makes name old → IsTold old → IsTold new
made_tells name [] new is tells = absurd tells
made_tells name (disk ∷ past) new is tells = subst (λ ds. IsTold ds) (sym is) tt

both_told : (P Q : Disk → Type 0) (disks : List Disk) → IfTold disks P → IfTold disks Q → IfTold disks (λ disk. P disk × Q disk)
both_told P Q [] p q = tt
both_told P Q (disk ∷ past) p q = (p, q)

-- ---- where the files were lawful

module _ {F : Type 0} (content : F → Option (List ℕ)) where
  module _ (part : Partition) (cs : List Content) (logs : List (List Write)) (list : List (ComponentState F)) (disks : List Disk) (rests : Rests content part (AreOpenedFrom part cs logs) (recovered cs logs) list disks) (own : IfTold disks (AreOwn list [])) where
    pub rest_tidy : IfTold disks (IsTidy part rests.contents [])
    rest_tidy = tidy_at_last content part rests.contents list disks rests.stands own

    pub rest_lawful : IsList part rests.contents
    rest_lawful = rests.stands.opening.memory.list

    pub rest_are : AllZip IsOfContent (map (told_component content) list) rests.contents
    rest_are = loaded_are content list rests.contents rests.stands.loaded

    same_pairs : live rests.contents ≡ (recovered cs logs).pairs
    same_pairs = ap (λ (s : Store). s.pairs) rests.same

    -- ---- it is the partition

    pub opened_as : (t : Told) → IsPart t (started_part part rests.contents) → t.taken ≡ names_by (newest_index None (map (told_component content) list)) → t.components ≡ map (told_component content) list → (name : FileName) → t.disks ≡ makes name disks → IsOpenedAs part cs logs t
    opened_as t is taken components name made = record {
      list = rests.contents;
      opened = rests.are;
      is = is;
      plain = ap (λ ns. record { pairs = live rests.contents; taken = ns }) (taken ∙ names_are None [] (map (told_component content) list) rests.contents refl rest_are) ∙ rests.same;
      store = made_tells name disks t.disks made rests.stands.tells;
      components = subst AreTold (sym components) (loaded_tell content list rests.contents rests.stands.loaded);
    }

    -- ---- moments

    abbrev Starts : List Disk → Type 0
    Starts new = EachStarts part rests.contents disks new

    starts_store : (new : List Disk) → Starts new → EachSince (LeavesStored part (recovered cs logs).pairs) disks new
    starts_store new since = since_weaker (IsStarting part rests.contents (live rests.contents)) (LeavesStored part (recovered cs logs).pairs) disks new
        (λ disk leaves. inr (inr (inl (record { list = rests.contents; holds = same_pairs; leaves = subst (λ pairs. IsStarting part rests.contents pairs disk) same_pairs leaves })))) since

    pub starts_log : (generation : ℕ) (log : List DiskFile) → generation ≡ listed.last_of list + 1 → IfTold disks (λ disk. All (LeavesAt (MakesLog part rests.contents)) log) → All (LeavesAt (IsShutOrHas (IsLog part generation []))) log
    starts_log generation log is leaves =
        let same : last_of rests.contents + 1 ≡ generation = sym (next_is None 0 (map (told_component content) list) rests.contents refl rest_are) ∙ next_loaded content None 0 list refl ∙ sym is in
        subst (λ n. All (LeavesAt (IsShutOrHas (IsLog part n []))) log) same (if_tells (All (LeavesAt (MakesLog part rests.contents)) log) disks rests.stands.tells leaves)

    module _ (old : List Disk) (keeps : Keeps part (recovered cs logs).pairs old disks) (new : List Disk) (since : Starts new) where
      abbrev Kept : Pairs → Type 0
      Kept pairs = IfTold new (KeepsStore part pairs None)

      pub start_kept : (IfTold disks AreIn → IfTold new AreIn) → Kept (live rests.contents) → Keeps part (recovered cs logs).pairs old new
      start_kept home kept = keeps_on part (recovered cs logs).pairs old disks new keeps (record {
        moments = starts_store new since;
        kept = both_told AreIn (KeepsStore part (recovered cs logs).pairs None) new (home rests.stands.opening.home) (subst Kept same_pairs kept);
      })

      pub start_moments : EachSince (LeavesStored part (recovered cs logs).pairs) old new
      start_moments = EachSince-trans (LeavesStored part (recovered cs logs).pairs) old disks new keeps.moments (starts_store new since)
