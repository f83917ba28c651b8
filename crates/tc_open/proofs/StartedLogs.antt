-- The log with which a partition starts, whose generation is told by the components that were loaded.
use Rattle.std.proofs.Common.{◌≡◌, ◌≢◌, ◌∙◌, ◌+◌, ◌<◌, ◌^◌, ℕ, List, [], ◌∷◌, map, refl, sym, ap, subst, arith, Option, None, Some}
use Rattle.std.specs.Prelude.{All}
use Rattle.std.specs.List.{AllZip}
use Rattle.std.proofs.lemmas.List.Elements.{All-head, All-tail}
use Rattle.tc_store.specs.declared.file_name.FileName.TheVariants.{Log}
use Rattle.tc_store.specs.Disk.{Disk}
use Rattle.tc_store.specs.DiskFile.{DiskFile}
use Rattle.tc_store.specs.Moments.{IfTold, LeavesAt}
use Rattle.tc_store.specs.StoreCalls.{fresh_file_at, makes}
use Rattle.tc_component.specs.Loading.{ComponentState}
use Rattle.tc_component.specs.Spelling.{Index, IsIndex}
use Rattle.tc_list.specs.Intervals as listed
use Rattle.tc_log.specs.Spelling.{IsHead}
use Rattle.tc_lsm_model.specs.Contents.{Content, Partition}
use Rattle.tc_lsm_model.specs.Lists.{IsList, last_of}
use Rattle.tc_machine.specs.Logs.{log_head}
use Rattle.tc_part_model.specs.Calls.{HasCreated}
use Rattle.tc_part_model.specs.Meaning.{IsOfContent}
use Rattle.tc_part_model.specs.Newest.{newest_index, next_by}
use Rattle.tc_part_model.specs.PartState.{told_component}
use Rattle.tc_part_model.specs.Starting.{IsOpened}
use Rattle.tc_part_model.proofs.NewestComponents.{next_is}
use Rattle.tc_open.specs.FirstLog.{EachStarts, FailsCreating, MakesLog}
use Rattle.tc_open.specs.Resting.{IsTidy}
use Rattle.tc_open.proofs.FirstLogMoments.{failed_moments, log_moments, made_moments, opening_is}

-- the generation behind the newest component is that behind the list
pub next_loaded : {F : Type 0} (content : F → Option (List ℕ)) (before : Option Index) (g : ℕ) (list : List (ComponentState F)) → next_by before ≡ g + 1 → next_by (newest_index before (map (told_component content) list)) ≡ listed.last_after g list + 1
next_loaded content before g [] is = is
next_loaded content before g (c ∷ list) is = next_loaded content (Some c.index) c.index.head.to list refl

-- no component reaches past the last generation
few_listed : {F : Type 0} (g : ℕ) (list : List (ComponentState F)) → g < 2 ^ 63 → All (λ c. IsIndex c.index) list → listed.last_after g list < 2 ^ 63
few_listed g [] few lawful = few
few_listed g (c ∷ list) few lawful = few_listed c.index.head.to list (All-head (λ x. IsIndex x.index) c list lawful).head.last (All-tail (λ x. IsIndex x.index) c list lawful)

-- so one more is left where the last is not reached
pub few_left : {F : Type 0} (list : List (ComponentState F)) (last : ℕ) → All (λ c. IsIndex c.index) list → last ≡ listed.last_of list → last ≢ 9223372036854775807 → last + 1 < 2 ^ 63
few_left list last lawful last_is apart = let few = few_listed 0 list (omega arith) lawful in omega (arith, few, last_is, apart)

module _ {F : Type 0} (content : F → Option (List ℕ)) (part : Partition) (list : List (ComponentState F)) (cs : List Content)
    (of : AllZip IsOfContent (map (told_component content) list) cs) (disks : List Disk) (tidy : IfTold disks (IsTidy part cs [])) (last : ℕ)
    (last_is : last ≡ listed.last_of list) where
  same : last + 1 ≡ last_of cs + 1
  same = ap (λ n. n + 1) last_is ∙ sym (next_loaded content None 0 list refl) ∙ next_is None 0 (map (told_component content) list) cs refl of

  abbrev Each : List Disk → Type 0
  Each new = EachStarts part cs disks new

  pub made_since : (new : List Disk) → new ≡ makes (Log (last + 1)) disks → Each new
  made_since new is = subst Each (sym (is ∙ ap (λ n. makes (Log n) disks) same)) (made_moments part cs disks tidy)

  module _ (is_head : IsHead (log_head part (last + 1))) where
    head_is : IsHead (log_head part (last_of cs + 1))
    head_is = subst (λ n. IsHead (log_head part n)) same is_head

    pub log_since : (log : List DiskFile) → HasCreated (log_head part (last + 1)) (fresh_file_at (Log (last + 1)) disks) log → IfTold disks (λ disk. All (LeavesAt (MakesLog part cs)) log)
    log_since log created = log_moments part cs head_is disks log tidy (subst (λ n. HasCreated (log_head part n) (fresh_file_at (Log n) disks) log) same created).creates

    pub failed_since : (new : List Disk) → FailsCreating (log_head part (last + 1)) (Log (last + 1)) disks new → Each new
    failed_since new failed = failed_moments part cs head_is disks new tidy (subst (λ n. FailsCreating (log_head part n) (Log n) disks new) same failed)

    pub opened_since : (new : List Disk) (log : List DiskFile) → IsList part cs → last + 1 < 2 ^ 63 → new ≡ makes (Log (last + 1)) disks → HasCreated (log_head part (last + 1)) (fresh_file_at (Log (last + 1)) disks) log
        → IsOpened (record { part = part; disks = new; log = log; components = map (told_component content) list }) cs
    opened_since new log lawful bound is created =
        subst (λ ds. IsOpened (record { part = part; disks = ds; log = log; components = map (told_component content) list }) cs) (sym (is ∙ ap (λ n. makes (Log n) disks) same))
        (opening_is part cs head_is disks log (map (told_component content) list) tidy lawful of (subst (λ n. n < 2 ^ 63) same bound) (subst (λ n. HasCreated (log_head part n) (fresh_file_at (Log n) disks) log) same created))
