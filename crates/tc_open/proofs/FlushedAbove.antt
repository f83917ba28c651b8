-- The logs above listed components were flushed under a header, and then their files are removed.
use Rattle.std.proofs.Common.{◌≡◌, ◌∙◌, ◌+◌, ◌<◌, ◌++◌, ℕ, List, [], ◌∷◌, filter, length, map, refl, sym, ap, subst, arith, Option}
use Rattle.std.specs.Prelude.{All, Contains}
use Rattle.tc_store.specs.declared.damage.Damage.{Damage}
use Rattle.tc_store.specs.declared.file_name.FileName.{FileName}
use Rattle.tc_store.specs.Disk.{Disk}
use Rattle.tc_store.specs.Moments.{IfTold}
use Rattle.tc_store.specs.StoreCalls.{comes_home, frozen_entry, makes}
use Rattle.tc_component.specs.declared.head.Head.{Head}
use Rattle.tc_component.specs.Loading.{ComponentState, index_in}
use Rattle.tc_component.specs.Rows.{part_of}
use Rattle.tc_component.specs.Spelling.{name_of}
use Rattle.tc_log.specs.declared.write.Write as log
use Rattle.tc_list.specs.Intervals.{last_of}
use Rattle.tc_lsm_model.specs.Contents.{Content, Partition}
use Rattle.tc_jobs.specs.Lists.{IsListOf, file_names}
use Rattle.tc_plain_model.specs.Writes.{Write}
use Rattle.tc_recover.specs.declared.taken.Taken.{Taken}
use Rattle.tc_recover.specs.Loads.{is_log}
use Rattle.tc_recover.specs.Opening.{found_in, Found}
use Rattle.tc_recover.specs.Removing.{needless_names}
use Rattle.tc_open.specs.FlushedLogs.{IsFlushListed, IsLogsFlushed, IsReplayDamage}
use Rattle.tc_open.specs.BeingOpened.{AreNeedless}
use Rattle.tc_open.specs.declared.fault.OpenCause.{OpenCause}
use Rattle.tc_open.specs.declared.fault.OpenCause.TheVariants as cause
use Rattle.tc_open.specs.Judged.{IsOfLogs}
use Rattle.tc_open.specs.Listed.{AreFlushed, end_by}
use Rattle.tc_open.specs.OpenCauses.{IfDamaged}
use Rattle.tc_open.specs.Resting.{AreOwn}
use Rattle.tc_open.specs.Steps.{AreAbove, AreListed, IsLogUpTo, Stands}
use Rattle.tc_open.proofs.FlushedOpenings.{reaches}
use Rattle.tc_open.proofs.ListedIntervals.{ends_as, flushed_some, one_interval}
use Rattle.tc_open.proofs.LogsCovered.{covered_needless, list_longer, none_stay}
use Rattle.tc_open.proofs.OwnFiles.{newest_longer, others_longer, own_listed}

pub damage_weaker : (P Q : Damage → Type 0) (c : OpenCause) → ((damage : Damage) → P damage → Q damage) → IfDamaged c P → IfDamaged c Q
damage_weaker P Q cause.Disk weaker harmed = tt
damage_weaker P Q (cause.Damaged damage) weaker harmed = weaker damage harmed
damage_weaker P Q (cause.Layout found found_of) weaker harmed = tt
damage_weaker P Q cause.Spent weaker harmed = tt
damage_weaker P Q cause.Memory weaker harmed = tt

-- more is known of the components that were read
pub logs_so : {F : Type 0} (content : F → Option (List ℕ)) (name : F → FileName) (part : Partition) (P Q : List (ComponentState F) → Type 0) (found : Found) (damage : Damage) → ((list : List (ComponentState F)) → P list → Q list)
    → IsOfLogs content name part P found damage → IsOfLogs content name part Q found damage
logs_so content name part P Q found damage so of = record { list = of.list; head = of.head; are = so of.list of.are; components = of.components; here = of.here; from = of.from; to = of.to; harm = of.harm }

module _ {F W : Type 0} (content : F → Option (List ℕ)) (name : F → FileName) (head : Head) (list : List (ComponentState F)) (logs : List (Taken F W)) (writes : List (List log.Write)) (last count : ℕ) (above : AreAbove name list logs writes last) (count_is : count ≡ length writes)
    (from : head.from ≡ last + 1) (to : head.to ≡ last + count) where
  same : last + length writes ≡ last + count
  same = ap (λ n. last + n) (sym count_is)

  behind : head.from ≡ last_of list + 1
  behind = from ∙ ap (λ n. n + 1) above.last_is

  -- the logs are needless then
  pub covered : (cs : List Content) (ws : List (List Write)) (longer : List (ComponentState F)) (old later : List Disk) → Stands content (part_of head) cs ws list writes old → (flushed : IsLogsFlushed content head cs ws longer later)
      → IfTold later (λ disk. AreNeedless (cs ++ flushed.made ∷ []) disk (needless_names name (last + count) logs))
  covered cs ws longer old later stands flushed =
      let all = cs ++ flushed.made ∷ [] in
      subst (λ most. IfTold later (λ disk. AreNeedless all disk (needless_names name most logs))) same
      (covered_needless name all (last + length writes) later logs (reaches content head cs ws list longer writes old later stands flushed last above.last_is) above.named above.up_to)

  pub none_left : filter (is_log (last + count)) logs ≡ []
  none_left = none_stay name (last + count) logs (subst (λ most. All (λ t. IsLogUpTo most t.name) logs) same above.up_to)

  pub harmed_logs : (c : OpenCause) → IfDamaged c (IsReplayDamage content name head writes list) → IfDamaged c (IsOfLogs content name (part_of head) (λ read. read ≡ list) (found_in list writes))
  harmed_logs c = damage_weaker (IsReplayDamage content name head writes list) (IsOfLogs content name (part_of head) (λ read. read ≡ list) (found_in list writes)) c (λ damage harm. record {
    list = list;
    head = head;
    are = refl;
    components = refl;
    here = refl;
    from = behind;
    to = omega (arith, to, count_is, above.last_is);
    harm = harm;
  })

  module _ (longer : List (ComponentState F)) (old later : List Disk) (listed : IsFlushListed content name head list longer old later) where
    pub listed_longer : AreListed name (part_of head) list → IsListOf head.number head.count longer → 0 < length writes → AreListed name (part_of head) longer
    listed_longer before of some =
        let l = listed.listed in
        subst (λ cs. AreListed name (part_of head) cs) (sym l.listed)
        (list_longer content name (part_of head) list l.component head listed.device before l.made (subst (λ cs. IsListOf head.number head.count cs) l.listed of) behind (omega (arith, from, to, count_is, some)))

    pub flushed_longer : 0 < length writes → AreFlushed (λ older. older ≡ list) (found_in list writes) longer
    flushed_longer some =
        let l = listed.listed in
        let e = end_by 0 (map index_in list) in
        let last_is : last ≡ e = above.last_is ∙ ends_as 0 list in
        let begins : head.from ≡ e + 1 = from ∙ ap (λ n. n + 1) last_is in
        let ends : head.to ≡ e + length writes = omega (arith, to, count_is, last_is) in
        record {
          older = list;
          newer = l.component ∷ [];
          are = refl;
          is = l.listed;
          read = refl;
          flushed = ap (λ (h : Head). one_interval h.from h.to) l.made.has_head ∙ ap (λ n. one_interval n head.to) begins ∙ ap (λ n. one_interval (e + 1) n) ends ∙ sym (flushed_some e (length writes) some);
        }

    pub own_longer : (others : List FileName) → IfTold old (AreOwn list others) → IfTold later (AreOwn longer others)
    own_longer others own =
        let l = listed.listed in
        subst (λ disks. IfTold disks (AreOwn longer others)) (sym listed.still)
        (subst (λ cs. IfTold (comes_home (name_of head) frozen_entry listed.device (makes (name_of head) old)) (AreOwn cs others)) (sym l.listed)
        (own_listed list (list ++ l.component ∷ []) others others (name_of head)
        (subst (λ (h : Head). Contains (file_names (list ++ l.component ∷ [])) (name_of h)) l.made.has_head (newest_longer list l.component))
        (others_longer list l.component others) listed.device old own listed.tells))
