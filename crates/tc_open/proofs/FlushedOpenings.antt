-- The logs of an opening were flushed: what is stored is in the components alone, and the logs are needless.
use Rattle.std.proofs.Common.{◌≡◌, ◌∙◌, ◌+◌, ◌<◌, ◌≤◌, ◌++◌, ℕ, List, [], ◌∷◌, length, map, refl, sym, ap, subst, arith, inl, inr, Option, None}
use Rattle.std.specs.Prelude.{Result, Err}
use Rattle.std.specs.List.{AllZip}
use Rattle.std.proofs.lemmas.List.{length-map}
use Rattle.tc_store.specs.declared.damage.Damage.{Damage}
use Rattle.tc_store.specs.Disk.{Disk}
use Rattle.tc_store.specs.Moments.{EachSince, IfTold}
use Rattle.tc_store.proofs.MomentLemmas.{EachSince-none}
use Rattle.tc_store.proofs.StopLaws.{since_weaker}
use Rattle.tc_component.specs.declared.head.Head.{Head}
use Rattle.tc_component.specs.Loaded.{IsLoadedOf}
use Rattle.tc_component.specs.Loading.{ComponentState}
use Rattle.tc_component.specs.Rows.{part_of}
use Rattle.tc_component.specs.Spelling.{Index}
use Rattle.tc_log.specs.declared.write.Write as log
use Rattle.tc_lsm_model.specs.Contents.{Content, Partition}
use Rattle.tc_lsm_model.specs.Flushes.{IsFlush}
use Rattle.tc_lsm_model.specs.Lists as contents
use Rattle.tc_lsm_model.specs.Tables.{table_over}
use Rattle.tc_lsm_model.proofs.WrittenNames.{names_of_table}
use Rattle.tc_list.specs.Intervals.{last_after, last_of}
use Rattle.tc_machine.specs.Logs.{all_writes, kept_write}
use Rattle.tc_machine.specs.Pictures.{recovered}
use Rattle.tc_jobs.specs.declared.fault.JobFault.{JobFault}
use Rattle.tc_jobs.specs.declared.fault.JobFault.TheVariants as job
use Rattle.tc_jobs.specs.Faults as jobs
use Rattle.tc_part_model.specs.Leaving.{KeepsStore}
use Rattle.tc_part_model.specs.PartState.{IsTold}
use Rattle.tc_plain_model.specs.Writes.{Pairs, Write}
use Rattle.tc_open.specs.FlushedLogs.{IsLogsFlushed}
use Rattle.tc_open.specs.BeingOpened.{AreIn, IsOpening, LeavesLogged, stored_by}
use Rattle.tc_open.specs.declared.fault.OpenCause.{OpenCause}
use Rattle.tc_open.specs.declared.fault.OpenCause.TheVariants as cause
use Rattle.tc_open.specs.Listed.{AreFlushedFrom}
use Rattle.tc_open.specs.OpenCauses.{IfDamaged, IsOfCall, IsOfNoFile, of_job}
use Rattle.tc_open.specs.Openings.{LeavesStored}
use Rattle.tc_open.specs.Steps.{Keeps, Rests, Stands}
use Rattle.tc_open.proofs.OpenStates.{if_tells, opening_keeps, stored_behind}

-- ---- moments

pub logged_keeps : (part : Partition) (cs : List Content) (logs : List (List Write)) (old new : List Disk) → EachSince (LeavesLogged part cs logs) old new → IfTold new (λ disk. AreIn disk × KeepsStore part (stored_by cs logs) None disk) → Keeps part (recovered cs logs).pairs old new
logged_keeps part cs logs old new since kept = record {
  moments = since_weaker (LeavesLogged part cs logs) (LeavesStored part (recovered cs logs).pairs) old new (λ disk leaves. inr (inl (record { list = cs; logs = logs; holds = refl; leaves = leaves }))) since;
  kept = kept;
}

pub same_keeps : (part : Partition) (cs : List Content) (logs : List (List Write)) (disks : List Disk) → IsOpening part cs logs disks → Keeps part (recovered cs logs).pairs disks disks
same_keeps part cs logs disks is = opening_keeps part cs logs disks disks is (EachSince-none (LeavesLogged part cs logs) disks disks refl)

-- ---- damage

pub job_damage : {X : Type 0} (P : Damage → Type 0) (r : Result X JobFault) (fault : JobFault) → r ≡ Err fault → jobs.IfDamaged r P → IfDamaged (of_job fault) P
job_damage {X = X} P r fault is harmed = of fault (subst (λ (s : Result X JobFault). jobs.IfDamaged s P) is harmed)
  where
    of : (f : JobFault) → jobs.IfDamaged {X = X} (Err f) P → IfDamaged (of_job f) P
    of job.Disk h = tt
    of (job.Damaged damage) h = h
    of job.Memory h = tt

-- a call that reads no record tells none
pub call_sound : (c : OpenCause) → IsOfCall c → IfDamaged c (λ damage. ⊥)
call_sound cause.Disk is = tt
call_sound (cause.Damaged damage) is = is
call_sound (cause.Layout found found_of) is = tt
call_sound cause.Spent is = tt
call_sound cause.Memory is = tt

pub no_file_sound : (c : OpenCause) → IsOfNoFile c → IfDamaged c (λ damage. ⊥)
no_file_sound cause.Disk is = tt
no_file_sound (cause.Damaged damage) is = is
no_file_sound (cause.Layout found found_of) is = tt
no_file_sound cause.Spent is = tt
no_file_sound cause.Memory is = tt

-- ---- the logs are in a component

come_from : (part : Partition) (cs : List Content) (logs : List (List Write)) (c : Content) → 0 < length logs → IsFlush part cs (table_over (contents.live cs) (all_writes logs)) (length logs) c → AreFlushedFrom part cs logs (cs ++ c ∷ [])
come_from part cs [] c some is = absurd (omega (arith, some))
come_from part cs (ws ∷ logs) c some is = (c, is, refl)

-- without a log the components stay
pub none_rest : {F : Type 0} (content : F → Option (List ℕ)) (part : Partition) (cs : List Content) (logs : List (List Write)) (list : List (ComponentState F)) (writes : List (List log.Write)) (disks : List Disk) → writes ≡ [] → Stands content part cs logs list writes disks
    → Rests content part (AreFlushedFrom part cs logs) (recovered cs logs) list disks
none_rest content part cs [] list writes disks none stands = record {
  contents = cs;
  are = refl;
  stands = record { tells = stands.tells; opening = stands.opening; loaded = stands.loaded; written = refl };
  same = refl;
}
none_rest content part cs (ws ∷ logs) list writes disks none stands = absurd (apart (map kept_write ws) (map (λ (others : List Write). map kept_write others) logs) (sym none ∙ stands.written))
  where
    apart : (first : List log.Write) (more : List (List log.Write)) → [] ≡ first ∷ more → ⊥
    apart first more same = cc

module _ {F : Type 0} (content : F → Option (List ℕ)) where
  loaded_last : (g : ℕ) (list : List (ComponentState F)) (cs : List Content) → AllZip (IsLoadedOf content) list cs → last_after g list ≡ contents.last_after g cs
  loaded_last g [] [] all = refl
  loaded_last g [] (c ∷ cs) all = absurd all
  loaded_last g (m ∷ list) [] all = absurd all
  loaded_last g (m ∷ list) (c ∷ cs) all = ap (λ (i : Index). last_after i.head.to list) all.0.index ∙ loaded_last c.to list cs all.1

  last_behind : (g : ℕ) (cs : List Content) (c : Content) → contents.last_after g (cs ++ c ∷ []) ≡ c.to
  last_behind g [] c = refl
  last_behind g (d ∷ cs) c = last_behind d.to cs c

  module _ (head : Head) (cs : List Content) (logs : List (List Write)) (list longer : List (ComponentState F)) (writes : List (List log.Write)) (old later : List Disk) (stands : Stands content (part_of head) cs logs list writes old)
      (flushed : IsLogsFlushed content head cs logs longer later) where
    abbrev pub flushed_list : List Content
    flushed_list = cs ++ flushed.made ∷ []

    count : length writes ≡ length logs
    count = ap (λ (ls : List (List log.Write)). length ls) stands.written ∙ length-map logs (λ (ws : List Write). map kept_write ws)

    pub reaches : (last : ℕ) → last ≡ last_of list → last + length writes ≤ contents.last_of flushed_list
    reaches last is =
        let before = loaded_last 0 list cs stands.loaded in
        let to = flushed.is_flush.to in
        let at_end = last_behind 0 cs flushed.made in
        omega (arith, is, before, count, to, at_end)

    pub same_store : recovered flushed_list [] ≡ recovered cs logs
    same_store = stored_behind cs logs flushed.made flushed.stored (flushed.is_flush.names ∙ names_of_table (contents.names_of cs) (contents.live cs) (table_over (contents.live cs) (all_writes logs)) (all_writes logs) refl)

    pub flushed_rests : 0 < length writes → (new : List Disk) → IsTold later → IsTold new → IsOpening (part_of head) flushed_list [] new → Rests content (part_of head) (AreFlushedFrom (part_of head) cs logs) (recovered cs logs) longer new
    flushed_rests some new told tells opening = record {
      contents = flushed_list;
      are = come_from (part_of head) cs logs flushed.made (subst (λ n. 0 < n) count some) flushed.is_flush;
      stands = record { tells = tells; opening = opening; loaded = if_tells (AllZip (IsLoadedOf content) longer flushed_list) later told flushed.loaded; written = refl };
      same = same_store;
    }

    pub covered_keeps : (new : List Disk) → Keeps (part_of head) (recovered flushed_list []).pairs later new → Keeps (part_of head) (recovered cs logs).pairs later new
    covered_keeps new keeps = subst (λ (pairs : Pairs). Keeps (part_of head) pairs later new) flushed.stored keeps
