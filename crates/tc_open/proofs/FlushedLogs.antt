-- The flush of the logs of an opening, from what its calls answer: what is kept, and what is listed.
use Rattle.std.proofs.Common.{◌≡◌, ◌∙◌, ◌+◌, ◌<◌, ◌^◌, ◌++◌, ℕ, List, [], ◌∷◌, Option, None, length, map, refl, sym, ap, subst, arith, inl, inr}
use Rattle.std.specs.Prelude.{All, Err, IfErr, IfSome, Ok, OnErr, OnOk, Result}
use Rattle.std.specs.Result.{IsOk}
use Rattle.std.specs.List.{AllZip}
use Rattle.std.proofs.lemmas.List.{length-map}
use Rattle.tc_model.specs.Dictionary.{Extends}
use Rattle.tc_model.specs.Document.{Name}
use Rattle.tc_schema_model.specs.Counted.{Counted}
use Rattle.tc_store.specs.declared.file_name.FileName.{FileName}
use Rattle.tc_store.specs.declared.file_name.FileName.TheVariants.{Component}
use Rattle.tc_store.specs.Disk.{Disk, IsThere, home}
use Rattle.tc_store.specs.DiskFile.{DiskFile, IsSettled, settled_file}
use Rattle.tc_store.specs.declared.damage.Damage.{Damage}
use Rattle.tc_store.specs.Images.{Image}
use Rattle.tc_store.specs.Gate.{IsShutOr, IsShutOrWhole}
use Rattle.tc_store.specs.Moments.{IfTold, LeavesAt, LeavesOnly}
use Rattle.tc_store.specs.StoreCalls.{FailsMaking, comes_home, content_now, fresh_file_at, frozen_entry, makes}
use Rattle.tc_store.proofs.MomentLemmas.{told_map}
use Rattle.tc_log.specs.declared.write.Write as log
use Rattle.tc_plain_model.specs.Writes.{Write}
use Rattle.tc_memory.specs.DocumentTables.{IsTableOf}
use Rattle.tc_memory.specs.Table as memory
use Rattle.tc_component.specs.declared.head.Head.{Head}
use Rattle.tc_component.specs.Loaded.{IsLoadedOf}
use Rattle.tc_component.specs.Loading.{ComponentState}
use Rattle.tc_component.specs.Reading.{version_of}
use Rattle.tc_component.specs.Rows.{IsComponent, IsIndexOf, IsShortWrite, component_bytes, head_of, part_of}
use Rattle.tc_component.specs.Spelling.{Index, name_of}
use Rattle.tc_component.proofs.Versions.{of_version}
use Rattle.tc_lsm_model.specs.Contents.{Content, Partition}
use Rattle.tc_lsm_model.specs.Flushes.{IsFlush}
use Rattle.tc_lsm_model.specs.Lists.{IsList, last_after, last_of, live, names_of, schema_of}
use Rattle.tc_lsm_model.specs.Tables.{KeepsShapes, Table, table_over}
use Rattle.tc_flush.specs.Flushing.{IsBehind}
use Rattle.tc_list.specs.Intervals.{last_after as listed_after}
use Rattle.tc_machine.specs.Logs.{all_writes, kept_write}
use Rattle.tc_machine.specs.Writes.{IsStorableWrite}
use Rattle.tc_machine.proofs.Holding.{sealed_shapes}
use Rattle.tc_machine.proofs.MemorySteps.{opened_logs}
use Rattle.tc_jobs.specs.declared.fault.JobFault.{JobFault}
use Rattle.tc_jobs.specs.declared.fault.JobFault.TheVariants as job
use Rattle.tc_jobs.specs.Faults.{IfDamaged}
use Rattle.tc_jobs.specs.Listing.{FitsBehind, IsListed, IsReadBack, behind}
use Rattle.tc_part_model.specs.PartState.{IsTold}
use Rattle.tc_part_model.proofs.DeviceFiles.{comes_untold}
use Rattle.tc_open.specs.FlushedLogs.{EndsHome, IsFlushGivenUp, IsLogsFlushed}
use Rattle.tc_open.specs.LogFlushes.{IsDeviceNow, IsKeptBehind, made_name}
use Rattle.tc_open.specs.BeingOpened.{IsOpening}
use Rattle.tc_open.proofs.CountedLogs.{no_logs}
use Rattle.tc_open.proofs.FlushSteps.{listed_stored}
use Rattle.tc_open.proofs.ToldFlushes.{device_now, home_again, not_made, opened_with, shut_at_first, still_behind, whole_now}

-- ---- loaded components

pub indices : {F : Type 0} (content : F → Option (List ℕ)) (list : List (ComponentState F)) (cs : List Content) → AllZip (IsLoadedOf content) list cs → AllZip (λ m c. IsIndexOf m.index c) list cs
indices content [] [] all = tt
indices content [] (c ∷ cs) all = absurd all
indices content (m ∷ list) [] all = absurd all
indices content (m ∷ list) (c ∷ cs) all = (of_version m.index (version_of all.0.bytes) c all.0.index, indices content list cs all.1)

pub last_loaded : {F : Type 0} (content : F → Option (List ℕ)) (g : ℕ) (list : List (ComponentState F)) (cs : List Content) → AllZip (IsLoadedOf content) list cs → listed_after g list ≡ last_after g cs
last_loaded content g [] [] all = refl
last_loaded content g [] (c ∷ cs) all = absurd all
last_loaded content g (m ∷ list) [] all = absurd all
last_loaded content g (m ∷ list) (c ∷ cs) all = ap (λ (i : Index). listed_after i.head.to list) all.0.index ∙ last_loaded content c.to list cs all.1

loaded_behind : {F : Type 0} (content : F → Option (List ℕ)) (list : List (ComponentState F)) (cs : List Content) (m : ComponentState F) (c : Content) → AllZip (IsLoadedOf content) list cs → IsLoadedOf content m c → AllZip (IsLoadedOf content) (list ++ m ∷ []) (cs ++ c ∷ [])
loaded_behind content [] [] m c all is = (is, tt)
loaded_behind content [] (d ∷ cs) m c all is = absurd all
loaded_behind content (n ∷ list) [] m c all is = absurd all
loaded_behind content (n ∷ list) (d ∷ cs) m c all is = (all.0, loaded_behind content list cs m c all.1 is)

module _ (head : Head) (cs : List Content) (ws : List Write) (more : List (List Write)) (disks : List Disk) (is : IsOpening (part_of head) cs (ws ∷ more) disks) where
  -- the table that the logs make
  abbrev pub logged : Table
  logged = table_over (live cs) (all_writes (ws ∷ more))

  pub storable : All IsStorableWrite (all_writes (ws ∷ more))
  storable = subst (λ ls. All IsStorableWrite (all_writes ls)) (opened_logs [] cs (ws ∷ more)) is.memory.writes

  shapes : KeepsShapes (live cs) logged
  shapes = sealed_shapes is.memory

  module _ (from : head.from ≡ last_of cs + 1) (to : head.to ≡ last_of cs + length (ws ∷ more)) where
    named : name_of head ≡ made_name cs (ws ∷ more)
    named = ap (λ n. Component n head.to) from ∙ ap (λ n. Component (last_of cs + 1) n) to

    pub lies_behind : (names : List Name) (schema : Counted) (kept : memory.Table) → head.to < 2 ^ 63 → names ≡ names_of cs → schema ≡ schema_of cs → IsTableOf logged kept → IsBehind cs logged (length (ws ∷ more)) head names schema kept
    lies_behind names schema kept last same_names same_schema of = record {
      list = is.memory.list;
      of = of;
      keeps = shapes;
      newest_names = same_names;
      newest_schema = same_schema;
      from = from;
      to = to;
      some = omega arith;
      last = last;
    }

    module _ (free : IfTold disks (λ disk. IsThere (disk (name_of head)) → ⊥)) where
      free_name : IfTold disks (λ disk. IsThere (disk (made_name cs (ws ∷ more))) → ⊥)
      free_name = subst (λ n. IfTold disks (λ disk. IsThere (disk n) → ⊥)) named free

      pub begun_not : (later : List Disk) → FailsMaking (name_of head) disks later → IsKeptBehind (part_of head) cs (ws ∷ more) disks later
      begun_not later fails = not_made (part_of head) cs ws more disks is free_name later (subst (λ n. FailsMaking n disks later) named fails)

      module _ (bytes : List ℕ) (fresh device : List DiskFile) (is_fresh : fresh ≡ fresh_file_at (name_of head) disks)
          (made : (c : Content) × IsFlush (part_of head) cs logged (length (ws ∷ more)) c × All IsShortWrite c.entries × (component_bytes c ≡ bytes))
          (moments : IfTold fresh (LeavesAt (IsShutOr None)) → LeavesOnly (IsShutOrWhole None bytes) fresh device) where
        first : fresh ≡ fresh_file_at (made_name cs (ws ∷ more)) disks
        first = is_fresh ∙ ap (λ n. fresh_file_at n disks) named

        written : LeavesOnly (IsShutOrWhole None (component_bytes made.0)) (fresh_file_at (made_name cs (ws ∷ more)) disks) device
        written =
            subst (λ ds. LeavesOnly (IsShutOrWhole None (component_bytes made.0)) ds device) first
            (subst (λ b. LeavesOnly (IsShutOrWhole None b) fresh device) (sym made.3)
            (moments (subst (λ ds. IfTold ds (LeavesAt (IsShutOr None))) (sym first) (shut_at_first (part_of head) cs ws more disks is free_name))))

        now : IfTold disks (λ disk. IsDeviceNow (part_of head) cs (ws ∷ more) device)
        now = device_now (part_of head) cs ws more made.0 made.1 made.2 disks device is.kept free_name written

        pub home_kept : (later : List Disk) → later ≡ comes_home (name_of head) (λ f. home f) device (makes (name_of head) disks) → IsKeptBehind (part_of head) cs (ws ∷ more) disks later
        home_kept later came = home_again (part_of head) cs ws more disks is free_name device now later (came ∙ ap (λ n. comes_home n (λ f. home f) device (makes n disks)) named)

        named_still : (later : List Disk) → later ≡ comes_home (name_of head) frozen_entry device (makes (name_of head) disks) → later ≡ comes_home (made_name cs (ws ∷ more)) frozen_entry device (makes (made_name cs (ws ∷ more)) disks)
        named_still later came = came ∙ ap (λ n. comes_home n frozen_entry device (makes n disks)) named

        pub still_kept : IfTold device IsSettled → (later : List Disk) → later ≡ comes_home (name_of head) frozen_entry device (makes (name_of head) disks) → IsKeptBehind (part_of head) cs (ws ∷ more) disks later
        still_kept settled later came = still_behind (part_of head) cs ws more disks is free_name device now settled later (named_still later came)

        pub ends_kept : (Whole : Type 0) (later : List Disk) → (Whole → IfTold device IsSettled) → EndsHome Whole (name_of head) device (makes (name_of head) disks) later → IsKeptBehind (part_of head) cs (ws ∷ more) disks later
        ends_kept Whole later settled (inl (whole, inl came)) = still_kept (settled whole) later came
        ends_kept Whole later settled (inl (whole, inr came)) = home_kept later came
        ends_kept Whole later settled (inr came) = home_kept later came

        -- ---- the component

        head_is : head_of made.0 ≡ head
        head_is =
            ap (λ (p : Partition). record { number = p.number; count = p.count; from = made.0.from; to = made.0.to }) made.1.goes_on.here
            ∙ ap (λ n. record { number = head.number; count = head.count; from = n; to = made.0.to }) (made.1.goes_on.next ∙ sym from)
            ∙ ap (λ n. record { number = head.number; count = head.count; from = head.from; to = n }) (made.1.to ∙ sym to)

        -- what is so of the bytes of a content that goes on behind the list is so where the store tells its files
        pub made_sound : (size : ℕ) (P : Type 0) → size < 2 ^ 63 → IfTold device (λ f. size ≡ length f.content) → IfTold device (λ f. f ≡ settled_file bytes)
            → IfSome (content_now device) (λ whole. (c : Content) → IsComponent c whole → head_of c ≡ head → Extends c.names (names_of cs) → P) → IfTold disks (λ disk. P)
        made_sound size P fits told whole sound =
            let has = whole_now (part_of head) cs ws more made.0 made.1 made.2 device size fits told (subst (λ b. IfTold device (λ f. f ≡ settled_file b)) (sym made.3) whole) in
            told_map (λ disk. IsDeviceNow (part_of head) cs (ws ∷ more) device) (λ disk. P) disks (λ disk n.
            subst (λ ds. IfSome (content_now ds) (λ whole. (c : Content) → IsComponent c whole → head_of c ≡ head → Extends c.names (names_of cs) → P)) n.is sound made.0
            (subst (λ ds. IfTold ds (λ f. IsComponent made.0 f.content)) n.is has) head_is made.1.goes_on.extends) now

        -- ---- it is listed

        module _ {F : Type 0} (content : F → Option (List ℕ)) (name : F → FileName) (old new : List (ComponentState F)) (loaded : AllZip (IsLoadedOf content) old cs)
            (size : ℕ) (fits : size < 2 ^ 63) (told : IfTold device (λ f. size ≡ length f.content)) (settled : IfTold device IsSettled) (whole : IfTold device (λ f. f ≡ settled_file bytes)) where
          has_whole : IfTold device (λ f. IsComponent made.0 f.content)
          has_whole = whole_now (part_of head) cs ws more made.0 made.1 made.2 device size fits told (subst (λ b. IfTold device (λ f. f ≡ settled_file b)) (sym made.3) whole)

          loaded_of : (device_name : FileName) (m : ComponentState F) → IsReadBack content name head device_name device m → (f : DiskFile) (past : List DiskFile) → device ≡ f ∷ past → IsLoadedOf content m made.0
          loaded_of device_name m read f past same =
              subst (λ ds. IfSome (content_now ds) (λ bytes. (of : Content) → IsComponent of bytes → head_of of ≡ head → IsLoadedOf content m of)) same read.loaded made.0
              (subst (λ ds. IfTold ds (λ f. IsComponent made.0 f.content)) same has_whole) head_is

          each_loaded : (later : List Disk) → AllZip (IsLoadedOf content) new (cs ++ made.0 ∷ []) → IfTold later (λ disk. AllZip (IsLoadedOf content) new (cs ++ made.0 ∷ []))
          each_loaded [] all = tt
          each_loaded (disk ∷ past) all = all

          all_loaded : (device_name : FileName) (later : List Disk) → IsListed (IsReadBack content name head device_name device) (FitsBehind old) (behind old) new → later ≡ comes_home (name_of head) frozen_entry device (makes (name_of head) disks)
              → (ds : List Disk) → disks ≡ ds → IfTold ds (λ disk. IsDeviceNow (part_of head) cs (ws ∷ more) device) → IfTold later (λ disk. AllZip (IsLoadedOf content) new (cs ++ made.0 ∷ []))
          all_loaded device_name later listed came [] same n =
              subst (λ ds. IfTold ds (λ disk. AllZip (IsLoadedOf content) new (cs ++ made.0 ∷ []))) (sym (came ∙ ap (λ ds. comes_home (name_of head) frozen_entry device (makes (name_of head) ds)) same ∙ comes_untold (name_of head) frozen_entry device)) tt
          all_loaded device_name later listed came (disk ∷ past) same n =
              each_loaded later
              (subst (λ list. AllZip (IsLoadedOf content) list (cs ++ made.0 ∷ [])) (sym listed.listed) (loaded_behind content old cs listed.component made.0 loaded (loaded_of device_name listed.component listed.made n.now n.past n.is)))

          pub is_flushed : (device_name : FileName) (later : List Disk) → IsListed (IsReadBack content name head device_name device) (FitsBehind old) (behind old) new
              → later ≡ comes_home (name_of head) frozen_entry device (makes (name_of head) disks) → IsLogsFlushed content head cs (ws ∷ more) new later
          is_flushed device_name later listed came = record {
            made = made.0;
            is_flush = made.1;
            loaded = all_loaded device_name later listed came disks refl now;
            stored = listed_stored (part_of head) cs ws more made.0 made.1;
            opening = opened_with (part_of head) cs ws more disks is free_name device now made.0 made.1 settled has_whole later (named_still later came);
          }

-- ---- what the calls of a flush of logs answer, put together

-- what follows where a call succeeded, and where it did not
pub in_both : {X E : Type 0} (r : Result X E) (P Q R : Type 0) → (P → R) → (Q → R) → OnOk r P → OnErr r Q → R
in_both (Ok done) P Q R f h p q = f p
in_both (Err fault) P Q R f h p q = h q

pub in_err : {X E : Type 0} (r : Result X E) (P Q : Type 0) → Q → OnErr r P → OnErr r (P × Q)
in_err (Ok done) P Q q p = tt
in_err (Err fault) P Q q p = (p, q)

-- a device that tells came home
pub given_up : (head : Head) (disks later : List Disk) (device : List DiskFile) (Whole : Type 0) → IfTold disks (λ disk. IsTold device) → EndsHome Whole (name_of head) device (makes (name_of head) disks) later → IsFlushGivenUp head disks later
given_up head disks later device Whole tells (inl back) = inr (device, tells, back.1)
given_up head disks later device Whole tells (inr is) = inr (device, tells, inr is)

-- what follows in either case of a job, where it follows of itself from a failure
pub either_way : {E : Type 0} (o : Result (Unit {0}) E) (P : Type 0) → (IsOk o → P) → IfErr o (λ cause. P) → P
either_way (Ok done) P ended failed = ended refl
either_way (Err cause) P ended failed = failed

-- damage of which more is known
pub harmed_then : {X : Type 0} (P Q : Damage → Type 0) → ((damage : Damage) → P damage → Q damage) → (r : Result X JobFault) → IfDamaged r P → IfDamaged r Q
harmed_then P Q more (Ok x) harmed = tt
harmed_then P Q more (Err job.Disk) harmed = tt
harmed_then P Q more (Err (job.Damaged damage)) harmed = more damage harmed
harmed_then P Q more (Err job.Memory) harmed = tt

module _ {F : Type 0} (content : F → Option (List ℕ)) (head : Head) (old : List (ComponentState F)) (logs : List (List log.Write)) (disks : List Disk)
    (some : 0 < length logs) (from : head.from ≡ listed_after 0 old + 1) (to : head.to ≡ listed_after 0 old + length logs) (free : IfTold disks (λ disk. IsThere (disk (name_of head)) → ⊥)) where
  begins : (cs : List Content) → AllZip (IsLoadedOf content) old cs → head.from ≡ last_of cs + 1
  begins cs loaded = from ∙ ap (λ n. n + 1) (last_loaded content 0 old cs loaded)

  ends : (cs : List Content) (ws : List (List Write)) → AllZip (IsLoadedOf content) old cs → logs ≡ map (λ log. map kept_write log) ws → head.to ≡ last_of cs + length ws
  ends cs ws loaded same = omega (arith, to, last_loaded content 0 old cs loaded, ap (λ (ls : List (List log.Write)). length ls) same, length-map ws (λ (log : List Write). map kept_write log))

  none_of : (ws : List (List Write)) → logs ≡ map (λ log. map kept_write log) ws → ws ≡ [] → ⊥
  none_of ws same none = no_logs logs ws some same none

  -- where no device was made
  pub unmade_kept : (later : List Disk) → FailsMaking (name_of head) disks later
      → (cs : List Content) (ws : List (List Write)) → IsOpening (part_of head) cs ws disks → AllZip (IsLoadedOf content) old cs → logs ≡ map (λ log. map kept_write log) ws → IsKeptBehind (part_of head) cs ws disks later
  unmade_kept later fails cs [] is loaded same = absurd (none_of [] same refl)
  unmade_kept later fails cs (w ∷ more) is loaded same = begun_not head cs w more disks is (begins cs loaded) (ends cs (w ∷ more) loaded same) free later fails

  module _ (names : List Name) (schema : Counted) (kept : memory.Table) (bytes : Table → List ℕ) (fresh device : List DiskFile) (last : head.to < 2 ^ 63)
      (same_names : (cs : List Content) → AllZip (λ (m : ComponentState F) c. IsIndexOf m.index c) old cs → names ≡ names_of cs)
      (same_schema : (cs : List Content) → AllZip (λ (m : ComponentState F) c. IsIndexOf m.index c) old cs → schema ≡ schema_of cs)
      (is_table : (part : Partition) (cs : List Content) (ws : List (List Write)) → IsList part cs → AllZip (IsLoadedOf content) old cs → logs ≡ map (λ log. map kept_write log) ws → All IsStorableWrite (all_writes ws) → IsTableOf (table_over (live cs) (all_writes ws)) kept)
      (is_fresh : fresh ≡ fresh_file_at (name_of head) disks)
      (flushed : (cs : List Content) (t : Table) (generations : ℕ) → IsBehind cs t generations head names schema kept → (c : Content) × IsFlush (part_of head) cs t generations c × All IsShortWrite c.entries × (component_bytes c ≡ bytes t))
      (moments : (before : Image) (t : Table) → IsTableOf t kept → IfTold fresh (LeavesAt (IsShutOr before)) → LeavesOnly (IsShutOrWhole before (bytes t)) fresh device) where
    module _ (cs : List Content) (w : List Write) (more : List (List Write)) (is : IsOpening (part_of head) cs (w ∷ more) disks) (loaded : AllZip (IsLoadedOf content) old cs) (same : logs ≡ map (λ log. map kept_write log) (w ∷ more)) where
      table : IsTableOf (logged head cs w more disks is) kept
      table = is_table (part_of head) cs (w ∷ more) is.memory.list loaded same (storable head cs w more disks is)

      made : (c : Content) × IsFlush (part_of head) cs (logged head cs w more disks is) (length (w ∷ more)) c × All IsShortWrite c.entries × (component_bytes c ≡ bytes (logged head cs w more disks is))
      made = flushed cs (logged head cs w more disks is) (length (w ∷ more))
          (lies_behind head cs w more disks is (begins cs loaded) (ends cs (w ∷ more) loaded same) names schema kept last (same_names cs (indices content old cs loaded)) (same_schema cs (indices content old cs loaded)) table)

      kept_of : (Whole : Type 0) (later : List Disk) → (Whole → IfTold device IsSettled) → EndsHome Whole (name_of head) device (makes (name_of head) disks) later → IsKeptBehind (part_of head) cs (w ∷ more) disks later
      kept_of Whole later settled ended = ends_kept head cs w more disks is (begins cs loaded) (ends cs (w ∷ more) loaded same) free (bytes (logged head cs w more disks is)) fresh device is_fresh made (moments None (logged head cs w more disks is) table) Whole later settled ended

    -- however its device came home
    pub home_kept_so : (Whole : Type 0) (later : List Disk) → (Whole → IfTold device IsSettled) → EndsHome Whole (name_of head) device (makes (name_of head) disks) later
        → (cs : List Content) (ws : List (List Write)) → IsOpening (part_of head) cs ws disks → AllZip (IsLoadedOf content) old cs → logs ≡ map (λ log. map kept_write log) ws → IsKeptBehind (part_of head) cs ws disks later
    home_kept_so Whole later settled ended cs [] is loaded same = absurd (none_of [] same refl)
    home_kept_so Whole later settled ended cs (w ∷ more) is loaded same = kept_of cs w more is loaded same Whole later settled ended

    -- and where its component is listed
    pub flushed_so : (name : F → FileName) (device_name : FileName) (new : List (ComponentState F)) (later : List Disk) (size : ℕ) → size < 2 ^ 63 → IfTold device (λ f. size ≡ length f.content) → IfTold device IsSettled
        → ((t : Table) → IsTableOf t kept → IfTold device (λ f. f ≡ settled_file (bytes t))) → IsListed (IsReadBack content name head device_name device) (FitsBehind old) (behind old) new
        → later ≡ comes_home (name_of head) frozen_entry device (makes (name_of head) disks)
        → (cs : List Content) (ws : List (List Write)) → IsOpening (part_of head) cs ws disks → AllZip (IsLoadedOf content) old cs → logs ≡ map (λ log. map kept_write log) ws → IsLogsFlushed content head cs ws new later
    flushed_so name device_name new later size fits told settled whole listed came cs [] is loaded same = absurd (none_of [] same refl)
    flushed_so name device_name new later size fits told settled whole listed came cs (w ∷ more) is loaded same =
        is_flushed head cs w more disks is (begins cs loaded) (ends cs (w ∷ more) loaded same) free (bytes (logged head cs w more disks is)) fresh device is_fresh (made cs w more is loaded same)
        (moments None (logged head cs w more disks is) (table cs w more is loaded same)) content name old new loaded size fits told settled (whole (logged head cs w more disks is) (table cs w more is loaded same)) device_name later listed came

    -- or read back
    pub sound_so : (P : Type 0) (size : ℕ) → size < 2 ^ 63 → IfTold device (λ f. size ≡ length f.content) → ((t : Table) → IsTableOf t kept → IfTold device (λ f. f ≡ settled_file (bytes t)))
        → IfSome (content_now device) (λ whole. (c : Content) → IsComponent c whole → head_of c ≡ head → Extends c.names names → P)
        → (cs : List Content) (ws : List (List Write)) → IsOpening (part_of head) cs ws disks → AllZip (IsLoadedOf content) old cs → logs ≡ map (λ log. map kept_write log) ws → IfTold disks (λ disk. P)
    sound_so P size fits told whole sound cs [] is loaded same = absurd (none_of [] same refl)
    sound_so P size fits told whole sound cs (w ∷ more) is loaded same =
        made_sound head cs w more disks is (begins cs loaded) (ends cs (w ∷ more) loaded same) free (bytes (logged head cs w more disks is)) fresh device is_fresh (made cs w more is loaded same)
        (moments None (logged head cs w more disks is) (table cs w more is loaded same)) size P fits told (whole (logged head cs w more disks is) (table cs w more is loaded same))
        (subst (λ ns. IfSome (content_now device) (λ whole. (c : Content) → IsComponent c whole → head_of c ≡ head → Extends c.names ns → P)) (same_names cs (indices content old cs loaded)) sound)
