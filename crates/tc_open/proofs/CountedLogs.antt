-- The table that the logs of an opening make can be flushed over its components.
use Rattle.std.proofs.Common.{◌≡◌, ◌∙◌, ◌<◌, ℕ, List, [], ◌∷◌, Option, length, map, refl, sym, ap, subst, arith}
use Rattle.std.specs.Prelude.{All, IsSome, Result, Err}
use Rattle.std.specs.List.{AllZip}
use Rattle.std.proofs.lemmas.List.Elements.{All-cons, All-nil, All-weaker}
use Rattle.tc_log.specs.declared.write.Write as log
use Rattle.tc_plain_model.specs.Writes.{Write}
use Rattle.tc_store.specs.declared.damage.Damage.{Damage}
use Rattle.tc_store.specs.Disk.{Disk}
use Rattle.tc_component.specs.Loaded.{IsLoadedOf}
use Rattle.tc_component.specs.Loading.{ComponentState}
use Rattle.tc_component.specs.Rows.{IsShortWrite}
use Rattle.tc_lsm_model.specs.Contents.{Content, Partition}
use Rattle.tc_lsm_model.specs.Lists.{live, names_of, schema_of}
use Rattle.tc_lsm_model.specs.Tables.{over, shape_in, table_over}
use Rattle.tc_lsm_model.proofs.ListLaws.{Ascends-live}
use Rattle.tc_lsm_model.proofs.TableLaws.{over-table_over}
use Rattle.tc_memory.specs.DocumentTables.{IsTableOf}
use Rattle.tc_memory.specs.Table as memory
use Rattle.tc_machine.specs.Kept.{IsMemoryKept}
use Rattle.tc_machine.specs.Logs.{all_writes, kept_write}
use Rattle.tc_machine.specs.Writes.{HasRoom, IsStorableWrite}
use Rattle.tc_machine.proofs.Holding.{sealed_shapes}
use Rattle.tc_machine.proofs.MemorySteps.{opened_logs}
use Rattle.tc_flush.specs.Counting.{IsCounted}
use Rattle.tc_flush.specs.Flushable.{IsShortRecord}
use Rattle.tc_part_model.specs.Meaning.{IsOfContent}
use Rattle.tc_part_model.specs.PartState.{AreTold, ToldComponent, told_component}
use Rattle.tc_part_model.specs.PartView.{no_files}
use Rattle.tc_part_model.proofs.LoadedComponents.{is_of}
use Rattle.tc_part_model.proofs.SealedInputs.{Counts}
use Rattle.tc_part_model.proofs.ShortDocuments.{live_short, table_short}
use Rattle.tc_jobs.specs.declared.fault.JobFault.{JobFault}
use Rattle.tc_jobs.specs.declared.fault.JobFault.TheVariants as job
use Rattle.tc_jobs.specs.Faults.{IfDamaged}
use Rattle.tc_open.specs.BeingOpened.{IsOpening, opening_at}
use Rattle.tc_open.proofs.OpeningPictures.{stored_opening}

-- ---- components that were loaded

module _ {F : Type 0} (content : F → Option (List ℕ)) where
  pub loaded_are : (list : List (ComponentState F)) (cs : List Content) → AllZip (IsLoadedOf content) list cs → AllZip IsOfContent (map (told_component content) list) cs
  loaded_are [] [] all = tt
  loaded_are [] (c ∷ cs) all = absurd all
  loaded_are (m ∷ list) [] all = absurd all
  loaded_are (m ∷ list) (c ∷ cs) all = (is_of content m c all.0, loaded_are list cs all.1)

  pub loaded_tell : (list : List (ComponentState F)) (cs : List Content) → AllZip (IsLoadedOf content) list cs → AreTold (map (told_component content) list)
  loaded_tell [] cs all = All-nil (λ (c : ToldComponent). IsSome c.content)
  loaded_tell (m ∷ list) [] all = absurd all
  loaded_tell (m ∷ list) (c ∷ cs) all = All-cons (λ (d : ToldComponent). IsSome d.content) (told_component content m) (map (told_component content) list) (subst (λ o. IsSome o) (sym all.0.tells) refl) (loaded_tell list cs all.1)

  -- ---- the table over them

  pub logs_counted : Counts → (part : Partition) (list : List (ComponentState F)) (cs : List Content) (ws : List Write) (more : List (List Write)) (kept : memory.Table) → IsMemoryKept part (opening_at cs (ws ∷ more) no_files) → AllZip (IsLoadedOf content) list cs
      → memory.IsTable kept → IsTableOf (table_over (live cs) (all_writes (ws ∷ more))) kept → IsCounted (names_of cs) (schema_of cs) kept
  logs_counted counts part list cs ws more kept memory loaded lawful of =
      let written = all_writes (ws ∷ more) in
      let storable : All IsStorableWrite written = subst (λ ls. All IsStorableWrite (all_writes ls)) (opened_logs [] cs (ws ∷ more)) memory.writes in
      let short = All-weaker IsStorableWrite IsShortWrite (λ w s. s.short) written storable in
      let room : HasRoom (over (live cs) (table_over (live cs) written)) = subst (λ ps. HasRoom ps) (stored_opening cs (ws ∷ more) no_files ∙ sym (over-table_over (live cs) written (Ascends-live cs))) memory.room in
      counts part cs (table_over (live cs) written) kept memory.list lawful of (sealed_shapes memory) (live_short (map (told_component content) list) cs (loaded_are list cs loaded) (loaded_tell list cs loaded)) (table_short (shape_in (live cs)) [] written short (All-nil IsShortRecord))
      room memory.few

  -- so it is of all logs that are there
  pub all_counted : Counts → (part : Partition) (list : List (ComponentState F)) (cs : List Content) (ws : List (List Write)) (disks : List Disk) (kept : memory.Table) → (ws ≡ [] → ⊥) → IsOpening part cs ws disks → AllZip (IsLoadedOf content) list cs
      → memory.IsTable kept → (All IsStorableWrite (all_writes ws) → IsTableOf (table_over (live cs) (all_writes ws)) kept) → IsCounted (names_of cs) (schema_of cs) kept
  all_counted counts part list cs [] disks kept some is loaded lawful of = absurd (some refl)
  all_counted counts part list cs (ws ∷ more) disks kept some is loaded lawful of =
      logs_counted counts part list cs ws more kept is.memory loaded lawful (of (subst (λ ls. All IsStorableWrite (all_writes ls)) (opened_logs [] cs (ws ∷ more)) is.memory.writes))

pub no_logs : (logs : List (List log.Write)) (ws : List (List Write)) → 0 < length logs → logs ≡ map (λ log. map kept_write log) ws → ws ≡ [] → ⊥
no_logs logs ws some same none = omega (arith, some, ap (λ (ls : List (List log.Write)). length ls) (same ∙ ap (λ (ls : List (List Write)). map (λ log. map kept_write log) ls) none))

-- ---- the test

-- a fault that is handed on is no damage where the table passes
-- damage of which a call below told two things
pub told_twice : {X Y : Type 0} (r : Result X JobFault) (below : Result Y JobFault) (fault : JobFault) (P Q R : Damage → Type 0) → r ≡ Err fault → below ≡ Err fault → IfDamaged below P → IfDamaged below Q
    → ((damage : Damage) → P damage → Q damage → R damage) → IfDamaged r R
told_twice {X = X} {Y = Y} r below fault P Q R is failed p q so =
    subst (λ (s : Result X JobFault). IfDamaged s R) (sym is)
    (at fault (subst (λ (s : Result Y JobFault). IfDamaged s P) failed p) (subst (λ (s : Result Y JobFault). IfDamaged s Q) failed q))
  where
    at : (f : JobFault) → IfDamaged {X = Y} (Err f) P → IfDamaged {X = Y} (Err f) Q → IfDamaged {X = X} (Err f) R
    at job.Disk p q = tt
    at (job.Damaged damage) p q = so damage p q
    at job.Memory p q = tt

pub counted_sound : {X Y : Type 0} (r : Result X JobFault) (below : Result Y JobFault) (fault : JobFault) (Passes : Type 0) → r ≡ Err fault → below ≡ Err fault → IfDamaged below (λ damage. Passes → ⊥) → Passes → IfDamaged r (λ damage. ⊥)
counted_sound {X = X} {Y = Y} r below fault Passes is failed fails passes =
    subst (λ (s : Result X JobFault). IfDamaged s (λ damage. ⊥)) (sym is) (at fault (subst (λ (s : Result Y JobFault). IfDamaged s (λ damage. Passes → ⊥)) failed fails))
  where
    at : (f : JobFault) → IfDamaged {X = Y} (Err f) (λ damage. Passes → ⊥) → IfDamaged {X = X} (Err f) (λ damage. ⊥)
    at job.Disk fail = tt
    at (job.Damaged damage) fail = fail passes
    at job.Memory fail = tt
