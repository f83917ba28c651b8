-- A part whose log has no frame: its active table is empty, and what it stores is in its components.
use Rattle.std.proofs.Common.{◌≡◌, ◌∙◌, ◌≤◌, ℕ, List, [], ◌∷◌, ◌++◌, Option, Some, None, is_some, option_map, length, map, false, refl, sym, ap, subst, arith, length-append}
use Rattle.std.specs.Prelude.{flat_map}
use Rattle.std.proofs.lemmas.Bool.{true≢false}
use Rattle.tc_store.specs.Disk.{Disk}
use Rattle.tc_store.specs.DiskFile.{DiskFile}
use Rattle.tc_store.specs.Images.{IsImageOf}
use Rattle.tc_store.specs.Moments.{IfTold}
use Rattle.tc_log.specs.declared.head.LogHead.{LogHead}
use Rattle.tc_log.specs.declared.write.Write as log
use Rattle.tc_log.specs.Appending.{LogState}
use Rattle.tc_log.specs.Layout.{empty_size}
use Rattle.tc_log.specs.Spelling.{frame_bytes, head_bytes, log_bytes, writes_of, Means}
use Rattle.tc_memory.specs.DocumentTables.{kept_table}
use Rattle.tc_memory.specs.Table as memory
use Rattle.tc_lsm_model.specs.Lists.{live}
use Rattle.tc_lsm_model.specs.Tables.{Table, table_over}
use Rattle.tc_machine.specs.Logs.{all_writes, kept_write}
use Rattle.tc_machine.specs.State.{Sealed, below_active, logs, sealed_logs, table_after}
use Rattle.tc_plain_model.specs.Writes.{Write, after_writes}
use Rattle.tc_part.specs.Closing.{logs_length}
use Rattle.tc_part_model.specs.Leaving.{OpensAs}
use Rattle.tc_part_model.specs.Meaning.{IsPart, KeepsSealed}
use Rattle.tc_part_model.specs.PartFiles.{AreKeptAt, IfFiles}
use Rattle.tc_part_model.specs.PartState.{AreTold, IsTold, Told}
use Rattle.tc_part_model.specs.PartView.{PartView, below_of, state_of, store_of}
use Rattle.tc_part_model.proofs.Commits.{means_now}
use Rattle.tc_part_model.proofs.DeviceFiles.{some_sealed}
use Rattle.tc_work.proofs.Windows.{none_mapped, none_staged_in}

-- ---- a log that is no longer than one without a frame

no_frames : (head : LogHead) (frames : List (List log.Write)) (rest content : List ℕ) → content ≡ log_bytes head frames ++ rest → length content ≤ empty_size → frames ≡ []
no_frames head [] rest content spelled short = refl
no_frames head (ws ∷ frames) rest content spelled short =
    absurd (omega (arith, ap length spelled, length-append (log_bytes head (ws ∷ frames)) rest, length-append (head_bytes head) (flat_map frame_bytes (ws ∷ frames)), length-append (frame_bytes ws) (flat_map frame_bytes frames), short))

no_writes : (head : LogHead) (writes : List log.Write) (content : List ℕ) → Means content head writes → length content ≤ empty_size → writes ≡ []
no_writes head writes content is short = is.all_are ∙ ap writes_of (no_frames head is.frames is.spells.rest content is.spells.spelled short)

unwritten_at : (p : PartView) (disk : Disk) (f g : DiskFile) → AreKeptAt p false None disk f g → IsImageOf f f.content → length f.content ≤ empty_size → p.active.writes ≡ []
unwritten_at p disk f g k stays short = none_mapped kept_write p.active.writes (sym (no_writes _ (map kept_write p.active.writes) f.content (means_now p disk f g k stays) short))

-- so no write was made since the last seal, where the files are told
pub unwritten : (t : Told) (p : PartView) (size : ℕ) → IsPart t p → IsTold t.disks → IfTold t.log (λ f. size ≡ length f.content) → IfTold t.log (λ f. IsImageOf f f.content) → size ≤ empty_size → p.active.writes ≡ []
unwritten t p size is tells sized stays short = at t.disks t.log tells is.tells.active sized stays is.files.kept
  where
    at : (disks : List Disk) (log : List DiskFile) → IsTold disks → IfTold disks (λ disk. IsTold log) → IfTold log (λ f. size ≡ length f.content) → IfTold log (λ f. IsImageOf f f.content) → IfFiles disks log t.sealed_log (AreKeptAt p false None) → p.active.writes ≡ []
    at [] log told active sized stays kept = absurd told
    at (disk ∷ before) [] told active sized stays kept = absurd active
    at (disk ∷ before) (f ∷ past) told active sized stays kept = let any = some_sealed t.sealed_log in unwritten_at p disk f any.0 (kept any.0 any.1) stays (omega (arith, sized, short))

-- ---- what is left

pub none_active : (t : Told) (p : PartView) → IsPart t p → AreTold t.components → t.staged ≡ [] → p.active.writes ≡ [] → t.active ≡ []
none_active t p is told staged none =
    let empty : p.active.table ≡ [] = is.memory.active ∙ ap (λ (ws : List Write). table_over (below_active (state_of p)) ws) none in
    is.view.active.shapes told
    ∙ ap (λ (table : Table). kept_table (table_after (below_of p) table p.staged)) empty
    ∙ ap (λ (ws : List Write). kept_table (table_after (below_of p) [] ws)) (none_staged_in t p is staged)

none_sealed : (are_told : Type 0) (o : Option Sealed) (kept : Option memory.Table) → KeepsSealed are_told o kept → kept ≡ None → o ≡ None
none_sealed are_told None kept keeps none = refl
none_sealed are_told (Some d) None keeps none = absurd keeps
none_sealed are_told (Some d) (Some kept) keeps none = absurd (cc)

pub all_listed : (t : Told) (p : PartView) → IsPart t p → t.sealed ≡ None → p.active.writes ≡ [] → store_of p ≡ live p.list
all_listed t p is sealed none =
    ap (λ (o : Option Sealed). after_writes (live p.list) (all_writes (sealed_logs o ++ p.active.writes ∷ []))) (none_sealed (AreTold t.components) p.sealed t.sealed is.view.sealed sealed)
    ∙ ap (λ (ws : List Write). after_writes (live p.list) (all_writes (ws ∷ []))) none

-- where no table is sealed there is one log, which is as long as its device is
pub one_log_opens : {D : Type 0} (t : Told) (p : PartView) (size : D → ℕ) (moments : D → List DiskFile) (log : LogState D) (covered : Option (LogState D)) (disks : List Disk) → IsPart t p → t.sealed ≡ None
    → t.sealed_log ≡ option_map (λ l. moments l.device) covered → IfTold disks (OpensAs p.part p.list (logs (state_of p)) (logs_length size log covered)) → IfTold disks (OpensAs p.part p.list (p.active.writes ∷ []) (size log.device))
one_log_opens t p size moments log None disks is none same opens =
    subst (λ (o : Option Sealed). IfTold disks (OpensAs p.part p.list (sealed_logs o ++ p.active.writes ∷ []) (size log.device))) (none_sealed (AreTold t.components) p.sealed t.sealed is.view.sealed none) opens
one_log_opens t p size moments log (Some l) disks is none same opens =
    absurd (true≢false (sym (ap (λ o. is_some o) same) ∙ is.view.sealed_log ∙ ap (λ (o : Option Sealed). is_some o) (none_sealed (AreTold t.components) p.sealed t.sealed is.view.sealed none)))
