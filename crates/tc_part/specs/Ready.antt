-- What holds of every part, whatever its files are.
use Rattle.std.specs.Prelude.{◌≡◌, ◌<◌, ◌+◌, ◌-◌, ◌^◌, ℕ, Bool, true, false, List, length, All, Option, is_some, not, IfSome}
use Rattle.tc_store.specs.declared.file_name.FileName.{FileName}
use Rattle.tc_store.specs.declared.file_name.FileName.TheVariants.{Log}
use Rattle.tc_log.specs.declared.write.Write.{Write}
use Rattle.tc_log.specs.Appending.{LogState}
use Rattle.tc_component.specs.Loading.{ComponentState}
use Rattle.tc_component.specs.Spelling.{name_of}
use Rattle.tc_list.specs.Intervals.{last_of}
use Rattle.tc_list.specs.declared.run.Run.{Run}
use Rattle.tc_jobs.specs.Lists.{IsListOf}
use Rattle.tc_part_model.specs.PartState.{AreForFrame}

-- the generation of the active table: behind the listed components, and behind the sealed table, if there is one
abbrev pub active_generation : {F : Type 0} → List (ComponentState F) → Bool → ℕ
active_generation list false = last_of list + 1
active_generation list true = last_of list + 2

-- each file has the name of its component
abbrev pub AreNamed : {F : Type 0} → (F → FileName) → List (ComponentState F) → Type 0
AreNamed file_name list = All (λ c. file_name c.file ≡ name_of c.index.head) list

-- two neighbours or more in a list
abbrev pub LiesIn : {F : Type 0} → List (ComponentState F) → Run → Type 0
LiesIn list run = (run.first < run.last) × (run.last < length list)

-- The logs have the names of their generations, and the files those of their components, which are of this partition. A
-- merge is out exactly where its watch is, and its run is listed. Where the part has not failed, neither have its logs, the
-- generations follow each other, a table is sealed exactly where a log is, and no flush is out of nothing.
pub record IsReady {D F W T : Type 0} (name : D → FileName) (file_name : F → FileName) (number count : ℕ) (list : List (ComponentState F)) (staged : List Write) (writes generation : ℕ) (failed : Bool) (sealed : Option T) (log : LogState D)
    (sealed_log : Option (LogState D)) (flusher : Option W) (merger : Option W) (merging : Option Run) : Type 0 where
  pub frame : AreForFrame staged
  pub few_writes : writes < 2 ^ 63
  pub first : 0 < generation
  pub last : generation < 2 ^ 63
  pub log_name : name log.device ≡ Log generation
  pub sealed_name : IfSome sealed_log (λ l. name l.device ≡ Log (generation - 1))
  pub log_sound : failed ≡ false → log.failed ≡ false
  pub sealed_sound : failed ≡ false → IfSome sealed_log (λ l. l.failed ≡ false)
  pub merge : is_some merging ≡ not (is_some merger)
  pub listed : IsListOf number count list
  pub named : AreNamed file_name list
  pub run : IfSome merging (LiesIn list)
  pub behind : failed ≡ false → generation ≡ active_generation list (is_some sealed)
  pub sealed_both : failed ≡ false → is_some sealed_log ≡ is_some sealed
  pub flush : failed ≡ false → is_some flusher ≡ false → is_some sealed ≡ true
