-- What a window over all engines promises of each of them.
use Rattle.std.specs.Prelude.{◌≡◌, ◌<◌, false, List, All, length, map, zip, Result}
use Rattle.tc_model.specs.Keyed.{Keyed, on_value, values_in}
use Rattle.tc_request_model.specs.Rendered.{rendered, Rendered}
use Rattle.tc_request_model.specs.Request.{Request}
use Rattle.tc_run_model.specs.World.{World}
use Rattle.tc_log.specs.declared.write.Write.{Write}
use Rattle.tc_part.specs.FilesOut.{LogIsOut, OnlyDevicesOut}
use Rattle.tc_route.specs.Answers.{window_answered}
use Rattle.tc_route.specs.Shares.{share}
use Rattle.tc_work.specs.Asked.{most_writes}
use Rattle.tc_work.specs.Moving.{told_part, Eyes}
use Rattle.tc_work.specs.Reads.{live_in, most_reads, IsCountedWithin}
use Rattle.tc_work.specs.Settling.{MaySettle}
use Rattle.tc_keeper.specs.EngineFaults.{IfOf, IsDiskOf, StopsFirst}
use Rattle.tc_keeper.specs.Places.{AtEach}
use Rattle.tc_work.specs.Committed.{HasFramed}
use Rattle.tc_keeper.specs.Running.{HasOnlyRun, RanMoments}
use Rattle.tc_keeper.specs.WithJobs.{told_of, WithJobs}
use Rattle.tc_keeper.specs.declared.engines_fault.EnginesFault.{EnginesFault}

-- what the world answers to a window, each reply at the place of its command and as the text that shows it
abbrev pub window_rendered : Keyed Request → World → Keyed Rendered
window_rendered window w = map (on_value rendered) (window_answered window w)

-- Only what a window writes has changed, and the jobs that are out stay. No file is out but those of each part's devices. At each
-- moment of the call a stop leaves of each partition what is stored, without the writes of its share or with them.
pub record HaveRun {S D F W : Type 0} (eyes : Eyes S D F W) (window : Keyed Request) (old new : List (WithJobs S D F W)) : Type 0 where
  pub same : AtEach (λ p e f. HasOnlyRun e.engine.part f.engine.part × (f.engine.policy ≡ e.engine.policy) × (f.jobs ≡ e.jobs)) 0 old new
  pub devices : AtEach (λ p e f. OnlyDevicesOut (told_of eyes e) → OnlyDevicesOut (told_of eyes f)) 0 old new
  pub moments : AtEach (λ p e f. RanMoments (told_part eyes) eyes.history (share (length old) p window) e.engine f.engine) 0 old new

-- Each engine may run on: none has failed, each has its files and its log as before, and the log stays where its share only reads.
pub record MayRunOn {S D F W : Type 0} (eyes : Eyes S D F W) (window : Keyed Request) (old new : List (WithJobs S D F W)) : Type 0 where
  pub sound : All (λ e. e.engine.part.failed ≡ false) new
  pub ready : AtEach (λ p e f. MaySettle (told_of eyes e) → MaySettle (told_of eyes f)) 0 old new
  pub looked_up : AtEach (λ p e f. most_writes (values_in (share (length old) p window)) ≡ 0 → f.engine.part.log ≡ e.engine.part.log) 0 old new
  pub log_out : AtEach (λ p e f. LogIsOut (told_of eyes e) → LogIsOut (told_of eyes f)) 0 old new

-- each has the frame at its place, with the writes of its share
abbrev pub AreFramed : {S D F W X : Type 0} → Eyes S D F W → Keyed Request → List (WithJobs S D F W) → List (WithJobs S D F W) → (X → List Write) → List X → Type 0
AreFramed eyes window old new writes frames = AtEach (λ p run frame. HasFramed eyes (share (length old) p window) run.0.engine run.1.engine (writes frame)) 0 (zip old new) frames

-- the fault is that of an engine which failed, and no engine of a lower partition did
abbrev pub FailsFirst : {S D F W : Type 0} → Eyes S D F W → Keyed Request → List (WithJobs S D F W) → List (WithJobs S D F W) → EnginesFault → Type 0
FailsFirst eyes window old new fault =
    IfOf fault (λ p why. (p < length old) × AtEach (λ q e f. StopsFirst (told_part eyes) eyes.content p why q (share (length old) q window) e.engine f.engine) 0 old new)

-- each read no more than its share asks for, and counted a fault where the call ended by one of its disk
abbrev pub AreCountedWithin : {S D F W A : Type 0} → Eyes S D F W → Keyed Request → List (WithJobs S D F W) → List (WithJobs S D F W) → Result A EnginesFault → Type 0
AreCountedWithin eyes window old new result =
    AtEach (λ p e f. IsCountedWithin (most_reads (live_in e.engine.part) (values_in (share (length old) p window))) (IsDiskOf p result) (eyes.counts e.engine.part.main) (eyes.counts f.engine.part.main)) 0 old new
