-- An engine with the jobs of it that are out, as contracts see the two beside each other.
use Rattle.std.specs.Prelude.{◌≡◌, ℕ, false, List, [], ◌∷◌, Option, None}
use Rattle.tc_list.specs.declared.policy.Policy.{Policy}
use Rattle.tc_lsm_model.specs.Contents.{Partition}
use Rattle.tc_part.specs.FilesOut.{HoldsDevices}
use Rattle.tc_part_model.specs.PartState.{Told}
use Rattle.tc_part_model.specs.PartView.{PartView}
use Rattle.tc_running.specs.Jobs.{JobsState}
use Rattle.tc_work.specs.EngineState.{EngineState}
use Rattle.tc_work.specs.Moving.{Eyes, beside, told_part, works_by, IsOutBy}
use Rattle.tc_work.specs.Settling.{MaySettle}
use Rattle.tc_keeper.specs.Places.{AtEach}

pub record WithJobs (S D F W : Type 0) : Type 0 where
  pub engine : EngineState S D F W
  pub jobs : JobsState F D W

abbrev pub no_jobs : {F D W : Type 0} → JobsState F D W
no_jobs = record { flush = None; merge = None }

abbrev pub engine_with : {S D F W : Type 0} → EngineState S D F W → JobsState F D W → WithJobs S D F W
engine_with engine jobs = record { engine = engine; jobs = jobs }

-- each engine with the jobs at its place
abbrev pub with_jobs : {S D F W : Type 0} → List (EngineState S D F W) → List (JobsState F D W) → List (WithJobs S D F W)
with_jobs [] jobs = []
with_jobs (e ∷ engines) [] = []
with_jobs (e ∷ engines) (js ∷ jobs) = engine_with e js ∷ with_jobs engines jobs

-- what the part of an engine tells, and for what its jobs work, by the traits of its store
abbrev pub told_of : {S D F W : Type 0} → Eyes S D F W → WithJobs S D F W → Told
told_of eyes e = told_part eyes e.engine.part

abbrev pub works_of : {S D F W : Type 0} → Eyes S D F W → WithJobs S D F W → PartView → Type 0
works_of eyes e = works_by eyes (beside e.engine.part e.jobs)

-- what no call changes of an engine: which partition it is, when a table is sealed, and by which policy components are merged
pub record Settings : Type 0 where
  pub here : Partition
  pub memory : ℕ
  pub policy : Policy

abbrev pub set_as : ℕ → ℕ → ℕ → Policy → Settings
set_as number count memory policy = record { here = record { number = number; count = count }; memory = memory; policy = policy }

abbrev pub settings : {S D F W : Type 0} → WithJobs S D F W → Settings
settings e = set_as e.engine.part.number e.engine.part.count e.engine.part.memory e.engine.policy

-- These are exactly the jobs of the engine that are out, and if it has not failed it has its own files. Whatever they are, none is out
-- but those of its devices.
pub record IsStaffed {S D F W : Type 0} (eyes : Eyes S D F W) (engine : EngineState S D F W) (jobs : JobsState F D W) : Type 0 where
  pub out : IsOutBy eyes (beside engine.part jobs)
  pub ready : engine.part.failed ≡ false → MaySettle (told_part eyes engine.part)
  pub devices : HoldsDevices (told_part eyes engine.part)

-- there are as many of both, and at each place are the jobs of the engine
abbrev pub AreStaffed : {S D F W : Type 0} → Eyes S D F W → List (EngineState S D F W) → List (JobsState F D W) → Type 0
AreStaffed eyes engines jobs = AtEach (λ p engine js. IsStaffed eyes engine js) 0 engines jobs

-- ---- the reader's watch, while it is at home or out

abbrev pub with_reader : {S D F W : Type 0} → Option W → WithJobs S D F W → WithJobs S D F W
with_reader reader e = record e { engine = record e.engine { part = record e.engine.part { reader = reader } } }

-- that of the engine at this place became this, and no more
abbrev pub ReadsBy : {S D F W : Type 0} → ℕ → Option W → ℕ → WithJobs S D F W → WithJobs S D F W → Type 0
ReadsBy at reader p old new = (p ≡ at → new ≡ with_reader reader old) × ((p ≡ at → ⊥) → new ≡ old)
