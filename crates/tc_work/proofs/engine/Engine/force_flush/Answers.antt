use Rattle.std.proofs.Common.{◌≡◌, ◌∙◌, ◌<◌, ◌≤◌, ◌+◌, ◌++◌, Bool, true, false, [], ◌∷◌, None, length, ap, sym, subst, arith, inl, inr}
use Rattle.std.specs.Prelude.{Result, Ok, Err, IfErr}
use Rattle.tc_component.specs.Loading.{ComponentState}
use Rattle.tc_jobs.specs.Lists.{file_names}
use Rattle.tc_store.specs.declared.file_name.FileName.TheVariants.{Component}
use Rattle.tc_work.specs.declared.fault.EngineFault.{EngineFault}
use Rattle.tc_work.specs.Faults.{AreOfFiles, IfDamaged}
use Rattle.std.proofs.lemmas.Bool.{cases_lt}
use Rattle.tc_list.specs.declared.policy.Policy.{Policy}
use Rattle.tc_log.specs.Layout.{empty_size}
use Rattle.tc_part_model.specs.PartState.{PartState, told}
use Rattle.tc_work.specs.EngineState.{EngineState}
use Rattle.tc_work.specs.Moving.{beside, eyes, MayMove, MovesOver}
use Rattle.tc_work.specs.Settling.{IsListedBy}
use Rattle.tc_work.proofs.EmptyLogs.{none_active, unwritten}
use Rattle.tc_work.proofs.MovingCalls.{err_is, over_err}
use Rattle.tc_work.proofs.OpenEngines.{closed_failed, closed_sound, closed_well, inside_is}
use Rattle.tc_work.proofs.engine.Engine.force_flush.Given.{Over}
use Rattle.tc_work.proofs.engine.Engine.force_flush.Goals as goal

-- ---- the call

pub flush_both-requires-clause-may : goal.flush_both-requires-clause-may
flush_both-requires-clause-may g c κs within = subst (λ (s : PartState _ _ _ _). MayMove
    (eyes g.S.Store.history g.S.Device.Device.history g.S.Frozen.Frozen.content g.S.Device.Device.name g.S.Frozen.Frozen.size g.S.Watch.Watch.counts)
    (beside s c.args.jobs.now)) (sym (inside_is c.self.inside.part c.self.inside.failed c.args.self.now.part (ap (λ (e : EngineState _ _ _ _). e.part) c.self.view_is)
    c.requires.sound c.self.invariant))
    (record { sound = c.requires.sound; ready = c.requires.ready; jobs = c.requires.jobs })

pub flush_both-requires-clause-nothing_staged : goal.flush_both-requires-clause-nothing_staged
flush_both-requires-clause-nothing_staged g c κs within = (c.self.invariant (ap (λ (s : EngineState _ _ _ _). s.part.failed) c.self.view_is ∙ c.requires.sound)).nothing_staged

pub flush_both-requires-clause-flushing : goal.flush_both-requires-clause-flushing
flush_both-requires-clause-flushing g c κs within = (c.self.invariant (ap (λ (s : EngineState _ _ _ _). s.part.failed) c.self.view_is ∙ c.requires.sound)).flushing

pub flush_both-requires-clause-picked : goal.flush_both-requires-clause-picked
flush_both-requires-clause-picked g c κs within = (c.self.invariant (ap (λ (s : EngineState _ _ _ _). s.part.failed) c.self.view_is ∙ c.requires.sound)).picked

-- ---- it ends well

-- the part of the engine is what contracts see of it
same : (g : Over) (c : goal.After-self-2-1 g) → c.self.inside.part ≡ c.args.self.now.part
same g c = inside_is c.self.inside.part c.self.inside.failed c.args.self.now.part (ap (λ (e : EngineState _ _ _ _). e.part) c.self.view_is) c.requires.sound c.self.invariant

ended : (g : Over) (c : goal.After-self-2-1 g) → MovesOver (eyes g.S.Store.history g.S.Device.Device.history g.S.Frozen.Frozen.content g.S.Device.Device.name
    g.S.Frozen.Frozen.size g.S.Watch.Watch.counts) (Ok tt) (beside c.args.self.now.part c.args.jobs.now)
    (beside (record c.flush_both.new.part { failed = false }) c.flush_both.new.jobs)
ended g c = closed_well (eyes g.S.Store.history g.S.Device.Device.history g.S.Frozen.Frozen.content g.S.Device.Device.name g.S.Frozen.Frozen.size
    g.S.Watch.Watch.counts) c.self.inside.part c.args.self.now.part c.flush_both.new.part c.args.jobs.now c.flush_both.new.jobs (same g c)
    c.in_ok-flush_both.ensures.moves

pub returns-clause-moves : goal.returns-clause-moves
returns-clause-moves g c = ended g c

pub returns-clause-listed : goal.returns-clause-listed
returns-clause-listed g c =
    subst (λ (policy : Policy). IsListedBy policy g.S.Frozen.Frozen.size c.args.self.now.part (record c.flush_both.new.part { failed = false })) (ap (λ (e : EngineState _ _ _ _). e.policy) c.self.view_is)
    (subst (λ (s : PartState _ _ _ _). IsListedBy c.self.inside.policy g.S.Frozen.Frozen.size s (record c.flush_both.new.part { failed = false })) (same g c)
    (subst (λ (s : PartState _ _ _ _). IsListedBy c.self.inside.policy g.S.Frozen.Frozen.size c.self.inside.part s) (closed_sound c.flush_both.new.part c.in_ok-flush_both.ensures.moves.well.sound) c.in_ok-flush_both.ensures.listed.listed))

-- ---- it fails

same_before : (g : Over) (c : goal.After-from_residual g) → c.self.inside.part ≡ c.args.self.now.part
same_before g c = inside_is c.self.inside.part c.self.inside.failed c.args.self.now.part (ap (λ (e : EngineState _ _ _ _). e.part) c.self.view_is) c.requires.sound c.self.invariant

stopped : (g : Over) (c : goal.After-from_residual g) → MovesOver
    (eyes g.S.Store.history g.S.Device.Device.history g.S.Frozen.Frozen.content g.S.Device.Device.name g.S.Frozen.Frozen.size g.S.Watch.Watch.counts)
    c.from_residual.result (beside c.args.self.now.part c.args.jobs.now) (beside (record c.flush_both.new.part { failed = true }) c.flush_both.new.jobs)
stopped g c = closed_failed (eyes g.S.Store.history g.S.Device.Device.history g.S.Frozen.Frozen.content g.S.Device.Device.name g.S.Frozen.Frozen.size
    g.S.Watch.Watch.counts) c.self.inside.part c.args.self.now.part c.flush_both.new.part c.args.jobs.now c.flush_both.new.jobs c.from_residual.result
    c.in_err-flush_both.field-0.0 (err_is c.from_residual.result c.in_err-flush_both.field-0.0 c.from_residual.ensures.1) (same_before g c)
    (over_err (eyes g.S.Store.history g.S.Device.Device.history g.S.Frozen.Frozen.content g.S.Device.Device.name g.S.Frozen.Frozen.size g.S.Watch.Watch.counts)
    (beside c.self.inside.part c.args.jobs.now) (beside c.flush_both.new.part c.flush_both.new.jobs) (beside c.flush_both.new.part c.flush_both.new.jobs)
    c.from_residual.result c.flush_both.result c.in_err-flush_both.field-0.0 c.from_residual.ensures.1 c.in_err-flush_both.was c.flush_both.ensures.moves)

pub returns-in_err-flush_both-clause-moves : goal.returns-in_err-flush_both-clause-moves
returns-in_err-flush_both-clause-moves g c = stopped g c

-- ---- the active table

pub returns-clause-emptied : goal.returns-clause-emptied
returns-clause-emptied g c = λ p is tells works.
    let old = c.args.self.now.part in
    let t = told g.S.Store.history g.S.Device.Device.history g.S.Frozen.Frozen.content old in
    let laws = g.met.S.Device.Device g.world.𝓛 g.world.𝓜 g.world.𝓡 ((λ s x. x), (λ x. x), (λ x. x), λ x. x) in
    let size = g.S.Device.Device.size old.log.device in
    let awake = c.self.invariant (ap (λ (s : EngineState _ _ _ _). s.part.failed) c.self.view_is ∙ c.requires.sound) in
    let staged : old.staged ≡ [] = sym (ap (λ (s : PartState _ _ _ _). s.staged) (same g c)) ∙ awake.nothing_staged in
    let log = ap (λ (s : PartState _ _ _ _). g.S.Device.Device.size s.log.device) (same g c) in
    elim (cases_lt empty_size size) [
      | inl written ↦ (c.in_ok-flush_both.ensures.written (omega (arith, log, written))).0
      | inr short ↦ (c.in_ok-flush_both.ensures.unwritten (omega (arith, log, short))).0 ∙ ap (λ (s : PartState _ _ _ _). s.active) (same g c) ∙ none_active t p is tells.components staged (unwritten t p size is tells.store (laws.told_size old.log.device) (laws.content_may_stay old.log.device) short)
    ]

-- ---- which tables

pub returns-clause-nothing : goal.returns-clause-nothing
returns-clause-nothing g c = λ short none.
    let nothing = c.flush_both.ensures.nothing (subst (λ (s : PartState _ _ _ _). g.S.Device.Device.size s.log.device ≤ empty_size) (sym (same g c)) short) (ap (λ (s : PartState _ _ _ _). s.sealed) (same g c) ∙ none) in
    let engine : PartState g.row.S.Denot g.row.S-Device.Denot g.row.S-Frozen.Denot g.row.S-Watch.Denot → Bool → EngineState g.row.S.Denot g.row.S-Device.Denot g.row.S-Frozen.Denot g.row.S-Watch.Denot = λ s failed. record { part = record s { failed = failed }; policy = c.self.inside.policy } in
    (ap (λ s. engine s false) nothing.1 ∙ ap (λ failed. engine c.self.inside.part failed) (sym (ap (λ (e : EngineState _ _ _ _). e.part.failed) c.self.view_is ∙ c.requires.sound)) ∙ c.self.view_is, nothing.2)

pub returns-in_err-flush_both-clause-nothing : goal.returns-in_err-flush_both-clause-nothing
returns-in_err-flush_both-clause-nothing g c = λ short none.
    let nothing = c.flush_both.ensures.nothing (subst (λ (s : PartState _ _ _ _). g.S.Device.Device.size s.log.device ≤ empty_size) (sym (same_before g c)) short) (ap (λ (s : PartState _ _ _ _). s.sealed) (same_before g c) ∙ none) in
    let apart : Ok tt ≡ Err c.in_err-flush_both.field-0.0 = sym nothing.0 ∙ c.in_err-flush_both.was in
    absurd (cc)

pub returns-clause-written : goal.returns-clause-written
returns-clause-written g c =
    subst (λ (s : PartState _ _ _ _). empty_size < g.S.Device.Device.size s.log.device → (c.flush_both.new.part.active ≡ []) × (c.flush_both.new.part.sealed_log ≡ None) × (c.flush_both.new.part.generation ≡ s.generation + 1)) (same g c)
    c.in_ok-flush_both.ensures.written

pub returns-clause-unwritten : goal.returns-clause-unwritten
returns-clause-unwritten g c =
    subst (λ (s : PartState _ _ _ _). g.S.Device.Device.size s.log.device ≤ empty_size → (c.flush_both.new.part.active ≡ s.active) × (c.flush_both.new.part.log ≡ s.log) × (c.flush_both.new.part.generation ≡ s.generation)) (same g c)
    c.in_ok-flush_both.ensures.unwritten

pub returns-clause-flushed : goal.returns-clause-flushed
returns-clause-flushed g c =
    subst (λ (s : PartState _ _ _ _). empty_size < g.S.Device.Device.size s.log.device → s.sealed ≡ None → length s.list < 8 → (x : ComponentState _) × (c.flush_both.new.part.list ≡ s.list ++ x ∷ [])) (same g c)
    c.in_ok-flush_both.ensures.flushed

pub returns-clause-none_sealed : goal.returns-clause-none_sealed
returns-clause-none_sealed g c = (c.in_ok-flush_both.ensures.ended.0, c.in_ok-flush_both.ensures.ended.1)

pub returns-in_err-flush_both-clause-damaged_alone : goal.returns-in_err-flush_both-clause-damaged_alone
returns-in_err-flush_both-clause-damaged_alone g c =
    subst (λ (s : PartState _ _ _ _). s.sealed ≡ None → length s.list < 8 → IfErr c.from_residual.result (λ fault. IfDamaged fault (AreOfFiles (file_names s.list) (Component s.generation s.generation)))) (same_before g c)
    (λ none few. subst (λ (r : Result (Unit {0}) EngineFault). IfErr r
    (λ fault. IfDamaged fault (AreOfFiles (file_names c.self.inside.part.list) (Component c.self.inside.part.generation c.self.inside.part.generation))))
    (c.in_err-flush_both.was ∙ sym (err_is c.from_residual.result c.in_err-flush_both.field-0.0 c.from_residual.ensures.1)) (c.flush_both.ensures.damaged none few))
