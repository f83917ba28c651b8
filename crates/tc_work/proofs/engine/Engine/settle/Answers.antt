use Rattle.std.proofs.Common.{◌≡◌, ◌∙◌, ◌<◌, ◌+◌, true, false, [], ap, sym, subst, arith, inl, inr}
use Rattle.std.specs.Prelude.{Ok}
use Rattle.tc_list.specs.Policies.{listed_least}
use Rattle.tc_list.specs.declared.policy.Policy.{Policy}
use Rattle.tc_log.specs.Layout.{empty_size}
use Rattle.tc_part_model.specs.PartState.{PartState}
use Rattle.tc_work.specs.EngineState.{EngineState}
use Rattle.tc_work.specs.Moving.{beside, eyes, MayMove, MovesOver}
use Rattle.tc_work.specs.Settling.{IsDue, IsListedBy, PicksNone}
use Rattle.tc_work.proofs.HandedJobs.{none_merging}
use Rattle.tc_work.proofs.MovingCalls.{err_is, over_err}
use Rattle.tc_work.proofs.OpenEngines.{closed_failed, closed_sound, closed_well, few_outside, inside_is}
use Rattle.tc_work.proofs.engine.Engine.settle.Given.{Over}
use Rattle.tc_work.proofs.engine.Engine.settle.Goals as goal

-- ---- the call

pub settle_part-requires-clause-may : goal.settle_part-requires-clause-may
settle_part-requires-clause-may g c κs within = subst (λ (s : PartState _ _ _ _). MayMove
    (eyes g.S.Store.history g.S.Device.Device.history g.S.Frozen.Frozen.content g.S.Device.Device.name g.S.Frozen.Frozen.size g.S.Watch.Watch.counts)
    (beside s c.args.jobs.now)) (sym (inside_is c.self.inside.part c.self.inside.failed c.args.self.now.part (ap (λ (e : EngineState _ _ _ _). e.part) c.self.view_is)
    c.requires.sound c.self.invariant))
    (record { sound = c.requires.sound; ready = c.requires.ready; jobs = c.requires.jobs })

pub settle_part-requires-clause-nothing_staged : goal.settle_part-requires-clause-nothing_staged
settle_part-requires-clause-nothing_staged g c κs within = (c.self.invariant (ap (λ (s : EngineState _ _ _ _). s.part.failed) c.self.view_is ∙ c.requires.sound)).nothing_staged

pub settle_part-requires-clause-flushing : goal.settle_part-requires-clause-flushing
settle_part-requires-clause-flushing g c κs within = (c.self.invariant (ap (λ (s : EngineState _ _ _ _). s.part.failed) c.self.view_is ∙ c.requires.sound)).flushing

pub settle_part-requires-clause-picked : goal.settle_part-requires-clause-picked
settle_part-requires-clause-picked g c κs within = (c.self.invariant (ap (λ (s : EngineState _ _ _ _). s.part.failed) c.self.view_is ∙ c.requires.sound)).picked

-- ---- it ends well

-- the part of the engine is what contracts see of it
same : (g : Over) (c : goal.After-generations_follow g) → c.self.inside.part ≡ c.args.self.now.part
same g c = inside_is c.self.inside.part c.self.inside.failed c.args.self.now.part (ap (λ (e : EngineState _ _ _ _). e.part) c.self.view_is) c.requires.sound c.self.invariant

ended : (g : Over) (c : goal.After-generations_follow g) → MovesOver
    (eyes g.S.Store.history g.S.Device.Device.history g.S.Frozen.Frozen.content g.S.Device.Device.name g.S.Frozen.Frozen.size g.S.Watch.Watch.counts) (Ok tt)
    (beside c.args.self.now.part c.args.jobs.now) (beside (record c.settle_part.new.part { failed = false }) c.settle_part.new.jobs)
ended g c = closed_well (eyes g.S.Store.history g.S.Device.Device.history g.S.Frozen.Frozen.content g.S.Device.Device.name g.S.Frozen.Frozen.size
    g.S.Watch.Watch.counts) c.self.inside.part c.args.self.now.part c.settle_part.new.part c.args.jobs.now c.settle_part.new.jobs (same g c)
    c.in_ok-settle_part.ensures.moves

pub returns-clause-moves : goal.returns-clause-moves
returns-clause-moves g c = ended g c

pub returns-clause-listed : goal.returns-clause-listed
returns-clause-listed g c =
    subst (λ (policy : Policy). IsListedBy policy g.S.Frozen.Frozen.size c.args.self.now.part (record c.settle_part.new.part { failed = false })) (ap (λ (e : EngineState _ _ _ _). e.policy) c.self.view_is)
    (subst (λ (s : PartState _ _ _ _). IsListedBy c.self.inside.policy g.S.Frozen.Frozen.size s (record c.settle_part.new.part { failed = false })) (same g c)
    (subst (λ (s : PartState _ _ _ _). IsListedBy c.self.inside.policy g.S.Frozen.Frozen.size c.self.inside.part s) (closed_sound c.settle_part.new.part c.in_ok-settle_part.ensures.moves.well.sound) c.in_ok-settle_part.ensures.listed.listed))

-- ---- it fails

same_before : (g : Over) (c : goal.After-from_residual g) → c.self.inside.part ≡ c.args.self.now.part
same_before g c = inside_is c.self.inside.part c.self.inside.failed c.args.self.now.part (ap (λ (e : EngineState _ _ _ _). e.part) c.self.view_is) c.requires.sound c.self.invariant

stopped : (g : Over) (c : goal.After-from_residual g) → MovesOver
    (eyes g.S.Store.history g.S.Device.Device.history g.S.Frozen.Frozen.content g.S.Device.Device.name g.S.Frozen.Frozen.size g.S.Watch.Watch.counts)
    c.from_residual.result (beside c.args.self.now.part c.args.jobs.now) (beside (record c.settle_part.new.part { failed = true }) c.settle_part.new.jobs)
stopped g c = closed_failed (eyes g.S.Store.history g.S.Device.Device.history g.S.Frozen.Frozen.content g.S.Device.Device.name g.S.Frozen.Frozen.size
    g.S.Watch.Watch.counts) c.self.inside.part c.args.self.now.part c.settle_part.new.part c.args.jobs.now c.settle_part.new.jobs c.from_residual.result
    c.in_err-settle_part.field-0.0 (err_is c.from_residual.result c.in_err-settle_part.field-0.0 c.from_residual.ensures.1) (same_before g c)
    (over_err (eyes g.S.Store.history g.S.Device.Device.history g.S.Frozen.Frozen.content g.S.Device.Device.name g.S.Frozen.Frozen.size g.S.Watch.Watch.counts)
    (beside c.self.inside.part c.args.jobs.now) (beside c.settle_part.new.part c.settle_part.new.jobs) (beside c.settle_part.new.part c.settle_part.new.jobs)
    c.from_residual.result c.settle_part.result c.in_err-settle_part.field-0.0 c.from_residual.ensures.1 c.in_err-settle_part.was c.settle_part.ensures.moves)

pub returns-in_err-settle_part-clause-moves : goal.returns-in_err-settle_part-clause-moves
returns-in_err-settle_part-clause-moves g c = stopped g c

-- ---- the generations

pub returns-clause-outside : goal.returns-clause-outside
returns-clause-outside g c = few_outside c.settle_part.new.part.list _ _ (c.generations_follow.ensures c.in_ok-settle_part.ensures.moves.well.sound)

-- ---- what is due

pub returns-clause-emptied : goal.returns-clause-emptied
returns-clause-emptied g c =
    subst (λ (s : PartState _ _ _ _). IsDue (λ d. g.S.Device.Device.size d) s → (c.settle_part.new.part.active ≡ []) × (g.S.Device.Device.size c.settle_part.new.part.log.device ≡ empty_size) × (c.settle_part.new.part.generation ≡ s.generation + 1)) (same g c)
    c.in_ok-settle_part.ensures.emptied

pub returns-clause-stays : goal.returns-clause-stays
returns-clause-stays g c =
    subst (λ (s : PartState _ _ _ _). (IsDue (λ d. g.S.Device.Device.size d) s → ⊥)
    → (c.settle_part.new.part.active ≡ s.active) × (c.settle_part.new.part.log ≡ s.log) × (c.settle_part.new.part.generation ≡ s.generation)
    × (c.settle_part.new.part.sealed ≡ s.sealed) × (c.settle_part.new.jobs.flush ≡ c.args.jobs.now.flush)) (same g c)
    c.in_ok-settle_part.ensures.undue

pub returns-clause-short : goal.returns-clause-short
returns-clause-short g c =
    subst (λ (s : PartState _ _ _ _). empty_size < s.memory → g.S.Device.Device.size c.settle_part.new.part.log.device < s.memory) (same g c)
    c.in_ok-settle_part.ensures.short

pub returns-clause-none : goal.returns-clause-none
returns-clause-none g c = λ none.
    subst (λ (policy : Policy). PicksNone policy c.settle_part.new.part.list) (ap (λ (e : EngineState _ _ _ _). e.policy) c.self.view_is)
    (c.in_ok-settle_part.ensures.none (none_merging c.settle_part.new.part.merging c.settle_part.new.jobs.merge _ none
    c.in_ok-settle_part.ensures.moves.keeps.jobs.merge))

pub returns-clause-few : goal.returns-clause-few
returns-clause-few g c = λ least. elim c.in_ok-settle_part.ensures.few [
  | inl few ↦ few
  | inr none ↦ elim none [
    | inl under ↦ omega (arith, under, least, ap (λ (e : EngineState _ _ _ _). listed_least e.policy) c.self.view_is)
    | inr two ↦ omega (arith, two)
  ]
]
