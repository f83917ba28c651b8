use Rattle.std.proofs.Common.{◌≡◌, ◌∙◌, ◌++◌, [], ◌∷◌, ℕ, List, sym, ap, subst, arith, inl}
use Rattle.std.specs.Prelude.{◌-◌, ◌<◌, IfErr, length}
use Rattle.tc_flush.proofs.Outcomes.{ok_both, ok_then}
use Rattle.tc_component.specs.Loading.{ComponentState}
use Rattle.tc_jobs.specs.Lists.{file_names}
use Rattle.tc_part_model.specs.PartState.{PartState}
use Rattle.tc_store.specs.declared.file_name.FileName.TheVariants.{Component}
use Rattle.tc_work.specs.Faults.{AreOfFiles, IfDamaged}
use Rattle.tc_work.specs.Moving.{beside, eyes}
use Rattle.tc_work.proofs.HandedFaults.{handed_on}
use Rattle.tc_work.proofs.KeptJobs.{lists_then}
use Rattle.tc_work.proofs.MergeFaults.{fault_damage_so}
use Rattle.tc_work.proofs.MovingCalls.{may_over, over_err, over_then}
use Rattle.tc_work.proofs.emptying.flush_active.Goals as goal

-- ---- the table is not sealed

pub returns-in_err-seal_and_start-clause-moves : goal.returns-in_err-seal_and_start-clause-moves
returns-in_err-seal_and_start-clause-moves g c =
    let mid = beside c.seal_and_start.new.part c.seal_and_start.new.jobs in
    over_err (eyes g.S.Store.history g.S.Device.Device.history g.S.Frozen.Frozen.content g.S.Device.Device.name g.S.Frozen.Frozen.size g.S.Watch.Watch.counts)
    (beside c.args.part.now c.args.jobs.now) mid mid c.from_residual.result c.seal_and_start.result c.in_err-seal_and_start.field-0.0 c.from_residual.ensures.1
    c.in_err-seal_and_start.was c.seal_and_start.ensures.moves

pub returns-in_err-seal_and_start-clause-damaged : goal.returns-in_err-seal_and_start-clause-damaged
returns-in_err-seal_and_start-clause-damaged g c = λ few. handed_on c.from_residual.result c.in_err-seal_and_start.field-0.0 _ c.from_residual.ensures.1
    (fault_damage_so c.in_err-seal_and_start.field-0.0 _ _ (λ damage files. inl files) c.in_err-seal_and_start.ensures.damaged)

-- ---- it is, and its flush ends

pub end_flush-requires-clause-may : goal.end_flush-requires-clause-may
end_flush-requires-clause-may g c κs within = may_over (eyes g.S.Store.history g.S.Device.Device.history g.S.Frozen.Frozen.content g.S.Device.Device.name
    g.S.Frozen.Frozen.size g.S.Watch.Watch.counts) (beside c.args.part.now c.args.jobs.now) (beside c.seal_and_start.new.part c.seal_and_start.new.jobs)
    (beside c.seal_and_start.new.part c.seal_and_start.new.jobs) c.in_ok-seal_and_start.ensures.moves

pub end_flush-requires-clause-picked : goal.end_flush-requires-clause-picked
end_flush-requires-clause-picked g c κs within = (c.in_ok-seal_and_start.ensures.listed c.args.policy c.requires.picked).picked

pub returns-clause-ended : goal.returns-clause-ended
returns-clause-ended g c = ok_both c.end_flush.result _ _ _ (λ ended out. let none = ended c.in_ok-seal_and_start.ensures.sealed.0 in (none.0, none.1, out)) c.end_flush.ensures.ended c.end_flush.ensures.none_out

pub returns-clause-emptied : goal.returns-clause-emptied
returns-clause-emptied g c = ok_then c.end_flush.result _ _ (λ (installed : c.end_flush.new.part ≡ _).
    let emptied = c.in_ok-seal_and_start.ensures.emptied in
    (ap (λ (s : PartState _ _ _ _). s.active) installed ∙ emptied.0, ap (λ (s : PartState _ _ _ _). g.S.Device.Device.size s.log.device) installed ∙ emptied.1, ap (λ (s : PartState _ _ _ _). s.generation) installed ∙ emptied.2)) c.end_flush.ensures.installed

pub returns-clause-flushed : goal.returns-clause-flushed
returns-clause-flushed g c = ok_then c.end_flush.result _ _ (λ behind few.
    let same = c.in_ok-seal_and_start.ensures.list in
    let found = behind c.in_ok-seal_and_start.ensures.sealed.0 (subst (λ (xs : List (ComponentState _)). length xs < 8) (sym same) few) in
    (found.0, found.1 ∙ ap (λ xs. xs ++ found.0 ∷ []) same)) c.end_flush.ensures.behind

pub returns-clause-moves : goal.returns-clause-moves
returns-clause-moves g c =
    over_then (eyes g.S.Store.history g.S.Device.Device.history g.S.Frozen.Frozen.content g.S.Device.Device.name g.S.Frozen.Frozen.size g.S.Watch.Watch.counts)
    (beside c.args.part.now c.args.jobs.now) (beside c.seal_and_start.new.part c.seal_and_start.new.jobs) (beside c.end_flush.new.part c.end_flush.new.jobs)
    c.end_flush.result c.in_ok-seal_and_start.ensures.moves c.in_ok-seal_and_start.ensures.sealed.2 c.in_ok-seal_and_start.ensures.emptied.2
    c.end_flush.ensures.moves

pub returns-clause-listed : goal.returns-clause-listed
returns-clause-listed g c = ok_then c.end_flush.result _ _ (λ lists.
    lists_then (eyes g.S.Store.history g.S.Device.Device.history g.S.Frozen.Frozen.content g.S.Device.Device.name g.S.Frozen.Frozen.size g.S.Watch.Watch.counts)
    (beside c.args.part.now c.args.jobs.now) (beside c.seal_and_start.new.part c.seal_and_start.new.jobs) (beside c.end_flush.new.part c.end_flush.new.jobs)
    c.args.policy (c.in_ok-seal_and_start.ensures.listed c.args.policy c.requires.picked) lists) c.end_flush.ensures.listed

pub returns-clause-damaged : goal.returns-clause-damaged
returns-clause-damaged g c = λ few.
    let same = c.in_ok-seal_and_start.ensures.list in
    let generation : c.seal_and_start.new.part.generation - 1 ≡ c.args.part.now.generation = omega (arith, c.in_ok-seal_and_start.ensures.emptied.2) in
    subst (λ (xs : List (ComponentState _)). IfErr c.end_flush.result (λ fault. IfDamaged fault (AreOfFiles (file_names xs) (Component c.args.part.now.generation c.args.part.now.generation)))) same
    (subst (λ (n : ℕ). IfErr c.end_flush.result (λ fault. IfDamaged fault (AreOfFiles (file_names c.seal_and_start.new.part.list) (Component n n)))) generation (c.end_flush.ensures.damaged (subst (λ (xs : List (ComponentState _)). length xs < 8) (sym same) few)))
