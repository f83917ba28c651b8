use Rattle.std.proofs.Common.{◌∙◌, ap, inl, sym, subst, refl}
use Rattle.std.specs.Prelude.{None, Some}
use Rattle.std.proofs.lemmas.Result.{err_from_is_err_and}
use Rattle.tc_keeper.proofs.PlaceLaws.{at_each-length}
use Rattle.tc_work.specs.Moving.{eyes}
use Rattle.tc_keeper.specs.Calls.{MayAsk}
use Rattle.tc_keeper.specs.Faults.{HasDiskCause}
use Rattle.tc_keeper.specs.Keeping.{faults_kept, settings_kept, AllRest, FailsAt, HasMet, HasSpent, IsTrueHere, KeeperState, MayServe, ServesAt}
use Rattle.tc_keeper.specs.Showing.{IsReadAsBefore}
use Rattle.tc_keeper.specs.Sight.{sees}
use Rattle.tc_keeper.proofs.Causes.{call_without_memory}
use Rattle.tc_keeper.proofs.EngineWorlds.{held_keeps, unflushed}
use Rattle.tc_keeper.proofs.KeeperCalls.{manned_beside, read_as_before, shown_many}
use Rattle.tc_keeper.proofs.KeeperCounts.{caused_beside}
use Rattle.tc_keeper.proofs.KeeperWorlds.{serves_flushed}
use Rattle.tc_keeper.proofs.keeper.Keeper.schemas.Goals as goal

pub flushed_schemas-requires-clause-works : goal.flushed_schemas-requires-clause-works
unfolding MayServe ServesAt FailsAt AllRest faults_kept HasSpent HasMet
flushed_schemas-requires-clause-works g c κs within =
    (subst (λ (k : KeeperState _ _ _ _). MayAsk g.S.Store.history g.S.Device.Device.history g.S.Frozen.Frozen.content k.engines) (sym c.self.view_is) c.requires.works)

pub place_all-requires-clause-as_many : goal.place_all-requires-clause-as_many
unfolding MayServe ServesAt FailsAt AllRest faults_kept HasSpent HasMet
place_all-requires-clause-as_many g c κs within =
    shown_many (record { engines = c.self.inside.engines; shown = c.self.inside.shown.items; scan = c.self.inside.scan }) c.flushed_schemas.new.engines c.flushed_schemas.ensures.readers c.self.invariant

pub returns-in_err-schemas-clause-failed : goal.returns-in_err-schemas-clause-failed
unfolding MayServe ServesAt FailsAt AllRest faults_kept HasSpent HasMet
returns-in_err-schemas-clause-failed g c =
    let p = err_from_is_err_and c.from_residual.result c.from_residual.ensures.1 in
    λ only w serves. rw p.1 (c.in_err-schemas.ensures.failed only w
    (subst (λ (k : KeeperState _ _ _ _). ServesAt (eyes g.S.Store.history g.S.Device.Device.history g.S.Frozen.Frozen.content g.S.Device.Device.name
    g.S.Frozen.Frozen.size g.S.Watch.Watch.counts) k (sees only w)) (sym c.self.view_is) serves).0)

pub returns-in_err-schemas-clause-undamaged : goal.returns-in_err-schemas-clause-undamaged
unfolding MayServe ServesAt FailsAt AllRest faults_kept HasSpent HasMet
returns-in_err-schemas-clause-undamaged g c =
    let p = err_from_is_err_and c.from_residual.result c.from_residual.ensures.1 in
    λ only w serves. rw (p.1, p.2) (c.in_err-schemas.ensures.undamaged only w
    (subst (λ (k : KeeperState _ _ _ _). ServesAt (eyes g.S.Store.history g.S.Device.Device.history g.S.Frozen.Frozen.content g.S.Device.Device.name
    g.S.Frozen.Frozen.size g.S.Watch.Watch.counts) k (sees only w)) (sym c.self.view_is) serves).0)

pub returns-in_err-schemas-clause-settings : goal.returns-in_err-schemas-clause-settings
unfolding MayServe ServesAt FailsAt AllRest faults_kept HasSpent HasMet
returns-in_err-schemas-clause-settings g c =
    c.flushed_schemas.ensures.settings ∙ ap (λ (k : KeeperState _ _ _ _). settings_kept k) c.self.view_is

pub returns-in_err-schemas-clause-cause : goal.returns-in_err-schemas-clause-cause
unfolding MayServe ServesAt FailsAt AllRest faults_kept HasSpent HasMet
returns-in_err-schemas-clause-cause g c =
    let p = err_from_is_err_and c.from_residual.result c.from_residual.ensures.1 in
    rw (p.1, p.2) (subst (λ (k : KeeperState _ _ _ _). HasDiskCause (faults_kept g.S.Watch.Watch.counts k)
    (faults_kept g.S.Watch.Watch.counts (record { engines = c.flushed_schemas.new.engines; shown = c.self.inside.shown.items; scan = c.self.inside.scan }))
    (IsTrueHere g.S.Store.history g.S.Device.Device.history g.S.Frozen.Frozen.content
    (record { engines = c.flushed_schemas.new.engines; shown = c.self.inside.shown.items; scan = c.self.inside.scan })) (Some c.in_err-schemas.field-0.0))
    c.self.view_is (caused_beside g.S.Watch.Watch.counts (record
    { engines = c.self.inside.engines; shown = c.self.inside.shown.items; scan = c.self.inside.scan })
    (record { engines = c.flushed_schemas.new.engines; shown = c.self.inside.shown.items; scan = c.self.inside.scan }) _ _ (Some c.in_err-schemas.field-0.0) refl
    c.self.invariant.readers c.flushed_schemas.ensures.readers (λ spent. spent) (λ p damage met. inl met) c.in_err-schemas.ensures.cause))

pub returns-in_err-place_all-clause-failed : goal.returns-in_err-place_all-clause-failed
unfolding MayServe ServesAt FailsAt AllRest faults_kept HasSpent HasMet
returns-in_err-place_all-clause-failed g c =
    let p = err_from_is_err_and c.from_residual-in_err-place_all.result c.from_residual-in_err-place_all.ensures.1 in
    λ only w serves. rw p.1 (held_keeps (eyes g.S.Store.history g.S.Device.Device.history g.S.Frozen.Frozen.content g.S.Device.Device.name g.S.Frozen.Frozen.size
    g.S.Watch.Watch.counts) only c.flushed_schemas.new.engines w (unflushed
    (eyes g.S.Store.history g.S.Device.Device.history g.S.Frozen.Frozen.content g.S.Device.Device.name g.S.Frozen.Frozen.size g.S.Watch.Watch.counts) only
    c.flushed_schemas.new.engines w (c.in_ok-schemas.ensures.held (sees only w)
    (subst (λ (k : KeeperState _ _ _ _). ServesAt (eyes g.S.Store.history g.S.Device.Device.history g.S.Frozen.Frozen.content g.S.Device.Device.name
    g.S.Frozen.Frozen.size g.S.Watch.Watch.counts) k (sees only w)) (sym c.self.view_is) serves).0)))

pub returns-in_err-place_all-clause-undamaged : goal.returns-in_err-place_all-clause-undamaged
unfolding MayServe ServesAt FailsAt AllRest faults_kept HasSpent HasMet
returns-in_err-place_all-clause-undamaged g c =
    let p = err_from_is_err_and c.from_residual-in_err-place_all.result c.from_residual-in_err-place_all.ensures.1 in
    λ only w serves. rw (p.1, p.2) tt

pub returns-in_err-place_all-clause-kinds : goal.returns-in_err-place_all-clause-kinds
unfolding MayServe ServesAt FailsAt AllRest faults_kept HasSpent HasMet
returns-in_err-place_all-clause-kinds g c =
    let p = err_from_is_err_and c.from_residual-in_err-place_all.result c.from_residual-in_err-place_all.ensures.1 in
    rw (p.1, p.2) tt

pub returns-in_err-place_all-clause-settings : goal.returns-in_err-place_all-clause-settings
unfolding MayServe ServesAt FailsAt AllRest faults_kept HasSpent HasMet
returns-in_err-place_all-clause-settings g c =
    c.flushed_schemas.ensures.settings ∙ ap (λ (k : KeeperState _ _ _ _). settings_kept k) c.self.view_is

pub returns-in_err-place_all-clause-cause : goal.returns-in_err-place_all-clause-cause
unfolding MayServe ServesAt FailsAt AllRest faults_kept HasSpent HasMet
returns-in_err-place_all-clause-cause g c =
    let p = err_from_is_err_and c.from_residual-in_err-place_all.result c.from_residual-in_err-place_all.ensures.1 in
    rw (p.1, p.2) (subst (λ (k : KeeperState _ _ _ _). HasDiskCause (faults_kept g.S.Watch.Watch.counts k)
    (faults_kept g.S.Watch.Watch.counts (record { engines = c.flushed_schemas.new.engines; shown = c.place_all.new.shown.items; scan = c.self.inside.scan }))
    (IsTrueHere g.S.Store.history g.S.Device.Device.history g.S.Frozen.Frozen.content
    (record { engines = c.flushed_schemas.new.engines; shown = c.place_all.new.shown.items; scan = c.self.inside.scan })) _) c.self.view_is
    (call_without_memory (faults_kept g.S.Watch.Watch.counts (record
    { engines = c.self.inside.engines; shown = c.self.inside.shown.items; scan = c.self.inside.scan }))
    (faults_kept g.S.Watch.Watch.counts (record { engines = c.flushed_schemas.new.engines; shown = c.place_all.new.shown.items; scan = c.self.inside.scan })) _
    (IsTrueHere g.S.Store.history g.S.Device.Device.history g.S.Frozen.Frozen.content
    (record { engines = c.flushed_schemas.new.engines; shown = c.place_all.new.shown.items; scan = c.self.inside.scan }))
    (caused_beside g.S.Watch.Watch.counts (record { engines = c.self.inside.engines; shown = c.self.inside.shown.items; scan = c.self.inside.scan })
    (record { engines = c.flushed_schemas.new.engines; shown = c.place_all.new.shown.items; scan = c.self.inside.scan }) _
    (IsTrueHere g.S.Store.history g.S.Device.Device.history g.S.Frozen.Frozen.content
    (record { engines = c.flushed_schemas.new.engines; shown = c.place_all.new.shown.items; scan = c.self.inside.scan })) None refl c.self.invariant.readers
    c.flushed_schemas.ensures.readers (λ spent. spent) (λ p damage met. inl met) c.in_ok-schemas.ensures.cause)))

pub returns-clause-held : goal.returns-clause-held
unfolding MayServe ServesAt FailsAt AllRest faults_kept HasSpent HasMet
returns-clause-held g c =
    λ known serves. serves_flushed (eyes g.S.Store.history g.S.Device.Device.history g.S.Frozen.Frozen.content g.S.Device.Device.name g.S.Frozen.Frozen.size
    g.S.Watch.Watch.counts) (record { engines = c.self.inside.engines; shown = c.self.inside.shown.items; scan = c.self.inside.scan })
    (record { engines = c.flushed_schemas.new.engines; shown = c.place_all.new.shown.items; scan = c.self.inside.scan }) known c.parts_are_shown.ensures.placed refl
    (sym (at_each-length (λ p old new. IsReadAsBefore old new) 0 c.self.inside.shown.items c.place_all.new.shown.items c.place_all.ensures.books)
    ∙ shown_many (record { engines = c.self.inside.engines; shown = c.self.inside.shown.items; scan = c.self.inside.scan }) c.flushed_schemas.new.engines
    c.flushed_schemas.ensures.readers c.self.invariant) (c.in_ok-schemas.ensures.held known
    (subst (λ (k : KeeperState _ _ _ _). ServesAt (eyes g.S.Store.history g.S.Device.Device.history g.S.Frozen.Frozen.content g.S.Device.Device.name
    g.S.Frozen.Frozen.size g.S.Watch.Watch.counts) k (known)) (sym c.self.view_is) serves).0) c.in_ok-place_all.ensures.placed
    (subst (λ (k : KeeperState _ _ _ _). ServesAt (eyes g.S.Store.history g.S.Device.Device.history g.S.Frozen.Frozen.content g.S.Device.Device.name
    g.S.Frozen.Frozen.size g.S.Watch.Watch.counts) k known) (sym c.self.view_is) serves)

pub returns-clause-shown : goal.returns-clause-shown
unfolding MayServe ServesAt FailsAt AllRest faults_kept HasSpent HasMet
returns-clause-shown g c =
    λ known serves. c.in_ok-schemas.ensures.shown known (subst (λ (k : KeeperState _ _ _ _). ServesAt (eyes g.S.Store.history g.S.Device.Device.history g.S.Frozen.Frozen.content g.S.Device.Device.name g.S.Frozen.Frozen.size g.S.Watch.Watch.counts) k (known)) (sym c.self.view_is) serves).0

pub invariant_of-self : goal.invariant_of-self
unfolding MayServe ServesAt FailsAt AllRest faults_kept HasSpent HasMet
invariant_of-self g c =
    manned_beside (record { engines = c.self.inside.engines; shown = c.self.inside.shown.items; scan = c.self.inside.scan })
    (record { engines = c.flushed_schemas.new.engines; shown = c.self.inside.shown.items; scan = c.self.inside.scan }) refl c.flushed_schemas.ensures.readers c.flushed_schemas.ensures.settings
    (read_as_before c.self.inside.shown.items) (λ own. own) c.self.invariant

pub invariant_of-self-in_err-place_all : goal.invariant_of-self-in_err-place_all
unfolding MayServe ServesAt FailsAt AllRest faults_kept HasSpent HasMet
invariant_of-self-in_err-place_all g c =
    manned_beside (record { engines = c.self.inside.engines; shown = c.self.inside.shown.items; scan = c.self.inside.scan })
    (record { engines = c.flushed_schemas.new.engines; shown = c.place_all.new.shown.items; scan = c.self.inside.scan }) refl c.flushed_schemas.ensures.readers c.flushed_schemas.ensures.settings
    c.place_all.ensures.books c.place_all.ensures.own c.self.invariant

pub invariant_of-self-2 : goal.invariant_of-self-2
unfolding MayServe ServesAt FailsAt AllRest faults_kept HasSpent HasMet
invariant_of-self-2 g c =
    manned_beside (record { engines = c.self.inside.engines; shown = c.self.inside.shown.items; scan = c.self.inside.scan })
    (record { engines = c.flushed_schemas.new.engines; shown = c.place_all.new.shown.items; scan = c.self.inside.scan }) refl c.flushed_schemas.ensures.readers c.flushed_schemas.ensures.settings
    c.place_all.ensures.books c.place_all.ensures.own c.self.invariant

pub returns-clause-works : goal.returns-clause-works
unfolding MayServe ServesAt FailsAt AllRest faults_kept HasSpent HasMet
returns-clause-works g c =
    c.in_ok-schemas.ensures.works

pub returns-clause-settings : goal.returns-clause-settings
unfolding MayServe ServesAt FailsAt AllRest faults_kept HasSpent HasMet
returns-clause-settings g c =
    c.flushed_schemas.ensures.settings ∙ ap (λ (k : KeeperState _ _ _ _). settings_kept k) c.self.view_is

pub returns-clause-cause : goal.returns-clause-cause
unfolding MayServe ServesAt FailsAt AllRest faults_kept HasSpent HasMet
returns-clause-cause g c =
    (subst (λ (k : KeeperState _ _ _ _). HasDiskCause (faults_kept g.S.Watch.Watch.counts k)
    (faults_kept g.S.Watch.Watch.counts (record { engines = c.flushed_schemas.new.engines; shown = c.place_all.new.shown.items; scan = c.self.inside.scan }))
    (IsTrueHere g.S.Store.history g.S.Device.Device.history g.S.Frozen.Frozen.content
    (record { engines = c.flushed_schemas.new.engines; shown = c.place_all.new.shown.items; scan = c.self.inside.scan })) None) c.self.view_is
    (caused_beside g.S.Watch.Watch.counts (record { engines = c.self.inside.engines; shown = c.self.inside.shown.items; scan = c.self.inside.scan })
    (record { engines = c.flushed_schemas.new.engines; shown = c.place_all.new.shown.items; scan = c.self.inside.scan }) _
    (IsTrueHere g.S.Store.history g.S.Device.Device.history g.S.Frozen.Frozen.content
    (record { engines = c.flushed_schemas.new.engines; shown = c.place_all.new.shown.items; scan = c.self.inside.scan })) None refl c.self.invariant.readers
    c.flushed_schemas.ensures.readers (λ spent. spent) (λ p damage met. inl met) c.in_ok-schemas.ensures.cause))
