use Rattle.std.proofs.Common.{◌∙◌, length, ap, inl, sym, subst, refl}
use Rattle.std.specs.Prelude.{None, Some}
use Rattle.std.proofs.lemmas.Result.{err_from_is_err_and}
use Rattle.tc_keeper.proofs.PlaceLaws.{at_each-length}
use Rattle.tc_work.specs.Moving.{eyes}
use Rattle.tc_keeper.specs.Calls.{MayAsk}
use Rattle.tc_keeper.specs.Faults.{HasDiskCause}
use Rattle.tc_keeper.specs.Keeping.{faults_kept, settings_kept, AllRest, FailsAt, HasMet, HasSpent, IsTrueHere, KeeperState, MayServe, ServesAt}
use Rattle.tc_keeper.specs.Showing.{IsReadAsBefore}
use Rattle.tc_keeper.specs.Sight.{sees}
use Rattle.tc_keeper.proofs.Causes.{call_without_memory}
use Rattle.tc_keeper.proofs.KeeperCalls.{behind_keeps, frames_many, frames_stored, manned_beside, read_as_before, shown_many}
use Rattle.tc_keeper.proofs.KeeperCounts.{caused_beside}
use Rattle.tc_keeper.proofs.OwnShown.{own_written}
use Rattle.tc_keeper.proofs.KeeperWorlds.{serves_window}
use Rattle.tc_keeper.proofs.WorldCounts.{many_after}
use Rattle.std.specs.Prelude.{map, zip}
use Rattle.tc_route.specs.Meaning.{routed_of}
use Rattle.tc_run_model.specs.World.{after_all}
use Rattle.tc_keeper.specs.Together.{requests_routed}
use Rattle.tc_keeper.proofs.keeper.Keeper.window.Goals as goal

pub answer_window-requires-clause-works : goal.answer_window-requires-clause-works
unfolding MayServe ServesAt FailsAt AllRest faults_kept HasSpent HasMet
answer_window-requires-clause-works g c κs within =
    (subst (λ (k : KeeperState _ _ _ _). MayAsk g.S.Store.history g.S.Device.Device.history g.S.Frozen.Frozen.content k.engines) (sym c.self.view_is) c.requires.works)

pub write_all-requires-clause-as_many : goal.write_all-requires-clause-as_many
unfolding MayServe ServesAt FailsAt AllRest faults_kept HasSpent HasMet
write_all-requires-clause-as_many g c κs within =
    frames_many (eyes g.S.Store.history g.S.Device.Device.history g.S.Frozen.Frozen.content g.S.Device.Device.name g.S.Frozen.Frozen.size g.S.Watch.Watch.counts)
    (length c.self.inside.engines) (map routed_of c.args.commands.items) c.self.inside.shown.items c.self.inside.engines
    c.answer_window.new.engines c.answer_window.new.frames.items c.self.invariant.as_many c.answer_window.ensures.readers c.in_ok-replies.ensures.frames

pub write_all-requires-clause-stored : goal.write_all-requires-clause-stored
unfolding MayServe ServesAt FailsAt AllRest faults_kept HasSpent HasMet
write_all-requires-clause-stored g c κs within =
    frames_stored (eyes g.S.Store.history g.S.Device.Device.history g.S.Frozen.Frozen.content g.S.Device.Device.name g.S.Frozen.Frozen.size g.S.Watch.Watch.counts)
    (length c.self.inside.engines) (map routed_of c.args.commands.items) (zip c.self.inside.engines c.answer_window.new.engines)
    c.answer_window.new.frames.items c.in_ok-replies.ensures.frames

pub returns-in_err-replies-clause-failed : goal.returns-in_err-replies-clause-failed
unfolding MayServe ServesAt FailsAt AllRest faults_kept HasSpent HasMet
returns-in_err-replies-clause-failed g c =
    let p = err_from_is_err_and c.from_residual.result c.from_residual.ensures.1 in
    λ only w serves. rw p.1 (c.in_err-replies.ensures.failed only w
    (subst (λ (k : KeeperState _ _ _ _). ServesAt (eyes g.S.Store.history g.S.Device.Device.history g.S.Frozen.Frozen.content g.S.Device.Device.name
    g.S.Frozen.Frozen.size g.S.Watch.Watch.counts) k (sees only w)) (sym c.self.view_is) serves).0)

pub returns-in_err-replies-clause-undamaged : goal.returns-in_err-replies-clause-undamaged
unfolding MayServe ServesAt FailsAt AllRest faults_kept HasSpent HasMet
returns-in_err-replies-clause-undamaged g c =
    let p = err_from_is_err_and c.from_residual.result c.from_residual.ensures.1 in
    λ only w serves. rw (p.1, p.2) (c.in_err-replies.ensures.undamaged only w
    (subst (λ (k : KeeperState _ _ _ _). ServesAt (eyes g.S.Store.history g.S.Device.Device.history g.S.Frozen.Frozen.content g.S.Device.Device.name
    g.S.Frozen.Frozen.size g.S.Watch.Watch.counts) k (sees only w)) (sym c.self.view_is) serves).0)

pub returns-in_err-replies-clause-settings : goal.returns-in_err-replies-clause-settings
unfolding MayServe ServesAt FailsAt AllRest faults_kept HasSpent HasMet
returns-in_err-replies-clause-settings g c =
    c.answer_window.ensures.settings ∙ ap (λ (k : KeeperState _ _ _ _). settings_kept k) c.self.view_is

pub returns-in_err-replies-clause-cause : goal.returns-in_err-replies-clause-cause
unfolding MayServe ServesAt FailsAt AllRest faults_kept HasSpent HasMet
returns-in_err-replies-clause-cause g c =
    let p = err_from_is_err_and c.from_residual.result c.from_residual.ensures.1 in
    rw (p.1, p.2) (subst (λ (k : KeeperState _ _ _ _). HasDiskCause (faults_kept g.S.Watch.Watch.counts k)
    (faults_kept g.S.Watch.Watch.counts (record { engines = c.answer_window.new.engines; shown = c.self.inside.shown.items; scan = c.self.inside.scan }))
    (IsTrueHere g.S.Store.history g.S.Device.Device.history g.S.Frozen.Frozen.content
    (record { engines = c.answer_window.new.engines; shown = c.self.inside.shown.items; scan = c.self.inside.scan })) (Some c.in_err-replies.field-0.0))
    c.self.view_is (caused_beside g.S.Watch.Watch.counts (record
    { engines = c.self.inside.engines; shown = c.self.inside.shown.items; scan = c.self.inside.scan })
    (record { engines = c.answer_window.new.engines; shown = c.self.inside.shown.items; scan = c.self.inside.scan }) _ _ (Some c.in_err-replies.field-0.0) refl
    c.self.invariant.readers c.answer_window.ensures.readers (λ spent. spent) (λ p damage met. inl met) c.in_err-replies.ensures.cause))

pub returns-in_err-write_all-clause-failed : goal.returns-in_err-write_all-clause-failed
unfolding MayServe ServesAt FailsAt AllRest faults_kept HasSpent HasMet
returns-in_err-write_all-clause-failed g c =
    let p = err_from_is_err_and c.from_residual-in_err-write_all.result c.from_residual-in_err-write_all.ensures.1 in
    λ only w serves. rw p.1 (behind_keeps (eyes g.S.Store.history g.S.Device.Device.history g.S.Frozen.Frozen.content g.S.Device.Device.name g.S.Frozen.Frozen.size
    g.S.Watch.Watch.counts) only c.answer_window.new.engines w (after_all (requests_routed c.args.commands.items) w)
    (many_after (requests_routed c.args.commands.items) w) (c.in_ok-replies.ensures.held (sees only w)
    (subst (λ (k : KeeperState _ _ _ _). ServesAt (eyes g.S.Store.history g.S.Device.Device.history g.S.Frozen.Frozen.content g.S.Device.Device.name
    g.S.Frozen.Frozen.size g.S.Watch.Watch.counts) k (sees only w)) (sym c.self.view_is) serves).0))

pub returns-in_err-write_all-clause-undamaged : goal.returns-in_err-write_all-clause-undamaged
unfolding MayServe ServesAt FailsAt AllRest faults_kept HasSpent HasMet
returns-in_err-write_all-clause-undamaged g c =
    let p = err_from_is_err_and c.from_residual-in_err-write_all.result c.from_residual-in_err-write_all.ensures.1 in
    λ only w serves. rw (p.1, p.2) tt

pub returns-in_err-write_all-clause-kinds : goal.returns-in_err-write_all-clause-kinds
unfolding MayServe ServesAt FailsAt AllRest faults_kept HasSpent HasMet
returns-in_err-write_all-clause-kinds g c =
    let p = err_from_is_err_and c.from_residual-in_err-write_all.result c.from_residual-in_err-write_all.ensures.1 in
    rw (p.1, p.2) tt

pub returns-in_err-write_all-clause-settings : goal.returns-in_err-write_all-clause-settings
unfolding MayServe ServesAt FailsAt AllRest faults_kept HasSpent HasMet
returns-in_err-write_all-clause-settings g c =
    c.answer_window.ensures.settings ∙ ap (λ (k : KeeperState _ _ _ _). settings_kept k) c.self.view_is

pub returns-in_err-write_all-clause-cause : goal.returns-in_err-write_all-clause-cause
unfolding MayServe ServesAt FailsAt AllRest faults_kept HasSpent HasMet
returns-in_err-write_all-clause-cause g c =
    let p = err_from_is_err_and c.from_residual-in_err-write_all.result c.from_residual-in_err-write_all.ensures.1 in
    rw (p.1, p.2) (subst (λ (k : KeeperState _ _ _ _). HasDiskCause (faults_kept g.S.Watch.Watch.counts k)
    (faults_kept g.S.Watch.Watch.counts (record { engines = c.answer_window.new.engines; shown = c.write_all.new.shown.items; scan = c.self.inside.scan }))
    (IsTrueHere g.S.Store.history g.S.Device.Device.history g.S.Frozen.Frozen.content
    (record { engines = c.answer_window.new.engines; shown = c.write_all.new.shown.items; scan = c.self.inside.scan })) _) c.self.view_is
    (call_without_memory (faults_kept g.S.Watch.Watch.counts (record
    { engines = c.self.inside.engines; shown = c.self.inside.shown.items; scan = c.self.inside.scan }))
    (faults_kept g.S.Watch.Watch.counts (record { engines = c.answer_window.new.engines; shown = c.write_all.new.shown.items; scan = c.self.inside.scan })) _
    (IsTrueHere g.S.Store.history g.S.Device.Device.history g.S.Frozen.Frozen.content
    (record { engines = c.answer_window.new.engines; shown = c.write_all.new.shown.items; scan = c.self.inside.scan }))
    (caused_beside g.S.Watch.Watch.counts (record { engines = c.self.inside.engines; shown = c.self.inside.shown.items; scan = c.self.inside.scan })
    (record { engines = c.answer_window.new.engines; shown = c.write_all.new.shown.items; scan = c.self.inside.scan }) _
    (IsTrueHere g.S.Store.history g.S.Device.Device.history g.S.Frozen.Frozen.content
    (record { engines = c.answer_window.new.engines; shown = c.write_all.new.shown.items; scan = c.self.inside.scan })) None refl c.self.invariant.readers
    c.answer_window.ensures.readers (λ spent. spent) (λ p damage met. inl met) c.in_ok-replies.ensures.cause)))

pub returns-clause-replies : goal.returns-clause-replies
unfolding MayServe ServesAt FailsAt AllRest faults_kept HasSpent HasMet
returns-clause-replies g c =
    λ known serves. c.in_ok-replies.ensures.replies known (subst (λ (k : KeeperState _ _ _ _). ServesAt (eyes g.S.Store.history g.S.Device.Device.history g.S.Frozen.Frozen.content g.S.Device.Device.name g.S.Frozen.Frozen.size g.S.Watch.Watch.counts) k (known)) (sym c.self.view_is) serves).0

pub returns-clause-held : goal.returns-clause-held
unfolding MayServe ServesAt FailsAt AllRest faults_kept HasSpent HasMet
returns-clause-held g c =
    λ known serves. serves_window (eyes g.S.Store.history g.S.Device.Device.history g.S.Frozen.Frozen.content g.S.Device.Device.name g.S.Frozen.Frozen.size
    g.S.Watch.Watch.counts) (record { engines = c.self.inside.engines; shown = c.self.inside.shown.items; scan = c.self.inside.scan })
    (record { engines = c.answer_window.new.engines; shown = c.write_all.new.shown.items; scan = c.self.inside.scan }) c.args.commands.items
    c.answer_window.new.frames.items known c.parts_are_shown.ensures.wrote c.requires.together refl
    (sym (at_each-length (λ p old new. IsReadAsBefore old new) 0 c.self.inside.shown.items c.write_all.new.shown.items c.write_all.ensures.books)
    ∙ shown_many (record { engines = c.self.inside.engines; shown = c.self.inside.shown.items; scan = c.self.inside.scan }) c.answer_window.new.engines
    c.answer_window.ensures.readers c.self.invariant) (c.in_ok-replies.ensures.held known
    (subst (λ (k : KeeperState _ _ _ _). ServesAt (eyes g.S.Store.history g.S.Device.Device.history g.S.Frozen.Frozen.content g.S.Device.Device.name
    g.S.Frozen.Frozen.size g.S.Watch.Watch.counts) k (known)) (sym c.self.view_is) serves).0) c.in_ok-replies.ensures.frames c.in_ok-write_all.ensures.wrote
    (subst (λ (k : KeeperState _ _ _ _). ServesAt (eyes g.S.Store.history g.S.Device.Device.history g.S.Frozen.Frozen.content g.S.Device.Device.name
    g.S.Frozen.Frozen.size g.S.Watch.Watch.counts) k known) (sym c.self.view_is) serves)

pub invariant_of-self : goal.invariant_of-self
unfolding MayServe ServesAt FailsAt AllRest faults_kept HasSpent HasMet
invariant_of-self g c =
    manned_beside (record { engines = c.self.inside.engines; shown = c.self.inside.shown.items; scan = c.self.inside.scan })
    (record { engines = c.answer_window.new.engines; shown = c.self.inside.shown.items; scan = c.self.inside.scan }) refl c.answer_window.ensures.readers c.answer_window.ensures.settings
    (read_as_before c.self.inside.shown.items) (λ own. own) c.self.invariant

pub invariant_of-self-in_err-write_all : goal.invariant_of-self-in_err-write_all
unfolding MayServe ServesAt FailsAt AllRest faults_kept HasSpent HasMet
invariant_of-self-in_err-write_all g c =
    manned_beside (record { engines = c.self.inside.engines; shown = c.self.inside.shown.items; scan = c.self.inside.scan })
    (record { engines = c.answer_window.new.engines; shown = c.write_all.new.shown.items; scan = c.self.inside.scan }) refl c.answer_window.ensures.readers c.answer_window.ensures.settings
    c.write_all.ensures.books (own_written g.S.Frozen.Frozen.content c.answer_window.new.engines c.self.inside.shown.items c.write_all.new.shown.items c.write_all.ensures.own) c.self.invariant

pub invariant_of-self-2 : goal.invariant_of-self-2
unfolding MayServe ServesAt FailsAt AllRest faults_kept HasSpent HasMet
invariant_of-self-2 g c =
    manned_beside (record { engines = c.self.inside.engines; shown = c.self.inside.shown.items; scan = c.self.inside.scan })
    (record { engines = c.answer_window.new.engines; shown = c.write_all.new.shown.items; scan = c.self.inside.scan }) refl c.answer_window.ensures.readers c.answer_window.ensures.settings
    c.write_all.ensures.books (own_written g.S.Frozen.Frozen.content c.answer_window.new.engines c.self.inside.shown.items c.write_all.new.shown.items c.write_all.ensures.own) c.self.invariant

pub returns-clause-works : goal.returns-clause-works
unfolding MayServe ServesAt FailsAt AllRest faults_kept HasSpent HasMet
returns-clause-works g c =
    c.in_ok-replies.ensures.works

pub returns-clause-settings : goal.returns-clause-settings
unfolding MayServe ServesAt FailsAt AllRest faults_kept HasSpent HasMet
returns-clause-settings g c =
    c.answer_window.ensures.settings ∙ ap (λ (k : KeeperState _ _ _ _). settings_kept k) c.self.view_is

pub returns-clause-cause : goal.returns-clause-cause
unfolding MayServe ServesAt FailsAt AllRest faults_kept HasSpent HasMet
returns-clause-cause g c =
    (subst (λ (k : KeeperState _ _ _ _). HasDiskCause (faults_kept g.S.Watch.Watch.counts k)
    (faults_kept g.S.Watch.Watch.counts (record { engines = c.answer_window.new.engines; shown = c.write_all.new.shown.items; scan = c.self.inside.scan }))
    (IsTrueHere g.S.Store.history g.S.Device.Device.history g.S.Frozen.Frozen.content
    (record { engines = c.answer_window.new.engines; shown = c.write_all.new.shown.items; scan = c.self.inside.scan })) None) c.self.view_is
    (caused_beside g.S.Watch.Watch.counts (record { engines = c.self.inside.engines; shown = c.self.inside.shown.items; scan = c.self.inside.scan })
    (record { engines = c.answer_window.new.engines; shown = c.write_all.new.shown.items; scan = c.self.inside.scan }) _
    (IsTrueHere g.S.Store.history g.S.Device.Device.history g.S.Frozen.Frozen.content
    (record { engines = c.answer_window.new.engines; shown = c.write_all.new.shown.items; scan = c.self.inside.scan })) None refl c.self.invariant.readers
    c.answer_window.ensures.readers (λ spent. spent) (λ p damage met. inl met) c.in_ok-replies.ensures.cause))
