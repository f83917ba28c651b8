use Rattle.std.proofs.Common.{◌∙◌, arith, ap, sym, subst}
use Rattle.std.specs.Prelude.{is_some, None, Some}
use Rattle.std.proofs.lemmas.Result.{err_from_is_err_and}
use Rattle.tc_keeper.proofs.PlaceLaws.{at_each-length}
use Rattle.tc_list.proofs.Shown.{is_none}
use Rattle.tc_command.specs.Commands.{ask_of}
use Rattle.tc_shown.specs.declared.scan.Scan.{Scan as Begun}
use Rattle.tc_work.specs.Moving.{eyes}
use Rattle.tc_keeper.specs.Calls.{MayAsk}
use Rattle.tc_keeper.specs.Faults.{HasDiskCause}
use Rattle.tc_keeper.specs.Keeping.{faults_kept, settings_kept, AllRest, FailsAt, HasMet, HasSpent, IsManned, IsTrueHere, KeeperState, MayServe, ServesAt}
use Rattle.tc_keeper.specs.Sight.{sees}
use Rattle.tc_keeper.proofs.Causes.{no_memory_counted, nothing_counted}
use Rattle.tc_keeper.proofs.EngineWorlds.{held_keeps}
use Rattle.tc_keeper.proofs.KeeperCalls.{manned_lent, passes_lent, passes_read, readers_in, Lent}
use Rattle.tc_keeper.proofs.KeeperCounts.{caused_lending}
use Rattle.tc_keeper.proofs.KeeperWorlds.{replies_busy, replies_started, serves_busy, serves_started}
use Rattle.tc_keeper.proofs.ReadersApart.{reread_lent, settings_reread, works_reread}
use Rattle.tc_keeper.proofs.keeper.Keeper.scan.Goals as goal

pub returns-then-is_some-clause-reply : goal.returns-then-is_some-clause-reply
unfolding MayServe ServesAt FailsAt AllRest faults_kept HasSpent HasMet
returns-then-is_some-clause-reply g c =
    let some = ap (λ (k : KeeperState _ _ _ _). is_some k.scan) (sym c.self.view_is) ∙ (sym c.is_some.ensures ∙ c.if-is_some.true) in
    λ known serves. replies_busy (eyes g.S.Store.history g.S.Device.Device.history g.S.Frozen.Frozen.content g.S.Device.Device.name g.S.Frozen.Frozen.size g.S.Watch.Watch.counts) c.args.self.now (ask_of c.args.ask) known some serves

pub returns-then-is_some-clause-held : goal.returns-then-is_some-clause-held
unfolding MayServe ServesAt FailsAt AllRest faults_kept HasSpent HasMet
returns-then-is_some-clause-held g c =
    let some = ap (λ (k : KeeperState _ _ _ _). is_some k.scan) (sym c.self.view_is) ∙ (sym c.is_some.ensures ∙ c.if-is_some.true) in
    λ known serves. serves_busy (eyes g.S.Store.history g.S.Device.Device.history g.S.Frozen.Frozen.content g.S.Device.Device.name g.S.Frozen.Frozen.size g.S.Watch.Watch.counts) c.args.self.now (ask_of c.args.ask) known some serves

pub returns-then-is_some-clause-cause : goal.returns-then-is_some-clause-cause
returns-then-is_some-clause-cause g c =
    nothing_counted (faults_kept g.S.Watch.Watch.counts c.args.self.now) (IsTrueHere g.S.Store.history g.S.Device.Device.history g.S.Frozen.Frozen.content c.args.self.now)

pub returns-in_err-beginning-clause-failed : goal.returns-in_err-beginning-clause-failed
unfolding MayServe ServesAt FailsAt AllRest faults_kept HasSpent HasMet
returns-in_err-beginning-clause-failed g c =
    let p = err_from_is_err_and c.from_residual.result c.from_residual.ensures.1 in
    λ only w serves. rw p.1 (held_keeps (eyes g.S.Store.history g.S.Device.Device.history g.S.Frozen.Frozen.content g.S.Device.Device.name g.S.Frozen.Frozen.size g.S.Watch.Watch.counts) only c.args.self.now.engines w serves.0)

pub returns-in_err-beginning-clause-undamaged : goal.returns-in_err-beginning-clause-undamaged
unfolding MayServe ServesAt FailsAt AllRest faults_kept HasSpent HasMet
returns-in_err-beginning-clause-undamaged g c =
    let p = err_from_is_err_and c.from_residual.result c.from_residual.ensures.1 in
    λ only w serves. rw (p.1, p.2) tt

pub returns-in_err-beginning-clause-kinds : goal.returns-in_err-beginning-clause-kinds
returns-in_err-beginning-clause-kinds g c =
    let p = err_from_is_err_and c.from_residual.result c.from_residual.ensures.1 in
    rw (p.1, p.2) tt

pub returns-in_err-beginning-clause-cause : goal.returns-in_err-beginning-clause-cause
returns-in_err-beginning-clause-cause g c =
    let p = err_from_is_err_and c.from_residual.result c.from_residual.ensures.1 in
    rw (p.1, p.2) (no_memory_counted (faults_kept g.S.Watch.Watch.counts c.args.self.now) (IsTrueHere g.S.Store.history g.S.Device.Device.history g.S.Frozen.Frozen.content c.args.self.now))

pub returns-in_err-passes-clause-failed : goal.returns-in_err-passes-clause-failed
unfolding MayServe ServesAt FailsAt AllRest faults_kept HasSpent HasMet
returns-in_err-passes-clause-failed g c =
    let p = err_from_is_err_and c.from_residual-in_err-passes.result c.from_residual-in_err-passes.ensures.1 in
    λ only w serves. rw p.1 (held_keeps (eyes g.S.Store.history g.S.Device.Device.history g.S.Frozen.Frozen.content g.S.Device.Device.name g.S.Frozen.Frozen.size g.S.Watch.Watch.counts) only c.args.self.now.engines w serves.0)

pub returns-in_err-passes-clause-undamaged : goal.returns-in_err-passes-clause-undamaged
unfolding MayServe ServesAt FailsAt AllRest faults_kept HasSpent HasMet
returns-in_err-passes-clause-undamaged g c =
    let p = err_from_is_err_and c.from_residual-in_err-passes.result c.from_residual-in_err-passes.ensures.1 in
    λ only w serves. rw (p.1, p.2) tt

pub returns-in_err-passes-clause-kinds : goal.returns-in_err-passes-clause-kinds
returns-in_err-passes-clause-kinds g c =
    let p = err_from_is_err_and c.from_residual-in_err-passes.result c.from_residual-in_err-passes.ensures.1 in
    rw (p.1, p.2) tt

pub returns-in_err-passes-clause-cause : goal.returns-in_err-passes-clause-cause
returns-in_err-passes-clause-cause g c =
    let p = err_from_is_err_and c.from_residual-in_err-passes.result c.from_residual-in_err-passes.ensures.1 in
    rw (p.1, p.2) (no_memory_counted (faults_kept g.S.Watch.Watch.counts c.args.self.now) (IsTrueHere g.S.Store.history g.S.Device.Device.history g.S.Frozen.Frozen.content c.args.self.now))

pub invariant_of-self : goal.invariant_of-self
invariant_of-self g c =
    subst (λ ss. IsManned g.S.Frozen.Frozen.content (record { engines = c.self.inside.engines; shown = ss; scan = c.self.inside.scan })) (sym c.lend_lenses.ensures.same) c.self.invariant

pub returns-in_err-lenses-clause-failed : goal.returns-in_err-lenses-clause-failed
unfolding MayServe ServesAt FailsAt AllRest faults_kept HasSpent HasMet
returns-in_err-lenses-clause-failed g c =
    let p = err_from_is_err_and c.from_residual-in_err-lenses.result c.from_residual-in_err-lenses.ensures.1 in
    λ only w serves. rw p.1 (held_keeps (eyes g.S.Store.history g.S.Device.Device.history g.S.Frozen.Frozen.content g.S.Device.Device.name g.S.Frozen.Frozen.size
    g.S.Watch.Watch.counts) only c.self.inside.engines w
    (subst (λ (k : KeeperState _ _ _ _). ServesAt (eyes g.S.Store.history g.S.Device.Device.history g.S.Frozen.Frozen.content g.S.Device.Device.name
    g.S.Frozen.Frozen.size g.S.Watch.Watch.counts) k (sees only w)) (sym c.self.view_is) serves).0)

pub returns-in_err-lenses-clause-undamaged : goal.returns-in_err-lenses-clause-undamaged
unfolding MayServe ServesAt FailsAt AllRest faults_kept HasSpent HasMet
returns-in_err-lenses-clause-undamaged g c =
    let p = err_from_is_err_and c.from_residual-in_err-lenses.result c.from_residual-in_err-lenses.ensures.1 in
    λ only w serves. rw (p.1, p.2) tt

pub returns-in_err-lenses-clause-kinds : goal.returns-in_err-lenses-clause-kinds
returns-in_err-lenses-clause-kinds g c =
    let p = err_from_is_err_and c.from_residual-in_err-lenses.result c.from_residual-in_err-lenses.ensures.1 in
    rw (p.1, p.2) tt

pub returns-in_err-lenses-clause-settings : goal.returns-in_err-lenses-clause-settings
returns-in_err-lenses-clause-settings g c =
    ap (λ (k : KeeperState _ _ _ _). settings_kept k) c.self.view_is

pub returns-in_err-lenses-clause-cause : goal.returns-in_err-lenses-clause-cause
unfolding MayServe ServesAt FailsAt AllRest faults_kept HasSpent HasMet
returns-in_err-lenses-clause-cause g c =
    let p = err_from_is_err_and c.from_residual-in_err-lenses.result c.from_residual-in_err-lenses.ensures.1 in
    rw (p.1, p.2) (subst (λ (k : KeeperState _ _ _ _). HasDiskCause (faults_kept g.S.Watch.Watch.counts k)
    (faults_kept g.S.Watch.Watch.counts (record { engines = c.self.inside.engines; shown = c.lend_lenses.new.shown.items; scan = c.self.inside.scan }))
    (IsTrueHere g.S.Store.history g.S.Device.Device.history g.S.Frozen.Frozen.content
    (record { engines = c.self.inside.engines; shown = c.lend_lenses.new.shown.items; scan = c.self.inside.scan })) _) c.self.view_is
    (no_memory_counted (faults_kept g.S.Watch.Watch.counts (record
    { engines = c.self.inside.engines; shown = c.self.inside.shown.items; scan = c.self.inside.scan }))
    (IsTrueHere g.S.Store.history g.S.Device.Device.history g.S.Frozen.Frozen.content
    (record { engines = c.self.inside.engines; shown = c.lend_lenses.new.shown.items; scan = c.self.inside.scan }))))

pub lend_watches-passes-requires-clause-as_many : goal.lend_watches-passes-requires-clause-as_many
lend_watches-passes-requires-clause-as_many g c κs within =
    sym (at_each-length Lent 0 c.self.inside.shown.items c.in_ok-lenses.lenses.items c.in_ok-lenses.ensures.lent) ∙ c.self.invariant.as_many

pub lend_watches-passes-requires-clause-room : goal.lend_watches-passes-requires-clause-room
lend_watches-passes-requires-clause-room g c κs within =
    omega (arith, at_each-length Lent 0 c.self.inside.shown.items c.in_ok-lenses.lenses.items c.in_ok-lenses.ensures.lent, c.in_ok-passes.ensures.capacity, c.len.ensures, c.self.inside.shown.ok.0)

pub lend_watches-passes-requires-clause-home : goal.lend_watches-passes-requires-clause-home
lend_watches-passes-requires-clause-home g c κs within =
    let none = is_none c.self.inside.scan (sym c.is_some.ensures ∙ c.if-is_some.false) in
    readers_in (record { engines = c.self.inside.engines; shown = c.self.inside.shown.items; scan = c.self.inside.scan }) none c.self.invariant

pub start-requires-clause-few : goal.start-requires-clause-few
unfolding MayServe ServesAt FailsAt AllRest faults_kept HasSpent HasMet
start-requires-clause-few g c κs within =
    let lent = passes_lent c.self.inside.shown.items c.in_ok-lenses.lenses.items c.lend_watches-passes.result.items c.lend_watches-passes.ensures.lenses c.in_ok-lenses.ensures.lent in
    let many = at_each-length _ 0 c.self.inside.shown.items c.lend_watches-passes.result.items lent in
    let few = (subst (λ (k : KeeperState _ _ _ _). MayAsk g.S.Store.history g.S.Device.Device.history g.S.Frozen.Frozen.content k.engines) (sym c.self.view_is) c.requires.works).1 in
    omega (arith, many, few, c.self.invariant.as_many)

pub start-requires-clause-reads : goal.start-requires-clause-reads
start-requires-clause-reads g c κs within =
    let lent = passes_lent c.self.inside.shown.items c.in_ok-lenses.lenses.items c.lend_watches-passes.result.items c.lend_watches-passes.ensures.lenses c.in_ok-lenses.ensures.lent in
    passes_read c.self.inside.shown.items c.lend_watches-passes.result.items lent

pub invariant_of-self-2 : goal.invariant_of-self-2
invariant_of-self-2 g c =
    let begun : Begun g.row.S-Frozen.Denot g.row.S-Watch.Denot = record { passes = c.lend_watches-passes.result; ask = c.args.ask } in
    let some = ap Some c.start.ensures in
    let lent = passes_lent c.self.inside.shown.items c.in_ok-lenses.lenses.items c.lend_watches-passes.result.items c.lend_watches-passes.ensures.lenses c.in_ok-lenses.ensures.lent in
    manned_lent (record { engines = c.self.inside.engines; shown = c.self.inside.shown.items; scan = c.self.inside.scan })
    (record { engines = c.lend_watches-passes.new.engines; shown = c.lend_lenses.new.shown.items; scan = Some c.start.result }) begun some
    c.lend_lenses.ensures.same c.lend_watches-passes.ensures.out lent c.self.invariant

pub returns-clause-works : goal.returns-clause-works
unfolding MayServe ServesAt FailsAt AllRest faults_kept HasSpent HasMet
returns-clause-works g c =
    works_reread g.S.Store.history g.S.Device.Device.history g.S.Frozen.Frozen.content c.self.inside.engines c.lend_watches-passes.new.engines
    (reread_lent c.self.inside.engines c.lend_watches-passes.new.engines c.lend_watches-passes.ensures.out)
    (subst (λ (k : KeeperState _ _ _ _). MayAsk g.S.Store.history g.S.Device.Device.history g.S.Frozen.Frozen.content k.engines)
    (sym c.self.view_is) c.requires.works)

pub returns-clause-reply : goal.returns-clause-reply
unfolding MayServe ServesAt FailsAt AllRest faults_kept HasSpent HasMet
returns-clause-reply g c =
    let none = is_none c.self.inside.scan (sym c.is_some.ensures ∙ c.if-is_some.false) in
    λ known serves. replies_started (eyes g.S.Store.history g.S.Device.Device.history g.S.Frozen.Frozen.content g.S.Device.Device.name g.S.Frozen.Frozen.size
    g.S.Watch.Watch.counts) (record { engines = c.self.inside.engines; shown = c.self.inside.shown.items; scan = c.self.inside.scan })
    (ask_of c.args.ask) known none (subst (λ (k : KeeperState _ _ _ _). ServesAt
    (eyes g.S.Store.history g.S.Device.Device.history g.S.Frozen.Frozen.content g.S.Device.Device.name g.S.Frozen.Frozen.size g.S.Watch.Watch.counts) k (known))
    (sym c.self.view_is) serves)

pub returns-clause-held : goal.returns-clause-held
unfolding MayServe ServesAt FailsAt AllRest faults_kept HasSpent HasMet
returns-clause-held g c =
    let none = is_none c.self.inside.scan (sym c.is_some.ensures ∙ c.if-is_some.false) in
    let begun : Begun g.row.S-Frozen.Denot g.row.S-Watch.Denot = record { passes = c.lend_watches-passes.result; ask = c.args.ask } in
    let some = ap Some c.start.ensures in
    let lent = passes_lent c.self.inside.shown.items c.in_ok-lenses.lenses.items c.lend_watches-passes.result.items c.lend_watches-passes.ensures.lenses c.in_ok-lenses.ensures.lent in
    λ known serves. serves_started (eyes g.S.Store.history g.S.Device.Device.history g.S.Frozen.Frozen.content g.S.Device.Device.name g.S.Frozen.Frozen.size
    g.S.Watch.Watch.counts) (record { engines = c.self.inside.engines; shown = c.self.inside.shown.items; scan = c.self.inside.scan })
    (record { engines = c.lend_watches-passes.new.engines; shown = c.lend_lenses.new.shown.items; scan = Some c.start.result }) begun known none some
    c.lend_lenses.ensures.same lent c.lend_watches-passes.ensures.held
    (subst (λ (k : KeeperState _ _ _ _). ServesAt (eyes g.S.Store.history g.S.Device.Device.history g.S.Frozen.Frozen.content g.S.Device.Device.name
    g.S.Frozen.Frozen.size g.S.Watch.Watch.counts) k (known)) (sym c.self.view_is) serves)

pub returns-clause-settings : goal.returns-clause-settings
returns-clause-settings g c =
    settings_reread c.self.inside.engines c.lend_watches-passes.new.engines (reread_lent c.self.inside.engines c.lend_watches-passes.new.engines c.lend_watches-passes.ensures.out) ∙ ap (λ (k : KeeperState _ _ _ _). settings_kept k) c.self.view_is

pub returns-clause-cause : goal.returns-clause-cause
returns-clause-cause g c =
    let none = is_none c.self.inside.scan (sym c.is_some.ensures ∙ c.if-is_some.false) in
    let begun : Begun g.row.S-Frozen.Denot g.row.S-Watch.Denot = record { passes = c.lend_watches-passes.result; ask = c.args.ask } in
    let some = ap Some c.start.ensures in
    (subst (λ (k : KeeperState _ _ _ _). HasDiskCause (faults_kept g.S.Watch.Watch.counts k)
    (faults_kept g.S.Watch.Watch.counts (record {
      engines = c.lend_watches-passes.new.engines;
      shown = c.lend_lenses.new.shown.items;
      scan = Some c.start.result;
    })) (IsTrueHere g.S.Store.history g.S.Device.Device.history g.S.Frozen.Frozen.content
    (record { engines = c.lend_watches-passes.new.engines; shown = c.lend_lenses.new.shown.items; scan = Some c.start.result })) None) c.self.view_is
    (caused_lending g.S.Watch.Watch.counts (record { engines = c.self.inside.engines; shown = c.self.inside.shown.items; scan = c.self.inside.scan })
    (record { engines = c.lend_watches-passes.new.engines; shown = c.lend_lenses.new.shown.items; scan = Some c.start.result }) begun
    (IsTrueHere g.S.Store.history g.S.Device.Device.history g.S.Frozen.Frozen.content
    (record { engines = c.lend_watches-passes.new.engines; shown = c.lend_lenses.new.shown.items; scan = Some c.start.result })) none some
    c.lend_watches-passes.ensures.watches c.lend_watches-passes.ensures.out))
