use Rattle.std.proofs.Common.{◌≡◌, ◌∙◌, length, ap, inr, sym, subst, refl}
use Rattle.std.specs.Prelude.{false, None}
use mathlib.Core.List.{IsPrefix}
use Rattle.tc_keeper.specs.Places.{AtEach}
use Rattle.tc_shown.specs.Shown.{Reads, ShownState}
use Rattle.tc_shown.specs.declared.scan.Pass.{Pass}
use Rattle.tc_view.specs.Places.{kept_by}
use Rattle.tc_keeper.specs.Partitions.{collected_as}
use Rattle.tc_work.specs.Moving.{eyes}
use Rattle.tc_keeper.specs.Calls.{faults_of}
use Rattle.tc_keeper.specs.Faults.{fault_in, HasDiskCause}
use Rattle.tc_keeper.specs.Keeping.{faults_kept, settings_kept, AllRest, FailsAt, HasMet, HasSpent, IsTrueHere, KeeperState, MayServe, ServesAt}
use Rattle.tc_keeper.specs.Sight.{sees}
use Rattle.tc_keeper.proofs.BegunKeepers.{begun_counts}
use Rattle.tc_keeper.proofs.Causes.{nothing_counted}
use Rattle.tc_keeper.proofs.EngineWorlds.{stand_still}
use Rattle.tc_keeper.proofs.KeeperCalls.{back_home, back_many, lenses_away, lenses_back, readers_away, readers_in}
use Rattle.tc_keeper.proofs.MetDamage.{met_behind, met_here}
use Rattle.tc_keeper.proofs.ReadersApart.{reread_back, rests_reread, settings_reread, spent_reread}
use Rattle.tc_keeper.proofs.ScanEnds.{collect_cause, end_kind, end_sound}
use Rattle.tc_keeper.proofs.keeper.Keeper.end.Goals as goal

pub returns-in-None-clause-held : goal.returns-in-None-clause-held
unfolding MayServe ServesAt FailsAt AllRest faults_kept HasSpent HasMet
returns-in-None-clause-held g c =
    λ known serves. (subst (λ (k : KeeperState _ _ _ _). ServesAt (eyes g.S.Store.history g.S.Device.Device.history g.S.Frozen.Frozen.content g.S.Device.Device.name g.S.Frozen.Frozen.size g.S.Watch.Watch.counts) k (known)) (sym c.self.view_is) serves).0

pub returns-in-None-clause-failed : goal.returns-in-None-clause-failed
unfolding MayServe ServesAt FailsAt AllRest faults_kept HasSpent HasMet
returns-in-None-clause-failed g c =
    λ only w v fails. (subst (λ (k : KeeperState _ _ _ _). FailsAt (eyes g.S.Store.history g.S.Device.Device.history g.S.Frozen.Frozen.content g.S.Device.Device.name g.S.Frozen.Frozen.size g.S.Watch.Watch.counts) k only w v) (sym c.self.view_is) fails)

pub returns-in-None-clause-rests : goal.returns-in-None-clause-rests
unfolding MayServe ServesAt FailsAt AllRest faults_kept HasSpent HasMet
returns-in-None-clause-rests g c =
    λ rest. (subst (λ (k : KeeperState _ _ _ _). AllRest g.S.Device.Device.size k) (sym c.self.view_is) rest)

pub returns-in-None-clause-spent : goal.returns-in-None-clause-spent
unfolding MayServe ServesAt FailsAt AllRest faults_kept HasSpent HasMet
returns-in-None-clause-spent g c =
    λ spent. (subst (λ (k : KeeperState _ _ _ _). HasSpent g.S.Store.history g.S.Device.Device.history g.S.Frozen.Frozen.content k) (sym c.self.view_is) spent)

pub returns-in-None-clause-met : goal.returns-in-None-clause-met
unfolding HasMet
returns-in-None-clause-met g c = λ q damage met. met_here g.S.Device.Device.history g.S.Frozen.Frozen.content damage c.self.inside.shown.items
    c.self.inside.engines q (subst
    (λ (k : KeeperState _ _ _ _). HasMet g.S.Device.Device.history g.S.Frozen.Frozen.content k q damage) (sym c.self.view_is) met)

pub returns-in-None-clause-settings : goal.returns-in-None-clause-settings
returns-in-None-clause-settings g c =
    ap (λ (k : KeeperState _ _ _ _). settings_kept k) c.self.view_is

pub returns-in-None-clause-readers : goal.returns-in-None-clause-readers
returns-in-None-clause-readers g c =
    readers_in (record { engines = c.self.inside.engines; shown = c.self.inside.shown.items; scan = c.self.inside.scan }) c.in-None.is c.self.invariant

pub returns-in-None-clause-cause : goal.returns-in-None-clause-cause
returns-in-None-clause-cause g c =
    let first : KeeperState _ _ _ _ = record { engines = c.self.inside.engines; shown = c.self.inside.shown.items; scan = c.self.inside.scan } in
    subst (λ (k : KeeperState _ _ _ _). HasDiskCause (faults_kept g.S.Watch.Watch.counts k) (faults_of g.S.Watch.Watch.counts c.self.inside.engines)
    (IsTrueHere g.S.Store.history g.S.Device.Device.history g.S.Frozen.Frozen.content k) None) c.self.view_is
    (subst (λ counted. HasDiskCause (faults_kept g.S.Watch.Watch.counts first) counted (IsTrueHere g.S.Store.history g.S.Device.Device.history g.S.Frozen.Frozen.content first) None)
    (begun_counts g.S.Watch.Watch.counts first c.self.inside.engines refl c.in-None.is)
    (nothing_counted (faults_kept g.S.Watch.Watch.counts first) (IsTrueHere g.S.Store.history g.S.Device.Device.history g.S.Frozen.Frozen.content first)))

pub take_back-covered-requires-clause-as_many : goal.take_back-covered-requires-clause-as_many
take_back-covered-requires-clause-as_many g c κs within =
    let some = c.in-Some.is in (
      back_many g.S.Watch.Watch.counts (record { engines = c.self.inside.engines; shown = c.self.inside.shown.items; scan = c.self.inside.scan })
          c.in-Some.scan c.join-passes.result.passes.items some c.join-passes.ensures.back c.self.invariant,
      ap length c.deref.ensures.value ∙ c.self.invariant.as_many,
    )

pub take_back-covered-requires-clause-out : goal.take_back-covered-requires-clause-out
take_back-covered-requires-clause-out g c κs within =
    let some = c.in-Some.is in
    (readers_away (record { engines = c.self.inside.engines; shown = c.self.inside.shown.items; scan = c.self.inside.scan }) c.in-Some.scan some c.self.invariant).1

pub take_back-covered-requires-clause-lenses : goal.take_back-covered-requires-clause-lenses
take_back-covered-requires-clause-lenses g c κs within =
    let some = c.in-Some.is in
    subst (λ shown. AtEach (λ p (s : ShownState g.row.S-Frozen.Denot g.row.S-Watch.Denot) (pass : Pass g.row.S-Frozen.Denot g.row.S-Watch.Denot). s.failed ≡ false
    → Reads s.book pass.lens) 0 shown c.join-passes.result.passes.items) (sym c.deref.ensures.value)
    (lenses_back g.S.Watch.Watch.counts (record { engines = c.self.inside.engines; shown = c.self.inside.shown.items; scan = c.self.inside.scan })
    c.in-Some.scan c.join-passes.result.passes.items some c.join-passes.ensures.back c.self.invariant)

pub returns-clause-held : goal.returns-clause-held
unfolding MayServe ServesAt FailsAt AllRest faults_kept HasSpent HasMet
returns-clause-held g c =
    λ known serves. stand_still (eyes g.S.Store.history g.S.Device.Device.history g.S.Frozen.Frozen.content g.S.Device.Device.name g.S.Frozen.Frozen.size
    g.S.Watch.Watch.counts) c.self.inside.engines c.take_back-covered.new.engines known
    (subst (λ (k : KeeperState _ _ _ _). ServesAt (eyes g.S.Store.history g.S.Device.Device.history g.S.Frozen.Frozen.content g.S.Device.Device.name
    g.S.Frozen.Frozen.size g.S.Watch.Watch.counts) k (known)) (sym c.self.view_is) serves).0 c.take_back-covered.ensures.held

pub returns-clause-failed : goal.returns-clause-failed
unfolding MayServe ServesAt FailsAt AllRest faults_kept HasSpent HasMet
returns-clause-failed g c =
    λ only w v fails. c.take_back-covered.ensures.kept only w v (subst (λ (k : KeeperState _ _ _ _). FailsAt (eyes g.S.Store.history g.S.Device.Device.history g.S.Frozen.Frozen.content g.S.Device.Device.name g.S.Frozen.Frozen.size g.S.Watch.Watch.counts) k only w v) (sym c.self.view_is) fails)

pub returns-clause-rests : goal.returns-clause-rests
unfolding MayServe ServesAt FailsAt AllRest faults_kept HasSpent HasMet
returns-clause-rests g c =
    λ rest. rests_reread g.S.Device.Device.size c.self.inside.engines c.take_back-covered.new.engines
    (reread_back c.join-passes.result.passes.items c.self.inside.engines c.take_back-covered.new.engines c.take_back-covered.ensures.home)
    (subst (λ (k : KeeperState _ _ _ _). AllRest g.S.Device.Device.size k) (sym c.self.view_is) rest)

pub returns-clause-spent : goal.returns-clause-spent
unfolding MayServe ServesAt FailsAt AllRest faults_kept HasSpent HasMet
returns-clause-spent g c =
    λ spent. spent_reread g.S.Store.history g.S.Device.Device.history g.S.Frozen.Frozen.content c.self.inside.engines c.take_back-covered.new.engines
    (reread_back c.join-passes.result.passes.items c.self.inside.engines c.take_back-covered.new.engines c.take_back-covered.ensures.home)
    (subst (λ (k : KeeperState _ _ _ _). HasSpent g.S.Store.history g.S.Device.Device.history g.S.Frozen.Frozen.content k) (sym c.self.view_is) spent)

pub returns-clause-met : goal.returns-clause-met
unfolding HasMet
returns-clause-met g c = λ q damage met. met_behind g.S.Device.Device.history g.S.Frozen.Frozen.content damage c.self.inside.shown.items
    c.self.inside.engines c.take_back-covered.new.engines q
    (reread_back c.join-passes.result.passes.items c.self.inside.engines c.take_back-covered.new.engines c.take_back-covered.ensures.home)
    (subst (λ (k : KeeperState _ _ _ _). HasMet g.S.Device.Device.history g.S.Frozen.Frozen.content k q damage) (sym c.self.view_is) met)

pub returns-clause-settings : goal.returns-clause-settings
returns-clause-settings g c =
    settings_reread c.self.inside.engines c.take_back-covered.new.engines (reread_back c.join-passes.result.passes.items c.self.inside.engines c.take_back-covered.new.engines c.take_back-covered.ensures.home) ∙ ap (λ (k : KeeperState _ _ _ _). settings_kept k) c.self.view_is

pub returns-clause-readers : goal.returns-clause-readers
returns-clause-readers g c =
    back_home c.join-passes.result.passes.items c.self.inside.engines c.take_back-covered.new.engines c.take_back-covered.ensures.home

pub returns-clause-undamaged : goal.returns-clause-undamaged
unfolding MayServe ServesAt FailsAt AllRest faults_kept HasSpent HasMet
returns-clause-undamaged g c =
    let some = c.in-Some.is in
    λ only w serves. rw c.fault_of_scan.ensures (end_sound (eyes g.S.Store.history g.S.Device.Device.history g.S.Frozen.Frozen.content g.S.Device.Device.name
    g.S.Frozen.Frozen.size g.S.Watch.Watch.counts) c.histories_hold_writes.ensures.seen c.parts_are_shown.ensures.counted c.parts_are_shown.ensures.longer
    (record { engines = c.self.inside.engines; shown = c.self.inside.shown.items; scan = c.self.inside.scan }) c.in-Some.scan
    c.join-passes.result.passes.items some (lenses_away (record {
      engines = c.self.inside.engines;
      shown = c.self.inside.shown.items;
      scan = c.self.inside.scan;
    }) c.in-Some.scan some c.self.invariant) c.take_back-covered.result c.join-passes.result.outcome only w c.join-passes.ensures
    (λ all. subst (λ shown. AtEach (λ p (s : ShownState g.row.S-Frozen.Denot g.row.S-Watch.Denot) (pass : Pass g.row.S-Frozen.Denot g.row.S-Watch.Denot).
    (s.failed ≡ false) × IsPrefix (kept_by pass.lens).history s.history) 0 shown c.join-passes.result.passes.items) c.deref.ensures.value
    (c.take_back-covered.ensures.covers all)) (subst (λ (k : KeeperState _ _ _ _). ServesAt
    (eyes g.S.Store.history g.S.Device.Device.history g.S.Frozen.Frozen.content g.S.Device.Device.name g.S.Frozen.Frozen.size g.S.Watch.Watch.counts) k
    (sees only w)) (sym c.self.view_is) serves))

pub returns-clause-kind : goal.returns-clause-kind
returns-clause-kind g c =
    rw c.fault_of_scan.ensures (end_kind c.take_back-covered.result c.join-passes.result.outcome)

pub returns-clause-cause : goal.returns-clause-cause
unfolding MayServe ServesAt FailsAt AllRest faults_kept HasSpent HasMet
returns-clause-cause g c =
    let some = c.in-Some.is in
    rw c.fault_of_scan.ensures (subst (λ (k : KeeperState _ _ _ _). HasDiskCause (faults_kept g.S.Watch.Watch.counts k)
    (faults_of g.S.Watch.Watch.counts c.take_back-covered.new.engines)
    (IsTrueHere g.S.Store.history g.S.Device.Device.history g.S.Frozen.Frozen.content k)
    (fault_in (collected_as c.take_back-covered.result c.join-passes.result.outcome))) c.self.view_is
    (collect_cause g.S.Watch.Watch.counts g.S.Frozen.Frozen.content
    (record { engines = c.self.inside.engines; shown = c.self.inside.shown.items; scan = c.self.inside.scan }) c.take_back-covered.new.engines
    c.in-Some.scan c.join-passes.result.passes.items some c.take_back-covered.ensures.home
    (back_many g.S.Watch.Watch.counts (record { engines = c.self.inside.engines; shown = c.self.inside.shown.items; scan = c.self.inside.scan })
    c.in-Some.scan c.join-passes.result.passes.items some c.join-passes.ensures.back c.self.invariant) c.self.invariant.own
    (lenses_back g.S.Watch.Watch.counts (record { engines = c.self.inside.engines; shown = c.self.inside.shown.items; scan = c.self.inside.scan })
    c.in-Some.scan c.join-passes.result.passes.items some c.join-passes.ensures.back c.self.invariant)
    (IsTrueHere g.S.Store.history g.S.Device.Device.history g.S.Frozen.Frozen.content
    (record { engines = c.self.inside.engines; shown = c.self.inside.shown.items; scan = c.self.inside.scan })) (λ p damage met. inr met)
    c.take_back-covered.result c.join-passes.result.outcome c.join-passes.ensures
    (λ all. subst (λ shown. AtEach (λ p (s : ShownState g.row.S-Frozen.Denot g.row.S-Watch.Denot) (pass : Pass g.row.S-Frozen.Denot g.row.S-Watch.Denot).
    (s.failed ≡ false) × IsPrefix (kept_by pass.lens).history s.history) 0 shown c.join-passes.result.passes.items) c.deref.ensures.value
    (c.take_back-covered.ensures.covers all))))
