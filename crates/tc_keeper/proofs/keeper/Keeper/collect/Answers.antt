use Rattle.std.proofs.Common.{◌≡◌, ◌∙◌, ◌∷◌, [], length, ap, inr, sym, subst, refl}
use Rattle.std.specs.Prelude.{false, None}
use mathlib.Core.List.{IsPrefix}
use Rattle.tc_keeper.specs.Places.{AtEach}
use Rattle.tc_request_model.specs.Request.{collect}
use Rattle.tc_shown.specs.Shown.{Reads, ShownState}
use Rattle.tc_shown.specs.declared.scan.Pass.{Pass}
use Rattle.tc_view.specs.Places.{kept_by}
use Rattle.tc_keeper.specs.Partitions.{collected_as}
use Rattle.tc_work.specs.Moving.{eyes}
use Rattle.tc_keeper.specs.Calls.{MayAsk}
use Rattle.tc_keeper.specs.Faults.{fault_in, HasDiskCause}
use Rattle.tc_keeper.specs.Keeping.{faults_kept, settings_kept, AllRest, FailsAt, HasMet, HasSpent, IsManned, IsTrueHere, KeeperState, MayServe, ServesAt}
use Rattle.tc_keeper.specs.Sight.{sees, sight_after}
use Rattle.tc_keeper.proofs.Causes.{nothing_counted}
use Rattle.tc_keeper.proofs.EngineWorlds.{err_always, held_keeps, ok_always}
use Rattle.tc_keeper.proofs.KeeperCalls.{back_many, lenses_away, lenses_back, manned_back, readers_away}
use Rattle.tc_keeper.proofs.KeeperWorlds.{replies_none, serves_collected, serves_none}
use Rattle.tc_keeper.proofs.MetDamage.{shown_still}
use Rattle.tc_keeper.proofs.ReadersApart.{reread_back, settings_reread, works_reread}
use Rattle.tc_keeper.proofs.ScanEnds.{collect_cause, collect_kind, collect_reply, collect_sound}
use Rattle.tc_keeper.proofs.keeper.Keeper.collect.Goals as goal

pub invariant_of-self : goal.invariant_of-self
invariant_of-self g c =
    let none = sym c.take.ensures.value ∙ c.in-None.is in
    subst (λ o. IsManned g.S.Frozen.Frozen.content (record { engines = c.self.inside.engines; shown = c.self.inside.shown.items; scan = o })) (none ∙ sym c.take.ensures.after) c.self.invariant

pub returns-in-None-clause-works : goal.returns-in-None-clause-works
unfolding MayServe ServesAt FailsAt AllRest faults_kept HasSpent HasMet
returns-in-None-clause-works g c =
    (subst (λ (k : KeeperState _ _ _ _). MayAsk g.S.Store.history g.S.Device.Device.history g.S.Frozen.Frozen.content k.engines) (sym c.self.view_is) c.requires.works)

pub returns-in-None-clause-reply : goal.returns-in-None-clause-reply
unfolding MayServe ServesAt FailsAt AllRest faults_kept HasSpent HasMet
returns-in-None-clause-reply g c =
    let none = sym c.take.ensures.value ∙ c.in-None.is in
    λ known serves. replies_none (eyes g.S.Store.history g.S.Device.Device.history g.S.Frozen.Frozen.content g.S.Device.Device.name g.S.Frozen.Frozen.size
    g.S.Watch.Watch.counts) (record { engines = c.self.inside.engines; shown = c.self.inside.shown.items; scan = c.self.inside.scan }) known none
    (subst (λ (k : KeeperState _ _ _ _). ServesAt (eyes g.S.Store.history g.S.Device.Device.history g.S.Frozen.Frozen.content g.S.Device.Device.name
    g.S.Frozen.Frozen.size g.S.Watch.Watch.counts) k (known)) (sym c.self.view_is) serves)

pub returns-in-None-clause-held : goal.returns-in-None-clause-held
unfolding MayServe ServesAt FailsAt AllRest faults_kept HasSpent HasMet
returns-in-None-clause-held g c =
    let none = sym c.take.ensures.value ∙ c.in-None.is in
    λ known serves. subst (λ o. ServesAt (eyes g.S.Store.history g.S.Device.Device.history g.S.Frozen.Frozen.content g.S.Device.Device.name g.S.Frozen.Frozen.size
    g.S.Watch.Watch.counts) (record { engines = c.self.inside.engines; shown = c.self.inside.shown.items; scan = o })
    (sight_after (collect ∷ []) known)) (none ∙ sym c.take.ensures.after)
    (serves_none (eyes g.S.Store.history g.S.Device.Device.history g.S.Frozen.Frozen.content g.S.Device.Device.name g.S.Frozen.Frozen.size g.S.Watch.Watch.counts)
    (record { engines = c.self.inside.engines; shown = c.self.inside.shown.items; scan = c.self.inside.scan }) known none
    (subst (λ (k : KeeperState _ _ _ _). ServesAt (eyes g.S.Store.history g.S.Device.Device.history g.S.Frozen.Frozen.content g.S.Device.Device.name
    g.S.Frozen.Frozen.size g.S.Watch.Watch.counts) k (known)) (sym c.self.view_is) serves))

pub returns-in-None-clause-settings : goal.returns-in-None-clause-settings
returns-in-None-clause-settings g c =
    ap (λ (k : KeeperState _ _ _ _). settings_kept k) c.self.view_is

pub returns-in-None-clause-cause : goal.returns-in-None-clause-cause
returns-in-None-clause-cause g c =
    let none = sym c.take.ensures.value ∙ c.in-None.is in
    (subst (λ (k : KeeperState _ _ _ _). HasDiskCause (faults_kept g.S.Watch.Watch.counts k)
    (faults_kept g.S.Watch.Watch.counts (record { engines = c.self.inside.engines; shown = c.self.inside.shown.items; scan = c.take.new.self }))
    (IsTrueHere g.S.Store.history g.S.Device.Device.history g.S.Frozen.Frozen.content
    (record { engines = c.self.inside.engines; shown = c.self.inside.shown.items; scan = c.take.new.self })) None) c.self.view_is
    (subst (λ o. HasDiskCause (faults_kept g.S.Watch.Watch.counts
    (record { engines = c.self.inside.engines; shown = c.self.inside.shown.items; scan = c.self.inside.scan }))
    (faults_kept g.S.Watch.Watch.counts (record { engines = c.self.inside.engines; shown = c.self.inside.shown.items; scan = o }))
    (IsTrueHere g.S.Store.history g.S.Device.Device.history g.S.Frozen.Frozen.content
    (record { engines = c.self.inside.engines; shown = c.self.inside.shown.items; scan = c.take.new.self })) None) (none ∙ sym c.take.ensures.after)
    (nothing_counted (faults_kept g.S.Watch.Watch.counts (record
    { engines = c.self.inside.engines; shown = c.self.inside.shown.items; scan = c.self.inside.scan }))
    (IsTrueHere g.S.Store.history g.S.Device.Device.history g.S.Frozen.Frozen.content
    (record { engines = c.self.inside.engines; shown = c.self.inside.shown.items; scan = c.take.new.self })))))

pub take_back-covered-requires-clause-as_many : goal.take_back-covered-requires-clause-as_many
take_back-covered-requires-clause-as_many g c κs within =
    let some = sym c.take.ensures.value ∙ c.in-Some.is in (
      back_many g.S.Watch.Watch.counts (record { engines = c.self.inside.engines; shown = c.self.inside.shown.items; scan = c.self.inside.scan })
          c.in-Some.scan c.join-passes.result.passes.items some c.join-passes.ensures.back c.self.invariant,
      ap length c.deref.ensures.value ∙ c.self.invariant.as_many,
    )

pub take_back-covered-requires-clause-out : goal.take_back-covered-requires-clause-out
take_back-covered-requires-clause-out g c κs within =
    let some = sym c.take.ensures.value ∙ c.in-Some.is in
    (readers_away (record { engines = c.self.inside.engines; shown = c.self.inside.shown.items; scan = c.self.inside.scan }) c.in-Some.scan some c.self.invariant).1

pub take_back-covered-requires-clause-lenses : goal.take_back-covered-requires-clause-lenses
take_back-covered-requires-clause-lenses g c κs within =
    let some = sym c.take.ensures.value ∙ c.in-Some.is in
    subst (λ shown. AtEach (λ p (s : ShownState g.row.S-Frozen.Denot g.row.S-Watch.Denot) (pass : Pass g.row.S-Frozen.Denot g.row.S-Watch.Denot). s.failed ≡ false
    → Reads s.book pass.lens) 0 shown c.join-passes.result.passes.items) (sym c.deref.ensures.value)
    (lenses_back g.S.Watch.Watch.counts (record { engines = c.self.inside.engines; shown = c.self.inside.shown.items; scan = c.self.inside.scan })
    c.in-Some.scan c.join-passes.result.passes.items some c.join-passes.ensures.back c.self.invariant)

pub invariant_of-self-in-Some : goal.invariant_of-self-in-Some
invariant_of-self-in-Some g c =
    let some = sym c.take.ensures.value ∙ c.in-Some.is in
    manned_back (record { engines = c.self.inside.engines; shown = c.self.inside.shown.items; scan = c.self.inside.scan })
    (record { engines = c.take_back-covered.new.engines; shown = c.self.inside.shown.items; scan = c.take.new.self }) c.join-passes.result.passes.items
    c.take.ensures.after refl c.take_back-covered.ensures.home c.self.invariant

pub returns-in-Some-clause-works : goal.returns-in-Some-clause-works
unfolding MayServe ServesAt FailsAt AllRest faults_kept HasSpent HasMet
returns-in-Some-clause-works g c =
    ok_always c.reply_to_collect.result (works_reread g.S.Store.history g.S.Device.Device.history g.S.Frozen.Frozen.content c.self.inside.engines
    c.take_back-covered.new.engines (reread_back c.join-passes.result.passes.items c.self.inside.engines c.take_back-covered.new.engines
    c.take_back-covered.ensures.home) (subst (λ (k : KeeperState _ _ _ _). MayAsk g.S.Store.history g.S.Device.Device.history g.S.Frozen.Frozen.content
    k.engines) (sym c.self.view_is) c.requires.works))

pub returns-in-Some-clause-reply : goal.returns-in-Some-clause-reply
unfolding MayServe ServesAt FailsAt AllRest faults_kept HasSpent HasMet
returns-in-Some-clause-reply g c =
    let some = sym c.take.ensures.value ∙ c.in-Some.is in
    λ known serves. rw c.reply_to_collect.ensures (collect_reply
    (eyes g.S.Store.history g.S.Device.Device.history g.S.Frozen.Frozen.content g.S.Device.Device.name g.S.Frozen.Frozen.size g.S.Watch.Watch.counts)
    c.histories_hold_writes.ensures.seen c.parts_are_shown.ensures.counted c.parts_are_shown.ensures.longer
    (record { engines = c.self.inside.engines; shown = c.self.inside.shown.items; scan = c.self.inside.scan }) c.in-Some.scan
    c.join-passes.result.passes.items some (lenses_away (record {
      engines = c.self.inside.engines;
      shown = c.self.inside.shown.items;
      scan = c.self.inside.scan;
    }) c.in-Some.scan some c.self.invariant) c.take_back-covered.result c.join-passes.result.outcome known c.join-passes.ensures
    (λ all. subst (λ shown. AtEach (λ p (s : ShownState g.row.S-Frozen.Denot g.row.S-Watch.Denot) (pass : Pass g.row.S-Frozen.Denot g.row.S-Watch.Denot).
    (s.failed ≡ false) × IsPrefix (kept_by pass.lens).history s.history) 0 shown c.join-passes.result.passes.items) c.deref.ensures.value
    (c.take_back-covered.ensures.covers all)) (subst (λ (k : KeeperState _ _ _ _). ServesAt
    (eyes g.S.Store.history g.S.Device.Device.history g.S.Frozen.Frozen.content g.S.Device.Device.name g.S.Frozen.Frozen.size g.S.Watch.Watch.counts) k (known))
    (sym c.self.view_is) serves))

pub returns-in-Some-clause-held : goal.returns-in-Some-clause-held
unfolding MayServe ServesAt FailsAt AllRest faults_kept HasSpent HasMet
returns-in-Some-clause-held g c =
    λ known serves. ok_always c.reply_to_collect.result (serves_collected
    (eyes g.S.Store.history g.S.Device.Device.history g.S.Frozen.Frozen.content g.S.Device.Device.name g.S.Frozen.Frozen.size g.S.Watch.Watch.counts)
    (record { engines = c.self.inside.engines; shown = c.self.inside.shown.items; scan = c.self.inside.scan })
    (record { engines = c.take_back-covered.new.engines; shown = c.self.inside.shown.items; scan = c.take.new.self }) known c.take.ensures.after refl
    c.take_back-covered.ensures.held (subst (λ (k : KeeperState _ _ _ _). ServesAt
    (eyes g.S.Store.history g.S.Device.Device.history g.S.Frozen.Frozen.content g.S.Device.Device.name g.S.Frozen.Frozen.size g.S.Watch.Watch.counts) k (known))
    (sym c.self.view_is) serves))

pub returns-in-Some-clause-failed : goal.returns-in-Some-clause-failed
unfolding MayServe ServesAt FailsAt AllRest faults_kept HasSpent HasMet
returns-in-Some-clause-failed g c =
    λ only w serves. err_always c.reply_to_collect.result (held_keeps
    (eyes g.S.Store.history g.S.Device.Device.history g.S.Frozen.Frozen.content g.S.Device.Device.name g.S.Frozen.Frozen.size g.S.Watch.Watch.counts) only
    c.take_back-covered.new.engines w (c.take_back-covered.ensures.held only w
    (subst (λ (k : KeeperState _ _ _ _). ServesAt (eyes g.S.Store.history g.S.Device.Device.history g.S.Frozen.Frozen.content g.S.Device.Device.name
    g.S.Frozen.Frozen.size g.S.Watch.Watch.counts) k (sees only w)) (sym c.self.view_is) serves).0))

pub returns-in-Some-clause-undamaged : goal.returns-in-Some-clause-undamaged
unfolding MayServe ServesAt FailsAt AllRest faults_kept HasSpent HasMet
returns-in-Some-clause-undamaged g c =
    let some = sym c.take.ensures.value ∙ c.in-Some.is in
    λ only w serves. rw c.reply_to_collect.ensures (collect_sound
    (eyes g.S.Store.history g.S.Device.Device.history g.S.Frozen.Frozen.content g.S.Device.Device.name g.S.Frozen.Frozen.size g.S.Watch.Watch.counts)
    c.histories_hold_writes.ensures.seen c.parts_are_shown.ensures.counted c.parts_are_shown.ensures.longer
    (record { engines = c.self.inside.engines; shown = c.self.inside.shown.items; scan = c.self.inside.scan }) c.in-Some.scan
    c.join-passes.result.passes.items some (lenses_away (record {
      engines = c.self.inside.engines;
      shown = c.self.inside.shown.items;
      scan = c.self.inside.scan;
    }) c.in-Some.scan some c.self.invariant) c.take_back-covered.result c.join-passes.result.outcome only w c.join-passes.ensures
    (λ all. subst (λ shown. AtEach (λ p (s : ShownState g.row.S-Frozen.Denot g.row.S-Watch.Denot) (pass : Pass g.row.S-Frozen.Denot g.row.S-Watch.Denot).
    (s.failed ≡ false) × IsPrefix (kept_by pass.lens).history s.history) 0 shown c.join-passes.result.passes.items) c.deref.ensures.value
    (c.take_back-covered.ensures.covers all)) (subst (λ (k : KeeperState _ _ _ _). ServesAt
    (eyes g.S.Store.history g.S.Device.Device.history g.S.Frozen.Frozen.content g.S.Device.Device.name g.S.Frozen.Frozen.size g.S.Watch.Watch.counts) k
    (sees only w)) (sym c.self.view_is) serves))

pub returns-in-Some-clause-kinds : goal.returns-in-Some-clause-kinds
returns-in-Some-clause-kinds g c =
    rw c.reply_to_collect.ensures (collect_kind c.take_back-covered.result c.join-passes.result.outcome)

pub returns-in-Some-clause-settings : goal.returns-in-Some-clause-settings
returns-in-Some-clause-settings g c =
    settings_reread c.self.inside.engines c.take_back-covered.new.engines (reread_back c.join-passes.result.passes.items c.self.inside.engines c.take_back-covered.new.engines c.take_back-covered.ensures.home) ∙ ap (λ (k : KeeperState _ _ _ _). settings_kept k) c.self.view_is

pub returns-in-Some-clause-cause : goal.returns-in-Some-clause-cause
unfolding MayServe ServesAt FailsAt AllRest faults_kept HasSpent HasMet
returns-in-Some-clause-cause g c =
    let some = sym c.take.ensures.value ∙ c.in-Some.is in
    rw c.reply_to_collect.ensures (subst (λ (k : KeeperState _ _ _ _). HasDiskCause (faults_kept g.S.Watch.Watch.counts k)
    (faults_kept g.S.Watch.Watch.counts (record { engines = c.take_back-covered.new.engines; shown = c.self.inside.shown.items; scan = c.take.new.self }))
    (IsTrueHere g.S.Store.history g.S.Device.Device.history g.S.Frozen.Frozen.content
    (record { engines = c.take_back-covered.new.engines; shown = c.self.inside.shown.items; scan = c.take.new.self }))
    (fault_in (collected_as c.take_back-covered.result c.join-passes.result.outcome))) c.self.view_is
    (subst (λ o. HasDiskCause (faults_kept g.S.Watch.Watch.counts
    (record { engines = c.self.inside.engines; shown = c.self.inside.shown.items; scan = c.self.inside.scan }))
    (faults_kept g.S.Watch.Watch.counts (record { engines = c.take_back-covered.new.engines; shown = c.self.inside.shown.items; scan = o }))
    (IsTrueHere g.S.Store.history g.S.Device.Device.history g.S.Frozen.Frozen.content
    (record { engines = c.take_back-covered.new.engines; shown = c.self.inside.shown.items; scan = c.take.new.self }))
    (fault_in (collected_as c.take_back-covered.result c.join-passes.result.outcome))) (sym c.take.ensures.after)
    (collect_cause g.S.Watch.Watch.counts g.S.Frozen.Frozen.content
    (record { engines = c.self.inside.engines; shown = c.self.inside.shown.items; scan = c.self.inside.scan }) c.take_back-covered.new.engines
    c.in-Some.scan c.join-passes.result.passes.items some c.take_back-covered.ensures.home
    (back_many g.S.Watch.Watch.counts (record { engines = c.self.inside.engines; shown = c.self.inside.shown.items; scan = c.self.inside.scan })
    c.in-Some.scan c.join-passes.result.passes.items some c.join-passes.ensures.back c.self.invariant) c.self.invariant.own
    (lenses_back g.S.Watch.Watch.counts (record { engines = c.self.inside.engines; shown = c.self.inside.shown.items; scan = c.self.inside.scan })
    c.in-Some.scan c.join-passes.result.passes.items some c.join-passes.ensures.back c.self.invariant)
    (IsTrueHere g.S.Store.history g.S.Device.Device.history g.S.Frozen.Frozen.content
    (record { engines = c.take_back-covered.new.engines; shown = c.self.inside.shown.items; scan = c.take.new.self }))
    (λ p damage met. inr (shown_still g.S.Frozen.Frozen.content damage c.self.inside.shown.items c.self.inside.engines c.take_back-covered.new.engines p
    (reread_back c.join-passes.result.passes.items c.self.inside.engines c.take_back-covered.new.engines c.take_back-covered.ensures.home) met))
    c.take_back-covered.result c.join-passes.result.outcome c.join-passes.ensures
    (λ all. subst (λ shown. AtEach (λ p (s : ShownState g.row.S-Frozen.Denot g.row.S-Watch.Denot) (pass : Pass g.row.S-Frozen.Denot g.row.S-Watch.Denot).
    (s.failed ≡ false) × IsPrefix (kept_by pass.lens).history s.history) 0 shown c.join-passes.result.passes.items) c.deref.ensures.value
    (c.take_back-covered.ensures.covers all)))))
