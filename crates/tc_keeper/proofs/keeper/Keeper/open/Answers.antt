use Rattle.std.proofs.Common.{refl}
use Rattle.std.specs.Prelude.{None}
use Rattle.tc_work.specs.Moving.{eyes}
use Rattle.tc_keeper.specs.Keeping.{faults_kept, AllRest, FailsAt, HasMet, HasSpent, MayServe, ServesAt}
use Rattle.tc_keeper.proofs.BegunKeepers.{manned_first}
use Rattle.tc_keeper.proofs.FirstShown.{serves_first}
use Rattle.tc_keeper.proofs.keeper.Keeper.open.Goals as goal

pub invariant_of-result : goal.invariant_of-result
invariant_of-result g c =
    manned_first g.S.Frozen.Frozen.content (record { engines = c.args.engines; shown = c.show_all.new.shown.items; scan = None }) refl c.in-Ok-show_all.ensures.shown c.in-Ok-show_all.ensures.own c.requires.begun

pub returns-in-Ok-show_all-clause-held : goal.returns-in-Ok-show_all-clause-held
unfolding MayServe ServesAt FailsAt AllRest faults_kept HasSpent HasMet
returns-in-Ok-show_all-clause-held g c =
    λ known first stands. serves_first (eyes g.S.Store.history g.S.Device.Device.history g.S.Frozen.Frozen.content g.S.Device.Device.name g.S.Frozen.Frozen.size
    g.S.Watch.Watch.counts) (record { engines = c.args.engines; shown = c.show_all.new.shown.items; scan = None }) known
    c.parts_are_shown.ensures.opened c.requires.begun c.in-Ok-show_all.ensures.shown refl first stands
