use Rattle.std.proofs.Common.{◌∙◌, map, ap, subst, sym}
use Rattle.std.specs.Prelude.{OnOk}
use Rattle.std.specs.declared.alloc.Global.{Global}
use Rattle.std.specs.declared.vec.Vec.{Vec}
use Rattle.tc_model.specs.Keyed.{Keyed}
use Rattle.tc_request_model.specs.Request.{Request}
use Rattle.tc_route.specs.Meaning.{routed_of}
use Rattle.tc_route.specs.declared.placed.Routed.{Routed}
use Rattle.tc_work.specs.Moving.{eyes}
use Rattle.tc_work.specs.Committed.{HasFramed}
use Rattle.tc_keeper.specs.Running.{HasRun}
use Rattle.tc_keeper.proofs.SharesRun.{requests_there}
use Rattle.tc_keeper.proofs.window.fn.run_each.for_each_mut.Goals as goal

pub returns : goal.returns
returns g c =
    subst (λ (rs : Keyed Request). HasRun (eyes g.S.Store.history g.S.Device.Device.history g.S.Frozen.Frozen.content g.S.Device.Device.name g.S.Frozen.Frozen.size
    g.S.Watch.Watch.counts) rs c.args.seat.now.engine c.run.new.self.engine c.run.new.self.answer
    × OnOk c.run.new.self.answer (HasFramed (eyes g.S.Store.history g.S.Device.Device.history g.S.Frozen.Frozen.content g.S.Device.Device.name
    g.S.Frozen.Frozen.size g.S.Watch.Watch.counts) rs c.args.seat.now.engine c.run.new.self.engine c.run.new.self.frame.items))
    (ap (map routed_of) c.deref.ensures.value ∙ ap (λ (list : Vec Routed Global). map routed_of list.items) c.index-lists-at.is ∙ sym (requests_there c.captures.lists.now c.args.at c.index-lists-at.result c.requires.0))
    (c.run.ensures.ran, c.run.ensures.framed)
