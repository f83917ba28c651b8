use Rattle.std.proofs.Common.{sym, ◌∙◌, ap}
use Rattle.tc_view.specs.Changes.{happened}
use Rattle.tc_view.proofs.Adding.{adds_moves}
use Rattle.tc_view.proofs.history.History.add.Goals as goal

pub compare_exchange-found-requires : goal.compare_exchange-found-requires
compare_exchange-found-requires g c =
    let h = c.args.self.now.head_is in
    let offer = c.plain-offer.ensures in
    let pen = c.no_pen-pen.ensures in (
      ap (λ w. w.tracked) h,
      sym (ap (λ w. w.book) h),
      pen.0 ∙ sym (ap (λ w. w.book) h),
      offer.0,
      rw (ap (λ w. w.key) h, pen.1, offer.1, offer.3) (adds_moves c.args.self.now.seen.log (happened c.args.change.now) c.args.self.now.changes (sym c.args.self.now.counted)),
    )
