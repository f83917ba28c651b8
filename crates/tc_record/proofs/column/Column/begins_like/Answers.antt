use Rattle.std.proofs.Common.{◌≡◌, ◌≤◌, ◌∙◌, length, take, sym, subst, ap}
use Rattle.tc_record.proofs.Placed.{length-elements_from}
use Rattle.tc_record.proofs.column.Column.begins_like.Goals as goal

pub returns : goal.returns
returns c like =
    let mine = c.self.inside.left in
    let told = c.begin_like.ensures like in (
      subst (λ n. c.args.count ≤ n) (sym (length-elements_from mine.width mine.place mine.left mine.bytes.now) ∙ ap length c.self.view_is) told.0,
      sym (ap (take c.args.count) c.self.view_is) ∙ told.1 ∙ ap (take c.args.count) c.other.view_is,
    )
