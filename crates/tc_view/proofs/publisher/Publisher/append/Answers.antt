use Rattle.std.proofs.Common.{sym, subst, ap, ◌∙◌, ◌≡◌, ◌+◌, ◌++◌, ◌∷◌, [], length, arith, length-append}
use Rattle.tc_view.specs.declared.content.Content.{Content}
use Rattle.tc_view.specs.declared.happened.Happened.{Happened}
use Rattle.tc_view.specs.declared.step.Step.{Step}
use Rattle.tc_view.specs.Changes.{happened, writes_of_one, after_change}
use Rattle.tc_view.specs.Places.{next_of}
use Rattle.tc_view.specs.Rules.{IsViewOf}
use Rattle.tc_view.proofs.ViewLemmas.{fitting_view, step_is}
use Rattle.tc_view.proofs.publisher.Publisher.append.Goals as goal

pub returns-clause-changed : goal.returns-clause-changed
returns-clause-changed g c =
    let old = c.args.self.now in
    let r = c.requires.ready.1 in
    let next = next_of old.writer in
    let one : Happened _ _ = happened c.args.change in
    let added = c.if-not-add.ensures in
    let known = c.again.ensures in
    let log : c.again.result.log ≡ next.history ++ one ∷ [] = ap (λ s. s.log) known ∙ (added.added ∙ ap (λ l. l ++ one ∷ []) (sym r.history)) in
    let book : c.again.result.book ≡ next.book = ap (λ s. s.book) known ∙ (added.book ∙ (r.book ∙ sym r.open_to.next.book)) in
    let upto : c.in-Some.upto ≡ next.upto + length (writes_of_one one) = omega (arith, r.upto, c.writes.ensures) in
    let changes : c.add.new.self.changes ≡ next.changes + 1 =
    c.add.new.self.counted ∙ (ap (λ l. length l) added.added ∙ (length-append old.history.seen.log (one ∷ []) ∙ ap (λ n. n + 1) (sym (r.open_to.next.changes ∙ ap (λ l. length l) r.history)))) in
    let step : Step _ _ = record { change = c.args.change; mark = record { upto = c.in-Some.upto; changes = c.add.new.self.changes; seen = c.again.result } } in
    c.in_ok-push.ensures.next ∙ step_is next step upto changes log book

pub returns-clause-ready : goal.returns-clause-ready
returns-clause-ready g c k r =
    let old = c.args.self.now in
    let now = c.push.new.writer in
    let next = next_of old.writer in
    let one : Happened _ _ = happened c.args.change in
    let added = c.if-not-add.ensures in
    let is : next_of now ≡ after_change next c.args.change = returns-clause-changed g c in
    record {
      open_to = record {
        place = c.in_ok-push.ensures.place ∙ r.open_to.place;
        shown = subst (λ (x : Content _ _). IsViewOf k x) (sym c.in_ok-push.ensures.shown) r.open_to.shown;
        next = subst (λ (x : Content _ _). IsViewOf k x) (sym is) (fitting_view k next c.args.change r.open_to.next c.requires.fits);
      };
      history = ap (λ x. x.history) is ∙ (ap (λ l. l ++ one ∷ []) r.history ∙ sym added.added);
      book = added.book ∙ r.book;
      upto = omega (arith, r.upto, c.writes.ensures, ap (λ x. x.upto) is);
    }
