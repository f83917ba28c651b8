use Rattle.std.proofs.Common.{◌∙◌, ap, sym, subst}
use Rattle.std.proofs.lemmas.Result.{IfOk-weaker}
use Rattle.std.specs.Arc.{arc_value}
use Rattle.logbook.specs.Pages.{Book}
use Rattle.tc_view.specs.declared.content.Content.{Content}
use Rattle.tc_view.specs.declared.lens.Lens.{Lens}
use Rattle.tc_view.specs.Places.{IsReady}
use Rattle.tc_shown.specs.Shown.{IsRemembered, ShownState, key_of}
use Rattle.tc_shown.proofs.shown.Shown.lend.Goals as goal

pub invariant_of-self : goal.invariant_of-self
invariant_of-self g c = λ sound.
    let old = c.self.invariant sound in
    let same = c.lens.ensures.same in
    let ready = c.lens.ensures.ready (key_of c.self.inside.publisher.history.seen.book) old.0.ready in (
      record {
        ready = subst (λ (b : Book). IsReady (key_of b) c.lens.new.self) (sym ready.book) ready;
        all = same.0 ∙ old.0.all ∙ sym same.1;
      },
      subst (λ (x : Content _ _). IsRemembered (arc_value c.self.inside.list) c.self.inside.sealed c.self.inside.written x) (sym same.1) old.1,
    )

pub returns-clause-all : goal.returns-clause-all
returns-clause-all g c =
    let old = c.self.invariant c.if-self.false in
    IfOk-weaker c.lens.result _ _
    (λ (l : Lens _ _) h. ap (λ (x : Content _ _). x.history) (h.1 ∙ old.0.all) ∙ ap (λ (s : ShownState _ _). s.history) c.self.view_is)
    c.lens.ensures.lens
