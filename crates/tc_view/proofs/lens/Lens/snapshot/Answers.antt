use Rattle.std.proofs.Common.{sym, subst, ◌∙◌}
use Rattle.tc_view.specs.declared.content.Content.{Content}
use Rattle.tc_view.specs.Rules.{IsViewOf}
use Rattle.tc_view.proofs.lens.Lens.snapshot.Goals as goal

pub keep-requires-clause-lens : goal.keep-requires-clause-lens
keep-requires-clause-lens g c = λ κs le.
    let k = c.requires.lens.0 in
    let lens = c.requires.lens.1 in
    let looked = c.replace_with-looked.ensures.1 k lens.place in
    let some = rw c.in-Some.is at looked in
    let ok = rw c.in_ok-shares.was at some in (
      k,
      record { place = c.replace_with-looked.ensures.0 ∙ lens.place; kept = lens.kept },
      subst (λ (x : Content _ _). IsViewOf k x) (sym c.in_ok-newer.ensures) ok,
    )

pub returns-clause-lens : goal.returns-clause-lens
returns-clause-lens g c k l = c.keep.ensures.lens k (record { place = c.replace_with-looked.ensures.0 ∙ l.place; kept = l.kept })
