use Rattle.std.proofs.Common.{sym, subst, ap, ◌∙◌, ◌≤◌, ◌<◌, List, length, arith}
use Rattle.std.proofs.lemmas.Bool.Decides.{nat_tests}
use mathlib.Core.List.{IsPrefix}
use Rattle.tc_view.specs.declared.happened.Happened.{Happened}
use Rattle.tc_view.specs.Places.{kept_by, awaited_by}
use Rattle.tc_view.proofs.ViewLemmas.{longer_one}
use Rattle.tc_view.proofs.publisher.Publisher.covers.Goals as goal

pub returns-clause-begins : goal.returns-clause-begins
returns-clause-begins g c true =
    let both = c.learn.new.self.log in
    let ready = c.requires.1 in
    let mine : IsPrefix (awaited_by c.args.self.now).history both = subst (λ (l : List (Happened _ _)). IsPrefix l both) (ap (λ s. s.log) c.again-both.ensures ∙ sym ready.history) c.learn.ensures.2 in
    let theirs : IsPrefix (kept_by c.args.lens.now).history both = subst (λ (l : List (Happened _ _)). IsPrefix l both) (ap (λ v. v.mark.seen.log) c.deref.ensures) c.learn.ensures.3 in
    let few : c.changes.result ≤ c.args.self.now.history.changes = grind (arith, nat_tests, true) in
    let counted = c.args.self.now.history.counted in
    let less : (kept_by c.args.lens.now).changes ≤ (awaited_by c.args.self.now).changes = omega (arith, few, c.changes.ensures, counted, ready.open_to.next.changes, ap length ready.history) in
    longer_one c.requires.0 (kept_by c.args.lens.now) (awaited_by c.args.self.now) both c.requires.2.kept ready.open_to.next theirs mine less

pub returns-clause-longer : goal.returns-clause-longer
returns-clause-longer g c over =
    let ready = c.requires.1 in
    let many : c.args.self.now.history.changes < c.changes.result = grind (arith, nat_tests, over) in
    omega (arith, many, c.changes.ensures, c.args.self.now.history.counted, ready.open_to.next.changes, ap length ready.history)
