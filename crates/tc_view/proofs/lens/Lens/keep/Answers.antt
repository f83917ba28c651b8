use Rattle.std.proofs.Common.{ap, subst, ◌∙◌, List, arith}
use mathlib.Core.List.{IsPrefix}
use Rattle.tc_view.specs.declared.happened.Happened.{Happened}
use Rattle.tc_view.specs.Places.{shown_by, kept_by}
use Rattle.tc_view.proofs.ViewLemmas.{longer_one}
use Rattle.tc_view.proofs.lens.Lens.keep.Goals as goal

pub returns-then-changes-clause-seen : goal.returns-then-changes-clause-seen
returns-then-changes-clause-seen g c =
    let both = c.learn.new.self.log in
    let kept : IsPrefix (kept_by c.args.self.now).history both = subst (λ (l : List (Happened _ _)). IsPrefix l both) (ap (λ s. s.log) c.again-both.ensures ∙ ap (λ v. v.mark.seen.log) c.deref.ensures) c.learn.ensures.2 in
    let newer : IsPrefix (shown_by c.args.newer).history both = subst (λ (l : List (Happened _ _)). IsPrefix l both) (ap (λ v. v.mark.seen.log) c.deref-2.ensures) c.learn.ensures.3 in
    longer_one c.requires.lens.0 (kept_by c.args.self.now) (shown_by c.args.newer) both c.requires.lens.1.kept c.requires.lens.2 kept newer (omega (arith, c.changes.ensures, c.changes-2.ensures, c.if-changes.true))

pub returns-else-changes-clause-newer : goal.returns-else-changes-clause-newer
returns-else-changes-clause-newer g c =
    let both = c.learn.new.self.log in
    let kept : IsPrefix (kept_by c.args.self.now).history both = subst (λ (l : List (Happened _ _)). IsPrefix l both) (ap (λ s. s.log) c.again-both.ensures ∙ ap (λ v. v.mark.seen.log) c.deref.ensures) c.learn.ensures.2 in
    let newer : IsPrefix (shown_by c.args.newer).history both = subst (λ (l : List (Happened _ _)). IsPrefix l both) (ap (λ v. v.mark.seen.log) c.deref-2.ensures) c.learn.ensures.3 in
    longer_one c.requires.lens.0 (shown_by c.args.newer) (kept_by c.args.self.now) both c.requires.lens.2 c.requires.lens.1.kept newer kept (omega (arith, c.changes.ensures, c.changes-2.ensures, c.if-changes.false))
