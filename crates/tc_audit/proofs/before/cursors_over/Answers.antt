use Rattle.std.proofs.Common.{◌≡◌, ◌∙◌, length, replicate, ap, arith}
use Rattle.std.proofs.lemmas.List.{replicate-append-replicate}
use Rattle.tc_component.specs.Cursors.{holds_nothing}
use Rattle.tc_audit.proofs.HeldParts.{none_held}
use Rattle.tc_audit.proofs.before.cursors_over.Goals as goal

pub loop-preserved : goal.loop-preserved
loop-preserved g c =
    let l = c.loop in
    record {
      within = let test = c.loop-test.true in omega arith;
      cursors = c.in_ok-push.ensures.items ∙ rw (c.new.ensures, l.invariant.cursors) (replicate-append-replicate l.counter 1 holds_nothing);
    }

pub returns : goal.returns
returns g c =
    let l = c.loop in
    let same : l.counter ≡ length c.args.list.now = let test = c.loop-test.false in let within = l.invariant.within in let all = c.len-count.ensures in omega arith in
    none_held g.F.Frozen.content c.args.list.now l.cursors.items (l.invariant.cursors ∙ ap (λ n. replicate n holds_nothing) same)
