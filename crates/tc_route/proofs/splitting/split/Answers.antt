use Rattle.std.proofs.Common.{◌∙◌, ap, sym, ◌∷◌, [], ◌++◌}
use Rattle.tc_route.specs.Shares.{share}
use Rattle.tc_route.specs.Meaning.{routed_of, requests_at}
use Rattle.tc_route.proofs.PartsGiven.{share_more}
use Rattle.tc_route.proofs.splitting.split.Goals as goal

pub loop-routed-preserved : goal.loop-routed-preserved
loop-routed-preserved c =
    let n = c.loop-routed.invariant.0 in
    let parts = c.loop-routed.parts.items in
    let one = routed_of c.in-Some.routed ∷ [] in (
      c.hand_out.ensures.count ∙ n,
      λ p below. c.in_ok-hand_out.ensures.each p (rw n below)
          ∙ ap (λ count. requests_at p parts ++ share count p one) n
          ∙ ap (λ xs. xs ++ share c.args.partitions p one) (c.loop-routed.invariant.1 p below)
          ∙ sym (share_more c.args.partitions p c.loop-routed.yielded c.in-Some.routed),
    )
