use Rattle.std.proofs.Common.{◌∙◌, ap, arith}
use Rattle.tc_command.specs.Replies.{rendered_of}
use Rattle.tc_route.specs.Gathered.{beside_rendered}
use Rattle.tc_route.specs.Merging.{merging}
use Rattle.tc_route.proofs.OrderedMerge.{put_beside, still_ascends}
use Rattle.tc_route.proofs.gathering.put_beside.Goals as goal

pub returns-clause-ascends : goal.returns-clause-ascends
returns-clause-ascends c =
    let pop = c.pop_below-popped in
    still_ascends _ pop.result c.args.left.now.items pop.new.left.items c.requires.ascends (pop.ensures.some, pop.ensures.none)

pub returns-clause-put : goal.returns-clause-put
returns-clause-put c =
    let pop = c.pop_below-popped in
    let a = rendered_of c.args.placed.reply in
    let merged = c.args.merged.now.items in
    let left = pop.new.left.items in
    let is = c.in_ok-reply.ensures ∙ ap (λ first. beside_rendered first a) c.reply_of.ensures in
    λ more behind. ap (λ xs. merging xs left more) c.in_ok-push.ensures.items
    ∙ put_beside c.args.placed.at _ pop.result c.args.left.now.items left merged c.in_ok-reply.reply a c.requires.ascends c.requires.below (omega arith) (pop.ensures.some, pop.ensures.none) is more behind
