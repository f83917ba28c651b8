use Rattle.tc_command.specs.Replies.{rendered_of}
use Rattle.tc_route.proofs.RepliesPut.{put_in}
use Rattle.tc_route.proofs.gathering.put.Goals as goal

pub returns : goal.returns
returns c =
    put_in c.args.placed.at c.remove-first.result c.in_ok-reply.reply (rendered_of c.args.placed.reply) c.args.all.now.entries c.remove-first.new.self.entries c.insert.new.self.entries
    c.requires c.remove-first.ensures.value c.remove-first.ensures.entries c.in_ok-insert.ensures.entries c.in_ok-reply.ensures
