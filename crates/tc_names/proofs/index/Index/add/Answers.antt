use Rattle.tc_names.proofs.Found.{index-name}
use Rattle.tc_names.proofs.index.Index.add.Goals as goal

pub returns-clause-index : goal.returns-clause-index
returns-clause-index c =
    rw c.in_ok-push.ensures.ok (index-name c.ready.new.self.heads.items c.ready.new.self.links.items c.put.new.self.heads.items c.put.new.self.links.items c.args.texts.now c.args.name.now
    c.in_ok-ready.ensures.places c.ready.ensures.index c.put.ensures.heads c.put.ensures.links)
