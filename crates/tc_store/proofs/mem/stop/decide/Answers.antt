use Rattle.std.proofs.lemmas.List.{map-append}
use Rattle.std.proofs.lemmas.List.Elements.{Contains-push}
use Rattle.tc_store.specs.Memory.Remains.{picture_of}
use Rattle.tc_store.proofs.Memory.PictureLemmas.{picture_push}
use Rattle.tc_store.proofs.mem.stop.decide.Goals as goal

pub returns-in_ok-push-in-Some-clause-some : goal.returns-in_ok-push-in-Some-clause-some
returns-in_ok-push-in-Some-clause-some c disk leaves was =
    rw (c.in_ok-push.ensures.items, c.in_ok-push-in-Some.ensures.items, map-append, c.of-bytes.ensures.same)
    (picture_push c.args.decided.now.items disk (picture_of c.args.left.now.items) c.args.name c.in-Some.image.items c.requires (rw c.in-Some.is at leaves) was)

pub returns-in_ok-push-in-Some-clause-listed : goal.returns-in_ok-push-in-Some-clause-listed
returns-in_ok-push-in-Some-clause-listed c = rw c.in_ok-push.ensures.items (Contains-push c.args.decided.now.items c.args.name)
