use Rattle.tc_shown.specs.Shown.{key_of}
use Rattle.tc_shown.proofs.shown.publish.Goals as goal

pub append-requires-clause-ready : goal.append-requires-clause-ready
append-requires-clause-ready g c κs within = (key_of c.args.publisher.now.history.seen.book, c.requires.current.ready)

pub publish-requires-clause-ready : goal.publish-requires-clause-ready
publish-requires-clause-ready g c κs within =
    let key = key_of c.args.publisher.now.history.seen.book in
    (key, c.in_ok-append.ensures.ready key c.requires.current.ready)
