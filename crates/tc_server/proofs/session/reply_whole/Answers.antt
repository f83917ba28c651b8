use Rattle.tc_keeper.specs.Sight.{whole_of}
use Rattle.tc_request_model.specs.Reply.{flushed}
use Rattle.tc_request_model.specs.Request.{flush}
use Rattle.tc_server.proofs.Mixing.{flush_replied, rendered_one}
use Rattle.tc_server.proofs.session.reply_whole.Goals as goal

pub returns-in_ok-flush-in-Flush-clause-reply : goal.returns-in_ok-flush-in-Flush-clause-reply
returns-in_ok-flush-in-Flush-clause-reply g c = λ known holds.
    rw c.in-Flush.is (rendered_one flush (whole_of known) flushed (flush_replied (whole_of known)))

pub returns-in_ok-schemas-in-Schema-clause-reply : goal.returns-in_ok-schemas-in-Schema-clause-reply
returns-in_ok-schemas-in-Schema-clause-reply g c = λ known holds.
    rw c.in-Schema.is (c.in_ok-schemas-in-Schema.ensures.shown known holds)
