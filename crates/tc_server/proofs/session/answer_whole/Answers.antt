use Rattle.std.proofs.Common.{◌++◌, ◌∷◌, [], ◌∙◌, ap, sym, subst, append-nil}
use Rattle.std.proofs.lemmas.Result.{err_from_is_err_and}
use Rattle.tc_command.specs.Replies.{rendered_of}
use Rattle.tc_request_model.specs.Rendered.{rendered_line}
use Rattle.tc_work.specs.Moving.{eyes}
use Rattle.tc_server.specs.Asked.{request_whole}
use Rattle.tc_server.specs.Window.{each_rendered}
use Rattle.tc_keeper.specs.Faults.{gave_up}
use Rattle.tc_keeper.specs.Keeping.{faults_kept, FailsAt, ServesAt, IsTrueHere}
use Rattle.tc_server.proofs.Mixing.{lines_rendered}
use Rattle.tc_server.proofs.Answering.{left_before, left_standing}
use Rattle.tc_keeper.proofs.Causes.{call_without_memory}
use Rattle.tc_server.proofs.session.answer_whole.Goals as goal

pub returns-in_err-reply-clause-left : goal.returns-in_err-reply-clause-left
returns-in_err-reply-clause-left g c =
    let p = err_from_is_err_and c.from_residual.result c.from_residual.ensures.1 in
    λ known holds. rw p.1 (left_before (ServesAt (eyes g.S.Store.history g.S.Device.Device.history g.S.Frozen.Frozen.content g.S.Device.Device.name
    g.S.Frozen.Frozen.size g.S.Watch.Watch.counts)) (FailsAt (eyes g.S.Store.history g.S.Device.Device.history g.S.Frozen.Frozen.content g.S.Device.Device.name
    g.S.Frozen.Frozen.size g.S.Watch.Watch.counts)) c.reply_whole.new.keeper (request_whole c.args.control ∷ []) known
    (λ only w is. c.in_err-reply.ensures.failed only w (subst ((ServesAt (eyes g.S.Store.history g.S.Device.Device.history g.S.Frozen.Frozen.content g.S.Device.Device.name g.S.Frozen.Frozen.size g.S.Watch.Watch.counts)) c.args.keeper.now) is holds)))

pub returns-in_err-put_line-clause-left : goal.returns-in_err-put_line-clause-left
returns-in_err-put_line-clause-left g c =
    let p = err_from_is_err_and c.from_residual-in_err-put_line.result c.from_residual-in_err-put_line.ensures.1 in
    λ known holds. rw p.1 (left_standing (ServesAt (eyes g.S.Store.history g.S.Device.Device.history g.S.Frozen.Frozen.content g.S.Device.Device.name
    g.S.Frozen.Frozen.size g.S.Watch.Watch.counts)) (FailsAt (eyes g.S.Store.history g.S.Device.Device.history g.S.Frozen.Frozen.content g.S.Device.Device.name
    g.S.Frozen.Frozen.size g.S.Watch.Watch.counts)) c.reply_whole.new.keeper gave_up (request_whole c.args.control ∷ []) known
    (c.in_ok-reply.ensures.held known holds))

pub returns-in_err-put_line-clause-cause : goal.returns-in_err-put_line-clause-cause
returns-in_err-put_line-clause-cause g c =
    let p = err_from_is_err_and c.from_residual-in_err-put_line.result c.from_residual-in_err-put_line.ensures.1 in
    rw (p.1, p.2) (call_without_memory ((faults_kept g.S.Watch.Watch.counts) c.args.keeper.now) ((faults_kept g.S.Watch.Watch.counts) c.reply_whole.new.keeper) _ (IsTrueHere g.S.Store.history g.S.Device.Device.history g.S.Frozen.Frozen.content c.reply_whole.new.keeper) c.in_ok-reply.ensures.cause)

pub returns-clause-answered : goal.returns-clause-answered
returns-clause-answered g c = λ known holds.
    let line = rendered_line (rendered_of c.in_ok-reply.reply) in
    let given = c.in_ok-reply.ensures.reply known holds in
    record {
      replies = given.0;
      given = given.1;
      lines = c.in_ok-put_line.ensures ∙ ap (λ bytes. bytes ++ line) c.clear.ensures.items ∙ sym (append-nil line)
          ∙ ap each_rendered given.2 ∙ lines_rendered given.0;
      held = c.in_ok-reply.ensures.held known holds;
    }
