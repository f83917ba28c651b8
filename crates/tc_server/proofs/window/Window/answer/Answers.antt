use Rattle.std.proofs.Common.{rules, ◌∙◌, ◌++◌, map, ap, sym, subst}
use Rattle.std.proofs.lemmas.List.{length-map}
use Rattle.std.proofs.lemmas.Result.{err_from_is_err_and}
use Rattle.tc_command.specs.Replies.{rendered_of}
use Rattle.tc_model.specs.Keyed.{values_in}
use Rattle.tc_route.specs.Meaning.{rendered_in}
use Rattle.tc_route.specs.declared.placed.Placed.{Placed}
use Rattle.tc_run_model.specs.Known.{MayRender}
use Rattle.tc_run_model.specs.World.{after_all}
use Rattle.tc_work.specs.Moving.{eyes}
use Rattle.tc_keeper.specs.Faults.{gave_up}
use Rattle.tc_keeper.specs.Sight.{sight_after, whole_of}
use Rattle.tc_keeper.specs.Together.{requests_routed, AreTogether}
use Rattle.tc_server.specs.Window.{each_rendered, mixed, rendered_refused, reply_refused, requests_of}
use Rattle.tc_keeper.specs.Keeping.{faults_kept, FailsAt, ServesAt, IsTrueHere}
use Rattle.tc_server.proofs.Answering.{left_failed, left_standing}
use Rattle.tc_keeper.proofs.Causes.{call_without_memory}
use Rattle.tc_server.proofs.CommandPlaces.{sound_empty}
use Rattle.tc_server.proofs.Mixing.{are_together, mixed_given, mixed_known, mixed_leaves, mixed_lines, values_of_replies}
use Rattle.tc_server.proofs.window.Window.answer.Goals as goal

pub window-requires-clause-together : goal.window-requires-clause-together
window-requires-clause-together g c κs within = subst AreTogether (sym (ap (λ v. v.items) c.replace-commands.ensures.value)) (are_together c.args.self.now c.requires.sound c.requires.few c.requires.bytes)

pub returns-in_err-answers-clause-left : goal.returns-in_err-answers-clause-left
returns-in_err-answers-clause-left g c =
    let p = err_from_is_err_and c.from_residual.result c.from_residual.ensures.1 in
    let w = c.args.self.now in
    λ known holds. rw p.1 (left_failed (ServesAt (eyes g.S.Store.history g.S.Device.Device.history g.S.Frozen.Frozen.content g.S.Device.Device.name
    g.S.Frozen.Frozen.size g.S.Watch.Watch.counts)) (FailsAt (eyes g.S.Store.history g.S.Device.Device.history g.S.Frozen.Frozen.content g.S.Device.Device.name
    g.S.Frozen.Frozen.size g.S.Watch.Watch.counts)) c.window.new.self (requests_of w) known
    (λ only v is. subst ((FailsAt (eyes g.S.Store.history g.S.Device.Device.history g.S.Frozen.Frozen.content g.S.Device.Device.name g.S.Frozen.Frozen.size
    g.S.Watch.Watch.counts)) c.window.new.self only v) (sym (mixed_leaves w.refusals.items (requests_routed w.commands.items) v
    (c.requires.sound.whole ∙ sym (length-map w.commands.items _))))
    (subst (λ list. (FailsAt (eyes g.S.Store.history g.S.Device.Device.history g.S.Frozen.Frozen.content g.S.Device.Device.name g.S.Frozen.Frozen.size
    g.S.Watch.Watch.counts)) c.window.new.self only v (after_all (requests_routed list) v)) (ap (λ v. v.items) c.replace-commands.ensures.value)
    (c.in_err-answers.ensures.failed only v (subst ((ServesAt (eyes g.S.Store.history g.S.Device.Device.history g.S.Frozen.Frozen.content g.S.Device.Device.name
    g.S.Frozen.Frozen.size g.S.Watch.Watch.counts)) c.args.keeper.now) is holds)))))

pub returns-in_err-push_all-clause-left : goal.returns-in_err-push_all-clause-left
returns-in_err-push_all-clause-left g c =
    let p = err_from_is_err_and c.from_residual-in_err-push_all.result c.from_residual-in_err-push_all.ensures.1 in
    let w = c.args.self.now in
    λ known holds. rw p.1 (left_standing (ServesAt (eyes g.S.Store.history g.S.Device.Device.history g.S.Frozen.Frozen.content g.S.Device.Device.name
    g.S.Frozen.Frozen.size g.S.Watch.Watch.counts)) (FailsAt (eyes g.S.Store.history g.S.Device.Device.history g.S.Frozen.Frozen.content g.S.Device.Device.name
    g.S.Frozen.Frozen.size g.S.Watch.Watch.counts)) c.window.new.self gave_up (requests_of w) known
    (subst ((ServesAt (eyes g.S.Store.history g.S.Device.Device.history g.S.Frozen.Frozen.content g.S.Device.Device.name g.S.Frozen.Frozen.size
    g.S.Watch.Watch.counts)) c.window.new.self) (sym (mixed_known w.refusals.items (requests_routed w.commands.items) known
    (c.requires.sound.whole ∙ sym (length-map w.commands.items _))))
    (subst (λ list. (ServesAt (eyes g.S.Store.history g.S.Device.Device.history g.S.Frozen.Frozen.content g.S.Device.Device.name g.S.Frozen.Frozen.size
    g.S.Watch.Watch.counts)) c.window.new.self (sight_after (requests_routed list) known)) (ap (λ v. v.items) c.replace-commands.ensures.value)
    (c.in_ok-answers.ensures.held known holds))))

pub returns-in_err-push_all-clause-cause : goal.returns-in_err-push_all-clause-cause
returns-in_err-push_all-clause-cause g c =
    let p = err_from_is_err_and c.from_residual-in_err-push_all.result c.from_residual-in_err-push_all.ensures.1 in
    rw (p.1, p.2) (call_without_memory ((faults_kept g.S.Watch.Watch.counts) c.args.keeper.now) ((faults_kept g.S.Watch.Watch.counts) c.window.new.self) _ (IsTrueHere g.S.Store.history g.S.Device.Device.history g.S.Frozen.Frozen.content c.window.new.self) c.in_ok-answers.ensures.cause)

pub returns-clause-answered : goal.returns-clause-answered
returns-clause-answered g c = λ known holds.
    let w = c.args.self.now in
    let rs = requests_routed w.commands.items in
    let same = c.requires.sound.whole ∙ sym (length-map w.commands.items _) in
    let answers = c.in_ok-answers.answers in
    let given = subst (λ list. MayRender (requests_routed list) (whole_of known) (values_in (rendered_in answers))) (ap (λ v. v.items) c.replace-commands.ensures.value) (c.in_ok-answers.ensures.replies known holds) in
    record {
      replies = mixed reply_refused w.refusals.items given.0;
      given = mixed_given w.refusals.items rs (whole_of known) given.0 same given.1;
      lines = c.in_ok-push_all.ensures
          ∙ ap (λ lines. c.clear.new.self.items ++ each_rendered (mixed rendered_refused lines (map (λ (a : Placed). rendered_of a.reply) c.as_slice-2.result.now))) c.as_slice.ensures.value
          ∙ ap (λ list. c.clear.new.self.items ++ each_rendered (mixed rendered_refused w.refusals.items (map (λ (a : Placed). rendered_of a.reply) list))) c.as_slice-2.ensures
          ∙ ap (λ bytes. bytes ++ each_rendered (mixed rendered_refused w.refusals.items (map (λ (a : Placed). rendered_of a.reply) answers))) c.clear.ensures.items
          ∙ mixed_lines w.refusals.items _ given.0 (sym (values_of_replies answers) ∙ given.2);
      held = subst ((ServesAt (eyes g.S.Store.history g.S.Device.Device.history g.S.Frozen.Frozen.content g.S.Device.Device.name g.S.Frozen.Frozen.size g.S.Watch.Watch.counts)) c.window.new.self) (sym (mixed_known w.refusals.items rs known same))
          (subst (λ list. (ServesAt (eyes g.S.Store.history g.S.Device.Device.history g.S.Frozen.Frozen.content g.S.Device.Device.name g.S.Frozen.Frozen.size
          g.S.Watch.Watch.counts)) c.window.new.self (sight_after (requests_routed list) known)) (ap (λ v. v.items) c.replace-commands.ensures.value)
          (c.in_ok-answers.ensures.held known holds));
    }

pub returns-clause-sound : goal.returns-clause-sound
returns-clause-sound g c = sound_empty _ (search rules) (search rules)
