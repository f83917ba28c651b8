use Rattle.std.proofs.Common.{◌≡◌, ◌∙◌, ◌-◌, false, [], sym, ap, refl, subst, rules, arith}
use Rattle.std.proofs.lemmas.Grind.{common_steps}
use Rattle.std.proofs.lemmas.List.{nil_from_length}
use Rattle.std.proofs.lemmas.List.Elements.{All-from_recursion}
use Rattle.std.specs.Prelude.{All}
use Rattle.tc_log.specs.Appending.{LogState}
use Rattle.tc_log.specs.Frame.{with_closed_gate}
use Rattle.tc_log.specs.Writes.{IsWrite}
use Rattle.tc_part_model.specs.Calls.{Appends, HasAppended}
use Rattle.tc_part_model.specs.PartState.{IsTold, told}
use Rattle.tc_part_model.specs.Meaning.{IsPart}
use Rattle.tc_part.proofs.Outcomes.{err_always}
use Rattle.tc_part.proofs.Standing.{left_of}
use Rattle.tc_part.proofs.LogOut.{appended_tells, log_grows, logs_grow}
use Rattle.tc_part.proofs.part.Part.commit.Goals as goal

pub returns-then-is_empty-clause-committed : goal.returns-then-is_empty-clause-committed
returns-then-is_empty-clause-committed g c = λ p is.
    let t = told g.S.Store.history g.S.Device.Device.history g.S.Frozen.Frozen.content c.args.self.now in
    let none : c.args.self.now.staged ≡ [] = nil_from_length c.args.self.now.staged (rw (← c.self.view_is) grind (arith, common_steps)) in
    (subst (IsPart t) (sym (c.commits_are_kept.ensures.nothing t p is none)) is, c.commits_are_kept.ensures.stored p)

pub returns-then-is_empty-clause-cleared : goal.returns-then-is_empty-clause-cleared
returns-then-is_empty-clause-cleared g c = nil_from_length c.args.self.now.staged (rw (← c.self.view_is) grind (arith, common_steps))

pub returns-then-is_empty-clause-moments : goal.returns-then-is_empty-clause-moments
returns-then-is_empty-clause-moments g c = λ p is.
    c.commits_are_kept.ensures.no_moments (told g.S.Store.history g.S.Device.Device.history g.S.Frozen.Frozen.content c.args.self.now) p is

pub returns-then-count-self-clause-moments : goal.returns-then-count-self-clause-moments
returns-then-count-self-clause-moments g c = rw (← c.self.view_is) λ p is. c.commits_are_kept.ensures.no_moments _ p is

pub returns-then-count-self-clause-failed : goal.returns-then-count-self-clause-failed
returns-then-count-self-clause-failed g c = rw (← c.self.view_is) λ p is. c.commits_are_kept.ensures.not_begun_as _ _ p is refl refl refl refl

pub returns-in_err-frame-clause-moments : goal.returns-in_err-frame-clause-moments
returns-in_err-frame-clause-moments g c = rw (← c.self.view_is, c.reserve.ensures.same) λ p is. c.commits_are_kept.ensures.no_moments _ p is

pub returns-in_err-frame-clause-failed : goal.returns-in_err-frame-clause-failed
returns-in_err-frame-clause-failed g c = rw (← c.self.view_is, c.reserve.ensures.same) (err_always c.from_residual.result _ (λ p is. c.commits_are_kept.ensures.not_begun_as _ _ p is refl refl refl refl))

pub returns-in_err-append-clause-moments : goal.returns-in_err-append-clause-moments
returns-in_err-append-clause-moments g c =
    let laws = g.met.S.Device.Device g.world.𝓛 g.world.𝓜 g.world.𝓡 ((λ s x. x), (λ x. x), (λ x. x), λ x. x) in
    let appends : Appends c.self.inside.staged.items (g.S.Device.Device.history c.self.inside.log.device) (g.S.Device.Device.history c.append.new.self.device) = record {
      stays = laws.content_may_stay c.self.inside.log.device;
      moments = rw (← c.reserve.ensures.same, ← c.deref.ensures.value, ← c.in_ok-frame.ensures.frame) c.append.ensures.moments;
      after = rw (← c.reserve.ensures.same, ← c.deref.ensures.value, ← c.in_ok-frame.ensures.frame) c.append.ensures.after;
    } in
    rw (← c.self.view_is) λ p is. c.commits_are_kept.ensures.moments _ p _ is appends

pub returns-in_err-append-clause-failed : goal.returns-in_err-append-clause-failed
returns-in_err-append-clause-failed g c =
    let laws = g.met.S.Device.Device g.world.𝓛 g.world.𝓜 g.world.𝓡 ((λ s x. x), (λ x. x), (λ x. x), λ x. x) in
    let appends : Appends c.self.inside.staged.items (g.S.Device.Device.history c.self.inside.log.device) (g.S.Device.Device.history c.append.new.self.device) = record {
      stays = laws.content_may_stay c.self.inside.log.device;
      moments = rw (← c.reserve.ensures.same, ← c.deref.ensures.value, ← c.in_ok-frame.ensures.frame) c.append.ensures.moments;
      after = rw (← c.reserve.ensures.same, ← c.deref.ensures.value, ← c.in_ok-frame.ensures.frame) c.append.ensures.after;
    } in
    rw (← c.self.view_is) (err_always c.from_residual-in_err-append.result _ (λ p is. c.commits_are_kept.ensures.failed_as _ _ p is refl refl refl appends))

pub returns-clause-committed : goal.returns-clause-committed
returns-clause-committed g c =
    let laws = g.met.S.Device.Device g.world.𝓛 g.world.𝓜 g.world.𝓡 ((λ s x. x), (λ x. x), (λ x. x), λ x. x) in
    let appended : HasAppended c.self.inside.staged.items (g.S.Device.Device.history c.self.inside.log.device) (g.S.Device.Device.history c.append.new.self.device) = record {
      appends = record {
        stays = laws.content_may_stay c.self.inside.log.device;
        moments = rw (← c.reserve.ensures.same, ← c.deref.ensures.value, ← c.in_ok-frame.ensures.frame) c.append.ensures.moments;
        after = rw (← c.reserve.ensures.same, ← c.deref.ensures.value, ← c.in_ok-frame.ensures.frame) c.append.ensures.after;
      };
      durable = rw (← c.reserve.ensures.same, ← c.deref.ensures.value, ← c.in_ok-frame.ensures.frame) c.in_ok-append.ensures.durable;
    } in
    let sound : c.self.inside.failed ≡ false = ap (λ s. s.failed) c.self.view_is ∙ c.requires.sound in
    let empty : c.replace-written.new.dest.items ≡ [] = search rules in
    rw (← c.self.view_is) λ p is. (c.commits_are_kept.ensures.committed _ _ p is (rw (empty, sound) refl) appended, c.commits_are_kept.ensures.stored p)

pub returns-clause-moments : goal.returns-clause-moments
returns-clause-moments g c =
    let laws = g.met.S.Device.Device g.world.𝓛 g.world.𝓜 g.world.𝓡 ((λ s x. x), (λ x. x), (λ x. x), λ x. x) in
    let appends : Appends c.self.inside.staged.items (g.S.Device.Device.history c.self.inside.log.device) (g.S.Device.Device.history c.append.new.self.device) = record {
      stays = laws.content_may_stay c.self.inside.log.device;
      moments = rw (← c.reserve.ensures.same, ← c.deref.ensures.value, ← c.in_ok-frame.ensures.frame) c.append.ensures.moments;
      after = rw (← c.reserve.ensures.same, ← c.deref.ensures.value, ← c.in_ok-frame.ensures.frame) c.append.ensures.after;
    } in
    rw (← c.self.view_is) λ p is. c.commits_are_kept.ensures.moments _ p _ is appends

pub returns-clause-own : goal.returns-clause-own
returns-clause-own g c = rw (← c.self.view_is) λ own. own

pub returns-clause-log_out : goal.returns-clause-log_out
returns-clause-log_out g c =
    let t = told g.S.Store.history g.S.Device.Device.history g.S.Frozen.Frozen.content (left_of c.self.view_is) in
    let log = g.S.Device.Device.history c.append.new.self.device in
    rw (← c.self.view_is)
    (log_grows t log (λ tells. appended_tells (g.S.Device.Device.size c.reserve.new.self.device - 1) (with_closed_gate c.in_ok-frame.frame)
    (g.S.Device.Device.history c.reserve.new.self.device) log c.in_ok-append.ensures.appended
    (subst (λ (l : LogState _). IsTold (g.S.Device.Device.history l.device)) (sym c.reserve.ensures.same) tells)))

pub returns-clause-frame : goal.returns-clause-frame
returns-clause-frame g c = (
  ap (λ v. v.items) c.replace-written.ensures.value ∙ ap (λ s. s.staged) c.self.view_is,
  subst (All IsWrite) (sym (ap (λ v. v.items) c.replace-written.ensures.value)) (All-from_recursion IsWrite c.self.inside.staged.items c.self.invariant.frame.each),
)

-- ---- whether the logs tell

pub returns-in_err-append-clause-tells : goal.returns-in_err-append-clause-tells
returns-in_err-append-clause-tells g c =
    let t = told g.S.Store.history g.S.Device.Device.history g.S.Frozen.Frozen.content (left_of c.self.view_is) in
    let log = g.S.Device.Device.history c.append.new.self.device in
    rw (← c.self.view_is)
    (logs_grow t log (λ none. ap (λ (l : LogState _). g.S.Device.Device.history l.device) (sym c.reserve.ensures.same) ∙ c.append.ensures.tells none))

pub returns-clause-tells : goal.returns-clause-tells
returns-clause-tells g c =
    let t = told g.S.Store.history g.S.Device.Device.history g.S.Frozen.Frozen.content (left_of c.self.view_is) in
    let log = g.S.Device.Device.history c.append.new.self.device in
    rw (← c.self.view_is)
    (logs_grow t log (λ none. ap (λ (l : LogState _). g.S.Device.Device.history l.device) (sym c.reserve.ensures.same) ∙ c.append.ensures.tells none))
