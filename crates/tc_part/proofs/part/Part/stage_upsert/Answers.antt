use Rattle.std.proofs.Common.{◌≡◌, ◌∙◌, ◌<◌, ◌^◌, Some, is_some, sym, ap, subst}
use Rattle.std.specs.Prelude.{IfOk, OnOk}
use Rattle.tc_model.specs.Keyed.{value_of}
use Rattle.tc_record.specs.Record.{IsRecordOf}
use Rattle.tc_plain_model.specs.Writes.{Write}
use Rattle.tc_machine.specs.Writes.{IsStorableWrite}
use Rattle.tc_part_model.specs.Meaning.{IsPart, plain_of}
use Rattle.tc_part_model.specs.PartState.{told}
use Rattle.tc_part_model.specs.PartView.{stored_with}
use Rattle.tc_part.specs.Below.{held_at}
use Rattle.tc_part.specs.Stages.{answer_to, refusal_by, refusal_for, stages}
use Rattle.tc_part.proofs.BelowKeys.{live_there, shows_live}
use Rattle.tc_part.proofs.ListedContents.{all_show}
use Rattle.tc_part.proofs.Refusals.{upsert_refused, no_new}
use Rattle.tc_part.proofs.Spelled.{if_ok_then}
use Rattle.tc_part.proofs.StagedWrites.{upsert_kept, storable_record, refused_answer, refused_stages, accepted, accepted_answer}
use Rattle.tc_part.proofs.part.Part.stage_upsert.Goals as goal

pub returns-in-Some-clause-answered : goal.returns-in-Some-clause-answered
returns-in-Some-clause-answered g c = λ p w is may kept.
    let key = c.args.key in
    let bytes = c.args.bytes in
    let limits = c.args.self.now.limits in
    let t = told g.S.Store.history g.S.Device.Device.history g.S.Frozen.Frozen.content c.args.self.now in
    let list = c.args.self.now.list in
    let k = upsert_kept key bytes w kept in
    let d = k.document in
    let storable = subst IsStorableWrite k.is may in
    let of = subst (IsRecordOf d) (sym c.as_slice.ensures.same) (storable_record key d bytes storable k.spelled c.requires.record) in
    let live = live_there t p key list c.below-below.result is (all_show g.S.Frozen.Frozen.content list p.list is.view.components) c.below-below.ensures in
    let was = c.is_live-was_live.ensures ∙ live in
    let refusal = upsert_refused limits key d (plain_of t p) (is_some (value_of key (stored_with p))) _ t.live _ (c.refusal.ensures.exact d (c.in_ok-new_names.ensures.count d of)) was (c.staged_is_kept.ensures.room t p limits key is) in
    subst (λ (w : Write). c.in-Some.refused ≡ answer_to (refusal_for limits w (plain_of t p)) (is_some (value_of w.0 (stored_with p)))) (sym k.is)
    (refused_answer (refusal_for limits (key, Some d) (plain_of t p)) c.in-Some.refused _ (sym c.in-Some.is ∙ refusal))

pub returns-in-Some-clause-staged : goal.returns-in-Some-clause-staged
returns-in-Some-clause-staged g c = λ p w is may kept.
    let key = c.args.key in
    let bytes = c.args.bytes in
    let limits = c.args.self.now.limits in
    let t = told g.S.Store.history g.S.Device.Device.history g.S.Frozen.Frozen.content c.args.self.now in
    let list = c.args.self.now.list in
    let k = upsert_kept key bytes w kept in
    let d = k.document in
    let storable = subst IsStorableWrite k.is may in
    let of = subst (IsRecordOf d) (sym c.as_slice.ensures.same) (storable_record key d bytes storable k.spelled c.requires.record) in
    let live = live_there t p key list c.below-below.result is (all_show g.S.Frozen.Frozen.content list p.list is.view.components) c.below-below.ensures in
    let was = c.is_live-was_live.ensures ∙ live in
    let refusal = upsert_refused limits key d (plain_of t p) (is_some (value_of key (stored_with p))) _ t.live _ (c.refusal.ensures.exact d (c.in_ok-new_names.ensures.count d of)) was (c.staged_is_kept.ensures.room t p limits key is) in
    subst (λ q. IsPart t q)
    (sym (ap (λ (w : Write). stages (refusal_for limits w (plain_of t p)) w (is_some (value_of w.0 (stored_with p))) p) k.is ∙ refused_stages (refusal_for limits (key, Some d) (plain_of t p)) c.in-Some.refused (key, Some d) _ p (sym c.in-Some.is ∙ refusal)))
    is

pub returns-in-Some-clause-by_key : goal.returns-in-Some-clause-by_key
returns-in-Some-clause-by_key g c =
    let state = c.args.self.now in
    let was = c.is_live-was_live.result in (
      was,
      shows_live (held_at c.args.key state.active) state.sealed state.list c.args.key c.below-below.result was c.below-below.ensures c.is_live-was_live.ensures,
      λ d of. refused_answer (refusal_by state.limits d state.taken was state.live) c.in-Some.refused was (sym c.in-Some.is ∙ c.refusal.ensures.exact d (c.in_ok-new_names.ensures.count d (subst (IsRecordOf d) (sym c.as_slice.ensures.same) of))),
    )

pub returns-in-None-clause-answered : goal.returns-in-None-clause-answered
returns-in-None-clause-answered g c = λ p w is may kept.
    let key = c.args.key in
    let bytes = c.args.bytes in
    let limits = c.args.self.now.limits in
    let t = told g.S.Store.history g.S.Device.Device.history g.S.Frozen.Frozen.content c.args.self.now in
    let list = c.args.self.now.list in
    let k = upsert_kept key bytes w kept in
    let d = k.document in
    let storable = subst IsStorableWrite k.is may in
    let of = subst (IsRecordOf d) (sym c.as_slice.ensures.same) (storable_record key d bytes storable k.spelled c.requires.record) in
    let live = live_there t p key list c.below-below.result is (all_show g.S.Frozen.Frozen.content list p.list is.view.components) c.below-below.ensures in
    let was = c.is_live-was_live.ensures ∙ live in
    let refusal = upsert_refused limits key d (plain_of t p) (is_some (value_of key (stored_with p))) _ t.live _ (c.refusal.ensures.exact d (c.in_ok-new_names.ensures.count d of)) was (c.staged_is_kept.ensures.room t p limits key is) in
    let none = accepted (refusal_for limits (key, Some d) (plain_of t p)) (sym c.in-None.is ∙ refusal) in
    subst (λ (w : Write). IfOk c.upsert.result (λ answer. answer ≡ answer_to (refusal_for limits w (plain_of t p)) (is_some (value_of w.0 (stored_with p))))) (sym k.is)
    (accepted_answer c.upsert.result (refusal_for limits (key, Some d) (plain_of t p)) c.is_live-was_live.result (is_some (value_of key (stored_with p))) none was c.upsert.ensures.done)

pub returns-in-None-clause-staged : goal.returns-in-None-clause-staged
returns-in-None-clause-staged g c = λ p w is may kept.
    let key = c.args.key in
    let bytes = c.args.bytes in
    let limits = c.args.self.now.limits in
    let t = told g.S.Store.history g.S.Device.Device.history g.S.Frozen.Frozen.content c.args.self.now in
    let list = c.args.self.now.list in
    let k = upsert_kept key bytes w kept in
    let d = k.document in
    let storable = subst IsStorableWrite k.is may in
    let of = subst (IsRecordOf d) (sym c.as_slice.ensures.same) (storable_record key d bytes storable k.spelled c.requires.record) in
    let live = live_there t p key list c.below-below.result is (all_show g.S.Frozen.Frozen.content list p.list is.view.components) c.below-below.ensures in
    let was = c.is_live-was_live.ensures ∙ live in
    let refusal = upsert_refused limits key d (plain_of t p) (is_some (value_of key (stored_with p))) _ t.live _ (c.refusal.ensures.exact d (c.in_ok-new_names.ensures.count d of)) was (c.staged_is_kept.ensures.room t p limits key is) in
    let none = accepted (refusal_for limits (key, Some d) (plain_of t p)) (sym c.in-None.is ∙ refusal) in
    let u = told g.S.Store.history g.S.Device.Device.history g.S.Frozen.Frozen.content c.upsert.new.self in
    subst (λ q. OnOk c.upsert.result (IsPart u q))
    (sym (ap (λ (w : Write). stages (refusal_for limits w (plain_of t p)) w (is_some (value_of w.0 (stored_with p))) p) k.is ∙ ap (λ o. stages o (key, Some d) (is_some (value_of key (stored_with p))) p) none))
    (c.upsert.ensures.staged p d is storable k.spelled was)

pub returns-in-None-clause-by_key : goal.returns-in-None-clause-by_key
returns-in-None-clause-by_key g c =
    let state = c.args.self.now in
    let was = c.is_live-was_live.result in
    if_ok_then c.upsert.result _ _
    (λ answer _ done. (
      was,
      shows_live (held_at c.args.key state.active) state.sealed state.list c.args.key c.below-below.result was c.below-below.ensures c.is_live-was_live.ensures,
      λ d of.
          let none = accepted (refusal_by state.limits d state.taken was state.live) (sym c.in-None.is ∙ c.refusal.ensures.exact d (c.in_ok-new_names.ensures.count d (subst (IsRecordOf d) (sym c.as_slice.ensures.same) of))) in
          done ∙ ap (λ o. answer_to o was) (sym none),
    ))
    c.upsert.ensures.done

-- ---- the names of a document that is not refused

pub upsert-requires-clause-names : goal.upsert-requires-clause-names
upsert-requires-clause-names g c = λ κs lives d of.
    subst (λ n. n < 2 ^ 32) (sym (c.in_ok-new_names.ensures.count d (subst (IsRecordOf d) (sym c.as_slice.ensures.same) of))) (c.refusal.ensures.names c.in-None.is)

pub upsert-requires-clause-known : goal.upsert-requires-clause-known
upsert-requires-clause-known g c = λ κs lives none d of.
    c.in_ok-new_names.ensures.none (no_new c.in_ok-new_names.new_names none) d (subst (IsRecordOf d) (sym c.as_slice.ensures.same) of)
