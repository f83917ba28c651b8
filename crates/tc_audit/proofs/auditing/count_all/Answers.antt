use Rattle.std.proofs.Common.{◌≡◌, ◌∙◌, ◌<◌, ◌≤◌, ◌+◌, Err, [], ◌∷◌, ◌++◌, Some, length, slice_get, take, refl, sym, ap, subst, arith}
use Rattle.std.specs.Arc.{arc_value}
use Rattle.std.proofs.lemmas.List.{length-take-le, take_all}
use Rattle.std.proofs.lemmas.Option.{slice_get_within}
use Rattle.std.proofs.lemmas.Result.{err_from_is_err_and}
use Rattle.tc_model.specs.Dictionary.{Extends}
use Rattle.tc_schema_model.specs.Counted.{nothing, IsCanonical}
use Rattle.tc_component.specs.Loading.{ComponentState}
use Rattle.tc_list.specs.Intervals.{last_of}
use Rattle.tc_merge.specs.Merging.{newest_names, newest_schema}
use Rattle.tc_audit.specs.Reasons.{AreRight}
use Rattle.tc_audit.specs.Told.{content_in}
use Rattle.tc_audit.specs.Walking.{AreInFront}
use Rattle.tc_audit.proofs.AuditSteps.{canonical_pushed, documents_live, follows_at, held_at, in_front, names_at, newest_schema_pushed, of_at, reason_at}
use Rattle.tc_audit.proofs.CountedSteps.{taken}
use Rattle.tc_audit.proofs.Outcomes.{watched_behind, watched_out, wrong_out, wrong_then}
use Rattle.tc_audit.proofs.RightLists.{schema_loaded}
use Rattle.tc_audit.proofs.auditing.count_all.Goals as goal

pub loop-at-init : goal.loop-at-init
loop-at-init g c = record {
  older_is = c.new-older.ensures;
  schema_is = c.empty-schema.ensures ∙ ap (newest_schema nothing) (sym c.new-older.ensures);
  canonical = rw (c.new-older.ensures, c.empty-schema.ensures) ((λ none. refl), (λ none. refl), tt, tt);
  right = λ part held of. ([], rw c.new-older.ensures (record { loaded = tt; listed = tt }));
  faults = omega arith;
}

pub count_component-requires-clause-names : goal.count_component-requires-clause-names
count_component-requires-clause-names g c κs within =
    let l = c.loop-at in
    let m = c.deref.result.now in
    subst (λ ms. Extends m.index.names (newest_names [] ms)) (sym l.invariant.older_is) (names_at [] c.args.list.now l.at m c.requires.names (c.in_ok-component.ensures ∙ ap Some (sym c.deref.ensures)))

pub count_component-requires-clause-newer : goal.count_component-requires-clause-newer
count_component-requires-clause-newer g c κs within =
    let l = c.loop-at in
    let m = c.deref.result.now in
    subst (λ ms. AreInFront ms m.index.names) (sym l.invariant.older_is) (in_front [] c.args.list.now l.at m c.requires.names (c.in_ok-component.ensures ∙ ap Some (sym c.deref.ensures)))

pub count_component-requires-clause-canonical : goal.count_component-requires-clause-canonical
count_component-requires-clause-canonical g c κs within = c.loop-at.invariant.canonical

pub push-requires-after_bounds : goal.push-requires-after_bounds
push-requires-after_bounds g c κs within =
    let l = c.loop-at in
    let m = arc_value c.in_ok-component.component in
    subst (λ ms. m.index.head.from ≡ last_of ms + 1) (sym l.invariant.older_is) (follows_at 0 c.args.list.now l.at m c.as_slice-components.ensures.follow c.in_ok-component.ensures)

pub returns-in_err-schema-clause-wrong : goal.returns-in_err-schema-clause-wrong
returns-in_err-schema-clause-wrong g c =
    let l = c.loop-at in
    let m = c.deref.result.now in
    let here : slice_get c.args.list.now l.at ≡ Some m = c.in_ok-component.ensures ∙ ap Some (sym c.deref.ensures) in
    let told = g.F.Frozen.content in
    wrong_out c.from_residual-in_err-schema.result c.in_err-schema.field-0.0 _ (err_from_is_err_and c.from_residual-in_err-schema.result c.from_residual-in_err-schema.ensures.1)
    (wrong_then {X = Unit {0}} (Err c.in_err-schema.field-0.0) _ _
    (λ w wrong part held of.
    let right = l.invariant.right part held of in
    let own = held_at told part c.args.list.now l.at m held here in
    reason_at told part c.args.list.now l.older l.at m right.0 w l.invariant.older_is here right.1
    (wrong part right.0 own.bytes right.1 (l.invariant.schema_is ∙ schema_loaded told nothing l.older right.0 right.1.loaded) (own.tells, own.holds)))
    c.in_err-schema.ensures.wrong)

pub returns-in_err-schema-clause-watched : goal.returns-in_err-schema-clause-watched
returns-in_err-schema-clause-watched g c =
    watched_out c.from_residual-in_err-schema.result c.in_err-schema.field-0.0 (g.F.Watch.Watch.counts c.args.watch.now) (g.F.Watch.Watch.counts c.count_component.new.watch) (err_from_is_err_and c.from_residual-in_err-schema.result c.from_residual-in_err-schema.ensures.1)
    (watched_behind _ (g.F.Watch.Watch.counts c.args.watch.now) (g.F.Watch.Watch.counts c.loop-at.watch) (g.F.Watch.Watch.counts c.count_component.new.watch) c.loop-at.invariant.faults c.in_err-schema.ensures.watched)

pub loop-at-preserved : goal.loop-at-preserved
loop-at-preserved g c =
    let l = c.loop-at in
    let m = c.deref.result.now in
    let here : slice_get c.args.list.now l.at ≡ Some m = c.in_ok-component.ensures ∙ ap Some (sym c.deref.ensures) in
    let told = g.F.Frozen.content in
    let pushed = c.in_ok-push.ensures.ok ∙ ap (λ (n : ComponentState _). l.older ++ n ∷ []) (sym c.deref.ensures) in
    let one = c.in_ok-schema.ensures in
    let front : l.older ++ m ∷ [] ≡ take (l.at + 1) c.args.list.now = ap (λ ms. ms ++ m ∷ []) l.invariant.older_is ∙ sym (taken c.args.list.now l.at m here) in
    record {
      older_is = pushed ∙ front;
      schema_is = one.schema ∙ sym (newest_schema_pushed nothing l.older m) ∙ ap (newest_schema nothing) (sym pushed);
      canonical = subst (λ ms. IsCanonical (length (newest_names [] ms)) c.in_ok-schema.schema) (sym pushed) (canonical_pushed l.older m c.in_ok-schema.schema one.schema one.lawful);
      right = λ part held of.
          let right = l.invariant.right part held of in
          let own = held_at told part c.args.list.now l.at m held here in
          let next = subst (λ ms. m.index.head.from ≡ last_of ms + 1) (sym l.invariant.older_is) (follows_at 0 c.args.list.now l.at m c.as_slice-components.ensures.follow here) in
          let more = right.0 ++ content_in m.index own.bytes ∷ [] in
          (more, subst (λ ms. AreRight told part ms more) (sym pushed) (one.right part right.0 own.bytes right.1 (l.invariant.schema_is ∙ schema_loaded told nothing l.older right.0 right.1.loaded) (own.tells, own.holds) (of_at told part c.args.list.now l.at m of here) next));
      faults = omega (arith, l.invariant.faults, one.watched.faults);
    }

pub returns-clause-right : goal.returns-clause-right
returns-clause-right g c = λ part held of.
    let l = c.loop-at in
    let told = g.F.Frozen.content in
    let all : l.at ≡ length c.args.list.now = let most = l.auto.at-end in let done = c.loop-at-test.false in let many = c.len-at-end.ensures in omega arith in
    let whole : l.older ≡ c.args.list.now = l.invariant.older_is ∙ take_all l.at c.args.list.now (omega (arith, all)) in
    let right = l.invariant.right part held of in
    let own = subst (λ ms. AreRight told part ms right.0) whole right.1 in
    (right.0, own, c.documents.ensures ∙ documents_live told part c.args.list.now right.0 l.schema own (l.invariant.schema_is ∙ ap (newest_schema nothing) whole))

pub returns-clause-watched : goal.returns-clause-watched
returns-clause-watched g c = record { faults = c.loop-at.invariant.faults; cause = λ failed. absurd (cc) }

pub returns-in_err-schema-clause-place : goal.returns-in_err-schema-clause-place
returns-in_err-schema-clause-place g c =
    let l = c.loop-at in
    let at : l.at < length c.args.list.now = slice_get_within c.args.list.now l.at (arc_value c.in_ok-component.component) c.in_ok-component.ensures in
    let many : length l.older ≤ l.at = omega (arith, ap length l.invariant.older_is, length-take-le l.at c.args.list.now (omega (arith, at))) in
    wrong_out c.from_residual-in_err-schema.result c.in_err-schema.field-0.0 _ (err_from_is_err_and c.from_residual-in_err-schema.result c.from_residual-in_err-schema.ensures.1)
    (wrong_then {X = Unit {0}} (Err c.in_err-schema.field-0.0) _ _ (λ w is. omega (arith, is, many, at)) c.in_err-schema.ensures.place)
