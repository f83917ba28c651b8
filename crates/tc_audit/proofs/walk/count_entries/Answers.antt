use Rattle.std.proofs.Common.{rules, ◌≡◌, ◌∙◌, Err, List, length, sym, ap, subst, arith}
use Rattle.std.proofs.lemmas.List.{take_at}
use Rattle.std.proofs.lemmas.Result.{err_from_is_err_and}
use Rattle.std.proofs.lemmas.Slice.Zip.{AllZip-long}
use Rattle.tc_lsm_model.specs.Lists.{live}
use Rattle.tc_component.specs.Cursors.{CursorState}
use Rattle.tc_audit.specs.Waiting.{all_counted}
use Rattle.tc_audit.specs.Walking.{HoldParts, IsCounting, IsUpTo}
use Rattle.tc_audit.proofs.Outcomes.{watched_behind, watched_out, wrong_out, wrong_then}
use Rattle.tc_audit.proofs.walk.count_entries.Goals as goal

pub loop-at-init : goal.loop-at-init
loop-at-init g c = record {
  of = search rules;
  each = c.in_ok-cursors.ensures;
  names = c.requires.names;
  form = c.requires.form;
  sound = c.requires.sound;
  few = omega (arith, c.requires.none);
  counting = subst (IsCounting c.args.component.now.index.names (all_counted c.args.recount.now)) (sym c.requires.none) c.requires.counting;
  counted = λ part cs whole right tells u. subst (IsUpTo c.args.component.now.index whole (live cs) 0 (all_counted c.args.recount.now)) (sym c.requires.none) u;
  faults = omega arith;
}

pub count_entry-requires-clause-at : goal.count_entry-requires-clause-at
count_entry-requires-clause-at g c κs within = let more = c.loop-at-test.true in let many = c.len-at-end.ensures in omega arith

pub returns-in_err-count_entry-clause-wrong : goal.returns-in_err-count_entry-clause-wrong
returns-in_err-count_entry-clause-wrong g c =
    wrong_out c.from_residual-in_err-count_entry.result c.in_err-count_entry.field-0.0 _ (err_from_is_err_and c.from_residual-in_err-count_entry.result c.from_residual-in_err-count_entry.ensures.1)
    (wrong_then {X = Unit {0}} (Err c.in_err-count_entry.field-0.0) _ _ (λ w wrong part cs whole right tells u. wrong part cs whole right tells (c.loop-at.invariant.counted part cs whole right tells u)) c.in_err-count_entry.ensures.wrong)

pub returns-in_err-count_entry-clause-watched : goal.returns-in_err-count_entry-clause-watched
returns-in_err-count_entry-clause-watched g c =
    watched_out c.from_residual-in_err-count_entry.result c.in_err-count_entry.field-0.0 _ _ (err_from_is_err_and c.from_residual-in_err-count_entry.result c.from_residual-in_err-count_entry.ensures.1)
    (watched_behind _ _ _ _ c.loop-at.invariant.faults c.in_err-count_entry.ensures.watched)

pub loop-at-preserved : goal.loop-at-preserved
loop-at-preserved g c =
    let l = c.loop-at in
    let one = c.in_ok-count_entry.ensures in
    let told = g.F.Frozen.content in
    let same = AllZip-long _ c.args.older.now c.count_entry.new.cursors one.each ∙ sym (AllZip-long _ c.args.older.now l.cursors.items l.invariant.each) ∙ sym (sym c.deref_mut.ensures.len ∙ ap (λ (ks : List CursorState). length ks) c.deref_mut.ensures.value) in
    record {
      of = one.of;
      each = subst (HoldParts told c.args.older.now) (sym (take_at c.count_entry.new.cursors _ _ same)) one.each;
      names = one.names;
      form = one.form;
      sound = one.sound;
      few = one.few;
      counting = one.counting;
      counted = λ part cs whole right tells u. one.counted part cs whole right tells (l.invariant.counted part cs whole right tells u);
      faults = omega (arith, l.invariant.faults, one.watched.faults);
    }

pub returns-clause-counted : goal.returns-clause-counted
returns-clause-counted g c = λ part cs whole right tells u.
    let l = c.loop-at in
    let all : l.at ≡ length c.args.component.now.index.slots = let most = l.auto.at-end in let done = c.loop-at-test.false in let many = c.len-at-end.ensures in omega arith in
    subst (λ at. IsUpTo c.args.component.now.index whole (live cs) at (all_counted l.recount) l.recount.gained) all (l.invariant.counted part cs whole right tells u)

pub returns-clause-watched : goal.returns-clause-watched
returns-clause-watched g c = record { faults = c.loop-at.invariant.faults; cause = λ failed. absurd (cc) }

pub returns-in_err-count_entry-clause-place : goal.returns-in_err-count_entry-clause-place
returns-in_err-count_entry-clause-place g c =
    wrong_out c.from_residual-in_err-count_entry.result c.in_err-count_entry.field-0.0 _ (err_from_is_err_and c.from_residual-in_err-count_entry.result c.from_residual-in_err-count_entry.ensures.1) c.in_err-count_entry.ensures.place
