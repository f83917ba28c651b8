use Rattle.std.proofs.Common.{◌≡◌, ◌∙◌, ◌+◌, ◌++◌, ◌∷◌, ◌==◌, [], Result, Ok, Err, false, if◌then◌else◌, sym, ap, subst, arith}
use Rattle.std.specs.Result.{is_ok, is_err}
use Rattle.json.specs.Print.{quoted}
use Rattle.tc_record.specs.Walk.{number}
use Rattle.tc_record.specs.WalkView.{key_of}
use Rattle.tc_record_text.specs.FlatRows.{opening_of}
use Rattle.tc_record_text.proofs.RowLabels.{AreGathered, one_more, row_is}
use Rattle.tc_record_text.proofs.flat_rows.FlatRow.of.Goals as goal

-- what a push that found room leaves
with_room : {A E X : Type 0} (r : Result A E) (left full none : X) → is_err r ≡ false → left ≡ (if is_ok r then full else none) → left ≡ full
with_room (Ok x) left full none is same = same
with_room (Err e) left full none is same = absurd (cc)

pub loop-place-preserved : goal.loop-place-preserved
loop-place-preserved c =
    let l = c.loop-place in
    let names = c.args.names.now in
    let start = c.again-start.result in
    let left = c.next-in-loop-place.new.self in
    let label = c.in_ok-label.label in
    let text = c.in_ok-label.ensures ∙ ap (λ n. opening_of (l.place == 0) ++ (quoted n ++ 58 ∷ [])) c.name_of.ensures in
    let items = with_room c.push.result _ _ _ (sym c.is_err.ensures.value ∙ c.if-is_err.false) c.push.ensures.items in
    let more = one_more names start l.walk left l.labels.items l.place c.in_ok-token.token (number c.in-Number.field-0) label l.invariant c.in_ok-token.ensures.taken (ap key_of c.in-Number.is) text in
    subst (λ texts. AreGathered names start left texts (l.place + 1)) (sym items) more

pub returns : goal.returns
returns c =
    let l = c.loop-place in
    let some = c.in_ok-tags.ensures.some in
    let few = c.in_ok-tags.ensures.few in
    let least = l.auto.place-end in
    let most = c.loop-place-test.false in
    row_is c.args.names.now _ l.walk l.place l.invariant (omega arith) (omega arith) (omega arith)
