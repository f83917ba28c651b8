use Rattle.std.proofs.Common.{◌≡◌, ◌<◌, ◌+◌, ◌-◌, ◌∙◌, ◌∷◌, ◌++◌, [], Some, None, not, is_some, length, ap, sym, arith, ⊎_elim}
use Rattle.std.proofs.lemmas.List.{length_push}
use Rattle.std.proofs.lemmas.Result.{err_from_is_err_and}
use Rattle.tc_bytes.proofs.Lists.{elements_none, elements_refused, elements_more}
use Rattle.tc_model.specs.Dictionary.{number_of}
use Rattle.tc_names.specs.Section.{name_at, is_new}
use Rattle.tc_model.proofs.DictionaryGrowth.{learned-number, learned-new}
use Rattle.tc_names.proofs.section.names_in.Goals as goal

pub returns-in_err-name : goal.returns-in_err-name
returns-in_err-name c =
    let gone = c.in_err-name.ensures.ok_part in
    let read : name_at c.loop-number.rest.now ≡ None = sym (rw gone at c.name_in.ensures.name) in
    let left : 0 < c.args.count - c.loop-number.number = let more = c.loop-number-test.true in omega arith in
    let p = err_from_is_err_and c.from_residual-in_err-name.result c.from_residual-in_err-name.ensures.1 in
    rw p.1 (λ refused. sym c.loop-number.invariant.reads ∙ elements_none is_new name_at (c.args.count - c.loop-number.number) c.loop-number.names c.loop-number.rest.now left read)

pub returns-then-branch-number : goal.returns-then-branch-number
returns-then-branch-number c = λ refused.
    let read : name_at c.loop-number.rest.now ≡ Some (c.in_ok-name.name.now, c.in_ok-name.after.now) = sym (rw c.in_ok-name.ensures.ok_part at c.name_in.ensures.name) in
    let left : 0 < c.args.count - c.loop-number.number = let more = c.loop-number-test.true in omega arith in
    let known : number_of c.loop-number.names c.in_ok-name.name.now ≡ Some c.in_ok-learn.field-0 =
    ⊎_elim (λ last. absurd (c.if-branch-number.true (last.1 ∙ c.loop-number.invariant.known))) (λ before. before.0)
    (learned-number c.loop-number.names c.learn.new.self c.in_ok-name.name.now c.in_ok-learn.field-0 c.in_ok-learn.ensures.ok c.in_ok-learn.ensures.number) in
    sym c.loop-number.invariant.reads
    ∙ elements_refused is_new name_at (c.args.count - c.loop-number.number) c.loop-number.names c.loop-number.rest.now c.in_ok-name.name.now c.in_ok-name.after.now left read (ap (λ id. not (is_some id)) known)

pub loop-number-preserved : goal.loop-number-preserved
loop-number-preserved c =
    let read : name_at c.loop-number.rest.now ≡ Some (c.in_ok-name.name.now, c.in_ok-name.after.now) = sym (rw c.in_ok-name.ensures.ok_part at c.name_in.ensures.name) in
    let left : 0 < c.args.count - c.loop-number.number = let more = c.loop-number-test.true in omega arith in
    let new : number_of c.loop-number.names c.in_ok-name.name.now ≡ None =
    ⊎_elim (λ last. last.0) (λ before. absurd (let below = before.1 in let same = c.if-branch-number.false in let known = c.loop-number.invariant.known in omega arith))
    (learned-number c.loop-number.names c.learn.new.self c.in_ok-name.name.now c.in_ok-learn.field-0 c.in_ok-learn.ensures.ok c.in_ok-learn.ensures.number) in
    let after : c.learn.new.self ≡ c.loop-number.names ++ c.in_ok-name.name.now ∷ [] = c.in_ok-learn.ensures.ok ∙ learned-new c.loop-number.names c.in_ok-name.name.now new in
    let fewer : c.args.count - (c.loop-number.number + 1) ≡ c.args.count - c.loop-number.number - 1 = omega arith in
    record {
      reads = rw (after, fewer) (
          sym (elements_more is_new name_at (c.args.count - c.loop-number.number) c.loop-number.names c.loop-number.rest.now c.in_ok-name.name.now c.in_ok-name.after.now left read (ap (λ id. not (is_some id)) new))
          ∙ c.loop-number.invariant.reads);
      known = ap length after ∙ length_push c.loop-number.names c.in_ok-name.name.now ∙ ap (λ n. n + 1) c.loop-number.invariant.known;
    }
