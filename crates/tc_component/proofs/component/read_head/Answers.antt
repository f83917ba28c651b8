use Rattle.std.proofs.Common.{◌≡◌, ◌∙◌, Ok, Err, sym, ap, subst}
use Rattle.std.specs.Prelude.{IfSome}
use Rattle.std.proofs.lemmas.Result.{err_from_is_err_and}
use Rattle.tc_store.specs.Judging.{Judges}
use Rattle.tc_component.specs.declared.head.Head.{Head}
use Rattle.tc_component.specs.declared.head.Sizes.{Sizes}
use Rattle.tc_component.specs.Loading.{same_pair, same_head}
use Rattle.tc_component.specs.Reading.{front_judged, head_judged}
use Rattle.tc_component.proofs.Loaded.{head_answers, head_told, head_damaged, damaged_out}
use Rattle.tc_component.proofs.component.read_head.Goals as goal

pub returns-in_err-head-clause-judged : goal.returns-in_err-head-clause-judged
returns-in_err-head-clause-judged g c =
    let laws = g.met.F.Frozen g.world.𝓛 g.world.𝓜 g.world.𝓡 ((λ s x. x), (λ x. x), (λ x. x), λ x. x) in
    let size = g.F.Frozen.size c.args.file.now in
    let front = c.in_ok-front.front.items in
    let r = c.from_residual-in_err-head.result in
    let p = err_from_is_err_and r c.from_residual-in_err-head.ensures.1 in
    let judged = subst (λ q. Judges same_pair q (front_judged c.args.name size front)) c.in_err-head.was (subst (λ n. Judges same_pair c.named_head_in.result (front_judged c.args.name n front)) c.len-size.ensures.exact
    (subst (λ bytes. Judges same_pair c.named_head_in.result (front_judged c.args.name c.len-size.result bytes)) c.deref.ensures.value c.named_head_in.ensures.judged)) in
    subst (λ s. IfSome (g.F.Frozen.content c.args.file.now) (λ bytes. Judges same_head s (head_judged c.args.name bytes))) (sym (p.1 ∙ ap Err p.2))
    (head_answers same_head (λ bytes h. Ok h.0) c.args.name size front (g.F.Frozen.content c.args.file.now) c.in_err-head.field-0.0 (laws.told_size c.args.file.now) c.in_ok-front.ensures.read judged)

pub returns-in_err-head-clause-damaged : goal.returns-in_err-head-clause-damaged
returns-in_err-head-clause-damaged g c =
    let size = g.F.Frozen.size c.args.file.now in
    let front = c.in_ok-front.front.items in
    let r = c.from_residual-in_err-head.result in
    let p = err_from_is_err_and r c.from_residual-in_err-head.ensures.1 in
    let judged = subst (λ q. Judges same_pair q (front_judged c.args.name size front)) c.in_err-head.was (subst (λ n. Judges same_pair c.named_head_in.result (front_judged c.args.name n front)) c.len-size.ensures.exact
    (subst (λ bytes. Judges same_pair c.named_head_in.result (front_judged c.args.name c.len-size.result bytes)) c.deref.ensures.value c.named_head_in.ensures.judged)) in
    damaged_out r c.in_err-head.field-0.0 _ p (head_damaged Head (λ bytes h. Ok h.0) c.args.name size front c.in_err-head.field-0.0 c.in_ok-front.ensures.length judged)

pub returns-clause-judged : goal.returns-clause-judged
returns-clause-judged g c =
    let laws = g.met.F.Frozen g.world.𝓛 g.world.𝓜 g.world.𝓡 ((λ s x. x), (λ x. x), (λ x. x), λ x. x) in
    let size = g.F.Frozen.size c.args.file.now in
    let front = c.in_ok-front.front.items in
    let h : Head × Sizes = (c.in_ok-head.head, c.in_ok-head.field-0-1) in
    let first = subst (λ n. front_judged c.args.name n front ≡ Ok h) c.len-size.ensures.exact (subst (λ bytes. front_judged c.args.name c.len-size.result bytes ≡ Ok h) c.deref.ensures.value c.in_ok-head.ensures.judged) in
    head_told c.args.name size front h (g.F.Frozen.content c.args.file.now) (laws.told_size c.args.file.now) c.in_ok-front.ensures.read first
