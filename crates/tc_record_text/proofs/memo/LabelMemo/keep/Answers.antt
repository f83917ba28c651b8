use Rattle.std.proofs.Common.{◌∙◌, ◌∷◌, ◌++◌, [], ℕ, List, ap}
use Rattle.json.specs.Print.{quoted}
use Rattle.tc_record_text.specs.Listed.{comma}
use Rattle.tc_record_text.proofs.LabelLaws.{with_label}
use Rattle.tc_record_text.proofs.memo.LabelMemo.keep.Goals as goal

pub returns : goal.returns
returns c = λ names same are.
    let label : List ℕ → List ℕ = λ name. comma ∷ (quoted name ++ 58 ∷ []) in
    let text = c.in_ok-put_name.ensures ∙ ap (λ s. s ++ label c.args.name.now) c.in_ok-text.ensures.items ∙ ap label same in
    rw c.in_ok-push.ensures.items (with_label names c.args.self.now.kept.items _ text are)
