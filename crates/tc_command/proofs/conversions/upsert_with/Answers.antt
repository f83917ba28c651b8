use Rattle.std.proofs.Common.{ℕ, ◌≤◌, codes, Option, IfSome, map, ap, subst, ◌∙◌, arith}
use Rattle.tc_model.specs.Tree.{members_of, members_depth}
use Rattle.tc_model.specs.Document.{member_at}
use Rattle.tc_model.specs.Limits.{max_key}
use Rattle.tc_value.specs.Meaning.{member_of}
use Rattle.tc_command.proofs.KeyLemmas.{depth-without, member_at-without}
use Rattle.tc_command.proofs.conversions.upsert_with.Goals as goal

pub returns-clause-lawful : goal.returns-clause-lawful
returns-clause-lawful c =
    let ms = members_of (map member_of c.args.members.items) in
    let left = c.without_id.ensures in
    let bound = subst (λ (k : Option ℕ). IfSome k (λ n. n ≤ max_key)) c.in_ok-key.ensures.ok_part c.key_among.ensures.bound in
    let shallow = c.requires.shallow in
    (bound, (omega (arith, ap members_depth left, depth-without (codes "id") ms), ap (member_at (codes "id")) left ∙ member_at-without (codes "id") ms))
