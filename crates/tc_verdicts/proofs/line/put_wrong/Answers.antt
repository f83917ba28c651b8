use Rattle.std.proofs.Common.{◌≡◌, ◌∙◌, codes, false, true, subst}
use Rattle.std.specs.Prelude.{OnOk}
use Rattle.serde_json.specs.Data.{member, no_members, string}
use Rattle.tc_request_model.specs.Reply.{count}
use Rattle.tc_verdicts.specs.Lines.{reason_data}
use Rattle.tc_verdicts.proofs.MemberTexts.{member_put, object_begun}
use Rattle.tc_verdicts.proofs.line.put_wrong.Goals as goal

pub returns : goal.returns
returns c =
    let last = member (codes "why") (reason_data c.args.reason.now) no_members in
    let more = member (codes "partition") (count c.args.partition) last in
    subst (λ text. OnOk c.put_mark-2.result (c.put_mark-2.new.out.items ≡ text))
    (member_put c.put_partition.new.out.items c.put_why.new.out.items true (codes "why") (reason_data c.args.reason.now) no_members c.in_ok-put_why.ensures
    ∙ member_put c.put_text.new.out.items c.put_partition.new.out.items true (codes "partition") (count c.args.partition) last c.in_ok-put_partition.ensures
    ∙ member_put c.put_mark.new.out.items c.put_text.new.out.items false (codes "check") (string (codes "wrong")) more c.in_ok-put_text.ensures
    ∙ object_begun c.args.out.now.items c.put_mark.new.out.items (member (codes "check") (string (codes "wrong")) more) c.in_ok-put_mark.ensures)
    c.put_mark-2.ensures
