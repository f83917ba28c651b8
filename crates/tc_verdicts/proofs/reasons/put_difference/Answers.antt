use Rattle.std.proofs.Common.{◌≡◌, ◌∙◌, codes, false, true, subst}
use Rattle.std.specs.Prelude.{OnOk}
use Rattle.serde_json.specs.Data.{array, member, no_members, string}
use Rattle.tc_request_model.specs.Reply.{count}
use Rattle.tc_files.specs.Names.{name_text}
use Rattle.tc_schema.specs.Paths.{path_meant}
use Rattle.tc_value.specs.Kinds.{kind_meant}
use Rattle.tc_verdicts.specs.Lines.{kind_name, path_data}
use Rattle.tc_verdicts.proofs.MemberTexts.{member_put, object_begun}
use Rattle.tc_verdicts.proofs.reasons.put_difference.Goals as goal

pub returns : goal.returns
returns c =
    let first = c.args.first.now in
    let path = member (codes "path") (array (path_data (path_meant first.path.items))) no_members in
    let kind = member (codes "kind") (string (kind_name (kind_meant first.kind))) path in
    let kept = member (codes "kept") (count first.kept) kind in
    let file = member (codes "file") (string (name_text c.args.file)) kept in
    subst (λ text. OnOk c.put_mark-2.result (c.put_mark-2.new.out.items ≡ text))
    (member_put c.put_kind_member.new.out.items c.put_path_member.new.out.items true (codes "path") (array (path_data (path_meant first.path.items))) no_members c.in_ok-put_path_member.ensures
    ∙ member_put c.put_number-2.new.out.items c.put_kind_member.new.out.items true (codes "kind") (string (kind_name (kind_meant first.kind))) path c.in_ok-put_kind_member.ensures
    ∙ member_put c.put_file_member.new.out.items c.put_number-2.new.out.items true (codes "kept") (count first.kept) kind c.in_ok-put_number-2.ensures
    ∙ member_put c.put_number.new.out.items c.put_file_member.new.out.items true (codes "file") (string (name_text c.args.file)) kept c.in_ok-put_file_member.ensures
    ∙ member_put c.put_mark.new.out.items c.put_number.new.out.items false (codes "counted") (count first.counted) file c.in_ok-put_number.ensures
    ∙ object_begun c.args.out.now.items c.put_mark.new.out.items (member (codes "counted") (count first.counted) file) c.in_ok-put_mark.ensures)
    c.put_mark-2.ensures
