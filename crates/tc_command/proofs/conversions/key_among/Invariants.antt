use Rattle.std.proofs.Common.{◌≡◌, codes, map, drop}
use Rattle.tc_model.specs.Tree.{members_of}
use Rattle.tc_model.specs.Document.{member_at}
use Rattle.tc_value.specs.Meaning.{member_of}
use Rattle.tc_command.proofs.conversions.key_among.Given as goal

abbrev pub invariant-loop-member : goal.invariant-loop-member
invariant-loop-member l =
    member_at (codes "id") (members_of (map member_of (drop l.member-index l.members))) ≡ member_at (codes "id") (members_of (map member_of l.members))
