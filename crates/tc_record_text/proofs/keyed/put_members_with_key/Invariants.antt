use Rattle.std.proofs.Common.{◌≡◌, ◌++◌, false, codes, length, map}
use Rattle.serde_json.specs.Data.{put}
use Rattle.serde_json.specs.Written.{members_text}
use Rattle.tc_model.specs.Json.{members_data}
use Rattle.tc_request_model.specs.Reply.{count}
use Rattle.tc_model.specs.Tree.{members_of}
use Rattle.tc_record.specs.Building.{innermost, member_in}
use Rattle.tc_compact.specs.Meant.{levels_meant}
use Rattle.tc_record_text.specs.KeptLabels.{AreLabels}
use Rattle.tc_record_text.proofs.keyed.put_members_with_key.Given as goal

abbrev pub invariant-loop-token : goal.invariant-loop-token
invariant-loop-token l = record {
  text : l.sheet ++ members_text l.later (put (codes "id") (count l.key) (members_data (members_of (map member_in (innermost (levels_meant l.names l.cursor))))))
      ≡ l.fn.sheet ++ members_text false (put (codes "id") (count l.key) (members_data (members_of (map member_in (innermost (levels_meant l.names l.fn.cursor))))));
  labels : AreLabels l.names l.memo.kept.items;
}

abbrev pub decreases-loop-token : goal.decreases-loop-token
decreases-loop-token l = length l.cursor
