-- Replies from a world that is known, or is not: over stores that do not tell what they hold there is none.
use Rattle.std.specs.Prelude.{◌≡◌, List, map, Option, Some, None, option_map}
use Rattle.tc_request_model.specs.Request.{Request}
use Rattle.tc_request_model.specs.Reply.{Reply}
use Rattle.tc_request_model.specs.Rendered.{Rendered, rendered}
use Rattle.tc_run_model.specs.World.{World, after_all}
use Rattle.tc_run_model.specs.Replies.{AreReplies}
use Rattle.tc_run_model.specs.Kinds.{AreOfKinds}

-- these replies may be given to requests, one after the other
abbrev pub MayReply : List Request → Option World → List Reply → Type 0
MayReply rs (Some w) replies = AreReplies rs w replies
MayReply rs None replies = AreOfKinds rs replies

-- what such replies render
abbrev pub MayRender : List Request → Option World → List Rendered → Type 0
MayRender rs known texts = (replies : List Reply) × MayReply rs known replies × (texts ≡ map rendered replies)

-- the world that requests leave
abbrev pub known_after : List Request → Option World → Option World
known_after rs known = option_map (after_all rs) known
