-- How the writes that are staged grow, as those of one frame.
use Rattle.std.specs.Prelude.{◌<◌, ◌≤◌, ◌+◌, ◌^◌, ℕ, List, length}
use Rattle.std.specs.List.{AllByRecursion}
use Rattle.tc_log.specs.declared.write.Write.{Write}
use Rattle.tc_log.specs.Spelling.{body_bytes}
use Rattle.tc_log.specs.Writes.{IsWrite}
use Rattle.tc_request_model.specs.Request.{Request}
use Rattle.tc_work.specs.Asked.{writes_for, bytes_for, most_writes, most_bytes}

-- there is room in the frame for the write of one more request
pub record HasRoomFor (r : Request) (ws : List Write) : Type 0 where
  pub each : AllByRecursion IsWrite ws
  pub few : length ws + writes_for r ≤ 4096
  pub short : length (body_bytes ws) + bytes_for r < 2 ^ 32

-- by the write of a request at most
pub record HasGrown (r : Request) (old new : List Write) : Type 0 where
  pub each : AllByRecursion IsWrite new
  pub few : length new ≤ length old + writes_for r
  pub short : length (body_bytes new) ≤ length (body_bytes old) + bytes_for r

-- with those of the requests that are left there are at most so many writes, of so many bytes
pub record AreWithin (count bytes : ℕ) (ws : List Write) (left : List Request) : Type 0 where
  pub each : AllByRecursion IsWrite ws
  pub few : length ws + most_writes left ≤ count
  pub short : length (body_bytes ws) + most_bytes left ≤ bytes
