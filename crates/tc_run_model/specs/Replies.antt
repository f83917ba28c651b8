-- What a world replies. A reply is a function of the world, save that of a collect: it may be over any prefix of each
-- partition's writes that has those before the scan in it.
use Rattle.std.specs.Prelude.{◌≡◌, ℕ, ◌≤◌, length, List, [], ◌∷◌, map, zip, is_some, Option, Some, None, if◌then◌else◌}
use Rattle.std.specs.List.{AllZip}
use Rattle.tc_request_model.specs.Request.{Request, upsert, delete, get, query, flush, schema, scan, collect, refused, busy, no_scan}
use Rattle.tc_request_model.specs.Reply.{Reply, rows, flushed, schemas, started, collected, turned_down}
use Rattle.tc_schema_model.specs.SchemaText.{schema_text}
use Rattle.tc_plain_model.specs.Store.{documents}
use Rattle.tc_request_model.specs.Rows.{rows_over}
use Rattle.tc_request_model.specs.Part.{part_reply}
use Rattle.tc_run_model.specs.World.{Part, Scan, World, home_of, store_at, united, pairs_at, after}

-- the reply to a request, and to a collect where no scan runs
abbrev pub reply_to : Request → World → Reply
reply_to (upsert n d) w = part_reply w.limits (upsert n d) (store_at (home_of n w) w)
reply_to (delete n) w = part_reply w.limits (delete n) (store_at (home_of n w) w)
reply_to (get n) w = part_reply w.limits (get n) (store_at (home_of n w) w)
reply_to (query ask) w = rows (rows_over ask (united (map (λ part. part.now.pairs) w.parts)))
reply_to flush w = flushed
reply_to schema w = schemas (map (λ part. schema_text (documents part.now)) w.parts)
reply_to (scan ask) w = if is_some w.running then turned_down busy else started
reply_to collect w = turned_down no_scan
reply_to (refused r) w = turned_down r

-- ---- a collect

-- a scan may be answered over so many writes of each partition
abbrev pub MayCover : List Part → Scan → List ℕ → Type 0
MayCover parts s upto = AllZip (λ least u. least ≤ u) s.seen upto × AllZip (λ u part. u ≤ length part.writes) upto parts

-- the reply to a collect is over such a prefix, and says over which
pub record IsCollected (w : World) (s : Scan) (reply : Reply) : Type 0 where
  pub upto : List ℕ
  pub may_cover : MayCover w.parts s upto
  pub is_over : reply ≡ collected (rows_over s.ask (united (map (λ p. pairs_at p.0 p.1) (zip upto w.parts)))) upto

abbrev pub IsCollectReply : Option Scan → World → Reply → Type 0
IsCollectReply None w reply = reply ≡ turned_down no_scan
IsCollectReply (Some s) w reply = IsCollected w s reply

-- ---- what may be replied

abbrev pub IsReply : Request → World → Reply → Type 0
IsReply (upsert n d) w reply = reply ≡ reply_to (upsert n d) w
IsReply (delete n) w reply = reply ≡ reply_to (delete n) w
IsReply (get n) w reply = reply ≡ reply_to (get n) w
IsReply (query ask) w reply = reply ≡ reply_to (query ask) w
IsReply flush w reply = reply ≡ reply_to flush w
IsReply schema w reply = reply ≡ reply_to schema w
IsReply (scan ask) w reply = reply ≡ reply_to (scan ask) w
IsReply collect w reply = IsCollectReply w.running w reply
IsReply (refused r) w reply = reply ≡ reply_to (refused r) w

-- these replies may be given to requests, one after the other
abbrev pub AreReplies : List Request → World → List Reply → Type 0
AreReplies [] w [] = Unit {0}
AreReplies [] w (a ∷ more) = ⊥
AreReplies (r ∷ rs) w [] = ⊥
AreReplies (r ∷ rs) w (a ∷ more) = IsReply r w a × AreReplies rs (after r w) more

-- the replies to requests among which is no collect
abbrev pub replies_to : List Request → World → List Reply
replies_to [] w = []
replies_to (r ∷ rs) w = reply_to r w ∷ replies_to rs (after r w)
