-- Laws of replies: requests in front of others, and requests among which is no collect.
use Rattle.std.proofs.Common.{◌≡◌, List, [], ◌∷◌, ◌++◌, refl, ap}
use Rattle.std.specs.List.{AllByRecursion}
use Rattle.std.specs.Prelude.{Option, Some, None}
use Rattle.std.proofs.lemmas.List.Sums.{fold-append}
use Rattle.tc_request_model.specs.Request.{Request, upsert, delete, get, query, flush, schema, scan, collect, refused}
use Rattle.tc_request_model.specs.Reply.{Reply}
use Rattle.tc_run_model.specs.World.{World, after, after_all}
use Rattle.tc_run_model.specs.Replies.{reply_to, IsReply, AreReplies, replies_to}
use Rattle.tc_run_model.specs.Kinds.{AreOfKinds}
use Rattle.tc_run_model.specs.Known.{MayReply, known_after}

pub after_all-append : (rs ss : List Request) (w : World) → after_all (rs ++ ss) w ≡ after_all ss (after_all rs w)
after_all-append rs ss w = fold-append (λ v r. after r v) w rs ss

-- replies in front of others are replies to requests in front of others
pub AreReplies-append : (rs ss : List Request) (w : World) (xs ys : List Reply) → AreReplies rs w xs → AreReplies ss (after_all rs w) ys → AreReplies (rs ++ ss) w (xs ++ ys)
AreReplies-append [] ss w [] ys given more = more
AreReplies-append [] ss w (a ∷ xs) ys given more = absurd given
AreReplies-append (r ∷ rs) ss w [] ys given more = absurd given
AreReplies-append (r ∷ rs) ss w (a ∷ xs) ys given more = (given.0, AreReplies-append rs ss (after r w) xs ys given.1 more)

AreOfKinds-append : (rs ss : List Request) (xs ys : List Reply) → AreOfKinds rs xs → AreOfKinds ss ys → AreOfKinds (rs ++ ss) (xs ++ ys)
AreOfKinds-append [] ss [] ys given more = more
AreOfKinds-append [] ss (a ∷ xs) ys given more = absurd given
AreOfKinds-append (r ∷ rs) ss [] ys given more = absurd given
AreOfKinds-append (r ∷ rs) ss (a ∷ xs) ys given more = (given.0, AreOfKinds-append rs ss xs ys given.1 more)

-- ---- from a world that may not be known

pub known_after-append : (rs ss : List Request) (known : Option World) → known_after (rs ++ ss) known ≡ known_after ss (known_after rs known)
known_after-append rs ss (Some w) = ap Some (after_all-append rs ss w)
known_after-append rs ss None = refl

pub MayReply-append : (rs ss : List Request) (known : Option World) (xs ys : List Reply) → MayReply rs known xs → MayReply ss (known_after rs known) ys → MayReply (rs ++ ss) known (xs ++ ys)
MayReply-append rs ss (Some w) xs ys given more = AreReplies-append rs ss w xs ys given more
MayReply-append rs ss None xs ys given more = AreOfKinds-append rs ss xs ys given more

-- no request has no reply
pub MayReply-none : (known : Option World) → MayReply [] known []
MayReply-none (Some w) = tt
MayReply-none None = tt

-- as many replies as requests
pub replied-none : (known : Option World) (a : Reply) (replies : List Reply) → MayReply [] known (a ∷ replies) → ⊥
replied-none (Some w) a replies given = given
replied-none None a replies given = given

-- ---- no collect

-- a request to which the world has one reply
abbrev pub IsNoCollect : Request → Type 0
IsNoCollect collect = ⊥
IsNoCollect _ = Unit {0}

pub IsReply-reply_to : (r : Request) (w : World) → IsNoCollect r → IsReply r w (reply_to r w)
IsReply-reply_to (upsert n d) w one = refl
IsReply-reply_to (delete n) w one = refl
IsReply-reply_to (get n) w one = refl
IsReply-reply_to (query ask) w one = refl
IsReply-reply_to flush w one = refl
IsReply-reply_to schema w one = refl
IsReply-reply_to (scan ask) w one = refl
IsReply-reply_to collect w one = absurd one
IsReply-reply_to (refused r) w one = refl

-- without a collect these may be replied
pub AreReplies-replies_to : (rs : List Request) (w : World) → AllByRecursion IsNoCollect rs → AreReplies rs w (replies_to rs w)
AreReplies-replies_to [] w none = tt
AreReplies-replies_to (r ∷ rs) w none = (IsReply-reply_to r w none.0, AreReplies-replies_to rs (after r w) none.1)
