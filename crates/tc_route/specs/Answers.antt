-- What partitions reply to their shares of a window, and what the world replies to the window.
use Rattle.std.specs.Prelude.{◌≡◌, ℕ, suc, ◌<◌, ◌%◌, length, map, List, [], ◌∷◌}
use Rattle.std.specs.List.{All}
use Rattle.tc_model.specs.Keyed.{Keyed, Ascends}
use Rattle.tc_request_model.specs.Request.{Request, flush, schema, scan, collect, refused}
use Rattle.tc_request_model.specs.Reply.{Reply}
use Rattle.tc_plain_model.specs.Store.{Store}
use Rattle.tc_plain_model.specs.Room.{Limits}
use Rattle.tc_request_model.specs.Part.{part_reply, part_left}
use Rattle.tc_run_model.specs.Kinds.{IsOfKind}
use Rattle.tc_run_model.specs.World.{World, after}
use Rattle.tc_run_model.specs.Replies.{reply_to}
use Rattle.tc_route.specs.Shares.{share}
use Rattle.tc_route.specs.Gathered.{gathered}

-- the replies of a partition to requests, one after the other, each at the place of its request
abbrev pub answered : Limits → Keyed Request → Store → Keyed Reply
answered limits [] s = []
answered limits (r ∷ rs) s = (r.0, part_reply limits r.1 s) ∷ answered limits rs (part_left limits r.1 s)

-- the replies of partitions, of so many, from the one of a number on, each to its share of a window
abbrev pub shares_answered : Limits → ℕ → ℕ → Keyed Request → List Store → List (Keyed Reply)
shares_answered limits count p window [] = []
shares_answered limits count p window (s ∷ ss) =
    answered limits (share count p window) s ∷ shares_answered limits count (suc p) window ss

-- the replies of the world to a window
abbrev pub window_answered : Keyed Request → World → Keyed Reply
window_answered [] w = []
window_answered (r ∷ rs) w = (r.0, reply_to r.1 w) ∷ window_answered rs (after r.1 w)

-- a request for partitions, and not for the whole store
abbrev pub IsForParts : Request → Type 0
IsForParts flush = ⊥
IsForParts schema = ⊥
IsForParts (scan ask) = ⊥
IsForParts collect = ⊥
IsForParts (refused r) = ⊥
IsForParts _ = Unit {0}

-- partitions, of so many, from the one of a number on store their own keys alone, in ascending order
abbrev pub KeepOwn : ℕ → ℕ → List Store → Type 0
KeepOwn count p [] = Unit {0}
KeepOwn count p (s ∷ ss) = Ascends s.pairs × All (λ e. e.0 % count ≡ p) s.pairs × KeepOwn count (suc p) ss

-- what the partitions of a world store
abbrev pub stores_of : World → List Store
stores_of w = map (λ part. part.now) w.parts

-- What partitions reply to their shares of a window, put together, are the replies of the world to the window, in its order.
abbrev pub AreGathered : Type 0
AreGathered = (w : World) (window : Keyed Request) → 0 < length w.parts → KeepOwn (length w.parts) 0 (stores_of w) → Ascends window → All (λ r. IsForParts r.1) window
    → gathered (shares_answered w.limits (length w.parts) 0 window (stores_of w)) ≡ window_answered window w

-- ---- over stores that are not known

-- these replies may be given to requests, each at the place of its own, and of its kind
abbrev pub AreAnswers : Keyed Request → Keyed Reply → Type 0
AreAnswers [] [] = Unit {0}
AreAnswers [] (a ∷ more) = ⊥
AreAnswers (r ∷ rs) [] = ⊥
AreAnswers (r ∷ rs) (a ∷ more) = (a.0 ≡ r.0) × IsOfKind r.1 a.1 × AreAnswers rs more

-- partitions, of so many, from the one of a number on may have given these to their shares of a window
abbrev pub AreOfShares : ℕ → ℕ → Keyed Request → List (Keyed Reply) → Type 0
AreOfShares count p window [] = Unit {0}
AreOfShares count p window (replies ∷ more) = AreAnswers (share count p window) replies × AreOfShares count (suc p) window more

-- What partitions may reply to their shares of a window, put together, may be replied to the window, in its order.
abbrev pub AreKindsGathered : Type 0
AreKindsGathered = (window : Keyed Request) (parts : List (Keyed Reply)) → 0 < length parts → Ascends window → All (λ r. IsForParts r.1) window
    → AreOfShares (length parts) 0 window parts → AreAnswers window (gathered parts)
