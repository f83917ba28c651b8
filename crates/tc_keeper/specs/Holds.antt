-- What was done when requests were answered, by what keeps the documents: `holds` says at which world it stands, and `keeps`
-- at which of two it was left where it has failed, with each partition, or with one alone.
use Rattle.std.specs.Prelude.{◌≡◌, ◌⊎◌, ℕ, ◌<◌, List, [], ◌∷◌, length, take, Option, Some}
use Rattle.std.specs.Io.KnownBytes.{Appends, Keeps}
use Rattle.tc_request_model.specs.Request.{Request}
use Rattle.tc_request_model.specs.Reply.{Reply}
use Rattle.tc_run_model.specs.World.{World, after_all}
use Rattle.tc_run_model.specs.Known.{MayReply}
use Rattle.tc_run_model.specs.Course.{each_line}
use Rattle.tc_keeper.specs.Faults.{Stop, failed_writing, gave_up, stop_of, IsNoDamage}
use Rattle.tc_keeper.specs.Sight.{sees, sight_after, whole_of, IfKnown, Sight}
use Rattle.tc_keeper.specs.declared.fault.RunFault.{RunFault}

-- Requests were answered from a world: the bytes are the lines of their replies, and the store stands at what they leave.
pub record AreAnswered {K : Type 0} (holds : K → Sight → Type 0) (known : Sight) (rs : List Request) (bytes : List ℕ) (k : K) : Type 0 where
  pub replies : List Reply
  pub given : MayReply rs (whole_of known) replies
  pub lines : bytes ≡ each_line replies
  pub held : holds k (sight_after rs known)

-- Requests were answered from a world, and the sink accepted the lines of their replies.
pub record AreWritten {K : Type 0} (holds : K → Sight → Type 0) (known : Sight) (rs : List Request) (taken taken' : Option (List ℕ)) (k : K) : Type 0 where
  pub replies : List Reply
  pub given : MayReply rs (whole_of known) replies
  pub written : Appends taken taken' (each_line replies)
  pub held : holds k (sight_after rs known)

-- ---- a run that ends within a window

abbrev pub IsOneOf : World → List World → Type 0
IsOneOf w [] = ⊥
IsOneOf w (v ∷ vs) = (w ≡ v) ⊎ IsOneOf w vs

-- The store is left at one of these worlds, with each partition or with one alone: it stands at one, or has failed and keeps one or
-- another of them.
pub record IsLeftAt {K : Type 0} (holds : K → Sight → Type 0) (keeps : K → Option ℕ → World → World → Type 0) (k : K) (only : Option ℕ) (worlds : List World) : Type 0 where
  pub one : World
  pub other : World
  pub one_of : IsOneOf one worlds
  pub other_of : IsOneOf other worlds
  pub left : holds k (sees only one) ⊎ keeps k only one other

-- where a world is known, and it is left at one of those that come of it
abbrev pub IsLeft : {K : Type 0} → (K → Sight → Type 0) → (K → Option ℕ → World → World → Type 0) → K → Sight → (World → List World) → Type 0
IsLeft holds keeps k known worlds = IfKnown known (λ only w. IsLeftAt holds keeps k only (worlds w))

-- the worlds at which it may be left: that behind the requests, and where they may not have been run that before them too
abbrev pub worlds_at : Stop → List Request → World → List World
worlds_at (failed_writing n) rs w = after_all rs w ∷ []
worlds_at gave_up rs w = w ∷ after_all rs w ∷ []

-- what the sink accepted of the replies to requests: the first bytes, and not all, where a write failed, and else nothing
abbrev pub WritesPart : Stop → Sight → List Request → Option (List ℕ) → Option (List ℕ) → Type 0
WritesPart (failed_writing n) known rs taken taken' =
    (replies : List Reply) × MayReply rs (whole_of known) replies × (n < length (each_line replies)) × Appends taken taken' (take n (each_line replies))
WritesPart gave_up known rs taken taken' = Keeps taken taken'

-- Requests failed by this fault, which is no damage of a partition of which it is known what is stored.
pub record HaveFailed {K : Type 0} (holds : K → Sight → Type 0) (keeps : K → Option ℕ → World → World → Type 0) (fault : RunFault) (known : Sight) (rs : List Request) (taken taken' : Option (List ℕ)) (k : K) : Type 0 where
  pub stop : Stop
  pub by : stop_of fault ≡ Some stop
  pub sound : IfKnown known (λ only w. IsNoDamage only fault)
  pub wrote : WritesPart stop known rs taken taken'
  pub left : IsLeft holds keeps k known (worlds_at stop rs)
