-- Laws of what is known: behind requests it is what they leave, and replies are told by it.
use Rattle.std.proofs.Common.{◌≡◌, ℕ, List, [], ◌++◌, refl, ap, subst}
use Rattle.std.specs.Prelude.{Option, Some, None}
use Rattle.tc_request_model.specs.Reply.{Reply}
use Rattle.tc_request_model.specs.Request.{Request}
use Rattle.tc_run_model.specs.Known.{MayReply, known_after}
use Rattle.tc_run_model.specs.Windows.{Window}
use Rattle.tc_run_model.specs.World.{World}
use Rattle.tc_run_model.proofs.ReplyLaws.{known_after-append, MayReply-append}
use Rattle.tc_keeper.specs.Sight.{nothing, sees, sight_after, sight_behind, whole_of, IfKnown, Sight}

pub whole_after : (rs : List Request) (known : Sight) → whole_of (sight_after rs known) ≡ known_after rs (whole_of known)
whole_after rs nothing = refl
whole_after rs (sees None w) = refl
whole_after rs (sees (Some p) w) = refl

pub sight_none : (known : Sight) → sight_behind known [] ≡ known
sight_none nothing = refl
sight_none (sees only w) = refl

-- what is known, with each partition or with one alone, where a world is
abbrev sight_of : Option ℕ → Option World → Sight
sight_of only None = nothing
sight_of only (Some w) = sees only w

pub sight_append : (rs ss : List Request) (known : Sight) → sight_after (rs ++ ss) known ≡ sight_after ss (sight_after rs known)
sight_append rs ss nothing = refl
sight_append rs ss (sees only w) = ap (sight_of only) (known_after-append rs ss (Some w))

-- where something is known
pub if_known : (known : Sight) (P : Option ℕ → Type 0) → ((only : Option ℕ) (w : World) → known ≡ sees only w → P only) → IfKnown known (λ only w. P only)
if_known nothing P holds = tt
if_known (sees only w) P holds = holds only w refl

-- of the same partitions it is known behind windows as before them
pub known_before : (P : Option ℕ → Type 0) (first : Sight) (ws : List Window) → IfKnown (sight_behind first ws) (λ only w. P only) → IfKnown first (λ only w. P only)
known_before P nothing ws is = is
known_before P (sees only w) ws is = is

-- replies to requests, and to those behind them
pub replied_after : (rs ss : List Request) (first : Sight) (replies : List Reply) → MayReply ss (whole_of (sight_after rs first)) replies → MayReply ss (known_after rs (whole_of first)) replies
replied_after rs ss first replies given = subst (λ known. MayReply ss known replies) (whole_after rs first) given

pub replied_both : (rs ss : List Request) (first : Sight) (replies more : List Reply) → MayReply rs (whole_of first) replies → MayReply ss (whole_of (sight_after rs first)) more → MayReply (rs ++ ss) (whole_of first) (replies ++ more)
replied_both rs ss first replies more given next = MayReply-append rs ss (whole_of first) replies more given (replied_after rs ss first more next)
