-- What answering requests leaves, and what is written of it.
use Rattle.std.proofs.Common.{◌≡◌, ℕ, ◌<◌, length, take, List, inl, inr, refl, subst}
use Rattle.std.specs.Prelude.{Option, Some}
use Rattle.std.specs.Io.KnownBytes.{Appends, Keeps}
use Rattle.tc_request_model.specs.Request.{Request}
use Rattle.tc_run_model.specs.World.{World, after_all}
use Rattle.tc_keeper.specs.Faults.{Stop, failed_writing, gave_up, stop_of, IsNoDamage, IsOfStore}
use Rattle.tc_keeper.specs.Holds.{AreAnswered, AreWritten, IsLeft, worlds_at, HaveFailed}
use Rattle.tc_keeper.specs.Sight.{nothing, sees, sight_after, Sight}
use Rattle.tc_keeper.specs.declared.fault.RunFault.{RunFault}
use Rattle.tc_keeper.specs.declared.fault.RunFault.TheVariants.{Usage, Read, Write, Spent, Disk, Damaged, Memory, Layout}
use Rattle.tc_server.proofs.SightLaws.{if_known}

-- ---- what is left where a window failed

-- it failed at one of two worlds
pub left_failed : {K : Type 0} (holds : K → Sight → Type 0) (keeps : K → Option ℕ → World → World → Type 0) (k : K) (rs : List Request) (known : Sight)
    → ((only : Option ℕ) (w : World) → known ≡ sees only w → keeps k only w (after_all rs w)) → IsLeft holds keeps k known (worlds_at gave_up rs)
left_failed holds keeps k rs (sees only w) fails = record { one = w; other = after_all rs w; one_of = inl refl; other_of = inr (inl refl); left = inr (fails only w refl) }
left_failed holds keeps k rs nothing fails = tt

-- it failed before the requests
pub left_before : {K : Type 0} (holds : K → Sight → Type 0) (keeps : K → Option ℕ → World → World → Type 0) (k : K) (rs : List Request) (known : Sight)
    → ((only : Option ℕ) (w : World) → known ≡ sees only w → keeps k only w w) → IsLeft holds keeps k known (worlds_at gave_up rs)
left_before holds keeps k rs (sees only w) fails = record { one = w; other = w; one_of = inl refl; other_of = inl refl; left = inr (fails only w refl) }
left_before holds keeps k rs nothing fails = tt

-- it failed behind the requests
pub left_behind : {K : Type 0} (holds : K → Sight → Type 0) (keeps : K → Option ℕ → World → World → Type 0) (k : K) (rs : List Request) (known : Sight)
    → ((only : Option ℕ) (w : World) → sight_after rs known ≡ sees only w → keeps k only w w) → IsLeft holds keeps k known (worlds_at gave_up rs)
left_behind holds keeps k rs (sees only w) fails = record { one = after_all rs w; other = after_all rs w; one_of = inr (inl refl); other_of = inr (inl refl); left = inr (fails only (after_all rs w) refl) }
left_behind holds keeps k rs nothing fails = tt

-- it stands behind the requests
pub left_standing : {K : Type 0} (holds : K → Sight → Type 0) (keeps : K → Option ℕ → World → World → Type 0) (k : K) (stop : Stop) (rs : List Request) (known : Sight)
    → holds k (sight_after rs known) → IsLeft holds keeps k known (worlds_at stop rs)
left_standing holds keeps k (failed_writing n) rs (sees only w) held = record { one = after_all rs w; other = after_all rs w; one_of = inl refl; other_of = inl refl; left = inl held }
left_standing holds keeps k gave_up rs (sees only w) held = record { one = after_all rs w; other = after_all rs w; one_of = inr (inl refl); other_of = inr (inl refl); left = inl held }
left_standing holds keeps k stop rs nothing held = tt

-- a fault of the store ends a run within its window
pub store_stops : (f : RunFault) → IsOfStore f → stop_of f ≡ Some gave_up
store_stops Usage kind = absurd kind
store_stops Read kind = absurd kind
store_stops (Write n) kind = absurd kind
store_stops Spent kind = refl
store_stops (Disk p) kind = refl
store_stops (Damaged p damage) kind = refl
store_stops Memory kind = refl
store_stops (Layout p found found_of asked_of) kind = absurd kind

-- ---- what is written of the answers

pub all_written : {K : Type 0} (holds : K → Sight → Type 0) (known : Sight) (rs : List Request) (bytes : List ℕ) (old new : K) (taken taken' : Option (List ℕ)) → AreAnswered holds known rs bytes old
    → (holds old (sight_after rs known) → holds new (sight_after rs known)) → Appends taken taken' bytes → AreWritten holds known rs taken taken' new
all_written holds known rs bytes old new taken taken' answered stays written = record {
  replies = answered.replies;
  given = answered.given;
  written = subst (Appends taken taken') answered.lines written;
  held = stays answered.held;
}

pub part_written : {K : Type 0} (holds : K → Sight → Type 0) (keeps : K → Option ℕ → World → World → Type 0) (n : ℕ) (known : Sight) (rs : List Request) (bytes : List ℕ) (old new : K) (taken taken' : Option (List ℕ)) → AreAnswered holds known rs bytes old
    → (holds old (sight_after rs known) → holds new (sight_after rs known)) → n < length bytes → Appends taken taken' (take n bytes) → HaveFailed holds keeps (Write n) known rs taken taken' new
part_written holds keeps n known rs bytes old new taken taken' answered stays within written = record {
  stop = failed_writing n;
  by = refl;
  sound = if_known known (λ only. Unit {0}) (λ only w is. tt);
  wrote = (answered.replies, answered.given, subst (λ lines. n < length lines) answered.lines within, subst (λ lines. Appends taken taken' (take n lines)) answered.lines written);
  left = left_standing holds keeps new (failed_writing n) rs known (stays answered.held);
}

-- nothing is written where the store fails
pub none_written : {K : Type 0} (holds : K → Sight → Type 0) (keeps : K → Option ℕ → World → World → Type 0) (f : RunFault) (known : Sight) (rs : List Request) (k : K) (taken taken' : Option (List ℕ)) → IsOfStore f → ((only : Option ℕ) (w : World) → known ≡ sees only w → IsNoDamage only f)
    → Keeps taken taken' → IsLeft holds keeps k known (worlds_at gave_up rs) → HaveFailed holds keeps f known rs taken taken' k
none_written holds keeps f known rs k taken taken' kind sound kept left = record {
  stop = gave_up;
  by = store_stops f kind;
  sound = if_known known (λ only. IsNoDamage only f) sound;
  wrote = kept;
  left = left;
}
