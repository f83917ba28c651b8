-- A run over what keeps the documents, behind its end: the partitions are left as it left them, and a fault of the scan that was
-- waited for ends it as one of a job does.
use Rattle.std.proofs.Common.{◌≡◌, ◌⊎◌, ℕ, List, [], refl, sym, subst, inl, inr, ⊎_elim}
use Rattle.std.specs.Prelude.{IfSome, None, Option, Some, Result, Ok, Err, OnOk}
use Rattle.std.specs.Io.KnownBytes.{Appends}
use Rattle.std.proofs.KnownBytes.{Appends-nil, Consumes-nil}
use Rattle.tc_edge.specs.Moments.{Moment}
use Rattle.tc_run_model.specs.Course.{behind, worlds_left, Ending, Shown, stopped}
use Rattle.tc_run_model.specs.Windows.{closed_windows}
use Rattle.tc_run_model.specs.World.{World}
use Rattle.tc_run_model.proofs.ReplyLaws.{MayReply-none}
use Rattle.tc_words.specs.declared.asked.Invocation.{Invocation}
use Rattle.tc_words.specs.declared.asked.Invocation.TheVariants.{Run, Demo}
use Rattle.tc_server.specs.Ending.{AskedPromptly, RanLeaving, RunsOver}
use Rattle.tc_server.proofs.SightLaws.{if_known}
use Rattle.tc_keeper.specs.Faults.{fault_in, EndsAs, IsNoDamage, IsOfJob}
use Rattle.tc_keeper.specs.Holds.{IsLeft}
use Rattle.tc_server.specs.Kits.{answer_behind}
use Rattle.tc_keeper.specs.Sight.{nothing, sees, whole_of, IfKnown, Sight}
use Rattle.tc_keeper.specs.declared.fault.RunFault.{RunFault}
use Rattle.tc_keeper.specs.declared.fault.RunFault.TheVariants.{Usage, Read, Write, Spent, Disk, Damaged, Memory, Layout}
use Rattle.tc_server.proofs.AskedRuns.{runs_so, runs_unread}
use Rattle.tc_server.proofs.ClosingFaults.{ran_stopped}
use Rattle.tc_server.proofs.RunLemmas.{unread}

ends_so : (spent spent' : Type 0) (fault : Option RunFault) (ending : Ending) → (spent → spent') → EndsAs spent fault ending → EndsAs spent' fault ending
ends_so spent spent' None ending so by = by
ends_so spent spent' (Some Usage) ending so by = by
ends_so spent spent' (Some Read) ending so by = by
ends_so spent spent' (Some (Write n)) ending so by = by
ends_so spent spent' (Some Spent) ending so by = ⊎_elim (λ input. inl input) (λ last. inr (last.0, so last.1)) by
ends_so spent spent' (Some (Disk p)) ending so by = by
ends_so spent spent' (Some (Damaged p damage)) ending so by = by
ends_so spent spent' (Some Memory) ending so by = by
ends_so spent spent' (Some (Layout p found found_of asked_of)) ending so by = by

-- what is left where what keeps the documents ends, of which it is so
module _ {K L : Type 0} (holds : K → Sight → Type 0) (keeps : K → Option ℕ → World → World → Type 0) (spent : K → Type 0) (holds' : L → Sight → Type 0) (keeps' : L → Option ℕ → World → World → Type 0) (spent' : L → Type 0) (k : K) (l : L)
    (held : (known : Sight) → holds k known → holds' l known) (kept : (only : Option ℕ) (w v : World) → keeps k only w v → keeps' l only w v) (last : spent k → spent' l) where
  left_so : (first : Sight) (worlds : World → List World) → IsLeft holds keeps k first worlds → IsLeft holds' keeps' l first worlds
  left_so nothing worlds left = tt
  left_so (sees only w) worlds left = record {
    one = left.one;
    other = left.other;
    one_of = left.one_of;
    other_of = left.other_of;
    left = ⊎_elim (λ stands. inl (held (sees only left.one) stands)) (λ failed. inr (kept only left.one left.other failed)) left.left;
  }

  stands_so : (first : Sight) (at : World → World) → IfKnown first (λ only w. holds k (sees only (at w))) → IfKnown first (λ only w. holds' l (sees only (at w)))
  stands_so nothing at stands = tt
  stands_so (sees only w) at stands = held (sees only (at w)) stands

  ran_so : (shown : Shown) (fault : Option RunFault) (first : Sight) (most : ℕ) (unread unread' taken taken' : Option (List ℕ)) → RanLeaving shown holds keeps spent fault first most unread unread' taken taken' k → RanLeaving shown holds' keeps' spent' fault first most unread unread' taken taken' l
  ran_so shown fault first most unread unread' taken taken' r = record {
    run = record { ending = r.run.ending; by = ends_so (spent k) (spent' l) fault r.run.ending last r.run.by; ran = r.run.ran };
    sound = r.sound;
    left = left_so first (λ w. worlds_left r.run.ending w r.run.ran.answered r.run.ran.last) r.left;
    stands = λ none. stands_so first (λ w. behind w r.run.ran.answered) (r.stands none);
  }

  -- the scan found no damage of a partition of which it is known what it stores
  sound_so : (fault : RunFault) (first : Sight) (at : World → World) → ((only : Option ℕ) (w : World) → holds k (sees only w) → IsNoDamage only fault) → IfKnown first (λ only w. holds k (sees only (at w))) → IfKnown first (λ only w. IfSome (Some fault) (IsNoDamage only))
  sound_so fault nothing at sound stands = tt
  sound_so fault (sees only w) at sound stands = sound only (at w) stands

  ran_with : (answer : Result (Unit {0}) RunFault) (ended : Option RunFault) (shown : Shown) (first : Sight) (most : ℕ) (unread unread' taken taken' : Option (List ℕ)) → IfSome ended IsOfJob → ((only : Option ℕ) (w : World) → holds k (sees only w) → IfSome ended (IsNoDamage only))
      → RanLeaving shown holds keeps spent (fault_in answer) first most unread unread' taken taken' k → RanLeaving shown holds' keeps' spent' (fault_in (answer_behind answer ended)) first most unread unread' taken taken' l
  ran_with (Err fault) ended shown first most unread unread' taken taken' of sound r = ran_so shown (Some fault) first most unread unread' taken taken' r
  ran_with (Ok done) None shown first most unread unread' taken taken' of sound r = ran_so shown None first most unread unread' taken taken' r
  ran_with (Ok done) (Some fault) shown first most unread unread' taken taken' of sound r =
      ran_so shown (Some fault) first most unread unread' taken taken' (ran_stopped holds keeps spent k shown fault first most unread unread' taken taken' of r (sound_so fault first (λ w. behind w r.run.ran.answered) sound (r.stands refl)))

  pub ended_run : (asked : Invocation) (answer : Result (Unit {0}) RunFault) (ended : Option RunFault) (first : Sight) (most : ℕ) (left left' taken taken' : Option (List ℕ)) → IfSome ended IsOfJob → ((only : Option ℕ) (w : World) → holds k (sees only w) → IfSome ended (IsNoDamage only))
      → RunsOver asked left left' (λ shown unread unread'. RanLeaving shown holds keeps spent (fault_in answer) first most unread unread' taken taken' k)
      → RunsOver asked left left' (λ shown unread unread'. RanLeaving shown holds' keeps' spent' (fault_in (answer_behind answer ended)) first most unread unread' taken taken' l)
  ended_run asked answer ended first most left left' taken taken' of sound ran =
      runs_so asked left left' (λ shown unread unread'. RanLeaving shown holds keeps spent (fault_in answer) first most unread unread' taken taken' k) (λ shown unread unread'. RanLeaving shown holds' keeps' spent' (fault_in (answer_behind answer ended)) first most unread unread' taken taken' l)
      (λ shown unread unread' r. ran_with answer ended shown first most unread unread' taken taken' of sound r) ran

-- what holds where a run ended by none
pub well_behind : {P Q : Type 0} (answer : Result (Unit {0}) RunFault) (ended : Option RunFault) → (P → Q) → OnOk answer P → OnOk (answer_behind answer ended) Q
well_behind (Err fault) ended so well = tt
well_behind (Ok done) None so well = so well
well_behind (Ok done) (Some fault) so well = tt

-- ---- memory was wanting before a line was read

module _ {K : Type 0} (holds : K → Sight → Type 0) (keeps : K → Option ℕ → World → World → Type 0) (spent : K → Type 0) (k : K) where
  left_there : (first : Sight) → holds k first → IsLeft holds keeps k first (λ w. worlds_left stopped w [] [])
  left_there nothing stands = tt
  left_there (sees only w) stands = record { one = w; other = w; one_of = inl refl; other_of = inl refl; left = inl stands }

  ran_without_room : (shown : Shown) → shown [] ≡ [] → (first : Sight) (most : ℕ) (left taken : Option (List ℕ)) → holds k first → RanLeaving shown holds keeps spent (Some Memory) first most left left taken taken k
  ran_without_room shown none first most left taken stands = record {
    run = record {
      ending = stopped;
      by = refl;
      ran = record {
        input = [];
        consumed = Consumes-nil left;
        answered = [];
        last = [];
        replies = [];
        given = MayReply-none (whole_of first);
        reached = (closed_windows most [], inl refl, record { more = closed_windows most []; goes_on = refl });
        took = subst (Appends taken taken) (sym none) (Appends-nil taken);
      };
    };
    sound = if_known first (λ only. Unit {0}) (λ only w is. tt);
    left = left_there first stands;
    stands = λ well. absurd (cc);
  }

  pub without_room : (asked : Invocation) (first : Sight) (most : ℕ) (left taken : Option (List ℕ)) → holds k first → RunsOver asked left left (λ shown unread unread'. RanLeaving shown holds keeps spent (Some Memory) first most unread unread' taken taken k)
  without_room asked first most left taken stands =
      runs_unread asked left (λ shown unread unread'. RanLeaving shown holds keeps spent (Some Memory) first most unread unread' taken taken k) (λ shown none unread. ran_without_room shown none first most unread taken stands)

pub prompt_unread : (asked : Invocation) (first : Sight) (most : ℕ) (base : Option (List ℕ)) (told : Option (List Moment)) → AskedPromptly asked first most base told told
prompt_unread (Run options) first most base told = unread first most base told
prompt_unread (Demo n options) first most base told = refl
