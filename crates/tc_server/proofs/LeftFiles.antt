-- What a run over engines leaves of the files of each kit, by the worlds at which its store was left.
use Rattle.std.proofs.Common.{◌≡◌, ◌⊎◌, ℕ, List, [], ◌∷◌, length, arith, refl, subst, inl, inr, ⊎_elim}
use Rattle.std.specs.Prelude.{Option, Some, None, IfSome}
use Rattle.tc_run_model.specs.World.{World}
use Rattle.tc_run_model.specs.Course.{Ending, Shown, behind, each_line, finished, input_spent, stopped, unopened, worlds_left, IsReached}
use Rattle.tc_run_model.specs.Windows.{Window}
use Rattle.tc_store.specs.Disk.{Disk}
use Rattle.tc_server.specs.Ending.{RanLeaving, RanTo}
use Rattle.tc_keeper.specs.Faults.{EndsAs, IsNoDamage, IsOfRun}
use Rattle.tc_keeper.specs.Holds.{IsOneOf, IsLeftAt, IsLeft}
use Rattle.tc_server.specs.KitCauses.{HasSpentInput}
use Rattle.tc_server.specs.OverFiles.{EndsOver, IsHere, LeaveOneOf, LeaveSmall, RanOver}
use Rattle.tc_keeper.specs.Sight.{nothing, sees, IfKnown, Sight}
use Rattle.tc_keeper.specs.declared.fault.RunFault.{RunFault}
use Rattle.tc_keeper.specs.declared.fault.RunFault.TheVariants.{Usage, Read, Write, Spent, Disk as DiskFault, Damaged, Memory, Layout}
use Rattle.tc_words.specs.declared.run.Options.{Options}
use Rattle.tc_keeper.proofs.WorldCounts.{many_left}

-- What is left of partitions by how they stood, all of them or one alone: at one of these worlds, of so many partitions each; and where
-- they rest, small.
pub record LeavesKits {K : Type 0} (holds : K → Sight → Type 0) (keeps : K → Option ℕ → World → World → Type 0) (rests : Type 0) (options : Options) (k : K) (kits : List (List Disk)) : Type 0 where
  pub held : (only : Option ℕ) (w : World) (worlds : List World) → length w.parts ≡ options.partitions → IsOneOf w worlds → holds k (sees only w) → LeaveOneOf only options.partitions worlds kits
  pub kept : (only : Option ℕ) (w v : World) (worlds : List World) → length w.parts ≡ options.partitions → IsOneOf w worlds → IsOneOf v worlds → keeps k only w v → LeaveOneOf only options.partitions worlds kits
  pub small : rests → (only : Option ℕ) (w : World) → length w.parts ≡ options.partitions → holds k (sees only w) ⊎ keeps k only w w → LeaveSmall only options w.flushed kits
  pub as_many : length kits ≡ options.partitions

-- ---- the store was left

leaves_left : {K : Type 0} (holds : K → Sight → Type 0) (keeps : K → Option ℕ → World → World → Type 0) (rests : Type 0) (options : Options) (k : K) (kits : List (List Disk)) (only : Option ℕ) (worlds : List World) → LeavesKits holds keeps rests options k kits
    → ((u : World) → IsOneOf u worlds → length u.parts ≡ options.partitions) → IsLeftAt holds keeps k only worlds → LeaveOneOf only options.partitions worlds kits
leaves_left holds keeps rests options k kits only worlds leaves many at =
    ⊎_elim
    (λ stands. leaves.held only at.one worlds (many at.one at.one_of) at.one_of stands)
    (λ failed. leaves.kept only at.one at.other worlds (many at.one at.one_of) at.one_of at.other_of failed)
    at.left

exits_left : {K : Type 0} (holds : K → Sight → Type 0) (keeps : K → Option ℕ → World → World → Type 0) (rests : Type 0) (options : Options) (k : K) (kits : List (List Disk)) (first : Sight) (ending : Ending) (answered : List Window) (last : Window)
    → LeavesKits holds keeps rests options k kits → IfKnown first (λ only w. length w.parts ≡ options.partitions) → IsLeft holds keeps k first (λ w. worlds_left ending w answered last)
    → IfKnown first (λ only w. LeaveOneOf only options.partitions (worlds_left ending w answered last) kits)
exits_left holds keeps rests options k kits nothing ending answered last leaves many left = tt
exits_left holds keeps rests options k kits (sees only w) ending answered last leaves many left =
    leaves_left holds keeps rests options k kits only (worlds_left ending w answered last) leaves (many_left options.partitions w ending answered last many) left

-- at one world alone
pub left_alone : {K : Type 0} (holds : K → Sight → Type 0) (keeps : K → Option ℕ → World → World → Type 0) (k : K) (only : Option ℕ) (w : World) → IsLeftAt holds keeps k only (w ∷ []) → holds k (sees only w) ⊎ keeps k only w w
left_alone holds keeps k only w left = elim left.left [
  | inl held ↦ inl (subst (λ v. holds k (sees only v)) (that left.one_of) held)
  | inr kept ↦ inr (subst (λ v. keeps k only w v) (that left.other_of) (subst (λ v. keeps k only v left.other) (that left.one_of) kept))
]
  where
    that : {v : World} → IsOneOf v (w ∷ []) → v ≡ w
    that (inl same) = same
    that (inr no_more) = absurd no_more

-- what is left of a run that ended well
small_left : {K : Type 0} (holds : K → Sight → Type 0) (keeps : K → Option ℕ → World → World → Type 0) (rests : Type 0) (options : Options) (k : K) (kits : List (List Disk)) (only : Option ℕ) (w : World) → LeavesKits holds keeps rests options k kits → rests
    → length w.parts ≡ options.partitions → IsLeftAt holds keeps k only (w ∷ []) → LeaveSmall only options w.flushed kits
small_left holds keeps rests options k kits only w leaves rest many left = leaves.small rest only w many (left_alone holds keeps k only w left)

small_over : {K : Type 0} (holds : K → Sight → Type 0) (keeps : K → Option ℕ → World → World → Type 0) (rests : Type 0) (spent : K → Type 0) (fault : Option RunFault) (options : Options) (first : Sight) (ending : Ending) (answered : List Window) (last : Window) (k : K) (kits : List (List Disk))
    → LeavesKits holds keeps rests options k kits → (fault ≡ None → rests) → IfKnown first (λ only w. (length w.parts ≡ options.partitions) × (length (behind w answered).parts ≡ options.partitions)) → EndsAs (spent k) fault ending
    → IsLeft holds keeps k first (λ w. worlds_left ending w answered last) → IfKnown first (λ only w. fault ≡ None → LeaveSmall only options (behind w answered).flushed kits)
small_over holds keeps rests spent fault options nothing ending answered last k kits leaves rest many by left = tt
small_over holds keeps rests spent fault options (sees only w) ending answered last k kits leaves rest many by left = λ none.
    let over : ending ≡ finished = subst (λ f. EndsAs (spent k) f ending) none by in
    small_left holds keeps rests options k kits only (behind w answered) leaves (rest none) many.1 (subst (λ e. IsLeftAt holds keeps k only (worlds_left e w answered last)) over left)

-- ---- how it ended

ends_over : (spent : Type 0) (fault : Option RunFault) (ending : Ending) → EndsAs spent fault ending → EndsOver fault ending
ends_over spent None ending by = by
ends_over spent (Some Usage) ending by = absurd by
ends_over spent (Some Read) ending by = by
ends_over spent (Some (Write n)) ending by = by
ends_over spent (Some Spent) ending (inl input) = inl input
ends_over spent (Some Spent) ending (inr generation) = inr (inl generation.0)
ends_over spent (Some (DiskFault p)) ending by = inl by
ends_over spent (Some (Damaged p damage)) ending by = inl by
ends_over spent (Some Memory) ending by = inl by
ends_over spent (Some (Layout p found found_of asked_of)) ending by = absurd by

-- a run over engines has come to its lines
opened_then : (spent : Type 0) (fault : Option RunFault) → EndsAs spent fault unopened → ⊥
opened_then spent None by = absurd (cc)
opened_then spent (Some Usage) by = by
opened_then spent (Some Read) by = absurd (cc)
opened_then spent (Some (Write n)) by = absurd (cc)
opened_then spent (Some Spent) (inl input) = absurd (cc)
opened_then spent (Some Spent) (inr generation) = let never : unopened ≡ stopped = generation.0 in absurd (cc)
opened_then spent (Some (DiskFault p)) by = absurd (cc)
opened_then spent (Some (Damaged p damage)) by = absurd (cc)
opened_then spent (Some Memory) by = absurd (cc)
opened_then spent (Some (Layout p found found_of asked_of)) by = by

run_is_here : (only : Option ℕ) (f : RunFault) → IsOfRun f → IsHere only f
run_is_here only Usage kind = absurd kind
run_is_here only Read kind = tt
run_is_here only (Write n) kind = tt
run_is_here only Spent kind = tt
run_is_here only (DiskFault p) kind = tt
run_is_here only (Damaged p damage) kind = tt
run_is_here only Memory kind = tt
run_is_here only (Layout p found found_of asked_of) kind = absurd kind

sound_here : (first : Sight) (fault : Option RunFault) → IfSome fault IsOfRun → IfKnown first (λ only w. IfSome fault (IsNoDamage only)) → IfKnown first (λ only w. IfSome fault (IsNoDamage only) × IfSome fault (IsHere only))
sound_here nothing fault kind sound = tt
sound_here (sees only w) None kind sound = (tt, tt)
sound_here (sees only w) (Some f) kind sound = (sound, run_is_here only f kind)

both_many : (count : ℕ) (first : Sight) (answered : List Window) → IfKnown first (λ only w. length w.parts ≡ count) → IfKnown first (λ only w. (length w.parts ≡ count) × (length (behind w answered).parts ≡ count))
both_many count nothing answered many = tt
both_many count (sees only w) answered many = (many, many_left count w finished answered [] many (behind w answered) (inl refl))

-- a run over open partitions, whose files are these where they are closed
pub ran_over : {K : Type 0} (shown : Shown) (holds : K → Sight → Type 0) (keeps : K → Option ℕ → World → World → Type 0) (rests : Type 0) (spent : K → Type 0)
    (fault : Option RunFault) (first : Sight) (options : Options) (files : ℕ → List Disk) (left left' taken taken' : Option (List ℕ)) (k : K) (kits : List (List Disk))
    → LeavesKits holds keeps rests options k kits → (fault ≡ None → rests) → IfKnown first (λ only w. length w.parts ≡ options.partitions)
    → IfSome fault IsOfRun → RanLeaving shown holds keeps spent fault first options.window left left' taken taken' k → RanOver shown fault first options files left left' taken taken' kits
ran_over shown holds keeps rests spent fault first options files left left' taken taken' k kits leaves rest many kind r = record {
  ending = r.run.ending;
  by = ends_over (spent k) fault r.run.ending r.run.by;
  ran = r.run.ran;
  sound = sound_here first fault kind r.sound;
  needs = λ fewer. absurd (omega (arith, fewer, leaves.as_many));
  exits = exits_left holds keeps rests options k kits first r.run.ending r.run.ran.answered r.run.ran.last leaves many r.left;
  kept = λ never. absurd (opened_then (spent k) fault (subst (λ e. EndsAs (spent k) fault e) never r.run.by));
  small = small_over holds keeps rests spent fault options first r.run.ending r.run.ran.answered r.run.ran.last k kits leaves rest (both_many options.partitions first r.run.ran.answered many) r.run.by r.left;
}

-- ---- numbers were spent

-- they are those of the input, or the generations
pub spent_by : (spent : Type 0) (fault : Option RunFault) (first : Sight) (most : ℕ) (left left' taken taken' : Option (List ℕ)) → RanTo each_line spent fault first most left left' taken taken' → fault ≡ Some Spent → HasSpentInput left left' ⊎ spent
spent_by spent fault first most left left' taken taken' r same =
    ⊎_elim
    (λ input.
    let reached : IsReached input_spent most r.ran.input left' r.ran.answered r.ran.last = subst (λ ending. IsReached ending most r.ran.input left' r.ran.answered r.ran.last) input r.ran.reached in
    inl (r.ran.input, r.ran.consumed, reached.0))
    (λ generation. inr generation.1)
    (subst (λ f. EndsAs spent f r.ending) same r.by)
