-- Engines may be asked again behind a call that ended well, are settled, and keep their settings.
use Rattle.std.proofs.Common.{◌≡◌, ◌<◌, ◌≤◌, ℕ, suc, false, List, [], ◌∷◌, None, All, map, length, refl, ap, sym, subst}
use Rattle.std.proofs.lemmas.List.Elements.{All-cons, All-head, All-nil, All-tail, All-weaker}
use Rattle.tc_keeper.specs.EngineFaults.{IfOf}
use Rattle.tc_keeper.specs.Moving.{Flushes, HasMoved, HasStayed, Settles, StopsAt}
use Rattle.tc_keeper.specs.Places.{AtEach}
use Rattle.tc_keeper.specs.Running.{HasOnlyRun}
use Rattle.tc_keeper.specs.declared.engines_fault.EnginesFault.{EnginesFault}
use Rattle.tc_keeper.specs.declared.engines_fault.EnginesFault.TheVariants as engines
use Rattle.tc_keeper.specs.WithJobs.{set_as, settings, told_of, WithJobs}
use Rattle.tc_keeper.proofs.PlaceLaws.{at_each-so}
use Rattle.tc_list.specs.declared.policy.Policy.{Policy}
use Rattle.tc_log.specs.Layout.{empty_size}
use Rattle.tc_part.specs.FilesOut.{LogIsOut}
use Rattle.tc_part_model.specs.PartState.{PartState}
use Rattle.tc_work.specs.Moving.{Eyes}
use Rattle.tc_work.specs.Settling.{HasOnlyMoved, PicksNone}
use Rattle.tc_work.specs.declared.fault.EngineFault.{EngineFault}
use Rattle.tc_keeper.specs.Calls.{IsSettled, MayBeAsked}
use Rattle.tc_keeper.proofs.EngineCauses.{stops_so}

module _ {S D F W : Type 0} (eyes : Eyes S D F W) where
  abbrev pub AreAskable : List (WithJobs S D F W) → Type 0
  AreAskable es = All (λ e. MayBeAsked (told_of eyes e) e.engine.part) es

  abbrev pub AreSound : List (WithJobs S D F W) → Type 0
  AreSound es = All (λ e. e.engine.part.failed ≡ false) es

  pub sound_all : (es : List (WithJobs S D F W)) → AreAskable es → AreSound es
  sound_all es asked = All-weaker (λ e. MayBeAsked (told_of eyes e) e.engine.part) (λ e. e.engine.part.failed ≡ false) (λ e m. m.sound) es asked

  -- behind a window
  pub asked_after : (n : ℕ) (es es' : List (WithJobs S D F W)) → AreAskable es → AreSound es' → AtEach (λ p old new. LogIsOut (told_of eyes old) → LogIsOut (told_of eyes new)) n es es' → AreAskable es'
  asked_after n [] [] asked sound log = All-nil (λ e. MayBeAsked (told_of eyes e) e.engine.part)
  asked_after n [] (e' ∷ es') asked sound log = absurd log
  asked_after n (e ∷ es) [] asked sound log = absurd log
  asked_after n (e ∷ es) (e' ∷ es') asked sound log =
      let before = All-head (λ e. MayBeAsked (told_of eyes e) e.engine.part) e es asked in
      All-cons (λ e. MayBeAsked (told_of eyes e) e.engine.part) e' es' (record { sound = All-head (λ e. e.engine.part.failed ≡ false) e' es' sound; log = log.0 before.log })
      (asked_after (suc n) es es' (All-tail (λ e. MayBeAsked (told_of eyes e) e.engine.part) e es asked) (All-tail (λ e. e.engine.part.failed ≡ false) e' es' sound) log.1)

  -- behind another call that ended well
  pub asked_behind : (Done : WithJobs S D F W → WithJobs S D F W → Type 0) (n : ℕ) (es es' : List (WithJobs S D F W)) → ((old new : WithJobs S D F W) → Done old new → HasStayed eyes old new) → AreAskable es → AtEach (λ p old new. Done old new) n es es' → AreAskable es'
  asked_behind Done n [] [] stays asked each = All-nil (λ e. MayBeAsked (told_of eyes e) e.engine.part)
  asked_behind Done n [] (e' ∷ es') stays asked each = absurd each
  asked_behind Done n (e ∷ es) [] stays asked each = absurd each
  asked_behind Done n (e ∷ es) (e' ∷ es') stays asked each =
      let s = stays e e' each.0 in
      All-cons (λ e. MayBeAsked (told_of eyes e) e.engine.part) e' es' (record { sound = s.sound; log = s.log_out (All-head (λ e. MayBeAsked (told_of eyes e) e.engine.part) e es asked).log })
      (asked_behind Done (suc n) es es' stays (All-tail (λ e. MayBeAsked (told_of eyes e) e.engine.part) e es asked) each.1)

-- ---- settings

map_same : {X Y : Type 0} (f : X → Y) (n : ℕ) (xs ys : List X) → AtEach (λ i x y. f y ≡ f x) n xs ys → map f ys ≡ map f xs
map_same f n [] [] each = refl
map_same f n [] (y ∷ ys) each = absurd each
map_same f n (x ∷ xs) [] each = absurd each
map_same f n (x ∷ xs) (y ∷ ys) each = let here = each.0 in let more = map_same f (suc n) xs ys each.1 in rw (here, more) refl

set_alike : (n n' c c' m m' : ℕ) (p p' : Policy) → n' ≡ n → c' ≡ c → m' ≡ m → p' ≡ p → set_as n' c' m' p' ≡ set_as n c m p
set_alike n n' c c' m m' p p' number count memory policy = rw (number, count, memory, policy) refl

same_settings : {S D F W : Type 0} (old new : WithJobs S D F W) → new.engine.part.number ≡ old.engine.part.number → new.engine.part.count ≡ old.engine.part.count → new.engine.part.memory ≡ old.engine.part.memory → new.engine.policy ≡ old.engine.policy
    → settings new ≡ settings old
same_settings old new number count memory policy =
    set_alike old.engine.part.number new.engine.part.number old.engine.part.count new.engine.part.count old.engine.part.memory new.engine.part.memory old.engine.policy new.engine.policy number count memory policy

pub ran_settings : {S D F W : Type 0} (es es' : List (WithJobs S D F W)) → AtEach (λ p old new. HasOnlyRun old.engine.part new.engine.part × (new.engine.policy ≡ old.engine.policy) × (new.jobs ≡ old.jobs)) 0 es es' → map settings es' ≡ map settings es
ran_settings {S = S} {D = D} {F = F} {W = W} es es' same =
    map_same settings 0 es es' (at_each-so (λ p (old : WithJobs S D F W) (new : WithJobs S D F W). HasOnlyRun old.engine.part new.engine.part × (new.engine.policy ≡ old.engine.policy) × (new.jobs ≡ old.jobs)) (λ p old new. settings new ≡ settings old) 0 es es'
    (λ p old new s. same_settings old new (ap (λ (q : PartState S D F W). q.number) s.0) (ap (λ (q : PartState S D F W). q.count) s.0) (ap (λ (q : PartState S D F W). q.memory) s.0) s.1) same)

moved_alike : {S D F W : Type 0} (old new : WithJobs S D F W) → HasOnlyMoved old.engine.part new.engine.part → new.engine.policy ≡ old.engine.policy → settings new ≡ settings old
moved_alike {S = S} {D = D} {F = F} {W = W} old new moved policy =
    same_settings old new (ap (λ (q : PartState S D F W). q.number) moved) (ap (λ (q : PartState S D F W). q.count) moved) (ap (λ (q : PartState S D F W). q.memory) moved) policy

module _ {S D F W : Type 0} (eyes : Eyes S D F W) where
  pub moved_settings : (Done : WithJobs S D F W → WithJobs S D F W → Type 0) (es es' : List (WithJobs S D F W)) → ((old new : WithJobs S D F W) → Done old new → HasMoved eyes ⊥ old new) → AtEach (λ p old new. Done old new) 0 es es' → map settings es' ≡ map settings es
  moved_settings Done es es' moves each =
      map_same settings 0 es es' (at_each-so (λ p old new. Done old new) (λ p old new. settings new ≡ settings old) 0 es es' (λ p old new d. let m = moves old new d in moved_alike old new m.moved m.policy) each)

  -- also where one failed
  pub stopped_settings : (Done : WithJobs S D F W → WithJobs S D F W → Type 0) (Stopped : EngineFault → WithJobs S D F W → WithJobs S D F W → Type 0) (Failed : EngineFault → Type 0) (fault : EnginesFault) (es es' : List (WithJobs S D F W))
      → ((old new : WithJobs S D F W) → Done old new → HasMoved eyes ⊥ old new) → ((why : EngineFault) (old new : WithJobs S D F W) → Stopped why old new → HasMoved eyes (Failed why) old new)
      → (fault ≡ engines.Memory → ⊥) → IfOf fault (λ p why. (p < length es) × AtEach (StopsAt p Done (Stopped why)) 0 es es') → map settings es' ≡ map settings es
  stopped_settings Done Stopped Failed engines.Memory es es' done stopped never stops = absurd (never refl)
  stopped_settings Done Stopped Failed (engines.Of p why) es es' done stopped never stops =
      map_same settings 0 es es' (at_each-so (StopsAt p Done (Stopped why)) (λ q old new. settings new ≡ settings old) 0 es es'
      (λ q old new s. stops_so p q Done (Stopped why) (λ old new. settings new ≡ settings old) old new s (λ d. let m = done old new d in moved_alike old new m.moved m.policy) (λ here f. let m = stopped why old new f in moved_alike old new m.moved m.policy) refl)
      stops.1)

-- ---- flushed

-- no table is sealed behind a flush, and no log has a frame
pub flushed_all : {S D F W : Type 0} (eyes : Eyes S D F W) (size : D → ℕ) (n : ℕ) (es es' : List (WithJobs S D F W)) → AtEach (λ p old new. Flushes eyes size old new) n es es'
    → All (λ e. e.engine.part.sealed ≡ None) es' × All (λ e. size e.engine.part.log.device ≤ empty_size) es'
flushed_all eyes size n [] [] each = (All-nil (λ e. e.engine.part.sealed ≡ None), All-nil (λ e. size e.engine.part.log.device ≤ empty_size))
flushed_all eyes size n [] (e' ∷ es') each = absurd each
flushed_all eyes size n (e ∷ es) [] each = absurd each
flushed_all eyes size n (e ∷ es) (e' ∷ es') each =
    let more = flushed_all eyes size (suc n) es es' each.1 in
    (All-cons (λ e. e.engine.part.sealed ≡ None) e' es' each.0.flushed.none_sealed.0 more.0, All-cons (λ e. size e.engine.part.log.device ≤ empty_size) e' es' each.0.flushed.empty more.1)

-- ---- settled

pub settled_all : {S D F W : Type 0} (eyes : Eyes S D F W) (size : D → ℕ) (n : ℕ) (es es' : List (WithJobs S D F W)) → AtEach (λ p old new. Settles eyes size old new) n es es' → All (IsSettled size) es'
settled_all eyes size n [] [] each = All-nil (IsSettled size)
settled_all eyes size n [] (e' ∷ es') each = absurd each
settled_all eyes size n (e ∷ es) [] each = absurd each
settled_all {S = S} {D = D} {F = F} {W = W} eyes size n (e ∷ es) (e' ∷ es') each =
    let memory : e'.engine.part.memory ≡ e.engine.part.memory = ap (λ (q : PartState S D F W). q.memory) each.0.moved.moved in
    All-cons (IsSettled size) e' es' (record {
      sound = each.0.stays.sound;
      short = subst (λ m. empty_size < m → size e'.engine.part.log.device < m) (sym memory) each.0.settled.short;
      none = λ alone. subst (λ policy. PicksNone policy e'.engine.part.list) (sym each.0.moved.policy) (each.0.settled.none alone);
    })
    (settled_all eyes size (suc n) es es' each.1)

-- ---- readers

-- no call moves the watches of readers
abbrev Readers : {S D F W : Type 0} → ℕ → WithJobs S D F W → WithJobs S D F W → Type 0
Readers p old new = new.engine.part.reader ≡ old.engine.part.reader

pub ran_readers : {S D F W : Type 0} (es es' : List (WithJobs S D F W)) → AtEach (λ p old new. HasOnlyRun old.engine.part new.engine.part × (new.engine.policy ≡ old.engine.policy) × (new.jobs ≡ old.jobs)) 0 es es' → AtEach Readers 0 es es'
ran_readers {S = S} {D = D} {F = F} {W = W} es es' same =
    at_each-so (λ p (old : WithJobs S D F W) (new : WithJobs S D F W). HasOnlyRun old.engine.part new.engine.part × (new.engine.policy ≡ old.engine.policy) × (new.jobs ≡ old.jobs)) Readers 0 es es' (λ p old new s. ap (λ (q : PartState S D F W). q.reader) s.0) same

module _ {S D F W : Type 0} (eyes : Eyes S D F W) where
  same_reader : {failed : Type 0} (old new : WithJobs S D F W) → HasMoved eyes failed old new → new.engine.part.reader ≡ old.engine.part.reader
  same_reader old new m = ap (λ (q : PartState S D F W). q.reader) m.moved

  pub moved_readers : (Done : WithJobs S D F W → WithJobs S D F W → Type 0) (es es' : List (WithJobs S D F W)) → ((old new : WithJobs S D F W) → Done old new → HasMoved eyes ⊥ old new) → AtEach (λ p old new. Done old new) 0 es es' → AtEach Readers 0 es es'
  moved_readers Done es es' moves each = at_each-so (λ p old new. Done old new) Readers 0 es es' (λ p old new d. same_reader old new (moves old new d)) each

  pub stopped_readers : (Done : WithJobs S D F W → WithJobs S D F W → Type 0) (Stopped : EngineFault → WithJobs S D F W → WithJobs S D F W → Type 0) (Failed : EngineFault → Type 0) (fault : EnginesFault) (es es' : List (WithJobs S D F W))
      → ((old new : WithJobs S D F W) → Done old new → HasMoved eyes ⊥ old new) → ((why : EngineFault) (old new : WithJobs S D F W) → Stopped why old new → HasMoved eyes (Failed why) old new)
      → (fault ≡ engines.Memory → ⊥) → IfOf fault (λ p why. (p < length es) × AtEach (StopsAt p Done (Stopped why)) 0 es es') → AtEach Readers 0 es es'
  stopped_readers Done Stopped Failed engines.Memory es es' done stopped never stops = absurd (never refl)
  stopped_readers Done Stopped Failed (engines.Of p why) es es' done stopped never stops =
      at_each-so (StopsAt p Done (Stopped why)) Readers 0 es es'
      (λ q old new s. stops_so p q Done (Stopped why) (λ old new. new.engine.part.reader ≡ old.engine.part.reader) old new s (λ d. same_reader old new (done old new d)) (λ here f. same_reader old new (stopped why old new f)) refl)
      stops.1
