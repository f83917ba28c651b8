-- A session over engines: where it begins, what counts over it, and what is left when the engines are closed.
use Rattle.std.proofs.Common.{◌≡◌, ◌⊎◌, ◌∙◌, ◌≤◌, ◌<◌, ◌+◌, ℕ, zero, suc, true, List, [], ◌∷◌, All, map, is_some, length, arith, refl, ap, sym, subst, inl, inr}
use Rattle.std.specs.Prelude.{Option, Some, None, IfErr, IfSome, IsErrOf, option_map, slice_get, Result, Ok, Err, OnOk, if◌then◌else◌, nat_eq, false}
use Rattle.std.proofs.lemmas.List.{length-map}
use Rattle.std.proofs.lemmas.List.Elements.{All-cons, All-head, All-nil, All-tail, All-weaker}
use Rattle.std.proofs.lemmas.Option.{slice_get-map}
use Rattle.tc_keeper.specs.Places.{AtEach, EachFrom, SomeFrom}
use Rattle.tc_keeper.specs.Standing.{partition_at, HoldsPart, IsSeen, KeepWorlds}
use Rattle.tc_keeper.specs.WithJobs.{settings, told_of, works_of, Settings, WithJobs}
use Rattle.tc_keeper.proofs.PlaceLaws.{at_each-length}
use Rattle.tc_list.specs.Policies.{listed_least}
use Rattle.tc_list.specs.declared.policy.Policy.TheVariants.{Constant, Sized}
use Rattle.tc_log.specs.Layout.{empty_size}
use Rattle.tc_lsm_model.specs.Contents.{Partition}
use Rattle.tc_part_model.specs.PartState.{PartState}
use Rattle.tc_run_model.specs.World.{World}
use Rattle.tc_store.specs.Counted.{Counts}
use Rattle.tc_store.specs.Disk.{Disk}
use Rattle.tc_store.specs.KitFaults.{KitFaults}
use Rattle.tc_store.specs.Moments.{IfTold}
use Rattle.tc_store.specs.declared.damage.Damage.{Damage}
use Rattle.tc_words.specs.declared.run.Options.{Options}
use Rattle.tc_work.specs.Damage.{HasMetDamage, IsPartDamage}
use Rattle.tc_work.specs.Faults.{IfDamaged as IfEngineDamaged}
use Rattle.tc_work.specs.Moving.{Eyes}
use Rattle.tc_work.specs.declared.fault.EngineFault.{EngineFault}
use Rattle.tc_work.specs.declared.fault.EngineFault.TheVariants as engine
use Rattle.tc_keeper.specs.Calls.{faults_at, faults_of, settings_of, IsSpent, IsSpentAt, MayAsk, MayBeAsked, Rests}
use Rattle.tc_keeper.specs.Faults.{fault_in, fault_of_engine, HaveRisen, HaveStayed, IfDamaged, IfDisk, IsNoDamage, IsOfJob, NoneFell, OneRose}
use Rattle.tc_keeper.specs.Keeping.{AreUnwritten, IsMetBehind, IsMetIn, WasShown}
use Rattle.tc_server.specs.Ending.{policy_asked}
use Rattle.tc_server.specs.KitCauses.{HasLastGeneration}
use Rattle.tc_server.specs.Kits.{least_fault, IsBegun, IsClosed}
use Rattle.tc_keeper.specs.Partitions.{StandAt}
use Rattle.tc_keeper.specs.Sight.{nothing, sees, IfKnown, Sight}
use Rattle.tc_keeper.specs.declared.fault.RunFault.{RunFault}
use Rattle.tc_keeper.specs.declared.fault.RunFault.TheVariants.{Usage, Read, Write, Spent, Disk as DiskFault, Damaged, Memory, Layout}
use Rattle.tc_keeper.proofs.Causes.{none_fell_twice, one_rose}
use Rattle.tc_server.proofs.ClosingFaults.{all_well, ended_by, is_of_job, IsEndedBy}
use Rattle.tc_keeper.proofs.EachLaws.{at_each-at, at_each-from, at_each-then, each-at, each-map, some-beside, there}
use Rattle.tc_keeper.proofs.EngineWorlds.{undamaged_at}
use Rattle.tc_keeper.proofs.Turns.{is_at-get}
use Rattle.tc_server.proofs.KitsLeft.{all_hold, held_kits, held_small, kept_kits, AreClosed, IsSet}
use Rattle.tc_server.proofs.LeftFiles.{LeavesKits}
use Rattle.tc_server.proofs.RunKits.{damaged_within}

below : {X : Type 0} (xs : List X) (p : ℕ) (x : X) → slice_get xs p ≡ Some x → p < length xs
below [] p x is = absurd (cc)
below (y ∷ xs) zero x is = omega arith
below (y ∷ xs) (suc p) x is = let more = below xs p x is in omega (arith, more)

if_some : {X : Type 0} {P : X → Type 0} (o : Option X) → ((x : X) → o ≡ Some x → P x) → IfSome o P
if_some None so = tt
if_some (Some x) so = so x refl

is_err_of : {T E : Type 0} (r : Result T E) (e f : E) → r ≡ Err e → e ≡ f → IsErrOf r f
is_err_of r e f is same = is ∙ ap Err same

-- what is so where a run did not fail
pub ok_where : {T P : Type 0} (r : Result T RunFault) → fault_in r ≡ None → OnOk r P → P
ok_where (Ok x) none p = p
ok_where (Err fault) none p = absurd (cc)

-- ---- where it begins

all_asked : {S D F W : Type 0} (eyes : Eyes S D F W) (options : Options) (es : List (WithJobs S D F W)) → All (IsBegun eyes options) es → All (λ e. MayBeAsked (told_of eyes e) e.engine.part) es
all_asked eyes options es begun = All-weaker (IsBegun eyes options) (λ e. MayBeAsked (told_of eyes e) e.engine.part) (λ e b. b.ready) es begun

pub begins_asked : {S W D F : Type 0} (eyes : Eyes S D F W) (options : Options) (es : List (WithJobs S D F W)) → length es ≡ options.partitions
    → 0 < options.partitions → options.partitions ≤ 16 → All (IsBegun eyes options) es → MayAsk eyes.disks eyes.history eyes.content es
begins_asked eyes options es all some few begun = (omega (arith, some, all), omega (arith, few, all), all_asked eyes options es begun)

pub unwritten_all : {S W D F : Type 0} (eyes : Eyes S D F W) (options : Options) (es : List (WithJobs S D F W)) → All (IsBegun eyes options) es → AreUnwritten es
unwritten_all eyes options es begun = All-weaker (IsBegun eyes options) (λ e. (e.engine.part.sealed ≡ None) × (e.engine.part.active ≡ []) × (is_some e.engine.part.reader ≡ true)) (λ e b. (b.unsealed, b.empty, b.reader)) es begun

-- a world at which engines stand has as many partitions
pub as_many_parts : {S D F W : Type 0} (eyes : Eyes S D F W) (count : ℕ) (es : List (WithJobs S D F W)) (first : Sight) → length es ≡ count → StandAt eyes es first → IfKnown first (λ only w. length w.parts ≡ count)
as_many_parts eyes count es nothing all stands = tt
as_many_parts eyes count es (sees only w) all stands = sym (at_each-length (λ p e part. IsSeen only p → HoldsPart _ (told_of eyes e) e.engine.part.limits _ w part) 0 es w.parts stands.each) ∙ all

-- ---- settings

pub as_many_engines : {S W D F : Type 0} (es es' : List (WithJobs S D F W)) → settings_of es' ≡ settings_of es → length es' ≡ length es
as_many_engines es es' same = sym (length-map es' settings) ∙ ap length same ∙ length-map es settings

-- as the options say
abbrev SetBy : Options → Settings → Type 0
SetBy options s = (s.memory ≡ options.memory) × (listed_least s.policy ≡ options.merge)

least_asked : (options : Options) → listed_least (policy_asked options) ≡ options.merge
least_asked options =
    elim (nat_eq options.limit 0) as (λ b. listed_least (if b then Constant options.merge else Sized options.merge options.limit) ≡ options.merge) [
      | true ↦ refl
      | false ↦ refl
    ]

set_begun : {S D F W : Type 0} (eyes : Eyes S D F W) (options : Options) (es : List (WithJobs S D F W)) → All (IsBegun eyes options) es → All (SetBy options) (map settings es)
set_begun eyes options [] begun = All-nil (SetBy options)
set_begun eyes options (e ∷ es) begun =
    let b = All-head (IsBegun eyes options) e es begun in
    All-cons (SetBy options) (settings e) (map settings es) (b.memory, ap listed_least b.policy ∙ least_asked options) (set_begun eyes options es (All-tail (IsBegun eyes options) e es begun))

set_read : {S D F W : Type 0} (options : Options) (es : List (WithJobs S D F W))
    → All (SetBy options) (map settings es)
    → All (λ e. (e.engine.part.memory ≡ options.memory) × (listed_least e.engine.policy ≡ options.merge)) es
set_read options [] sets = All-nil (λ e. (e.engine.part.memory ≡ options.memory) × (listed_least e.engine.policy ≡ options.merge))
set_read options (e ∷ es) sets =
    All-cons (λ e. (e.engine.part.memory ≡ options.memory) × (listed_least e.engine.policy ≡ options.merge)) e es
    (All-head (SetBy options) (settings e) (map settings es) sets)
    (set_read options es (All-tail (SetBy options) (settings e) (map settings es) sets))

-- ---- what is left

module _ {S W D F K : Type 0} (eyes : Eyes S D F W) (size : D → ℕ) (outcome : K → Result (Unit {0}) EngineFault) (left : K → List Disk) (faults : K → KitFaults) (es' : List (WithJobs S D F W)) (ks : List K) (closed : AreClosed eyes size outcome left faults es' ks) where
  -- the fault with which the engines ended, if any did
  abbrev Ended : Option RunFault
  Ended = least_fault 0 (map outcome ks)

  pub kits_left : (options : Options) (es : List (WithJobs S D F W)) → ((e : WithJobs S D F W) → IfTold (told_of eyes e).log (λ f. size e.engine.part.log.device ≡ length f.content))
      → length es ≡ options.partitions → 2 ≤ options.merge → options.merge ≤ 9 → empty_size < options.memory → All (IsBegun eyes options) es
      → settings_of es' ≡ settings_of es → LeavesKits (StandAt eyes) (λ es only. KeepWorlds eyes only es) (Rests size es' × (Ended ≡ None)) options es' (map left ks)
  kits_left options es sized all two nine long begun settings = record {
    held = λ only w worlds many one_of held. each-map left (λ p d. _) 0 ks (held_kits eyes size outcome left faults only options.partitions w worlds es' ks many one_of held closed);
    kept = λ only w v worlds many one_of other_of kept. each-map left (λ p d. _) 0 ks (kept_kits eyes size outcome left faults only options.partitions w v worlds es' ks many one_of other_of kept closed);
    small = λ rests only w many at. each-map left (λ p d. _) 0 ks (held_small eyes size outcome left faults sized only options w es' ks many two nine long sets rests.0 (all_well outcome 0 ks rests.1)
        (elim at [ inl held ↦ held.each | inr kept ↦ all_hold eyes size outcome left faults only w es' rests.0 kept ]) closed);
    as_many = length-map ks left ∙ sym (at_each-length (λ p e k. IsClosed eyes size e (outcome k) (left k) (faults k)) 0 es' ks closed) ∙ as_many_engines es es' settings ∙ all;
  }
    where
      sets : All (IsSet eyes size outcome left faults options) es'
      sets = set_read options es' (subst (All (SetBy options)) (sym settings) (set_begun eyes options es begun))

  pub last_left : IsSpent eyes.disks eyes.history eyes.content es' → SomeFrom (λ p kit. IfTold (left kit) HasLastGeneration) 0 ks
  last_left spent =
      some-beside (λ q e. IsSpentAt (told_of eyes e) e.engine.part) (λ p e k. IsClosed eyes size e (outcome k) (left k) (faults k)) (λ p kit. IfTold (left kit) HasLastGeneration) 0 es' ks
      (λ p e kit spent c. c.last spent) spent closed

  -- ---- a fault with which an engine ended

  -- the engine of the kit at a place
  ended_at : (p : ℕ) (kit : K) → slice_get ks p ≡ Some kit → (e : WithJobs S D F W) × (slice_get es' p ≡ Some e) × IsClosed eyes size e (outcome kit) (left kit) (faults kit)
  ended_at p kit is =
      let many = at_each-length (λ p e k. IsClosed eyes size e (outcome k) (left k) (faults k)) 0 es' ks closed in
      let e = there es' p (omega (arith, many, below ks p kit is)) in
      let at = at_each-at (λ p e k. IsClosed eyes size e (outcome k) (left k) (faults k)) p es' ks e.0 closed e.1 in
      let same : at.0 ≡ kit = let one = at.1 in cc in
      (e.0, e.1, subst (λ kit. IsClosed eyes size e.0 (outcome kit) (left kit) (faults kit)) same at.2)

  is_job : (fault : RunFault) → IsEndedBy outcome 0 ks fault → IsOfJob fault
  is_job fault b =
      let c = (ended_at b.place b.ended b.at).2 in
      subst IsOfJob b.is (is_of_job (0 + b.place) b.why (λ spent. c.unspent (is_err_of (outcome b.ended) b.why engine.Spent b.by spent)))

  pub ended_of : IfSome Ended IsOfJob
  ended_of = if_some Ended (λ fault is. is_job fault (ended_by outcome 0 ks fault is))

  -- it is no damage of a partition of which it is known what it stores
  sound_at : (only : Option ℕ) (w : World) (fault : RunFault) → AtEach (λ p e part. IsSeen only p → HoldsPart (works_of eyes e) (told_of eyes e) e.engine.part.limits (partition_at p (length w.parts)) w part) 0 es' w.parts → IsEndedBy outcome 0 ks fault → IsNoDamage only fault
  sound_at only w fault held b =
      let at = ended_at b.place b.ended b.at in
      let part = at_each-at (λ p e part. IsSeen only p → HoldsPart (works_of eyes e) (told_of eyes e) e.engine.part.limits (partition_at p (length w.parts)) w part) b.place es' w.parts at.0 held at.1 in
      let same : 0 + b.place ≡ b.place = omega arith in
      subst (IsNoDamage only) b.is (undamaged_at only (0 + b.place) b.why
      (λ seen. let h = part.2 (subst (λ p. IsSeen only p) same seen) in subst (λ r. IfErr r (λ fault. IfEngineDamaged fault (λ damage. ⊥))) b.by (at.2.undamaged h.view h.is h.tells h.jobs)))

  pub ended_sound : Rests size es' → (only : Option ℕ) (w : World) → StandAt eyes es' (sees only w) ⊎ KeepWorlds eyes only es' w w → IfSome Ended (IsNoDamage only)
  ended_sound rests only w at =
      if_some Ended (λ fault is. sound_at only w fault (elim at [ inl held ↦ held.each | inr kept ↦ all_hold eyes size outcome left faults only w es' rests kept ]) (ended_by outcome 0 ks fault is))

-- ---- what counts

pub one_rose_then : (a b c : KitFaults) → OneRose a b → NoneFell b c → OneRose a c
one_rose_then a b c (inl rose) fell = inl (omega (arith, fell.main, rose))
one_rose_then a b c (inr (inl rose)) fell = inr (inl (omega (arith, fell.flusher, rose)))
one_rose_then a b c (inr (inr (inl rose))) fell = inr (inr (inl (omega (arith, fell.merger, rose))))
one_rose_then a b c (inr (inr (inr rose))) fell = inr (inr (inr (omega (arith, fell.reader, rose))))

shift : (p q : ℕ) → 0 + p ≡ q → p ≡ q
shift p q same = omega (arith, same)

module _ {S W D F K : Type 0} (counts : W → Counts) (faults : K → KitFaults) where
  -- from an engine to its kit
  abbrev Counted : ℕ → WithJobs S D F W → K → Type 0
  Counted p e k = NoneFell (faults_at counts e) (faults k)

  one_stayed : (es es' : List (WithJobs S D F W)) (p : ℕ) (e e' : WithJobs S D F W) → HaveStayed (option_map (λ e. faults_at counts e) (slice_get es p)) (option_map (λ e. faults_at counts e) (slice_get es' p)) → slice_get es p ≡ Some e → slice_get es' p ≡ Some e'
      → NoneFell (faults_at counts e) (faults_at counts e')
  one_stayed es es' p e e' stayed is is' = subst (λ o. HaveStayed (Some (faults_at counts e)) (option_map (λ e. faults_at counts e) o)) is' (subst (λ o. HaveStayed (option_map (λ e. faults_at counts e) o) (option_map (λ e. faults_at counts e) (slice_get es' p))) is stayed)

  pub counts_over : (es es' : List (WithJobs S D F W)) (ks : List K) → settings_of es' ≡ settings_of es → ((p : ℕ) → HaveStayed (faults_of counts es p) (faults_of counts es' p)) → AtEach Counted 0 es' ks
      → AtEach (λ p e kit. NoneFell (faults_at counts e) (faults kit)) 0 es ks
  counts_over es es' ks settings stayed closed =
      at_each-then (λ p e e'. NoneFell (faults_at counts e) (faults_at counts e')) Counted (λ p e kit. NoneFell (faults_at counts e) (faults kit)) 0 es es' ks
      (λ p e e' kit fell more. none_fell_twice (faults_at counts e) (faults_at counts e') (faults kit) fell more)
      (at_each-from (λ p e e'. NoneFell (faults_at counts e) (faults_at counts e')) 0 es es' (sym (as_many_engines es es' settings)) (λ p e e'. one_stayed es es' p e e' (stayed p)))
      closed

  -- the counts of the partition of a number rose
  rose_there : (es es' : List (WithJobs S D F W)) (q : ℕ) → HaveRisen (option_map (λ e. faults_at counts e) (slice_get es q)) (option_map (λ e. faults_at counts e) (slice_get es' q)) → q < length es
  rose_there [] es' q risen = absurd risen
  rose_there (e ∷ es) [] zero risen = absurd risen
  rose_there (e ∷ es) (e' ∷ es') zero risen = omega arith
  rose_there (e ∷ es) [] (suc q) risen = absurd (none (slice_get es q) risen)
    where
      none : (o : Option (WithJobs S D F W)) → HaveRisen (option_map (λ e. faults_at counts e) o) None → ⊥
      none None risen = risen
      none (Some e) risen = risen
  rose_there (e ∷ es) (e' ∷ es') (suc q) risen = let more = rose_there es es' q risen in omega (arith, more)

  one_rose_at : (es es' : List (WithJobs S D F W)) (q p : ℕ) (e e' : WithJobs S D F W) → HaveRisen (option_map (λ e. faults_at counts e) (slice_get es q)) (option_map (λ e. faults_at counts e) (slice_get es' q)) → slice_get es p ≡ Some e → slice_get es' p ≡ Some e'
      → p ≡ q → OneRose (faults_at counts e) (faults_at counts e')
  one_rose_at es es' q p e e' risen is is' same =
      let here : slice_get es q ≡ Some e = subst (λ p. slice_get es p ≡ Some e) same is in
      let here' : slice_get es' q ≡ Some e' = subst (λ p. slice_get es' p ≡ Some e') same is' in
      subst (λ o. HaveRisen (Some (faults_at counts e)) (option_map (λ e. faults_at counts e) o)) here' (subst (λ o. HaveRisen (option_map (λ e. faults_at counts e) o) (option_map (λ e. faults_at counts e) (slice_get es' q))) here risen)

  disk_at : (es es' : List (WithJobs S D F W)) (ks : List K) (q : ℕ) → settings_of es' ≡ settings_of es → HaveRisen (faults_of counts es q) (faults_of counts es' q) → AtEach Counted 0 es' ks
      → (q < length es) × AtEach (λ p e kit. p ≡ q → OneRose (faults_at counts e) (faults kit)) 0 es ks
  disk_at es es' ks q settings risen closed = (
    rose_there es es' q risen,
    at_each-then (λ p e e'. p ≡ q → OneRose (faults_at counts e) (faults_at counts e')) Counted (λ p e kit. p ≡ q → OneRose (faults_at counts e) (faults kit)) 0 es es' ks
        (λ p e e' kit rose more here. one_rose_then (faults_at counts e) (faults_at counts e') (faults kit) (rose here) more)
        (at_each-from (λ p e e'. p ≡ q → OneRose (faults_at counts e) (faults_at counts e')) 0 es es' (sym (as_many_engines es es' settings)) (λ p e e' is is' same. one_rose_at es es' q p e e' risen is is' (shift p q same)))
        closed,
  )

  pub disk_over : (es es' : List (WithJobs S D F W)) (ks : List K) (fault : Option RunFault) → settings_of es' ≡ settings_of es → IfSome fault (λ f. IfDisk f (λ p. HaveRisen (faults_of counts es p) (faults_of counts es' p))) → AtEach Counted 0 es' ks
      → IfSome fault (λ f. IfDisk f (λ q. (q < length es) × AtEach (λ p e kit. p ≡ q → OneRose (faults_at counts e) (faults kit)) 0 es ks))
  disk_over es es' ks None settings rose closed = tt
  disk_over es es' ks (Some Usage) settings rose closed = tt
  disk_over es es' ks (Some Read) settings rose closed = tt
  disk_over es es' ks (Some (Write n)) settings rose closed = tt
  disk_over es es' ks (Some Spent) settings rose closed = tt
  disk_over es es' ks (Some (DiskFault p)) settings rose closed = disk_at es es' ks p settings rose closed
  disk_over es es' ks (Some (Damaged p damage)) settings rose closed = tt
  disk_over es es' ks (Some Memory) settings rose closed = tt
  disk_over es es' ks (Some (Layout p found found_of asked_of)) settings rose closed = tt

-- ---- what counts of a fault with which an engine ended

module _ {S W D F K : Type 0} (eyes : Eyes S D F W) (size : D → ℕ) (outcome : K → Result (Unit {0}) EngineFault) (left : K → List Disk) (faults : K → KitFaults)
    (es es' : List (WithJobs S D F W)) (ks : List K) (closed : AreClosed eyes size outcome left faults es' ks) (settings : settings_of es' ≡ settings_of es) where
  -- a fault of the disk: a watch of the kit at its place counted one more
  abbrev Rises : ℕ → Type 0
  Rises q = (q < length es) × AtEach (λ p e kit. p ≡ q → OneRose (faults_at eyes.counts e) (faults kit)) 0 es ks

  as_many : length es ≡ length ks
  as_many = sym (as_many_engines es es' settings) ∙ at_each-length (λ p e k. IsClosed eyes size e (outcome k) (left k) (faults k)) 0 es' ks closed

  rises_at : ((p : ℕ) → HaveStayed (faults_of eyes.counts es p) (faults_of eyes.counts es' p)) → (q : ℕ) (ended : K) → slice_get ks q ≡ Some ended → IsErrOf (outcome ended) engine.Disk → Rises q
  rises_at stayed q ended at disk = (
    omega (arith, as_many, below ks q ended at),
    at_each-from (λ p e kit. p ≡ q → OneRose (faults_at eyes.counts e) (faults kit)) 0 es ks as_many
        (λ p e kit is_e is_kit same.
        let e' = ended_at eyes size outcome left faults es' ks closed q ended at in
        let place = shift p q same in
        let here : slice_get es' p ≡ Some e'.0 = subst (λ q. slice_get es' q ≡ Some e'.0) (sym place) e'.1 in
        let one : ended ≡ kit = let a = subst (λ q. slice_get ks q ≡ Some ended) (sym place) at in cc in
        subst (λ kit. OneRose (faults_at eyes.counts e) (faults kit)) one
        (one_rose (faults_at eyes.counts e) (faults_at eyes.counts e'.0) (faults ended) (one_stayed eyes.counts faults es es' p e e'.0 (stayed p) is_e here) (e'.2.disk disk))),
  )

  disk_by : (q : ℕ) (why : EngineFault) → (why ≡ engine.Disk → Rises q) → IfDisk (fault_of_engine q why) Rises
  disk_by q engine.Disk rises = rises refl
  disk_by q (engine.Damaged damage) rises = tt
  disk_by q engine.Spent rises = tt
  disk_by q engine.Memory rises = tt

  pub disk_ended : ((p : ℕ) → HaveStayed (faults_of eyes.counts es p) (faults_of eyes.counts es' p)) → IfSome (least_fault 0 (map outcome ks)) (λ f. IfDisk f Rises)
  disk_ended stayed = if_some (least_fault 0 (map outcome ks)) (λ fault is.
      let b = ended_by outcome 0 ks fault is in
      let same : 0 + b.place ≡ b.place = omega arith in
      subst (λ f. IfDisk f Rises) b.is (disk_by (0 + b.place) b.why (λ disk. rises_at stayed (0 + b.place) b.ended (subst (λ q. slice_get ks q ≡ Some b.ended) (sym same) b.at) (is_err_of (outcome b.ended) b.why engine.Disk b.by disk))))

-- ---- what is damaged

-- which partition settings are of, if there are any
abbrev here_in : Partition → Option Settings → Partition
here_in other None = other
here_in other (Some s) = s.here

module _ {S W D F K : Type 0} (eyes : Eyes S D F W) (size : D → ℕ) (outcome : K → Result (Unit {0}) EngineFault) (left : K → List Disk) (faults : K → KitFaults) (es es' : List (WithJobs S D F W)) (ks : List K) (closed : AreClosed eyes size outcome left faults es' ks)
    (same : settings_of es' ≡ settings_of es) (count : ℕ) (all : length es ≡ count) (here : EachFrom (λ p (e : WithJobs S D F W). (settings e).here ≡ partition_at p count) 0 es) where
  -- the partition of its place has it
  abbrev Met : ℕ → Damage → Type 0
  Met q damage = (q < count) × IsMetIn S W eyes.history eyes.content (partition_at q count) damage

  -- an engine that is left is of the partition of its place
  left_at : (q : ℕ) (e' : WithJobs S D F W) → slice_get es' q ≡ Some e' → (settings e').here ≡ partition_at q count
  left_at q e' is =
      let e = there es q (omega (arith, below es' q e' is, as_many_engines es es' same)) in
      let now : Some (settings e') ≡ Some (settings e.0) =
      sym (ap (option_map settings) is) ∙ sym (slice_get-map settings es' q) ∙ ap (λ (ss : List Settings). slice_get ss q) same ∙ slice_get-map settings es q ∙ ap (option_map settings) e.1 in
      ap (here_in (partition_at q count)) now ∙ each-at (λ p (e : WithJobs S D F W). (settings e).here ≡ partition_at p count) q es e.0 here e.1

  met_at : (q : ℕ) (damage : Damage) → IsMetBehind eyes.history eyes.content es' q damage → Met q damage
  met_at q damage met = (
    omega (arith, met.0, as_many_engines es es' same, all),
    elim met.1 [
      | inl now ↦
          let at = is_at-get (λ (e : WithJobs S D F W). IsPartDamage eyes.content eyes.history e.engine.part damage) q es' now in
          let end = (at_each-at (λ p e k. IsClosed eyes size e (outcome k) (left k) (faults k)) q es' ks at.0 closed at.1).2 in
          inl (record { part = at.0.engine.part; is_here = left_at q at.0 at.1; own = end.own; is = at.2 })
      | inr shown ↦
          let at = is_at-get (λ (e : WithJobs S D F W). WasShown W eyes.content e.engine.part.number e.engine.part.count damage) q es' shown in
          inr (subst (λ (here : Partition). WasShown W eyes.content here.number here.count damage) (left_at q at.0 at.1) at.2)
    ],
  )

  pub damaged_over : (fault : Option RunFault) → IfSome fault (λ f. IfDamaged f (IsMetBehind eyes.history eyes.content es')) → IfSome fault (λ f. IfDamaged f Met)
  damaged_over fault met = damaged_within (IsMetBehind eyes.history eyes.content es') Met fault met_at met

  -- a job met it that was waited for
  damaged_by : (q : ℕ) (why : EngineFault) (e : WithJobs S D F W) → q < count → slice_get es' q ≡ Some e → IfEngineDamaged why (HasMetDamage eyes.content eyes.history e.engine.part) → IfDamaged (fault_of_engine q why) Met
  damaged_by q engine.Disk e within at met = tt
  damaged_by q (engine.Damaged damage) e within at met =
      let was : partition_at met.part.number met.part.count ≡ partition_at e.engine.part.number e.engine.part.count = ap (λ (s : PartState S D F W). partition_at s.number s.count) met.moved in
      (within, inl (record { part = met.part; is_here = was ∙ left_at q e at; own = met.own; is = met.is }))
  damaged_by q engine.Spent e within at met = tt
  damaged_by q engine.Memory e within at met = tt

  pub damaged_ended : IfSome (least_fault 0 (map outcome ks)) (λ f. IfDamaged f Met)
  damaged_ended = if_some (least_fault 0 (map outcome ks)) (λ fault is.
      let b = ended_by outcome 0 ks fault is in
      let at = ended_at eyes size outcome left faults es' ks closed b.place b.ended b.at in
      let place : 0 + b.place ≡ b.place = omega arith in
      let many = at_each-length (λ p e k. IsClosed eyes size e (outcome k) (left k) (faults k)) 0 es' ks closed in
      subst (λ f. IfDamaged f Met) b.is (damaged_by (0 + b.place) b.why at.0 (omega (arith, many, below ks b.place b.ended b.at, as_many_engines es es' same, all))
      (subst (λ q. slice_get es' q ≡ Some at.0) (sym place) at.1)
      (subst (λ r. IfErr r (λ fault. IfEngineDamaged fault (HasMetDamage eyes.content eyes.history at.0.engine.part))) b.by at.2.damaged)))
