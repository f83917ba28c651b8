-- A run that comes to no line: a kit was not given, or its partition was not opened.
use Rattle.std.proofs.Common.{◌≡◌, ◌⊎◌, ◌∙◌, ◌≤◌, ◌<◌, ◌+◌, ℕ, List, [], ◌∷◌, map, length, arith, refl, ap, sym, subst, inl, inr}
use Rattle.std.specs.Prelude.{Option, Some, None, Result, slice_get, unwrap_or}
use Rattle.std.specs.Io.KnownBytes.{Appends}
use Rattle.std.proofs.KnownBytes.{Consumes-nil, Appends-nil, Keeps-refl}
use Rattle.std.proofs.lemmas.Option.{slice_get-map}
use Rattle.tc_server.proofs.SightLaws.{if_known}
use Rattle.tc_keeper.specs.Standing.{partition_at, IsSeen}
use Rattle.tc_keeper.specs.WithJobs.{told_of, WithJobs}
use Rattle.tc_lsm_model.specs.Contents.{Partition}
use Rattle.tc_machine.specs.Pictures.{recovered}
use Rattle.tc_machine.specs.Sound.{IsWithOrWithout}
use Rattle.tc_open.specs.Openings.{IsOpenedAs}
use Rattle.tc_part_model.specs.Leaving.{KeepsStore}
use Rattle.tc_part_model.specs.PartView.{store_of}
use Rattle.tc_part_model.specs.Starting.{started_part}
use Rattle.tc_plain_model.specs.Room.{Limits}
use Rattle.tc_plain_model.specs.Store.{Store, empty}
use Rattle.tc_open.specs.BeingOpened.{AreIn}
use Rattle.tc_run_model.specs.Course.{Shown, behind, unopened, Ran}
use Rattle.tc_run_model.specs.World.{Part, World, first_world, part_of, store_at}
use Rattle.tc_run_model.proofs.ReplyLaws.{MayReply-none}
use Rattle.tc_store.specs.Disk.{Disk}
use Rattle.tc_store.specs.KitFaults.{KitFaults}
use Rattle.tc_store.specs.Moments.{IfTold}
use Rattle.tc_work.specs.Moving.{Eyes}
use Rattle.tc_work.specs.declared.fault.EngineFault.{EngineFault}
use Rattle.tc_words.specs.Options.{options_asked}
use Rattle.tc_words.specs.declared.asked.Invocation.{Invocation}
use Rattle.tc_words.specs.declared.run.Options.{Options}
use Rattle.tc_server.specs.Ending.{limits_of}
use Rattle.tc_keeper.specs.Faults.{IsNoDamage}
use Rattle.tc_server.specs.Kits.{IfLawful, IsClosed, IsOpened}
use Rattle.tc_server.specs.OverFiles.{AskedOver, BeginsAs, BeginsFor, EndsOver, IsHere, IsStoredInOne, KeepsOpened, LeaveOneOf, LeavesOneOf, LeaveSmall, OpenAs, OpensAs, RanOver, ServedOver}
use Rattle.tc_keeper.specs.Places.{EachFrom}
use Rattle.tc_keeper.specs.Sight.{nothing, sees, whole_of, IfKnown, Sight}
use Rattle.tc_keeper.specs.declared.fault.RunFault.{RunFault}
use Rattle.tc_keeper.specs.declared.fault.RunFault.TheVariants.{Usage, Memory}
use Rattle.tc_server.proofs.ClosedFiles.{stored_in}
use Rattle.tc_server.proofs.ClosedKits.{told_both}
use Rattle.tc_server.proofs.AskedRuns.{runs_unread, OverOf}
use Rattle.tc_server.proofs.ClosedFiles.{leaves_so}
use Rattle.tc_keeper.proofs.EachLaws.{each-at, each-below, each-so, there}
use Rattle.tc_server.proofs.OpenedWorlds.{works_alone}

-- ---- nothing was read nor written

ran_unread : (shown : Shown) → shown [] ≡ [] → (first : Option World) (most : ℕ) (left taken : Option (List ℕ)) → Ran shown first most unopened left left taken taken
ran_unread shown none first most left taken = record {
  input = [];
  consumed = Consumes-nil left;
  answered = [];
  last = [];
  replies = [];
  given = MayReply-none first;
  reached = (refl, refl, refl);
  took = subst (Appends taken taken) (sym none) (Appends-nil taken);
}

-- ---- what the files keep

-- what a partition stored in the first world is what it stores there
first_stored : (limits : Limits) (stores : List Store) (p : ℕ) (stored : Store) → slice_get stores p ≡ Some stored → store_at p (first_world limits stores) ≡ stored
first_stored limits stores p stored is =
    ap (λ o. unwrap_or o empty) (slice_get-map (λ part. part.now) (map part_of stores) p ∙ ap stored_in (slice_get-map part_of stores p ∙ ap made is))
  where
    made : Option Store → Option Part
    made None = None
    made (Some s) = Some (part_of s)

-- files that keep what they held leave what the partition stored in the first world
kept_left : (count p : ℕ) (w : World) (stored : Store) (came disks : List Disk) → OpensAs (partition_at p count) came stored → store_at p w ≡ stored → KeepsOpened (partition_at p count) came disks → LeavesOneOf count (w ∷ []) p disks
kept_left count p w stored [] disks o same keeps = absurd o
kept_left count p w stored (disk ∷ past) disks o same keeps =
    leaves_so (partition_at p count) (IsWithOrWithout (recovered o.contents o.logs).pairs None) (IsStoredInOne p (w ∷ [])) disks
    (λ pairs is. inl (is ∙ ap (λ (s : Store). s.pairs) (sym (same ∙ o.is))))
    (keeps o.contents o.logs o.opens)

pub exits_kept : (limits : Limits) (count : ℕ) (files : ℕ → List Disk) (only : Option ℕ) (w : World) (kits : List (List Disk)) → OpenAs limits count files only w → length kits ≤ count → EachFrom (λ p. KeepsOpened (partition_at p count) (files p)) 0 kits
    → LeaveOneOf only count (w ∷ []) kits
exits_kept limits count files only w kits o few keeps =
    each-so (λ p disks. (p < 0 + length kits) × KeepsOpened (partition_at p count) (files p) disks) (λ p disks. IsSeen only p → LeavesOneOf count (w ∷ []) p disks) 0 kits one
    (each-below (λ p. KeepsOpened (partition_at p count) (files p)) 0 kits keeps)
  where
    one : (p : ℕ) (disks : List Disk) → (p < 0 + length kits) × KeepsOpened (partition_at p count) (files p) disks → IsSeen only p → LeavesOneOf count (w ∷ []) p disks
    one p disks (below, keeps) is =
        let here = there o.stores p (omega (arith, below, few, o.counted)) in
        let opens = each-at (λ p stored. IsSeen only p → OpensAs (partition_at p count) (files p) stored) p o.stores here.0 o.each here.1 is in
        kept_left count p w here.0 (files p) disks opens (subst (λ v. store_at p v ≡ here.0) (sym o.world) (first_stored limits o.stores p here.0 here.1)) keeps

-- an engine that was just opened keeps what its files held
pub opened_keeps : {S D F W : Type 0} (eyes : Eyes S D F W) (size : D → ℕ) (options : Options) (here : Partition) (came : List Disk) (counted : KitFaults) (e : WithJobs S D F W) (outcome : Result (Unit {0}) EngineFault) (disks : List Disk) (left : KitFaults)
    → IsOpened eyes options here came counted e → IsClosed eyes size e outcome disks left → KeepsOpened here came disks
opened_keeps eyes size options here [] counted e outcome disks left i c = tt
opened_keeps eyes size options here (disk ∷ past) counted e outcome disks left i c = λ cs logs opens.
    let is : IsOpenedAs here cs logs (told_of eyes e) = i.opened cs logs opens in
    let holds : store_of (started_part here is.list) ≡ (recovered cs logs).pairs = ap (λ (s : Store). s.pairs) is.plain in
    subst (λ pairs. IfTold disks (λ left. AreIn left × KeepsStore here pairs None left)) holds
    (told_both AreIn (KeepsStore here (store_of (started_part here is.list)) None) disks c.home (c.keeps (started_part here is.list) is.is (works_alone eyes options e (started_part here is.list) i.begun.alone)))

-- ---- the run

exits_first : (limits : Limits) (count : ℕ) (files : ℕ → List Disk) (first : Sight) (kits : List (List Disk)) → BeginsAs limits count files first → length kits ≤ count → EachFrom (λ p. KeepsOpened (partition_at p count) (files p)) 0 kits
    → IfKnown first (λ only w. LeaveOneOf only count (w ∷ []) kits)
exits_first limits count files nothing kits begins few keeps = tt
exits_first limits count files (sees only w) kits begins few keeps = exits_kept limits count files only w kits begins few keeps

-- where it is known what a partition stores, its files are lawful
pub lawful_first : (limits : Limits) (count p : ℕ) (files : ℕ → List Disk) (first : Sight) (P : Type 0) → p < count → BeginsAs limits count files first → IfLawful (partition_at p count) (files p) P → IfKnown first (λ only w. IsSeen only p → P)
lawful_first limits count p files nothing P below begins holds = tt
lawful_first limits count p files (sees only w) P below o holds = λ seen.
    let here = there o.stores p (omega (arith, below, o.counted)) in
    at (files p) here.0 (each-at (λ p stored. IsSeen only p → OpensAs (partition_at p count) (files p) stored) p o.stores here.0 o.each here.1 seen) holds
  where
    at : (came : List Disk) (stored : Store) → OpensAs (partition_at p count) came stored → IfLawful (partition_at p count) came P → P
    at [] stored opens holds = absurd opens
    at (disk ∷ past) stored opens holds = holds opens.contents opens.logs opens.opens

-- a run that ended by a fault is none that ended well
ended_by_fault : (X : Option ℕ → World → Type 0) (fault : RunFault) (first : Sight) → IfKnown first (λ only w. Some fault ≡ None → X only w)
ended_by_fault X fault nothing = tt
ended_by_fault X fault (sees only w) = λ none. absurd (cc)

pub ran_unopened : (shown : Shown) → shown [] ≡ [] → (fault : RunFault) (first : Sight) (options : Options) (files : ℕ → List Disk) (left taken : Option (List ℕ)) (kits : List (List Disk))
    → EndsOver (Some fault) unopened → BeginsAs (limits_of options) options.partitions files first → IfKnown first (λ only w. IsNoDamage only fault × IsHere only fault) → length kits ≤ options.partitions
    → EachFrom (λ p. KeepsOpened (partition_at p options.partitions) (files p)) 0 kits → RanOver shown (Some fault) first options files left left taken taken kits
ran_unopened shown none fault first options files left taken kits by begins sound few keeps = record {
  ending = unopened;
  by = by;
  ran = ran_unread shown none (whole_of first) options.window left taken;
  sound = sound;
  needs = λ fewer. refl;
  exits = exits_first (limits_of options) options.partitions files first kits begins few keeps;
  kept = λ is. keeps;
  small = ended_by_fault (λ only w. LeaveSmall only options (behind w (ran_unread shown none (whole_of first) options.window left taken).answered).flushed kits) fault first;
}

pub asked_unopened : (asked : Invocation) (fault : RunFault) (first : Sight) (files : ℕ → List Disk) (left taken : Option (List ℕ)) (kits : List (List Disk))
    → EndsOver (Some fault) unopened → BeginsFor (Some asked) files first → IfKnown first (λ only w. IsNoDamage only fault × IsHere only fault) → length kits ≤ (options_asked asked).partitions
    → EachFrom (λ p. KeepsOpened (partition_at p (options_asked asked).partitions) (files p)) 0 kits → AskedOver asked (Some fault) first files left left taken taken kits
asked_unopened asked fault first files left taken kits by begins sound few keeps =
    runs_unread asked left (OverOf asked (Some fault) first files taken taken kits)
    (λ shown none unread. ran_unopened shown none fault first (options_asked asked) files unread taken kits by begins sound few keeps)

-- memory was wanting before a kit was asked for
pub asked_without_room : (asked : Invocation) (first : Sight) (files : ℕ → List Disk) (left taken : Option (List ℕ)) → BeginsFor (Some asked) files first → AskedOver asked (Some Memory) first files left left taken taken []
asked_without_room asked first files left taken begins = asked_unopened asked Memory first files left taken [] (inr refl) begins (if_known first (λ only. Unit {0} × Unit {0}) (λ only w is. (tt, tt))) (omega arith) tt

-- ---- for words that are no command line

by_words : (asked : Option Invocation) (first : Sight) (files : ℕ → List Disk) (left taken : Option (List ℕ)) → BeginsFor asked files first → ServedOver asked (Some Memory) first files left left taken taken []
by_words None first files left taken begins = (Keeps-refl left, Keeps-refl taken, refl)
by_words (Some asked) first files left taken begins = asked_without_room asked first files left taken begins

pub served_nothing : (asked : Option Invocation) (fault : RunFault) (first : Sight) (files : ℕ → List Disk) (left taken : Option (List ℕ)) → BeginsFor asked files first → (fault ≡ Usage) ⊎ (fault ≡ Memory) → (fault ≡ Usage → asked ≡ None)
    → ServedOver asked (Some fault) first files left left taken taken []
served_nothing asked fault first files left taken begins (inl usage) none = rw (none usage, usage) (Keeps-refl left, Keeps-refl taken, refl)
served_nothing asked fault first files left taken begins (inr memory) none = rw memory (by_words asked first files left taken begins)
