-- Partitions that were opened hold the world in which a run begins.
use Rattle.std.proofs.Common.{◌≡◌, ◌∙◌, ℕ, suc, false, List, [], ◌∷◌, map, length, refl, ap, sym, subst}
use Rattle.std.specs.Prelude.{Option, None}
use Rattle.std.proofs.lemmas.Bool.{false≢true}
use Rattle.tc_keeper.specs.Places.{AtEach, EachFrom}
use Rattle.tc_keeper.specs.Standing.{partition_at, HoldsPart, HoldWorld, IsSeen}
use Rattle.tc_keeper.specs.WithJobs.{no_jobs, told_of, works_of, WithJobs}
use Rattle.tc_store.specs.Disk.{Disk}
use Rattle.tc_store.specs.KitFaults.{KitFaults}
use Rattle.tc_lsm_model.specs.Contents.{Partition}
use Rattle.tc_model.specs.Keyed.{Ascends}
use Rattle.tc_open.specs.Openings.{IsOpenedAs}
use Rattle.tc_part_model.specs.PartView.{PartView, stored_with}
use Rattle.tc_part_model.specs.Starting.{started_part}
use Rattle.tc_plain_model.specs.Room.{Limits}
use Rattle.tc_plain_model.specs.Store.{Store}
use Rattle.tc_route.specs.Answers.{KeepOwn}
use Rattle.tc_run_model.specs.World.{World, first_world, part_of}
use Rattle.tc_running.specs.Jobs.{JobsState}
use Rattle.tc_work.specs.JobsOut.{WorkFor}
use Rattle.tc_work.specs.Moving.{Eyes}
use Rattle.tc_words.specs.declared.run.Options.{Options}
use Rattle.tc_server.specs.Ending.{limits_of}
use Rattle.tc_server.specs.Kits.{AreOpened, IsOpened}
use Rattle.tc_keeper.specs.OwnKeys.{AreOwn}
use Rattle.tc_server.specs.OverFiles.{BeginsAs, OpenAs, OpensAs}
use Rattle.tc_keeper.specs.Partitions.{StandAt}
use Rattle.tc_keeper.specs.Sight.{nothing, sees, IsFirst, Sight}

module _ {S D F W : Type 0} (eyes : Eyes S D F W) (options : Options) where
  -- no job is out, so none works for another part
  pub works_alone : (e : WithJobs S D F W) (p : PartView) → e.jobs ≡ no_jobs → works_of eyes e p
  works_alone e p alone = subst (λ (jobs : JobsState F D W). WorkFor eyes.content eyes.history eyes.name_of jobs p) (sym alone) (tt, tt)

  -- one partition
  part_held : (here : Partition) (came : List Disk) (counted : KitFaults) (e : WithJobs S D F W) (stored : Store) (v : World) → IsOpened eyes options here came counted e → OpensAs here came stored
      → v.limits ≡ limits_of options → v.flushed ≡ false → HoldsPart (works_of eyes e) (told_of eyes e) e.engine.part.limits here v (part_of stored)
  part_held here [] counted e stored v i o limits fresh = absurd o
  part_held here (disk ∷ past) counted e stored v i o limits fresh =
      let is : IsOpenedAs here o.contents o.logs (told_of eyes e) = i.opened o.contents o.logs o.opens in record {
        view = started_part here is.list;
        is = is.is;
        of_number = refl;
        tells = record { store = is.store; components = is.components };
        unstaged = i.begun.unstaged;
        jobs = works_alone e (started_part here is.list) i.begun.alone;
        stores = is.plain ∙ sym o.is;
        under = limits ∙ sym i.begun.limits;
        flushed = λ flushed. absurd (false≢true (sym fresh ∙ flushed));
      }

  parts_held : (only : Option ℕ) (files : ℕ → List Disk) (came : ℕ → KitFaults) (count : ℕ) (v : World) → v.limits ≡ limits_of options → v.flushed ≡ false → (p : ℕ) (es : List (WithJobs S D F W)) (stores : List Store) → length es ≡ length stores
      → EachFrom (λ p e. IsOpened eyes options (partition_at p count) (files p) (came p) e) p es → EachFrom (λ p stored. IsSeen only p → OpensAs (partition_at p count) (files p) stored) p stores
      → AtEach (λ p e part. IsSeen only p → HoldsPart (works_of eyes e) (told_of eyes e) e.engine.part.limits (partition_at p count) v part) p es (map part_of stores)
  parts_held only files came count v limits fresh p [] [] same opened opens = tt
  parts_held only files came count v limits fresh p [] (s ∷ stores) same opened opens = absurd (cc)
  parts_held only files came count v limits fresh p (e ∷ es) [] same opened opens = absurd (cc)
  parts_held only files came count v limits fresh p (e ∷ es) (s ∷ stores) same opened opens =
      (λ is. part_held (partition_at p count) (files p) (came p) e s v opened.0 (opens.0 is) limits fresh, parts_held only files came count v limits fresh (suc p) es stores (cc) opened.1 opens.1)

  -- ---- keys of their own

  own_keys : (ascends : (q : PartView) → Ascends (stored_with q)) (count : ℕ) (v : World) (p : ℕ) (es : List (WithJobs S D F W)) (stores : List Store)
      → AtEach (λ p e part. IsSeen None p → HoldsPart (works_of eyes e) (told_of eyes e) e.engine.part.limits (partition_at p count) v part) p es (map part_of stores) → EachFrom (λ p stored. AreOwn count p stored.pairs) p stores
      → KeepOwn count p (map (λ part. part.now) (map part_of stores))
  own_keys ascends count v p [] [] held own = tt
  own_keys ascends count v p (e ∷ es) [] held own = tt
  own_keys ascends count v p [] (s ∷ stores) held own = absurd held
  own_keys ascends count v p (e ∷ es) (s ∷ stores) held own =
      (subst (λ (t : Store). Ascends t.pairs) (held.0 tt).stores (ascends (held.0 tt).view), own.0, own_keys ascends count v (suc p) es stores held.1 own.1)

  length_parts : (stores : List Store) → length (map part_of stores) ≡ length stores
  length_parts [] = refl
  length_parts (s ∷ stores) = ap suc (length_parts stores)

  world_held : (ascends : (q : PartView) → Ascends (stored_with q)) (files : ℕ → List Disk) (came : ℕ → KitFaults) (es : List (WithJobs S D F W)) (only : Option ℕ) (w : World) → length es ≡ options.partitions
      → AreOpened eyes options files came es → OpenAs (limits_of options) options.partitions files only w → HoldWorld eyes only es w
  world_held ascends files came es only w all opened o = subst (HoldWorld eyes only es) (sym o.world) (record { each = each; own = own })
    where
      v : World
      v = first_world (limits_of options) o.stores

      count : length v.parts ≡ options.partitions
      count = length_parts o.stores ∙ o.counted

      held : AtEach (λ p e part. IsSeen only p → HoldsPart (works_of eyes e) (told_of eyes e) e.engine.part.limits (partition_at p options.partitions) v part) 0 es (map part_of o.stores)
      held = parts_held only files came options.partitions v refl refl 0 es o.stores (all ∙ sym o.counted) opened o.each

      each : AtEach (λ p e part. IsSeen only p → HoldsPart (works_of eyes e) (told_of eyes e) e.engine.part.limits (partition_at p (length v.parts)) v part) 0 es v.parts
      each = subst (λ n. AtEach (λ p e part. IsSeen only p → HoldsPart (works_of eyes e) (told_of eyes e) e.engine.part.limits (partition_at p n) v part) 0 es v.parts) (sym count) held

      own : only ≡ None → KeepOwn (length v.parts) 0 (map (λ part. part.now) v.parts)
      own is = subst (λ n. KeepOwn n 0 (map (λ part. part.now) v.parts)) (sym count)
          (own_keys ascends options.partitions v 0 es o.stores
          (subst (λ one. AtEach (λ p e part. IsSeen one p → HoldsPart (works_of eyes e) (told_of eyes e) e.engine.part.limits (partition_at p options.partitions) v part) 0 es (map part_of o.stores)) is held)
          (o.own is))

  pub stand_opened : (ascends : (q : PartView) → Ascends (stored_with q)) (files : ℕ → List Disk) (came : ℕ → KitFaults) (es : List (WithJobs S D F W)) (first : Sight) → length es ≡ options.partitions
      → AreOpened eyes options files came es → BeginsAs (limits_of options) options.partitions files first → StandAt eyes es first
  stand_opened ascends files came es nothing all opened begins = tt
  stand_opened ascends files came es (sees only w) all opened begins = world_held ascends files came es only w all opened begins

-- what is known then is a world in which a run begins
pub begins_first : (limits : Limits) (count : ℕ) (files : ℕ → List Disk) (first : Sight) → BeginsAs limits count files first → IsFirst first
begins_first limits count files nothing begins = tt
begins_first limits count files (sees only w) o = (o.stores, o.world ∙ ap (λ (l : Limits). first_world l o.stores) (sym (ap (λ (v : World). v.limits) o.world)))
