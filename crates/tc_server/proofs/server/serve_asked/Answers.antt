use Rattle.std.proofs.Common.{ℕ, ◌≡◌, ◌<◌, ◌∙◌, ◌++◌, length, arith, refl, ap, sym, subst, inl, inr, ⊎_elim}
use Rattle.std.specs.Prelude.{Some, IfSome, map, option_to_list}
use Rattle.std.proofs.lemmas.List.{length-map}
use Rattle.std.proofs.lemmas.List.Elements.{All-nil}
use Rattle.std.proofs.lemmas.Option.{IfSome_then}
use Rattle.tc_bytes.specs.Counts.{Rose}
use Rattle.tc_keeper.specs.Places.{AtEach}
use Rattle.tc_keeper.specs.Standing.{partition_at}
use Rattle.tc_part_model.proofs.HeldKeys.{Ascends-stored}
use Rattle.tc_open.specs.BeingOpened.{AreIn}
use Rattle.tc_store.specs.Moments.{IfTold}
use Rattle.tc_store.specs.declared.damage.Damage.{Damage}
use Rattle.tc_store.specs.declared.kit.Kit.{Kit}
use Rattle.tc_work.specs.Moving.{eyes}
use Rattle.tc_work.specs.declared.finishing.Finished.{Finished as finished}
use Rattle.tc_words.specs.Options.{options_asked}
use Rattle.tc_words.specs.declared.run.Options.{Options}
use Rattle.tc_server.specs.Ending.{limits_of}
use Rattle.tc_keeper.specs.Keeping.{IsMetIn}
use Rattle.tc_keeper.specs.Faults.{faults_in, OneRose}
use Rattle.tc_keeper.specs.Calls.{faults_at}
use Rattle.tc_server.specs.KitCauses.{nothing_met, AreAsked, HasFilesCause}
use Rattle.tc_server.specs.Kits.{AreOpened, IsClosed, IsGivenBack}
use Rattle.tc_keeper.specs.declared.fault.RunFault.TheVariants.{Memory}
use Rattle.tc_keeper.proofs.BegunKeepers.{readers_home}
use Rattle.tc_server.proofs.ClosedKits.{kits_all, kits_closed}
use Rattle.tc_server.proofs.KitOpenings.{ends_unopened, no_read, no_usage, no_write}
use Rattle.tc_server.proofs.NotOpened.{asked_unopened, asked_without_room}
use Rattle.tc_server.proofs.OpenedWorlds.{begins_first, stand_opened}
use Rattle.tc_server.proofs.OverEngines.{unwritten_all}
use Rattle.tc_server.proofs.RunKits.{all_begun, all_here, asked_all, damaged_within, disk_all, disk_within, found_run, judged_all, none_fell_all, spent_all, usage_run}
use Rattle.tc_server.proofs.Unopened.{all_judged_met, found_met, given_back_all, if_read, kits_ended, last_many, next_back, no_cause, nothing_back, one_at_most, others_back, unasked_back, IsEnded}
use Rattle.tc_server.proofs.server.serve_asked.Goals as goal

pub returns-in-Err-clause-ran : goal.returns-in-Err-clause-ran
returns-in-Err-clause-ran g c =
    let none = ap (λ kits. kits.items) c.of.ensures.kits ∙ c.new.ensures.items in
    rw (c.of.ensures.fault, none) (λ first begins. asked_without_room c.args.asked.now first (g.H.Shelf.files c.args.shelf.now) (g.I.Source.left c.args.source.now) (g.O.Sink.taken c.args.sink.now) begins)

pub returns-in-Err-clause-back : goal.returns-in-Err-clause-back
returns-in-Err-clause-back g c =
    let none = ap (λ kits. kits.items) c.of.ensures.kits ∙ c.new.ensures.items in
    rw (c.of.ensures.fault, none) (nothing_back refl (options_asked c.args.asked.now).partitions (g.H.Shelf.faults c.args.shelf.now) (g.H.Shelf.files c.args.shelf.now) (g.H.Shelf.kit_faults c.args.shelf.now) Memory _ (inr refl))

pub returns-in-Err-clause-cause : goal.returns-in-Err-clause-cause
returns-in-Err-clause-cause g c =
    let none = ap (λ kits. kits.items) c.of.ensures.kits ∙ c.new.ensures.items in
    rw (c.of.ensures.fault, none) (no_cause g.row.H-Store.Denot g.row.H-Store-Watch.Denot g.H.Store.Device.Device.history g.H.Store.Frozen.Frozen.content g.H.Store.Frozen.Frozen.name g.H.Store.Frozen.Frozen.size (Some c.args.asked.now) (g.I.Source.left c.args.source.now)
    (g.I.Source.faults c.args.source.now) (g.O.Sink.faults c.args.sink.now) (g.H.Shelf.faults c.args.shelf.now) (g.H.Shelf.files c.args.shelf.now) (g.H.Shelf.kit_faults c.args.shelf.now) Memory _ _
    (inr refl) (λ same. absurd (cc)))

pub returns-in-Err-with_capacity-clause-ran : goal.returns-in-Err-with_capacity-clause-ran
returns-in-Err-with_capacity-clause-ran g c =
    let none = ap (λ kits. kits.items) c.of-in-Err-with_capacity.ensures.kits ∙ c.in-Ok.ensures.items in
    rw (c.of-in-Err-with_capacity.ensures.fault, none) (λ first begins. asked_without_room c.args.asked.now first (g.H.Shelf.files c.args.shelf.now) (g.I.Source.left c.args.source.now) (g.O.Sink.taken c.args.sink.now) begins)

pub returns-in-Err-with_capacity-clause-back : goal.returns-in-Err-with_capacity-clause-back
returns-in-Err-with_capacity-clause-back g c =
    let none = ap (λ kits. kits.items) c.of-in-Err-with_capacity.ensures.kits ∙ c.in-Ok.ensures.items in
    rw (c.of-in-Err-with_capacity.ensures.fault, none) (nothing_back refl (options_asked c.args.asked.now).partitions (g.H.Shelf.faults c.args.shelf.now) (g.H.Shelf.files c.args.shelf.now) (g.H.Shelf.kit_faults c.args.shelf.now) Memory _ (inr refl))

pub returns-in-Err-with_capacity-clause-cause : goal.returns-in-Err-with_capacity-clause-cause
returns-in-Err-with_capacity-clause-cause g c =
    let none = ap (λ kits. kits.items) c.of-in-Err-with_capacity.ensures.kits ∙ c.in-Ok.ensures.items in
    rw (c.of-in-Err-with_capacity.ensures.fault, none) (no_cause g.row.H-Store.Denot g.row.H-Store-Watch.Denot g.H.Store.Device.Device.history g.H.Store.Frozen.Frozen.content g.H.Store.Frozen.Frozen.name g.H.Store.Frozen.Frozen.size (Some c.args.asked.now) (g.I.Source.left c.args.source.now)
    (g.I.Source.faults c.args.source.now) (g.O.Sink.faults c.args.sink.now) (g.H.Shelf.faults c.args.shelf.now) (g.H.Shelf.files c.args.shelf.now) (g.H.Shelf.kit_faults c.args.shelf.now) Memory _ _
    (inr refl) (λ same. absurd (cc)))

pub serve_over-kits-requires-clause-all : goal.serve_over-kits-requires-clause-all
serve_over-kits-requires-clause-all g c κs within = c.in-Ok-open_all.ensures.all ∙ ap (λ (o : Options). o.partitions) c.options_asked-options.ensures

pub serve_over-kits-requires-clause-begun : goal.serve_over-kits-requires-clause-begun
serve_over-kits-requires-clause-begun g c κs within =
    all_begun (eyes g.H.Store.Store.history g.H.Store.Device.Device.history g.H.Store.Frozen.Frozen.content g.H.Store.Device.Device.name g.H.Store.Frozen.Frozen.size
    g.H.Store.Watch.Watch.counts) (λ (kit : Kit g.row.H-Store.Denot g.row.H-Store-Watch.Denot g.row.H-Store-Device.Denot g.row.H-Store-Frozen.Denot).
    g.H.Store.Store.history kit.store) (faults_in g.H.Store.Watch.Watch.counts) (options_asked c.args.asked.now) (g.H.Shelf.files c.args.shelf.now)
    (g.H.Shelf.kit_faults c.args.shelf.now) c.open_all.new.engines
    (subst (λ o. AreOpened (eyes g.H.Store.Store.history g.H.Store.Device.Device.history g.H.Store.Frozen.Frozen.content g.H.Store.Device.Device.name
    g.H.Store.Frozen.Frozen.size g.H.Store.Watch.Watch.counts) o (g.H.Shelf.files c.args.shelf.now) (g.H.Shelf.kit_faults c.args.shelf.now) c.open_all.new.engines)
    c.options_asked-options.ensures c.open_all.ensures.opened)

pub serve_over-kits-requires-clause-numbered : goal.serve_over-kits-requires-clause-numbered
serve_over-kits-requires-clause-numbered g c κs within =
    all_here (eyes g.H.Store.Store.history g.H.Store.Device.Device.history g.H.Store.Frozen.Frozen.content g.H.Store.Device.Device.name g.H.Store.Frozen.Frozen.size
    g.H.Store.Watch.Watch.counts) (λ (kit : Kit g.row.H-Store.Denot g.row.H-Store-Watch.Denot g.row.H-Store-Device.Denot g.row.H-Store-Frozen.Denot).
    g.H.Store.Store.history kit.store) (faults_in g.H.Store.Watch.Watch.counts) (options_asked c.args.asked.now) (g.H.Shelf.files c.args.shelf.now)
    (g.H.Shelf.kit_faults c.args.shelf.now) c.open_all.new.engines
    (subst (λ o. AreOpened (eyes g.H.Store.Store.history g.H.Store.Device.Device.history g.H.Store.Frozen.Frozen.content g.H.Store.Device.Device.name
    g.H.Store.Frozen.Frozen.size g.H.Store.Watch.Watch.counts) o (g.H.Shelf.files c.args.shelf.now) (g.H.Shelf.kit_faults c.args.shelf.now) c.open_all.new.engines)
    c.options_asked-options.ensures c.open_all.ensures.opened)

pub returns-in-Ok-open_all-clause-ran : goal.returns-in-Ok-open_all-clause-ran
returns-in-Ok-open_all-clause-ran g c =
    let kits = ap (λ kits. kits.items) c.of-in-Ok-open_all.ensures.kits in
    let opened = subst (λ o. AreOpened (eyes g.H.Store.Store.history g.H.Store.Device.Device.history g.H.Store.Frozen.Frozen.content g.H.Store.Device.Device.name
    g.H.Store.Frozen.Frozen.size g.H.Store.Watch.Watch.counts) o (g.H.Shelf.files c.args.shelf.now) (g.H.Shelf.kit_faults c.args.shelf.now) c.open_all.new.engines)
    c.options_asked-options.ensures c.open_all.ensures.opened in
    let all : length c.open_all.new.engines ≡ (options_asked c.args.asked.now).partitions = c.in-Ok-open_all.ensures.all ∙ ap (λ (o : Options). o.partitions) c.options_asked-options.ensures in
    rw (c.of-in-Ok-open_all.ensures.fault, kits) (λ first begins. c.serve_over-kits.ensures.ran first (g.H.Shelf.files c.args.shelf.now)
    (begins_first (limits_of (options_asked c.args.asked.now)) (options_asked c.args.asked.now).partitions (g.H.Shelf.files c.args.shelf.now) first begins)
    (stand_opened (eyes g.H.Store.Store.history g.H.Store.Device.Device.history g.H.Store.Frozen.Frozen.content g.H.Store.Device.Device.name
    g.H.Store.Frozen.Frozen.size g.H.Store.Watch.Watch.counts) (options_asked c.args.asked.now) Ascends-stored (g.H.Shelf.files c.args.shelf.now)
    (g.H.Shelf.kit_faults c.args.shelf.now) c.open_all.new.engines first all opened begins))

pub returns-in-Ok-open_all-clause-prompt : goal.returns-in-Ok-open_all-clause-prompt
returns-in-Ok-open_all-clause-prompt g c =
    let opened = subst (λ o. AreOpened (eyes g.H.Store.Store.history g.H.Store.Device.Device.history g.H.Store.Frozen.Frozen.content g.H.Store.Device.Device.name
    g.H.Store.Frozen.Frozen.size g.H.Store.Watch.Watch.counts) o (g.H.Shelf.files c.args.shelf.now) (g.H.Shelf.kit_faults c.args.shelf.now) c.open_all.new.engines)
    c.options_asked-options.ensures c.open_all.ensures.opened in
    let all : length c.open_all.new.engines ≡ (options_asked c.args.asked.now).partitions = c.in-Ok-open_all.ensures.all ∙ ap (λ (o : Options). o.partitions) c.options_asked-options.ensures in
    λ first begins. c.serve_over-kits.ensures.prompt first (begins_first (limits_of (options_asked c.args.asked.now)) (options_asked c.args.asked.now).partitions
    (g.H.Shelf.files c.args.shelf.now) first begins) (stand_opened
    (eyes g.H.Store.Store.history g.H.Store.Device.Device.history g.H.Store.Frozen.Frozen.content g.H.Store.Device.Device.name g.H.Store.Frozen.Frozen.size
    g.H.Store.Watch.Watch.counts) (options_asked c.args.asked.now) Ascends-stored (g.H.Shelf.files c.args.shelf.now) (g.H.Shelf.kit_faults c.args.shelf.now)
    c.open_all.new.engines first all opened begins)

pub returns-in-Ok-open_all-clause-back : goal.returns-in-Ok-open_all-clause-back
returns-in-Ok-open_all-clause-back g c =
    let kits = ap (λ kits. kits.items) c.of-in-Ok-open_all.ensures.kits in
    let opened = subst (λ o. AreOpened (eyes g.H.Store.Store.history g.H.Store.Device.Device.history g.H.Store.Frozen.Frozen.content g.H.Store.Device.Device.name
    g.H.Store.Frozen.Frozen.size g.H.Store.Watch.Watch.counts) o (g.H.Shelf.files c.args.shelf.now) (g.H.Shelf.kit_faults c.args.shelf.now) c.open_all.new.engines)
    c.options_asked-options.ensures c.open_all.ensures.opened in
    let all : length c.open_all.new.engines ≡ (options_asked c.args.asked.now).partitions = c.in-Ok-open_all.ensures.all ∙ ap (λ (o : Options). o.partitions) c.options_asked-options.ensures in
    record {
      few = rw kits (omega (arith, c.serve_over-kits.ensures.kits));
      asked = rw (c.of-in-Ok-open_all.ensures.fault, kits, c.serve_over-kits.ensures.kits)
          (asked_all (options_asked c.args.asked.now).partitions c.serve_over-kits.result.1 c.requires.partitions.0 c.serve_over-kits.ensures.kind
          (disk_within _ (λ q. q < (options_asked c.args.asked.now).partitions) c.serve_over-kits.result.1 (λ q d. d.0) c.serve_over-kits.ensures.disk)
          (damaged_within (λ q damage. (q < (options_asked c.args.asked.now).partitions) × IsMetIn g.row.H-Store.Denot g.row.H-Store-Watch.Denot g.H.Store.Device.Device.history g.H.Store.Frozen.Frozen.content
          (partition_at q (options_asked c.args.asked.now).partitions) damage) (λ q damage. q < (options_asked c.args.asked.now).partitions) c.serve_over-kits.result.1 (λ q damage here. here.0) c.serve_over-kits.ensures.damaged));
      none_fell = rw kits (
        c.open_all.ensures.faults,
        none_fell_all (eyes g.H.Store.Store.history g.H.Store.Device.Device.history g.H.Store.Frozen.Frozen.content
            g.H.Store.Device.Device.name g.H.Store.Frozen.Frozen.size g.H.Store.Watch.Watch.counts) (λ (kit : Kit _ _ _ _). g.H.Store.Store.history kit.store)
            (faults_in g.H.Store.Watch.Watch.counts) (options_asked c.args.asked.now) (g.H.Shelf.files c.args.shelf.now) (g.H.Shelf.kit_faults c.args.shelf.now)
            c.open_all.new.engines opened c.serve_over-kits.result.0.items c.serve_over-kits.ensures.counts,
      );
      others = rw (kits, c.serve_over-kits.ensures.kits, ← all) (λ other behind. c.open_all.ensures.others other behind);
      next = rw (kits, c.serve_over-kits.ensures.kits, ← all) (inl c.in-Ok-open_all.ensures.next);
      unasked = rw kits (λ none. absurd (omega (arith, ap length none, c.serve_over-kits.ensures.kits, c.requires.partitions.0)));
    }

pub returns-in-Ok-open_all-clause-cause : goal.returns-in-Ok-open_all-clause-cause
returns-in-Ok-open_all-clause-cause g c =
    let kits = ap (λ kits. kits.items) c.of-in-Ok-open_all.ensures.kits in
    let opened = subst (λ o. AreOpened (eyes g.H.Store.Store.history g.H.Store.Device.Device.history g.H.Store.Frozen.Frozen.content g.H.Store.Device.Device.name
    g.H.Store.Frozen.Frozen.size g.H.Store.Watch.Watch.counts) o (g.H.Shelf.files c.args.shelf.now) (g.H.Shelf.kit_faults c.args.shelf.now) c.open_all.new.engines)
    c.options_asked-options.ensures c.open_all.ensures.opened in
    let all : length c.open_all.new.engines ≡ (options_asked c.args.asked.now).partitions = c.in-Ok-open_all.ensures.all ∙ ap (λ (o : Options). o.partitions) c.options_asked-options.ensures in
    let Is : ℕ → Damage → Type 0 = λ q damage. IsMetIn g.row.H-Store.Denot g.row.H-Store-Watch.Denot g.H.Store.Device.Device.history g.H.Store.Frozen.Frozen.content (partition_at q (options_asked c.args.asked.now).partitions) damage in
    let met = damaged_within (λ q damage. (q < (options_asked c.args.asked.now).partitions) × Is q damage) Is c.serve_over-kits.result.1 (λ q damage here. here.1) c.serve_over-kits.ensures.damaged in
    record {
      usage = rw c.of-in-Ok-open_all.ensures.fault (λ same. absurd (usage_run c.serve_over-kits.result.1 c.serve_over-kits.ensures.kind same));
      read = rw c.of-in-Ok-open_all.ensures.fault (if_read (Rose (g.I.Source.faults c.args.source.now) (g.I.Source.faults c.serve_over-kits.new.source)) c.serve_over-kits.result.1 c.serve_over-kits.ensures.read);
      write = rw c.of-in-Ok-open_all.ensures.fault c.serve_over-kits.ensures.write;
      disk = rw (c.of-in-Ok-open_all.ensures.fault, kits) (disk_all (eyes g.H.Store.Store.history g.H.Store.Device.Device.history g.H.Store.Frozen.Frozen.content
          g.H.Store.Device.Device.name g.H.Store.Frozen.Frozen.size g.H.Store.Watch.Watch.counts) (λ (kit : Kit _ _ _ _). g.H.Store.Store.history kit.store)
          (faults_in g.H.Store.Watch.Watch.counts) (options_asked c.args.asked.now) (g.H.Shelf.files c.args.shelf.now) (g.H.Shelf.kit_faults c.args.shelf.now)
          c.open_all.new.engines opened (g.H.Shelf.faults c.args.shelf.now) (g.H.Shelf.faults c.open_all.new.shelf) c.serve_over-kits.result.0.items
          c.serve_over-kits.result.1
          (disk_within _ (λ q. (q < length c.open_all.new.engines) × AtEach
          (λ p e k. p ≡ q → OneRose (faults_at g.H.Store.Watch.Watch.counts e) (faults_in g.H.Store.Watch.Watch.counts k)) 0 c.open_all.new.engines
          c.serve_over-kits.result.0.items) c.serve_over-kits.result.1 (λ q d. (subst (λ n. q < n) (sym all) d.0, d.1)) c.serve_over-kits.ensures.disk));
      judged = rw (c.of-in-Ok-open_all.ensures.fault, kits) (judged_all (eyes g.H.Store.Store.history g.H.Store.Device.Device.history g.H.Store.Frozen.Frozen.content
          g.H.Store.Device.Device.name g.H.Store.Frozen.Frozen.size g.H.Store.Watch.Watch.counts)
          (λ (kit : Kit g.row.H-Store.Denot g.row.H-Store-Watch.Denot g.row.H-Store-Device.Denot g.row.H-Store-Frozen.Denot). g.H.Store.Store.history kit.store)
          (faults_in g.H.Store.Watch.Watch.counts) (options_asked c.args.asked.now) (g.H.Shelf.files c.args.shelf.now) (g.H.Shelf.kit_faults c.args.shelf.now)
          c.open_all.new.engines opened (IsMetIn g.row.H-Store.Denot g.row.H-Store-Watch.Denot g.H.Store.Device.Device.history g.H.Store.Frozen.Frozen.content) g.H.Store.Frozen.Frozen.name
          c.serve_over-kits.result.0.items c.serve_over-kits.result.1 all c.serve_over-kits.ensures.counts c.serve_over-kits.ensures.kind met);
      found = rw c.of-in-Ok-open_all.ensures.fault (found_run (IsMetIn g.row.H-Store.Denot g.row.H-Store-Watch.Denot g.H.Store.Device.Device.history g.H.Store.Frozen.Frozen.content)
          g.row.H-Store-Watch.Denot g.H.Store.Frozen.Frozen.size g.H.Store.Frozen.Frozen.content g.H.Store.Frozen.Frozen.name (options_asked c.args.asked.now).partitions c.serve_over-kits.result.1
          c.serve_over-kits.ensures.kind met);
      spent = rw (c.of-in-Ok-open_all.ensures.fault, kits) (λ is. ⊎_elim (λ input. inl input)
          (λ last. inr (spent_all (eyes g.H.Store.Store.history g.H.Store.Device.Device.history g.H.Store.Frozen.Frozen.content g.H.Store.Device.Device.name
          g.H.Store.Frozen.Frozen.size g.H.Store.Watch.Watch.counts) (λ (kit : Kit _ _ _ _). g.H.Store.Store.history kit.store) (faults_in g.H.Store.Watch.Watch.counts)
          (options_asked c.args.asked.now) (g.H.Shelf.files c.args.shelf.now) (g.H.Shelf.kit_faults c.args.shelf.now) c.open_all.new.engines opened
          c.serve_over-kits.result.0.items last)) (c.serve_over-kits.ensures.spent is));
    }

pub returns-in-Err-open_all-clause-ran : goal.returns-in-Err-open_all-clause-ran
returns-in-Err-open_all-clause-ran g c =
    let ks = map (λ (f : finished _ _ _ _). f.kit) c.close_all-closed.ensures.0 in
    let last = c.in-Err-open_all.field-0.kit in
    let same = c.close_all-closed.ensures.1 ∙ ap (λ more. ks ++ more) c.with_kit.ensures.items in
    let kits = ap (λ kits. kits.items) c.of-in-Err-open_all.ensures.kits ∙ same in
    let opened = subst (λ o. AreOpened (eyes g.H.Store.Store.history g.H.Store.Device.Device.history g.H.Store.Frozen.Frozen.content g.H.Store.Device.Device.name
    g.H.Store.Frozen.Frozen.size g.H.Store.Watch.Watch.counts) o (g.H.Shelf.files c.args.shelf.now) (g.H.Shelf.kit_faults c.args.shelf.now) c.open_all.new.engines)
    c.options_asked-options.ensures c.open_all.ensures.opened in
    let some : length c.open_all.new.engines < (options_asked c.args.asked.now).partitions = subst (λ (o : Options). length c.open_all.new.engines < o.partitions) c.options_asked-options.ensures c.in-Err-open_all.ensures.some in
    let back = subst (λ (o : Options). IfSome last (λ kit. IsGivenBack g.H.Store.Frozen.Frozen.content g.H.Store.Frozen.Frozen.name (partition_at (length c.open_all.new.engines) o.partitions)
    (g.H.Shelf.files c.args.shelf.now (length c.open_all.new.engines)) (g.H.Shelf.kit_faults c.args.shelf.now (length c.open_all.new.engines))
    c.in-Err-open_all.field-0.fault (g.H.Store.Store.history kit.store) (faults_in g.H.Store.Watch.Watch.counts kit))) c.options_asked-options.ensures
    c.in-Err-open_all.ensures.back in
    let b = given_back_all (eyes g.H.Store.Store.history g.H.Store.Device.Device.history g.H.Store.Frozen.Frozen.content g.H.Store.Device.Device.name
    g.H.Store.Frozen.Frozen.size g.H.Store.Watch.Watch.counts) g.H.Store.Frozen.Frozen.name g.H.Store.Device.Device.size (λ (kit : Kit _ _ _ _). g.H.Store.Store.history kit.store)
    (faults_in g.H.Store.Watch.Watch.counts) (options_asked c.args.asked.now) (g.H.Shelf.files c.args.shelf.now) (g.H.Shelf.kit_faults c.args.shelf.now)
    (g.H.Shelf.faults c.args.shelf.now) (g.H.Shelf.faults c.open_all.new.shelf) c.open_all.new.engines ks last c.in-Err-open_all.field-0.fault some opened
    (kits_ended (eyes g.H.Store.Store.history g.H.Store.Device.Device.history g.H.Store.Frozen.Frozen.content g.H.Store.Device.Device.name
    g.H.Store.Frozen.Frozen.size g.H.Store.Watch.Watch.counts) g.H.Store.Device.Device.size (λ (f : finished _ _ _ _). f.kit) (λ (f : finished _ _ _ _). f.outcome)
    (λ (kit : Kit _ _ _ _). g.H.Store.Store.history kit.store) (faults_in g.H.Store.Watch.Watch.counts) c.open_all.new.engines c.close_all-closed.ensures.0
    c.close_all-closed.ensures.3) back c.in-Err-open_all.ensures.not_given in
    rw (c.of-in-Err-open_all.ensures.fault, kits) (λ first begins. asked_unopened c.args.asked.now c.in-Err-open_all.field-0.fault first (g.H.Shelf.files c.args.shelf.now) (g.I.Source.left c.args.source.now) (g.O.Sink.taken c.args.sink.now) _ b.by begins (b.sound first begins) b.few b.keep)

pub returns-in-Err-open_all-clause-back : goal.returns-in-Err-open_all-clause-back
returns-in-Err-open_all-clause-back g c =
    let ks = map (λ (f : finished _ _ _ _). f.kit) c.close_all-closed.ensures.0 in
    let last = c.in-Err-open_all.field-0.kit in
    let same = c.close_all-closed.ensures.1 ∙ ap (λ more. ks ++ more) c.with_kit.ensures.items in
    let kits = ap (λ kits. kits.items) c.of-in-Err-open_all.ensures.kits ∙ same in
    let opened = subst (λ o. AreOpened (eyes g.H.Store.Store.history g.H.Store.Device.Device.history g.H.Store.Frozen.Frozen.content g.H.Store.Device.Device.name
    g.H.Store.Frozen.Frozen.size g.H.Store.Watch.Watch.counts) o (g.H.Shelf.files c.args.shelf.now) (g.H.Shelf.kit_faults c.args.shelf.now) c.open_all.new.engines)
    c.options_asked-options.ensures c.open_all.ensures.opened in
    let some : length c.open_all.new.engines < (options_asked c.args.asked.now).partitions = subst (λ (o : Options). length c.open_all.new.engines < o.partitions) c.options_asked-options.ensures c.in-Err-open_all.ensures.some in
    let back = subst (λ (o : Options). IfSome last (λ kit. IsGivenBack g.H.Store.Frozen.Frozen.content g.H.Store.Frozen.Frozen.name (partition_at (length c.open_all.new.engines) o.partitions)
    (g.H.Shelf.files c.args.shelf.now (length c.open_all.new.engines)) (g.H.Shelf.kit_faults c.args.shelf.now (length c.open_all.new.engines))
    c.in-Err-open_all.field-0.fault (g.H.Store.Store.history kit.store) (faults_in g.H.Store.Watch.Watch.counts kit))) c.options_asked-options.ensures
    c.in-Err-open_all.ensures.back in
    let b = given_back_all (eyes g.H.Store.Store.history g.H.Store.Device.Device.history g.H.Store.Frozen.Frozen.content g.H.Store.Device.Device.name
    g.H.Store.Frozen.Frozen.size g.H.Store.Watch.Watch.counts) g.H.Store.Frozen.Frozen.name g.H.Store.Device.Device.size (λ (kit : Kit _ _ _ _). g.H.Store.Store.history kit.store)
    (faults_in g.H.Store.Watch.Watch.counts) (options_asked c.args.asked.now) (g.H.Shelf.files c.args.shelf.now) (g.H.Shelf.kit_faults c.args.shelf.now)
    (g.H.Shelf.faults c.args.shelf.now) (g.H.Shelf.faults c.open_all.new.shelf) c.open_all.new.engines ks last c.in-Err-open_all.field-0.fault some opened
    (kits_ended (eyes g.H.Store.Store.history g.H.Store.Device.Device.history g.H.Store.Frozen.Frozen.content g.H.Store.Device.Device.name
    g.H.Store.Frozen.Frozen.size g.H.Store.Watch.Watch.counts) g.H.Store.Device.Device.size (λ (f : finished _ _ _ _). f.kit) (λ (f : finished _ _ _ _). f.outcome)
    (λ (kit : Kit _ _ _ _). g.H.Store.Store.history kit.store) (faults_in g.H.Store.Watch.Watch.counts) c.open_all.new.engines c.close_all-closed.ensures.0
    c.close_all-closed.ensures.3) back c.in-Err-open_all.ensures.not_given in
    let many = length-map (ks ++ option_to_list last) (λ (kit : Kit _ _ _ _). g.H.Store.Store.history kit.store) in
    let placed = last_many (λ (p : ℕ) e (kit : Kit _ _ _ _). IsEnded
    (eyes g.H.Store.Store.history g.H.Store.Device.Device.history g.H.Store.Frozen.Frozen.content g.H.Store.Device.Device.name g.H.Store.Frozen.Frozen.size
    g.H.Store.Watch.Watch.counts) g.H.Store.Device.Device.size (λ (kit : Kit _ _ _ _). g.H.Store.Store.history kit.store) (faults_in g.H.Store.Watch.Watch.counts)
    e kit) c.open_all.new.engines ks last (ks ++ option_to_list last) refl
    (kits_ended (eyes g.H.Store.Store.history g.H.Store.Device.Device.history g.H.Store.Frozen.Frozen.content g.H.Store.Device.Device.name
    g.H.Store.Frozen.Frozen.size g.H.Store.Watch.Watch.counts) g.H.Store.Device.Device.size (λ (f : finished _ _ _ _). f.kit) (λ (f : finished _ _ _ _). f.outcome)
    (λ (kit : Kit _ _ _ _). g.H.Store.Store.history kit.store) (faults_in g.H.Store.Watch.Watch.counts) c.open_all.new.engines c.close_all-closed.ensures.0
    c.close_all-closed.ensures.3) in
    record {
      few = rw kits (omega (arith, many, b.few));
      asked = rw (c.of-in-Err-open_all.ensures.fault, kits) (subst (AreAsked (options_asked c.args.asked.now).partitions (Some c.in-Err-open_all.field-0.fault)) many b.asked);
      none_fell = rw kits (c.open_all.ensures.faults, b.none_fell);
      others = rw kits (others_back (λ other. (g.H.Shelf.files c.open_all.new.shelf other ≡ g.H.Shelf.files c.args.shelf.now other)
          × (g.H.Shelf.kit_faults c.open_all.new.shelf other ≡ g.H.Shelf.kit_faults c.args.shelf.now other)) (length c.open_all.new.engines)
          (length (ks ++ option_to_list last)) last placed c.open_all.ensures.others);
      next = rw kits (next_back (λ other. (g.H.Shelf.files c.open_all.new.shelf other ≡ g.H.Shelf.files c.args.shelf.now other)
          × (g.H.Shelf.kit_faults c.open_all.new.shelf other ≡ g.H.Shelf.kit_faults c.args.shelf.now other))
          (Rose (g.H.Shelf.faults c.args.shelf.now) (g.H.Shelf.faults c.open_all.new.shelf)) (options_asked c.args.asked.now).partitions (length c.open_all.new.engines)
          (length (ks ++ option_to_list last)) c.in-Err-open_all.field-0.fault last placed some c.open_all.ensures.others c.in-Err-open_all.ensures.unasked
          c.in-Err-open_all.ensures.not_given);
      unasked = rw kits (unasked_back _ (Rose (g.H.Shelf.faults c.args.shelf.now) (g.H.Shelf.faults c.open_all.new.shelf)) c.open_all.new.engines (ks ++ option_to_list last)
          (length c.open_all.new.engines) c.in-Err-open_all.field-0.fault last refl placed c.in-Err-open_all.ensures.not_given c.in-Err-open_all.ensures.same);
    }

pub returns-in-Err-open_all-clause-cause : goal.returns-in-Err-open_all-clause-cause
returns-in-Err-open_all-clause-cause g c =
    let ends = ends_unopened (Rose (g.H.Shelf.faults c.args.shelf.now) (g.H.Shelf.faults c.open_all.new.shelf))
    (partition_at (length c.open_all.new.engines) c.options_asked-options.result.partitions) (length c.open_all.new.engines) c.in-Err-open_all.field-0.fault
    (λ (kit : Kit g.row.H-Store.Denot g.row.H-Store-Watch.Denot g.row.H-Store-Device.Denot g.row.H-Store-Frozen.Denot). IsGivenBack g.H.Store.Frozen.Frozen.content g.H.Store.Frozen.Frozen.name
    (partition_at (length c.open_all.new.engines) c.options_asked-options.result.partitions) (g.H.Shelf.files c.args.shelf.now (length c.open_all.new.engines))
    (g.H.Shelf.kit_faults c.args.shelf.now (length c.open_all.new.engines)) c.in-Err-open_all.field-0.fault (g.H.Store.Store.history kit.store)
    (faults_in g.H.Store.Watch.Watch.counts kit)) c.in-Err-open_all.field-0.kit (λ kit b. b.of) c.in-Err-open_all.ensures.back
    c.in-Err-open_all.ensures.not_given in
    let ks = map (λ (f : finished _ _ _ _). f.kit) c.close_all-closed.ensures.0 in
    let last = c.in-Err-open_all.field-0.kit in
    let same = c.close_all-closed.ensures.1 ∙ ap (λ more. ks ++ more) c.with_kit.ensures.items in
    let kits = ap (λ kits. kits.items) c.of-in-Err-open_all.ensures.kits ∙ same in
    let opened = subst (λ o. AreOpened (eyes g.H.Store.Store.history g.H.Store.Device.Device.history g.H.Store.Frozen.Frozen.content g.H.Store.Device.Device.name
    g.H.Store.Frozen.Frozen.size g.H.Store.Watch.Watch.counts) o (g.H.Shelf.files c.args.shelf.now) (g.H.Shelf.kit_faults c.args.shelf.now) c.open_all.new.engines)
    c.options_asked-options.ensures c.open_all.ensures.opened in
    let some : length c.open_all.new.engines < (options_asked c.args.asked.now).partitions = subst (λ (o : Options). length c.open_all.new.engines < o.partitions) c.options_asked-options.ensures c.in-Err-open_all.ensures.some in
    let back = subst (λ (o : Options). IfSome last (λ kit. IsGivenBack g.H.Store.Frozen.Frozen.content g.H.Store.Frozen.Frozen.name (partition_at (length c.open_all.new.engines) o.partitions)
    (g.H.Shelf.files c.args.shelf.now (length c.open_all.new.engines)) (g.H.Shelf.kit_faults c.args.shelf.now (length c.open_all.new.engines))
    c.in-Err-open_all.field-0.fault (g.H.Store.Store.history kit.store) (faults_in g.H.Store.Watch.Watch.counts kit))) c.options_asked-options.ensures
    c.in-Err-open_all.ensures.back in
    let b = given_back_all (eyes g.H.Store.Store.history g.H.Store.Device.Device.history g.H.Store.Frozen.Frozen.content g.H.Store.Device.Device.name
    g.H.Store.Frozen.Frozen.size g.H.Store.Watch.Watch.counts) g.H.Store.Frozen.Frozen.name g.H.Store.Device.Device.size (λ (kit : Kit _ _ _ _). g.H.Store.Store.history kit.store)
    (faults_in g.H.Store.Watch.Watch.counts) (options_asked c.args.asked.now) (g.H.Shelf.files c.args.shelf.now) (g.H.Shelf.kit_faults c.args.shelf.now)
    (g.H.Shelf.faults c.args.shelf.now) (g.H.Shelf.faults c.open_all.new.shelf) c.open_all.new.engines ks last c.in-Err-open_all.field-0.fault some opened
    (kits_ended (eyes g.H.Store.Store.history g.H.Store.Device.Device.history g.H.Store.Frozen.Frozen.content g.H.Store.Device.Device.name
    g.H.Store.Frozen.Frozen.size g.H.Store.Watch.Watch.counts) g.H.Store.Device.Device.size (λ (f : finished _ _ _ _). f.kit) (λ (f : finished _ _ _ _). f.outcome)
    (λ (kit : Kit _ _ _ _). g.H.Store.Store.history kit.store) (faults_in g.H.Store.Watch.Watch.counts) c.open_all.new.engines c.close_all-closed.ensures.0
    c.close_all-closed.ensures.3) back c.in-Err-open_all.ensures.not_given in
    record {
      usage = rw c.of-in-Err-open_all.ensures.fault (λ same. absurd (no_usage c.in-Err-open_all.field-0.fault ends same));
      read = rw c.of-in-Err-open_all.ensures.fault (no_read c.in-Err-open_all.field-0.fault ends);
      write = rw c.of-in-Err-open_all.ensures.fault (no_write c.in-Err-open_all.field-0.fault ends);
      disk = rw (c.of-in-Err-open_all.ensures.fault, kits) b.disk;
      judged = rw (c.of-in-Err-open_all.ensures.fault, kits) (all_judged_met (IsMetIn g.row.H-Store.Denot g.row.H-Store-Watch.Denot g.H.Store.Device.Device.history g.H.Store.Frozen.Frozen.content)
          g.H.Store.Frozen.Frozen.content g.H.Store.Frozen.Frozen.name (options_asked c.args.asked.now).partitions (g.H.Shelf.files c.args.shelf.now) c.in-Err-open_all.field-0.fault _ b.judged);
      found = rw c.of-in-Err-open_all.ensures.fault (found_met (IsMetIn g.row.H-Store.Denot g.row.H-Store-Watch.Denot g.H.Store.Device.Device.history g.H.Store.Frozen.Frozen.content)
          g.row.H-Store-Watch.Denot g.H.Store.Frozen.Frozen.size g.H.Store.Frozen.Frozen.content g.H.Store.Frozen.Frozen.name (options_asked c.args.asked.now).partitions c.in-Err-open_all.field-0.fault
          (subst (λ (o : Options). HasFilesCause nothing_met g.row.H-Store-Watch.Denot g.H.Store.Frozen.Frozen.size g.H.Store.Frozen.Frozen.content g.H.Store.Frozen.Frozen.name o.partitions c.in-Err-open_all.field-0.fault) c.options_asked-options.ensures
          c.in-Err-open_all.ensures.found));
      spent = rw (c.of-in-Err-open_all.ensures.fault, kits) (λ is. inr (b.spent (cc)));
    }

pub returns-in-Err-new-clause-ran : goal.returns-in-Err-new-clause-ran
returns-in-Err-new-clause-ran g c =
    let none = ap (λ kits. kits.items) c.of-in-Err-new.ensures.kits ∙ c.in-Ok.ensures.items in
    rw (c.of-in-Err-new.ensures.fault, none) (λ first begins. asked_without_room c.args.asked.now first (g.H.Shelf.files c.args.shelf.now) (g.I.Source.left c.args.source.now) (g.O.Sink.taken c.args.sink.now) begins)

pub returns-in-Err-new-clause-back : goal.returns-in-Err-new-clause-back
returns-in-Err-new-clause-back g c =
    let none = ap (λ kits. kits.items) c.of-in-Err-new.ensures.kits ∙ c.in-Ok.ensures.items in
    rw (c.of-in-Err-new.ensures.fault, none) (nothing_back refl (options_asked c.args.asked.now).partitions (g.H.Shelf.faults c.args.shelf.now) (g.H.Shelf.files c.args.shelf.now) (g.H.Shelf.kit_faults c.args.shelf.now) Memory _ (inr refl))

pub returns-in-Err-new-clause-cause : goal.returns-in-Err-new-clause-cause
returns-in-Err-new-clause-cause g c =
    let none = ap (λ kits. kits.items) c.of-in-Err-new.ensures.kits ∙ c.in-Ok.ensures.items in
    rw (c.of-in-Err-new.ensures.fault, none) (no_cause g.row.H-Store.Denot g.row.H-Store-Watch.Denot g.H.Store.Device.Device.history g.H.Store.Frozen.Frozen.content g.H.Store.Frozen.Frozen.name g.H.Store.Frozen.Frozen.size (Some c.args.asked.now) (g.I.Source.left c.args.source.now)
    (g.I.Source.faults c.args.source.now) (g.O.Sink.faults c.args.sink.now) (g.H.Shelf.faults c.args.shelf.now) (g.H.Shelf.files c.args.shelf.now) (g.H.Shelf.kit_faults c.args.shelf.now) Memory _ _
    (inr refl) (λ same. absurd (cc)))

pub serve_over-kits-requires-clause-room : goal.serve_over-kits-requires-clause-room
serve_over-kits-requires-clause-room g c κs within = omega (arith, c.in-Ok.ensures.capacity, ap (λ (o : Options). o.partitions) c.options_asked-options.ensures)

pub with_kit-requires-clause-none : goal.with_kit-requires-clause-none
with_kit-requires-clause-none g c κs within = c.in-Ok.ensures.items

pub with_kit-requires-clause-room : goal.with_kit-requires-clause-room
with_kit-requires-clause-room g c κs within = omega (arith, c.in-Ok.ensures.len, c.in-Ok.ensures.capacity, ap (λ (o : Options). o.partitions) c.options_asked-options.ensures, c.requires.partitions.0)

pub close_all-closed-requires-clause-few : goal.close_all-closed-requires-clause-few
close_all-closed-requires-clause-few g c κs within = omega (arith, c.in-Err-open_all.ensures.some, ap (λ (o : Options). o.partitions) c.options_asked-options.ensures, c.requires.partitions.1)

pub close_all-closed-requires-clause-room : goal.close_all-closed-requires-clause-room
close_all-closed-requires-clause-room g c κs within =
    omega (arith, ap length c.with_kit.ensures.items, c.with_kit.result.ok.0, one_at_most c.in-Err-open_all.field-0.kit, c.with_kit.ensures.room, c.in-Ok.ensures.capacity, c.in-Err-open_all.ensures.some)

pub close_all-closed-requires-clause-readers : goal.close_all-closed-requires-clause-readers
close_all-closed-requires-clause-readers g c κs within =
    let begun = all_begun (eyes g.H.Store.Store.history g.H.Store.Device.Device.history g.H.Store.Frozen.Frozen.content g.H.Store.Device.Device.name
    g.H.Store.Frozen.Frozen.size g.H.Store.Watch.Watch.counts) (λ
    (kit : Kit g.row.H-Store.Denot g.row.H-Store-Watch.Denot g.row.H-Store-Device.Denot g.row.H-Store-Frozen.Denot). g.H.Store.Store.history kit.store)
    (faults_in g.H.Store.Watch.Watch.counts) (options_asked c.args.asked.now) (g.H.Shelf.files c.args.shelf.now) (g.H.Shelf.kit_faults c.args.shelf.now)
    c.open_all.new.engines (subst (λ o. AreOpened (eyes g.H.Store.Store.history g.H.Store.Device.Device.history g.H.Store.Frozen.Frozen.content
    g.H.Store.Device.Device.name g.H.Store.Frozen.Frozen.size g.H.Store.Watch.Watch.counts) o (g.H.Shelf.files c.args.shelf.now)
    (g.H.Shelf.kit_faults c.args.shelf.now) c.open_all.new.engines) c.options_asked-options.ensures c.open_all.ensures.opened) in
    readers_home c.open_all.new.engines (unwritten_all (eyes g.H.Store.Store.history g.H.Store.Device.Device.history g.H.Store.Frozen.Frozen.content g.H.Store.Device.Device.name g.H.Store.Frozen.Frozen.size g.H.Store.Watch.Watch.counts) (options_asked c.args.asked.now) c.open_all.new.engines begun)

-- ---- no file is out

pub returns-in-Err-clause-home : goal.returns-in-Err-clause-home
returns-in-Err-clause-home g c =
    let none = ap (λ kits. kits.items) c.of.ensures.kits ∙ c.new.ensures.items in
    rw none (All-nil (λ (kit : Kit _ _ _ _). IfTold (g.H.Store.Store.history kit.store) AreIn))

pub returns-in-Err-with_capacity-clause-home : goal.returns-in-Err-with_capacity-clause-home
returns-in-Err-with_capacity-clause-home g c =
    let none = ap (λ kits. kits.items) c.of-in-Err-with_capacity.ensures.kits ∙ c.in-Ok.ensures.items in
    rw none (All-nil (λ (kit : Kit _ _ _ _). IfTold (g.H.Store.Store.history kit.store) AreIn))

pub returns-in-Err-new-clause-home : goal.returns-in-Err-new-clause-home
returns-in-Err-new-clause-home g c =
    let none = ap (λ kits. kits.items) c.of-in-Err-new.ensures.kits ∙ c.in-Ok.ensures.items in
    rw none (All-nil (λ (kit : Kit _ _ _ _). IfTold (g.H.Store.Store.history kit.store) AreIn))

pub returns-in-Ok-open_all-clause-home : goal.returns-in-Ok-open_all-clause-home
returns-in-Ok-open_all-clause-home g c = rw (ap (λ kits. kits.items) c.of-in-Ok-open_all.ensures.kits) c.serve_over-kits.ensures.home

pub returns-in-Err-open_all-clause-home : goal.returns-in-Err-open_all-clause-home
returns-in-Err-open_all-clause-home g c =
    let ended = c.close_all-closed.ensures.0 in
    let ks = map (λ (f : finished _ _ _ _). f.kit) ended in
    let last = c.in-Err-open_all.field-0.kit in
    let same = c.close_all-closed.ensures.1 ∙ ap (λ more. ks ++ more) c.with_kit.ensures.items in
    let kits = ap (λ kits. kits.items) c.of-in-Err-open_all.ensures.kits ∙ same in
    let Home : Kit _ _ _ _ → Type 0 = λ kit. IfTold (g.H.Store.Store.history kit.store) AreIn in
    rw kits (kits_all Home ks last
    (kits_closed (λ p e (f : finished _ _ _ _). IsClosed (eyes g.H.Store.Store.history g.H.Store.Device.Device.history g.H.Store.Frozen.Frozen.content
    g.H.Store.Device.Device.name g.H.Store.Frozen.Frozen.size g.H.Store.Watch.Watch.counts) g.H.Store.Device.Device.size e f.outcome
    (g.H.Store.Store.history f.kit.store) (faults_in g.H.Store.Watch.Watch.counts f.kit)) Home (λ (f : finished _ _ _ _). f.kit) c.open_all.new.engines ended
    (λ p e f is. is.home) c.close_all-closed.ensures.3)
    (IfSome_then last c.in-Err-open_all.ensures.back (λ kit back. back.home)))
