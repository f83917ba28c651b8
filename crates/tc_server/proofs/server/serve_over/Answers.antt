use Rattle.std.proofs.Common.{◌≡◌, ◌<◌, ◌∙◌, ◌++◌, ℕ, List, append-nil, arith, length, refl, ap, sym, subst, inl, inr, ⊎_elim}
use Rattle.std.proofs.lemmas.List.{length-map}
use Rattle.std.specs.Prelude.{map}
use Rattle.tc_bytes.specs.Counts.{Rose}
use Rattle.tc_keeper.specs.Places.{AtEach}
use Rattle.tc_keeper.proofs.PlaceLaws.{at_each-length, at_each-reads, at_each-so}
use Rattle.tc_keeper.specs.Standing.{partition_at, KeepWorlds}
use Rattle.tc_keeper.specs.WithJobs.{settings, WithJobs}
use Rattle.tc_open.specs.BeingOpened.{AreIn}
use Rattle.tc_store.specs.Moments.{IfTold}
use Rattle.tc_store.specs.declared.damage.Damage.{Damage}
use Rattle.tc_store.specs.declared.kit.Kit.{Kit}
use Rattle.tc_work.specs.Moving.{eyes}
use Rattle.tc_work.specs.declared.finishing.Finished.{Finished as finished}
use Rattle.tc_keeper.specs.Calls.{faults_at, IsSpent, Rests}
use Rattle.tc_keeper.specs.Partitions.{StandAt}
use Rattle.tc_keeper.specs.Faults.{fault_in, faults_in, IfDamaged, IfDisk, IsOfRun, IsWrite, NoneFell, OneRose}
use Rattle.tc_keeper.specs.Keeping.{IsMetIn}
use Rattle.tc_server.specs.KitCauses.{HasLastGeneration}
use Rattle.tc_server.specs.Kits.{fault_behind, least_fault, IsClosed}
use Rattle.tc_server.specs.OverFiles.{AskedOver}
use Rattle.tc_keeper.specs.declared.fault.RunFault.TheVariants.{Read}
use Rattle.tc_words.specs.Options.{options_asked}
use Rattle.tc_server.proofs.ClosedKits.{kits_closed}
use Rattle.tc_server.proofs.ClosingFaults.{behind_so, closed_over, ended_so, job_of_run, never_read, never_write, spent_behind}
use Rattle.tc_keeper.proofs.EachLaws.{some-map}
use Rattle.tc_server.proofs.KitsLeft.{ended_stores}
use Rattle.tc_server.proofs.OverEngines.{as_many_engines, as_many_parts, begins_asked, counts_over, damaged_ended, damaged_over, disk_ended, disk_over, ended_of, ended_sound, kits_left, last_left, ok_where, unwritten_all}
use Rattle.tc_server.proofs.RunKits.{disk_within}
use Rattle.tc_server.proofs.server.serve_over.Goals as goal

pub answer_over-engines-requires-clause-works : goal.answer_over-engines-requires-clause-works
answer_over-engines-requires-clause-works g c κs within =
    begins_asked (eyes g.S.Store.history g.S.Device.Device.history g.S.Frozen.Frozen.content g.S.Device.Device.name g.S.Frozen.Frozen.size g.S.Watch.Watch.counts)
    (options_asked c.args.asked.now) c.args.engines c.requires.all c.requires.partitions.0
    c.requires.partitions.1 c.requires.begun

pub answer_over-engines-requires-clause-unwritten : goal.answer_over-engines-requires-clause-unwritten
answer_over-engines-requires-clause-unwritten g c κs within =
    unwritten_all (eyes g.S.Store.history g.S.Device.Device.history g.S.Frozen.Frozen.content g.S.Device.Device.name g.S.Frozen.Frozen.size
    g.S.Watch.Watch.counts) (options_asked c.args.asked.now) c.args.engines c.requires.begun

pub close_all-closed-requires-clause-readers : goal.close_all-closed-requires-clause-readers
close_all-closed-requires-clause-readers g c κs within = c.answer_over-engines.ensures.readers

pub close_all-closed-requires-clause-few : goal.close_all-closed-requires-clause-few
close_all-closed-requires-clause-few g c κs within =
    let many = as_many_engines c.args.engines c.answer_over-engines.result.0 c.answer_over-engines.ensures.settings ∙ c.requires.all in
    omega (arith, many, c.requires.partitions.1)

pub close_all-closed-requires-clause-room : goal.close_all-closed-requires-clause-room
close_all-closed-requires-clause-room g c κs within =
    let many = as_many_engines c.args.engines c.answer_over-engines.result.0 c.answer_over-engines.ensures.settings ∙ c.requires.all in
    omega (arith, many, ap length c.requires.none, c.args.kits.ok.0, c.requires.room)

pub returns-clause-ran : goal.returns-clause-ran
returns-clause-ran g c =
    let options = options_asked c.args.asked.now in
    let es = c.args.engines in
    let es' = c.answer_over-engines.result.0 in
    let ended = c.close_all-closed.ensures.0 in
    let items = c.close_all-closed.ensures.1 ∙ ap (λ more. map (λ (f : finished _ _ _ _). f.kit) ended ++ more) c.requires.none ∙ append-nil (map (λ (f : finished _ _ _ _). f.kit) ended) in
    let closed = c.close_all-closed.ensures.3 in
    let laws = g.met.S.Device.Device g.world.𝓛 g.world.𝓜 g.world.𝓡 ((λ s x. x), (λ x. x), (λ x. x), λ x. x) in
    let fault = c.fault_of.ensures ∙ ap (fault_behind c.answer_over-engines.result.1) c.close_all-closed.ensures.2 in
    rw (fault, items) (λ first files begins stands.
    subst (λ kits. AskedOver c.args.asked.now (fault_behind c.answer_over-engines.result.1 (least_fault 0 (map (λ (f : finished _ _ _ _). f.outcome) ended))) first
    files (g.I.Source.left c.args.source.now) (g.I.Source.left c.answer_over-engines.new.source) (g.O.Sink.taken c.args.sink.now)
    (g.O.Sink.taken c.answer_over-engines.new.sink) kits) (sym (ended_stores g.S.Store.history ended))
    (closed_over (StandAt (eyes g.S.Store.history g.S.Device.Device.history g.S.Frozen.Frozen.content g.S.Device.Device.name g.S.Frozen.Frozen.size
    g.S.Watch.Watch.counts)) (λ es only. KeepWorlds (eyes g.S.Store.history g.S.Device.Device.history g.S.Frozen.Frozen.content g.S.Device.Device.name g.S.Frozen.Frozen.size
    g.S.Watch.Watch.counts) only es) (Rests g.S.Device.Device.size es') (IsSpent g.S.Store.history g.S.Device.Device.history g.S.Frozen.Frozen.content) c.args.asked.now
    c.answer_over-engines.result.1 (least_fault 0 (map (λ (f : finished _ _ _ _). f.outcome) ended)) first files options.window
    (g.I.Source.left c.args.source.now) (g.I.Source.left c.answer_over-engines.new.source) (g.O.Sink.taken c.args.sink.now)
    (g.O.Sink.taken c.answer_over-engines.new.sink) es' (map (λ (f : finished _ _ _ _). g.S.Store.history f.kit.store) ended)
    refl
    (kits_left (eyes g.S.Store.history g.S.Device.Device.history g.S.Frozen.Frozen.content g.S.Device.Device.name g.S.Frozen.Frozen.size g.S.Watch.Watch.counts)
    g.S.Device.Device.size (λ (f : finished _ _ _ _). f.outcome) (λ (f : finished _ _ _ _). g.S.Store.history f.kit.store)
    (λ (f : finished _ _ _ _). faults_in g.S.Watch.Watch.counts f.kit) es' ended closed options es (λ e. laws.told_size e.engine.part.log.device)
    c.requires.all c.requires.merge.0 c.requires.merge.1 c.requires.memory c.requires.begun c.answer_over-engines.ensures.settings)
    (λ none. ok_where c.answer_over-engines.result.1 none c.answer_over-engines.ensures.rests)
    (as_many_parts (eyes g.S.Store.history g.S.Device.Device.history g.S.Frozen.Frozen.content g.S.Device.Device.name g.S.Frozen.Frozen.size g.S.Watch.Watch.counts) options.partitions c.args.engines first c.requires.all stands)
    c.answer_over-engines.ensures.cause.kind
    (ended_of (eyes g.S.Store.history g.S.Device.Device.history g.S.Frozen.Frozen.content g.S.Device.Device.name g.S.Frozen.Frozen.size g.S.Watch.Watch.counts)
    g.S.Device.Device.size (λ (f : finished _ _ _ _). f.outcome) (λ (f : finished _ _ _ _). g.S.Store.history f.kit.store)
    (λ (f : finished _ _ _ _). faults_in g.S.Watch.Watch.counts f.kit) es' ended closed)
    (λ rests only v many at. ended_sound (eyes g.S.Store.history g.S.Device.Device.history g.S.Frozen.Frozen.content g.S.Device.Device.name g.S.Frozen.Frozen.size
    g.S.Watch.Watch.counts) g.S.Device.Device.size (λ (f : finished _ _ _ _). f.outcome) (λ (f : finished _ _ _ _). g.S.Store.history f.kit.store)
    (λ (f : finished _ _ _ _). faults_in g.S.Watch.Watch.counts f.kit) es' ended closed rests only v at)
    (c.answer_over-engines.ensures.ran first begins stands)))

pub returns-clause-prompt : goal.returns-clause-prompt
returns-clause-prompt g c = λ first begins stands. c.answer_over-engines.ensures.prompt first begins stands

pub returns-clause-kits : goal.returns-clause-kits
returns-clause-kits g c =
    let es = c.args.engines in
    let es' = c.answer_over-engines.result.0 in
    let ended = c.close_all-closed.ensures.0 in
    let items = c.close_all-closed.ensures.1 ∙ ap (λ more. map (λ (f : finished _ _ _ _). f.kit) ended ++ more) c.requires.none ∙ append-nil (map (λ (f : finished _ _ _ _). f.kit) ended) in
    let closed = c.close_all-closed.ensures.3 in
    rw items (length-map ended (λ (f : finished _ _ _ _). f.kit) ∙ sym (at_each-length (λ p e f. _) 0 es' ended closed) ∙ as_many_engines es es' c.answer_over-engines.ensures.settings ∙ c.requires.all)

pub returns-clause-home : goal.returns-clause-home
returns-clause-home g c =
    let ended = c.close_all-closed.ensures.0 in
    let items = c.close_all-closed.ensures.1 ∙ ap (λ more. map (λ (f : finished _ _ _ _). f.kit) ended ++ more) c.requires.none ∙ append-nil (map (λ (f : finished _ _ _ _). f.kit) ended) in
    rw items (kits_closed (λ p e (f : finished _ _ _ _). IsClosed (eyes g.S.Store.history g.S.Device.Device.history g.S.Frozen.Frozen.content g.S.Device.Device.name g.S.Frozen.Frozen.size
    g.S.Watch.Watch.counts) g.S.Device.Device.size e f.outcome (g.S.Store.history f.kit.store) (faults_in g.S.Watch.Watch.counts f.kit))
    (λ (kit : Kit _ _ _ _). IfTold (g.S.Store.history kit.store) AreIn) (λ (f : finished _ _ _ _). f.kit) c.answer_over-engines.result.0 ended (λ p e f is. is.home) c.close_all-closed.ensures.3)

pub returns-clause-kind : goal.returns-clause-kind
returns-clause-kind g c =
    let es' = c.answer_over-engines.result.0 in
    let ended = c.close_all-closed.ensures.0 in
    let closed = c.close_all-closed.ensures.3 in
    rw (c.fault_of.ensures, c.close_all-closed.ensures.2) (behind_so IsOfRun c.answer_over-engines.result.1 _ c.answer_over-engines.ensures.cause.kind
    (λ none. ended_so IsOfRun _ job_of_run (ended_of (eyes g.S.Store.history g.S.Device.Device.history g.S.Frozen.Frozen.content g.S.Device.Device.name
    g.S.Frozen.Frozen.size g.S.Watch.Watch.counts) g.S.Device.Device.size (λ (f : finished _ _ _ _). f.outcome)
    (λ (f : finished _ _ _ _). g.S.Store.history f.kit.store) (λ (f : finished _ _ _ _). faults_in g.S.Watch.Watch.counts f.kit) es' ended closed)))

pub returns-clause-read : goal.returns-clause-read
returns-clause-read g c =
    let es' = c.answer_over-engines.result.0 in
    let ended = c.close_all-closed.ensures.0 in
    let closed = c.close_all-closed.ensures.3 in
    rw (c.fault_of.ensures, c.close_all-closed.ensures.2) (behind_so
    (λ f. f ≡ Read → Rose (g.I.Source.faults c.args.source.now) (g.I.Source.faults c.answer_over-engines.new.source)) c.answer_over-engines.result.1 _
    c.answer_over-engines.ensures.cause.read (λ none. ended_so _ _ (λ f of. never_read f of)
    (ended_of (eyes g.S.Store.history g.S.Device.Device.history g.S.Frozen.Frozen.content g.S.Device.Device.name g.S.Frozen.Frozen.size g.S.Watch.Watch.counts)
    g.S.Device.Device.size (λ (f : finished _ _ _ _). f.outcome) (λ (f : finished _ _ _ _). g.S.Store.history f.kit.store)
    (λ (f : finished _ _ _ _). faults_in g.S.Watch.Watch.counts f.kit) es' ended closed)))

pub returns-clause-write : goal.returns-clause-write
returns-clause-write g c =
    let es' = c.answer_over-engines.result.0 in
    let ended = c.close_all-closed.ensures.0 in
    let closed = c.close_all-closed.ensures.3 in
    rw (c.fault_of.ensures, c.close_all-closed.ensures.2) (behind_so
    (λ f. IsWrite f → Rose (g.O.Sink.faults c.args.sink.now) (g.O.Sink.faults c.answer_over-engines.new.sink)) c.answer_over-engines.result.1 _
    c.answer_over-engines.ensures.cause.failed (λ none. ended_so _ _ (λ f of. never_write f of)
    (ended_of (eyes g.S.Store.history g.S.Device.Device.history g.S.Frozen.Frozen.content g.S.Device.Device.name g.S.Frozen.Frozen.size g.S.Watch.Watch.counts)
    g.S.Device.Device.size (λ (f : finished _ _ _ _). f.outcome) (λ (f : finished _ _ _ _). g.S.Store.history f.kit.store)
    (λ (f : finished _ _ _ _). faults_in g.S.Watch.Watch.counts f.kit) es' ended closed)))

pub returns-clause-counts : goal.returns-clause-counts
returns-clause-counts g c =
    let es = c.args.engines in
    let es' = c.answer_over-engines.result.0 in
    let ended = c.close_all-closed.ensures.0 in
    let items = c.close_all-closed.ensures.1 ∙ ap (λ more. map (λ (f : finished _ _ _ _). f.kit) ended ++ more) c.requires.none ∙ append-nil (map (λ (f : finished _ _ _ _). f.kit) ended) in
    let closed = c.close_all-closed.ensures.3 in
    rw items (at_each-reads (λ (f : finished _ _ _ _). f.kit) (λ q e kit. NoneFell (faults_at g.S.Watch.Watch.counts e) (faults_in g.S.Watch.Watch.counts kit)) 0 c.args.engines ended
    (counts_over g.S.Watch.Watch.counts (λ (f : finished _ _ _ _). faults_in g.S.Watch.Watch.counts f.kit) es es' ended c.answer_over-engines.ensures.settings
    c.answer_over-engines.ensures.cause.stayed (at_each-so (λ p e f. _) _ 0 es' ended (λ p e f is. is.none_fell) closed)))

pub returns-clause-disk : goal.returns-clause-disk
returns-clause-disk g c =
    let es = c.args.engines in
    let es' = c.answer_over-engines.result.0 in
    let ended = c.close_all-closed.ensures.0 in
    let items = c.close_all-closed.ensures.1 ∙ ap (λ more. map (λ (f : finished _ _ _ _). f.kit) ended ++ more) c.requires.none ∙ append-nil (map (λ (f : finished _ _ _ _). f.kit) ended) in
    let closed = c.close_all-closed.ensures.3 in
    let Rises : List (WithJobs _ _ _ _) → ℕ → Type 0 = λ es q. (q < length es) × AtEach (λ p e f. p ≡ q → OneRose (faults_at g.S.Watch.Watch.counts e) ((λ (f : finished _ _ _ _). faults_in g.S.Watch.Watch.counts f.kit) f)) 0 es ended in
    rw (c.fault_of.ensures, c.close_all-closed.ensures.2, items, ← c.requires.all)
    (disk_within (Rises c.args.engines) _ _ (λ q rises. (rises.0, at_each-reads (λ (f : finished _ _ _ _). f.kit) (λ p e kit. p ≡ q → OneRose (faults_at g.S.Watch.Watch.counts e) (faults_in g.S.Watch.Watch.counts kit)) 0 c.args.engines ended rises.1))
    (behind_so (λ f. IfDisk f (Rises es)) c.answer_over-engines.result.1 _
    (disk_over g.S.Watch.Watch.counts (λ (f : finished _ _ _ _). faults_in g.S.Watch.Watch.counts f.kit) es es' ended (fault_in c.answer_over-engines.result.1)
    c.answer_over-engines.ensures.settings c.answer_over-engines.ensures.cause.disk
    (at_each-so (λ p e f. _) _ 0 es' ended (λ p e f is. is.none_fell) closed))
    (λ none. disk_ended (eyes g.S.Store.history g.S.Device.Device.history g.S.Frozen.Frozen.content g.S.Device.Device.name g.S.Frozen.Frozen.size
    g.S.Watch.Watch.counts) g.S.Device.Device.size (λ (f : finished _ _ _ _). f.outcome) (λ (f : finished _ _ _ _). g.S.Store.history f.kit.store)
    (λ (f : finished _ _ _ _). faults_in g.S.Watch.Watch.counts f.kit) es es' ended closed c.answer_over-engines.ensures.settings
    c.answer_over-engines.ensures.cause.stayed)))

pub returns-clause-damaged : goal.returns-clause-damaged
returns-clause-damaged g c =
    let es = c.args.engines in
    let es' = c.answer_over-engines.result.0 in
    let ended = c.close_all-closed.ensures.0 in
    let closed = c.close_all-closed.ensures.3 in
    let Met : ℕ → Damage → Type 0 = λ q damage. (q < (options_asked c.args.asked.now).partitions)
    × IsMetIn g.row.S.Denot g.row.S-Watch.Denot g.S.Device.Device.history g.S.Frozen.Frozen.content (partition_at q (options_asked c.args.asked.now).partitions) damage in
    rw (c.fault_of.ensures, c.close_all-closed.ensures.2) (behind_so (λ f. IfDamaged f Met) c.answer_over-engines.result.1 _
    (damaged_over (eyes g.S.Store.history g.S.Device.Device.history g.S.Frozen.Frozen.content g.S.Device.Device.name g.S.Frozen.Frozen.size g.S.Watch.Watch.counts)
    g.S.Device.Device.size (λ (f : finished _ _ _ _). f.outcome) (λ (f : finished _ _ _ _). g.S.Store.history f.kit.store) (λ (f : finished _ _ _ _). faults_in g.S.Watch.Watch.counts f.kit) es es' ended closed
    c.answer_over-engines.ensures.settings (options_asked c.args.asked.now).partitions c.requires.all c.requires.numbered (fault_in c.answer_over-engines.result.1) c.answer_over-engines.ensures.cause.damaged)
    (λ none. damaged_ended (eyes g.S.Store.history g.S.Device.Device.history g.S.Frozen.Frozen.content g.S.Device.Device.name g.S.Frozen.Frozen.size g.S.Watch.Watch.counts)
    g.S.Device.Device.size (λ (f : finished _ _ _ _). f.outcome) (λ (f : finished _ _ _ _). g.S.Store.history f.kit.store) (λ (f : finished _ _ _ _). faults_in g.S.Watch.Watch.counts f.kit) es es' ended closed
    c.answer_over-engines.ensures.settings (options_asked c.args.asked.now).partitions c.requires.all c.requires.numbered))

pub returns-clause-spent : goal.returns-clause-spent
returns-clause-spent g c =
    let es' = c.answer_over-engines.result.0 in
    let ended = c.close_all-closed.ensures.0 in
    let items = c.close_all-closed.ensures.1 ∙ ap (λ more. map (λ (f : finished _ _ _ _). f.kit) ended ++ more) c.requires.none ∙ append-nil (map (λ (f : finished _ _ _ _). f.kit) ended) in
    let closed = c.close_all-closed.ensures.3 in
    rw (c.fault_of.ensures, c.close_all-closed.ensures.2, items)
    (spent_behind c.answer_over-engines.result.1 _ (ended_of (eyes g.S.Store.history g.S.Device.Device.history g.S.Frozen.Frozen.content g.S.Device.Device.name
    g.S.Frozen.Frozen.size g.S.Watch.Watch.counts) g.S.Device.Device.size (λ (f : finished _ _ _ _). f.outcome)
    (λ (f : finished _ _ _ _). g.S.Store.history f.kit.store) (λ (f : finished _ _ _ _). faults_in g.S.Watch.Watch.counts f.kit) es' ended closed)
    (λ is. ⊎_elim (λ input. inl input) (λ last. inr (some-map (λ (f : finished _ _ _ _). f.kit) (λ p kit. IfTold (g.S.Store.history kit.store) HasLastGeneration) 0
    ended (last_left (eyes g.S.Store.history g.S.Device.Device.history g.S.Frozen.Frozen.content g.S.Device.Device.name g.S.Frozen.Frozen.size
    g.S.Watch.Watch.counts) g.S.Device.Device.size (λ (f : finished _ _ _ _). f.outcome) (λ (f : finished _ _ _ _). g.S.Store.history f.kit.store)
    (λ (f : finished _ _ _ _). faults_in g.S.Watch.Watch.counts f.kit) es' ended closed last))) (c.answer_over-engines.ensures.spent is)))
