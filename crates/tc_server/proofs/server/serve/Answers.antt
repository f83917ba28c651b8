use Rattle.std.proofs.Common.{◌∙◌, ap, arith, refl}
use Rattle.std.specs.Prelude.{Err}
use Rattle.std.proofs.lemmas.List.Elements.{All-nil}
use Rattle.tc_open.specs.BeingOpened.{AreIn}
use Rattle.tc_store.specs.Moments.{IfTold}
use Rattle.tc_store.specs.declared.kit.Kit.{Kit}
use Rattle.tc_words.proofs.OptionRanges.{asked_in_range}
use Rattle.tc_words.specs.Options.{invocation_of}
use Rattle.tc_server.proofs.AskedRuns.{few_commands}
use Rattle.tc_server.proofs.NotOpened.{served_nothing}
use Rattle.tc_server.proofs.Unopened.{no_cause, nothing_back}
use Rattle.tc_server.specs.OverFiles.{partitions_asked}
use Rattle.tc_server.proofs.server.serve.Goals as goal

pub serve_asked-requires-clause-partitions : goal.serve_asked-requires-clause-partitions
serve_asked-requires-clause-partitions g c κs within = let is = (asked_in_range c.args.words.now c.in-Ok.asked c.in-Ok.ensures.ok).options.partitions in (omega (arith, is.0), is.1)

pub serve_asked-requires-clause-some : goal.serve_asked-requires-clause-some
serve_asked-requires-clause-some g c κs within = (asked_in_range c.args.words.now c.in-Ok.asked c.in-Ok.ensures.ok).options.window.0

pub serve_asked-requires-clause-limit : goal.serve_asked-requires-clause-limit
serve_asked-requires-clause-limit g c κs within = (asked_in_range c.args.words.now c.in-Ok.asked c.in-Ok.ensures.ok).options.window.1

pub serve_asked-requires-clause-merge : goal.serve_asked-requires-clause-merge
serve_asked-requires-clause-merge g c κs within = let is = (asked_in_range c.args.words.now c.in-Ok.asked c.in-Ok.ensures.ok).options.merge in (is.0, omega (arith, is.1))

pub serve_asked-requires-clause-memory : goal.serve_asked-requires-clause-memory
serve_asked-requires-clause-memory g c κs within = let is = (asked_in_range c.args.words.now c.in-Ok.asked c.in-Ok.ensures.ok).options.memory in omega (arith, is.0)

pub serve_asked-requires-clause-few : goal.serve_asked-requires-clause-few
serve_asked-requires-clause-few g c κs within = few_commands c.in-Ok.asked (asked_in_range c.args.words.now c.in-Ok.asked c.in-Ok.ensures.ok).commands

pub returns-in-Err-clause-served : goal.returns-in-Err-clause-served
returns-in-Err-clause-served g c =
    let none = ap (λ kits. kits.items) c.of.ensures.kits ∙ c.new.ensures.items in
    rw (c.of.ensures.fault, none) (λ first begins. served_nothing (invocation_of c.args.words.now) c.in-Err.fault first (g.H.Shelf.files c.args.shelf.now)
    (g.I.Source.left c.args.source.now) (g.O.Sink.taken c.args.sink.now) begins c.in-Err.ensures.kinds (λ same. c.in-Err.ensures.usage (ap Err same)))

pub returns-in-Ok-clause-back : goal.returns-in-Ok-clause-back
returns-in-Ok-clause-back g c = rw c.in-Ok.ensures.ok c.serve_asked.ensures.back

pub returns-in-Ok-clause-cause : goal.returns-in-Ok-clause-cause
returns-in-Ok-clause-cause g c = rw c.in-Ok.ensures.ok c.serve_asked.ensures.cause

pub returns-in-Err-clause-back : goal.returns-in-Err-clause-back
returns-in-Err-clause-back g c =
    let none = ap (λ kits. kits.items) c.of.ensures.kits ∙ c.new.ensures.items in
    rw (c.of.ensures.fault, none) (nothing_back refl (partitions_asked (invocation_of c.args.words.now)) (g.H.Shelf.faults c.args.shelf.now) (g.H.Shelf.files c.args.shelf.now) (g.H.Shelf.kit_faults c.args.shelf.now) c.in-Err.fault _ c.in-Err.ensures.kinds)

pub returns-in-Err-clause-cause : goal.returns-in-Err-clause-cause
returns-in-Err-clause-cause g c =
    let none = ap (λ kits. kits.items) c.of.ensures.kits ∙ c.new.ensures.items in
    rw (c.of.ensures.fault, none) (no_cause g.row.H-Store.Denot g.row.H-Store-Watch.Denot g.H.Store.Device.Device.history g.H.Store.Frozen.Frozen.content g.H.Store.Frozen.Frozen.name g.H.Store.Frozen.Frozen.size (invocation_of c.args.words.now) (g.I.Source.left c.args.source.now)
    (g.I.Source.faults c.args.source.now) (g.O.Sink.faults c.args.sink.now) (g.H.Shelf.faults c.args.shelf.now) (g.H.Shelf.files c.args.shelf.now) (g.H.Shelf.kit_faults c.args.shelf.now) c.in-Err.fault _ _
    c.in-Err.ensures.kinds (λ same. c.in-Err.ensures.usage (ap Err same)))

pub returns-in-Err-clause-home : goal.returns-in-Err-clause-home
returns-in-Err-clause-home g c =
    let none = ap (λ kits. kits.items) c.of.ensures.kits ∙ c.new.ensures.items in
    rw none (All-nil (λ (kit : Kit _ _ _ _). IfTold (g.H.Store.Store.history kit.store) AreIn))
