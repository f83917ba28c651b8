use Rattle.std.proofs.Common.{ap, refl, inr}
use Rattle.std.specs.Prelude.{Err}
use Rattle.tc_bytes.specs.Counts.{Rose}
use Rattle.tc_keeper.specs.Faults.{faults_in}
use Rattle.tc_server.specs.Kits.{IsNotGiven}
use Rattle.tc_server.proofs.KitCounts.{same_counts}
use Rattle.tc_server.proofs.KitOpenings.{never_none, shelf_found, shelf_memory, shelf_not_given}
use Rattle.tc_server.proofs.opening.open_next.Goals as goal

pub returns-in-Ok-kit-clause-opened : goal.returns-in-Ok-kit-clause-opened
returns-in-Ok-kit-clause-opened g c =
    let counted = same_counts (faults_in g.H.Store.Watch.Watch.counts c.in-Ok-kit.kit) (g.H.Shelf.kit_faults c.args.shelf.now c.args.number) c.in-Ok-kit.ensures.main c.in-Ok-kit.ensures.flusher c.in-Ok-kit.ensures.merger c.in-Ok-kit.ensures.reader in
    rw (← c.in-Ok-kit.ensures.files, ← counted) c.open_kit.ensures.opened

pub returns-in-Ok-kit-clause-back : goal.returns-in-Ok-kit-clause-back
returns-in-Ok-kit-clause-back g c =
    let counted = same_counts (faults_in g.H.Store.Watch.Watch.counts c.in-Ok-kit.kit) (g.H.Shelf.kit_faults c.args.shelf.now c.args.number) c.in-Ok-kit.ensures.main c.in-Ok-kit.ensures.flusher c.in-Ok-kit.ensures.merger c.in-Ok-kit.ensures.reader in
    rw (← c.in-Ok-kit.ensures.files, ← counted) c.open_kit.ensures.back

pub returns-in-Ok-kit-clause-not_given : goal.returns-in-Ok-kit-clause-not_given
returns-in-Ok-kit-clause-not_given g c = never_none (λ refused. refused.kit) (λ refused. IsNotGiven (Rose (g.H.Shelf.faults c.args.shelf.now) (g.H.Shelf.faults c.kit.new.self)) c.args.number refused.fault) c.open_kit.result c.open_kit.ensures.some

pub returns-in-Ok-kit-clause-same : goal.returns-in-Ok-kit-clause-same
returns-in-Ok-kit-clause-same g c = never_none (λ refused. refused.kit) _ c.open_kit.result c.open_kit.ensures.some

pub returns-in-Err-kit-clause-not_given : goal.returns-in-Err-kit-clause-not_given
returns-in-Err-kit-clause-not_given g c = rw c.of_shelf.ensures (λ none. shelf_not_given (Rose (g.H.Shelf.faults c.args.shelf.now) (g.H.Shelf.faults c.kit.new.self)) c.args.number c.in-Err-kit.fault (λ is. c.in-Err-kit.ensures.cause (ap Err is)))

pub returns-in-Err-kit-clause-found : goal.returns-in-Err-kit-clause-found
returns-in-Err-kit-clause-found g c = rw c.of_shelf.ensures (shelf_found g.row.H-Store-Watch.Denot g.H.Store.Frozen.Frozen.size g.H.Store.Frozen.Frozen.content g.H.Store.Frozen.Frozen.name c.args.options.now.partitions c.args.number c.in-Err-kit.fault)

pub returns-in-Err-kit-clause-same : goal.returns-in-Err-kit-clause-same
returns-in-Err-kit-clause-same g c = rw c.of_shelf.ensures (λ none memory. c.in-Err-kit.ensures.same (ap Err (shelf_memory c.args.number c.in-Err-kit.fault memory)))

pub returns-in-Err-clause-not_given : goal.returns-in-Err-clause-not_given
returns-in-Err-clause-not_given g c = λ none. record { is = inr refl; cause = λ never. absurd (cc) }
