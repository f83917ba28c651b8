use Rattle.std.proofs.Common.{◌≡◌, ◌∙◌, Err, take, drop, sym, ap, subst}
use Rattle.std.specs.Prelude.{IfSome, IsErrOf}
use Rattle.std.proofs.lemmas.Result.{err_from_is_err_and}
use Rattle.tc_store.specs.declared.damage.ReadFault.TheVariants.{Memory}
use Rattle.tc_record.specs.Borrowed.{Record}
use Rattle.tc_component.specs.Cursors.{HasBytes, part_held}
use Rattle.tc_component.proofs.Fetched.{held_once, damage_told}
use Rattle.tc_component.proofs.Windows.{part_is}
use Rattle.tc_component.proofs.cursor.RecordCursor.read_part.Goals as goal

pub returns-clause-read : goal.returns-clause-read
returns-clause-read g c = part_is (g.F.Frozen.content c.args.component.now.file) c.hold.new.self c.args.begin c.args.count c.hold.ensures.of c.in_ok-hold.ensures.has

pub returns-in_err-judged-clause-told : goal.returns-in_err-judged-clause-told
returns-in_err-judged-clause-told g c =
    let r = c.from_residual-in_err-judged.result in
    let p = err_from_is_err_and r c.from_residual-in_err-judged.ensures.1 in
    damage_told Record r c.in_err-judged.field-0.0 _ (λ kept. IfSome (g.F.Frozen.content c.args.component.now.file) (λ bytes. kept ≡ take c.args.count (drop c.args.begin bytes))) (part_held c.args.begin c.args.count c.hold.new.self)
    (p.1 ∙ ap Err p.2) (λ place kept is. is.1) (part_is (g.F.Frozen.content c.args.component.now.file) c.hold.new.self c.args.begin c.args.count c.hold.ensures.of c.in_ok-hold.ensures.has) c.in_err-judged.ensures.damaged

pub returns-in_err-judged-clause-counted : goal.returns-in_err-judged-clause-counted
returns-in_err-judged-clause-counted g c =
    let r = c.from_residual-in_err-judged.result in
    let p = err_from_is_err_and r c.from_residual-in_err-judged.ensures.1 in
    let fine : IsErrOf c.hold.result Memory → ⊥ = subst (λ x. IsErrOf x Memory → ⊥) (sym c.in_ok-hold.was) (λ e. cc) in
    held_once Record r c.in_err-judged.field-0.0 _ (HasBytes c.args.begin c.args.count c.args.self.now) (IsErrOf c.hold.result Memory → ⊥) (g.F.Watch.Watch.counts c.args.watch.now) (g.F.Watch.Watch.counts c.hold.new.watch)
    (p.1 ∙ ap Err p.2) c.in_err-judged.ensures.no_disk fine c.hold.ensures.counted
