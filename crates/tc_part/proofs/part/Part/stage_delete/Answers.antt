use Rattle.std.proofs.Common.{◌∙◌, true, false, Ok, refl, sym, subst}
use Rattle.std.specs.Prelude.{OnOk}
use Rattle.tc_part_model.specs.Meaning.{IsPart, plain_of}
use Rattle.tc_part_model.specs.PartState.{told}
use Rattle.tc_part_model.specs.PartView.{stored_with}
use Rattle.tc_part.specs.declared.staging.Staged.TheVariants.{Done}
use Rattle.tc_part.specs.Below.{held_at}
use Rattle.tc_part.proofs.BelowKeys.{live_there, shows_live}
use Rattle.tc_part.proofs.ListedContents.{all_show}
use Rattle.tc_part.proofs.Spelled.{if_ok_then}
use Rattle.tc_part.proofs.StagedWrites.{delete_answered, delete_stages}
use Rattle.tc_part.proofs.part.Part.stage_delete.Goals as goal

pub returns-then-is_live-clause-answered : goal.returns-then-is_live-clause-answered
returns-then-is_live-clause-answered g c = λ p w is storable kept.
    let t = told g.S.Store.history g.S.Device.Device.history g.S.Frozen.Frozen.content c.args.self.now in
    let list = c.args.self.now.list in
    let live = live_there t p c.args.key list c.below-below.result is (all_show g.S.Frozen.Frozen.content list p.list is.view.components) c.below-below.ensures in
    let was = sym c.if-is_live.true ∙ c.is_live.ensures ∙ live in
    delete_answered c.delete.result c.args.self.now.limits (plain_of t p) (stored_with p) c.args.key w true kept was c.delete.ensures.done

pub returns-then-is_live-clause-staged : goal.returns-then-is_live-clause-staged
returns-then-is_live-clause-staged g c = λ p w is storable kept.
    let t = told g.S.Store.history g.S.Device.Device.history g.S.Frozen.Frozen.content c.args.self.now in
    let u = told g.S.Store.history g.S.Device.Device.history g.S.Frozen.Frozen.content c.delete.new.self in
    let list = c.args.self.now.list in
    let live = live_there t p c.args.key list c.below-below.result is (all_show g.S.Frozen.Frozen.content list p.list is.view.components) c.below-below.ensures in
    let was = sym c.if-is_live.true ∙ c.is_live.ensures ∙ live in
    subst (λ q. OnOk c.delete.result (IsPart u q)) (sym (delete_stages c.args.self.now.limits (plain_of t p) p c.args.key w true kept was)) (c.delete.ensures.staged p is (sym was))

pub returns-then-is_live-clause-by_key : goal.returns-then-is_live-clause-by_key
returns-then-is_live-clause-by_key g c =
    let state = c.args.self.now in
    if_ok_then c.delete.result _ _ (λ answer _ done. (true, shows_live (held_at c.args.key state.active) state.sealed state.list c.args.key c.below-below.result true c.below-below.ensures (sym c.if-is_live.true ∙ c.is_live.ensures), done))
    c.delete.ensures.done

pub returns-clause-answered : goal.returns-clause-answered
returns-clause-answered g c = λ p w is storable kept.
    let t = told g.S.Store.history g.S.Device.Device.history g.S.Frozen.Frozen.content c.args.self.now in
    let list = c.args.self.now.list in
    let live = live_there t p c.args.key list c.below-below.result is (all_show g.S.Frozen.Frozen.content list p.list is.view.components) c.below-below.ensures in
    let was = sym c.if-is_live.false ∙ c.is_live.ensures ∙ live in
    delete_answered (Ok (Done false)) c.args.self.now.limits (plain_of t p) (stored_with p) c.args.key w false kept was refl

pub returns-clause-staged : goal.returns-clause-staged
returns-clause-staged g c = λ p w is storable kept.
    let t = told g.S.Store.history g.S.Device.Device.history g.S.Frozen.Frozen.content c.args.self.now in
    let list = c.args.self.now.list in
    let live = live_there t p c.args.key list c.below-below.result is (all_show g.S.Frozen.Frozen.content list p.list is.view.components) c.below-below.ensures in
    let was = sym c.if-is_live.false ∙ c.is_live.ensures ∙ live in
    subst (λ q. IsPart t q) (sym (delete_stages c.args.self.now.limits (plain_of t p) p c.args.key w false kept was)) is

pub returns-clause-by_key : goal.returns-clause-by_key
returns-clause-by_key g c =
    let state = c.args.self.now in
    (false, shows_live (held_at c.args.key state.active) state.sealed state.list c.args.key c.below-below.result false c.below-below.ensures (sym c.if-is_live.false ∙ c.is_live.ensures), refl)
