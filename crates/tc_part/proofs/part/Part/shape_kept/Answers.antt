use Rattle.std.proofs.Common.{◌∙◌, is_some, option_map, sym, ap, subst}
use Rattle.tc_model.specs.Keyed.{value_of}
use Rattle.tc_value.specs.ShapeMeaning.{shape_tree}
use Rattle.tc_part_model.specs.Meaning.{IsPart}
use Rattle.tc_part_model.specs.PartState.{told}
use Rattle.tc_part_model.specs.Staging.{HandsShape}
use Rattle.tc_part.proofs.ListedContents.{all_show}
use Rattle.tc_part.specs.Handed.{IsHandedBy}
use Rattle.tc_part.proofs.BelowKeys.{below_there, none_held}
use Rattle.tc_part.proofs.Handing.{every, hands, keeps_own}
use Rattle.tc_part.proofs.Spelled.{if_ok_then}
use Rattle.tc_part.proofs.part.Part.shape_kept.Goals as goal

pub returns-clause-handed : goal.returns-clause-handed
returns-clause-handed g c =
    let t = told g.S.Store.history g.S.Device.Device.history g.S.Frozen.Frozen.content c.args.self.now in
    let list = c.args.self.now.list in
    every c.shape_below.result (IsPart t) (λ s p. HandsShape t p c.args.key (option_map shape_tree s))
    (λ p is.
    hands c.shape_below.result t p c.args.key _ (below_there t p is c.args.key list (all_show g.S.Frozen.Frozen.content list p.list is.view.components) c.args.below c.requires) c.shape_below.ensures.there
    (c.shape_below.ensures.shape p is))

-- ---- over every store

pub returns-then-has-clause-read : goal.returns-then-has-clause-read
returns-then-has-clause-read g c =
    let state = c.args.self.now in
    let key = c.args.key in
    keeps_own _ state.sealed state.list key state.active (sym (ap (λ s. is_some (value_of key s.active)) c.self.view_is) ∙ sym c.has.ensures.found ∙ c.if-has.true)

pub returns-clause-read : goal.returns-clause-read
returns-clause-read g c =
    let state = c.args.self.now in
    let key = c.args.key in
    let none = sym (ap (λ s. is_some (value_of key s.active)) c.self.view_is) ∙ sym c.has.ensures.found ∙ c.if-has.false in
    if_ok_then c.shape_below.result _ _ (λ shape _ found. subst (λ o. IsHandedBy o (λ file. g.S.Frozen.Frozen.content file) state.sealed state.list key (option_map shape_tree shape)) (sym (none_held key state.active none)) found) c.shape_below.ensures.read
