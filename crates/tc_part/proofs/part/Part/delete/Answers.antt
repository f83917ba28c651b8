use Rattle.std.proofs.Common.{◌≡◌, ◌∙◌, ◌<◌, ◌^◌, ◌++◌, ◌∷◌, [], None, length, option_map, sym, ap, subst}
use Rattle.tc_value.specs.ShapeMeaning.{shape_tree}
use Rattle.tc_log.specs.declared.write.Write.TheVariants.{Delete}
use Rattle.tc_memory.specs.Table.{deleted}
use Rattle.tc_part_model.specs.Changes.{with_staged}
use Rattle.tc_part_model.specs.Meaning.{IsPart}
use Rattle.tc_part_model.specs.PartState.{PartState, Told, told}
use Rattle.tc_part.proofs.StagedWrites.{storable_delete, delete_counted, delete_room, few_live}
use Rattle.tc_part.proofs.part.Part.delete.Goals as goal

pub returns-clause-staged : goal.returns-clause-staged
returns-clause-staged g c = λ p is there.
    let key = c.args.key in
    let n = c.saturating_sub-self-inside.result in
    let t = told g.S.Store.history g.S.Device.Device.history g.S.Frozen.Frozen.content c.args.self.now in
    let v = told g.S.Store.history g.S.Device.Device.history g.S.Frozen.Frozen.content c.take_out.new.self in
    let handed = option_map shape_tree c.in_ok-shape.shape in
    let kept = ap (told g.S.Store.history g.S.Device.Device.history g.S.Frozen.Frozen.content) c.shape_kept.ensures.same in
    let put : v ≡ record t { active = deleted key handed t.active; staged = t.staged ++ Delete key ∷ [] } =
    ap (told g.S.Store.history g.S.Device.Device.history g.S.Frozen.Frozen.content) c.in_ok-take_out.ensures.ok
    ∙ ap (λ (x : Told). record x { active = deleted key handed x.active; staged = x.staged ++ Delete key ∷ [] }) kept in
    let live = ap (λ s. s.live) c.self.view_is ∙ ap (λ (x : Told). x.live) put in
    let taken = ap (λ s. s.taken) c.self.view_is ∙ ap (λ (x : Told). x.taken) put in
    let few : length t.taken < 2 ^ 32 = subst (λ names. length names < 2 ^ 32) taken c.len-taken.ensures.dictionary.few in
    subst (λ (s : PartState _ _ _ _). IsPart (record (told g.S.Store.history g.S.Device.Device.history g.S.Frozen.Frozen.content s) { live = n }) (with_staged (key, None) p)) (sym c.self.view_is)
    (c.staged_is_kept.ensures.staged t (record v { live = n }) p (key, None) handed is (storable_delete key c.requires.key) (c.in_ok-shape.ensures.handed p is) (ap (λ (x : Told). record x { live = n }) put)
    (delete_counted key t.live n _ _ c.saturating_sub-self-inside.ensures live there) (delete_room t.live n _ c.saturating_sub-self-inside.ensures live (few_live t p is))
    (subst (λ (x : Told). length x.taken < 2 ^ 32) (sym put) few))
