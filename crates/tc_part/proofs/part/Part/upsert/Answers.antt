use Rattle.std.proofs.Common.{◌≡◌, ◌∙◌, ◌<◌, ◌+◌, ◌^◌, ◌++◌, ◌∷◌, [], Some, length, option_map, if◌then◌else◌, sym, ap, subst}
use Rattle.tc_value.specs.ShapeMeaning.{shape_tree}
use Rattle.tc_log.specs.declared.write.Write.TheVariants.{Upsert}
use Rattle.tc_memory.specs.Table.{upserted}
use Rattle.tc_plain_model.specs.Store.{names_with}
use Rattle.tc_part_model.specs.PartState.{Told, told}
use Rattle.tc_part.proofs.StagedWrites.{storable_record, upsert_told, upsert_counted, upsert_room, few_live}
use Rattle.tc_part.proofs.part.Part.upsert.Goals as goal

pub returns-clause-staged : goal.returns-clause-staged
returns-clause-staged g c = λ p d is storable spelled was_live.
    let key = c.args.key in
    let bytes = c.args.bytes in
    let t = told g.S.Store.history g.S.Device.Device.history g.S.Frozen.Frozen.content c.args.self.now in
    let u = told g.S.Store.history g.S.Device.Device.history g.S.Frozen.Frozen.content c.put_new.new.self in
    let handed = option_map shape_tree c.in_ok-shape.shape in
    let of = storable_record key d bytes storable spelled c.requires.record in
    let kept = ap (told g.S.Store.history g.S.Device.Device.history g.S.Frozen.Frozen.content) c.shape_kept.ensures.same in
    let put : u ≡ record t { active = upserted key bytes handed t.active; staged = t.staged ++ Upsert key bytes ∷ []; taken = u.taken; live = u.live } =
    ap (told g.S.Store.history g.S.Device.Device.history g.S.Frozen.Frozen.content) c.in_ok-put_new.ensures.put
    ∙ ap (λ (x : Told). record x { active = upserted key bytes handed x.active; staged = x.staged ++ Upsert key bytes ∷ []; taken = u.taken; live = u.live }) kept in
    let taken = c.in_ok-put_new.ensures.taken d of ∙ ap (λ (x : Told). names_with d x.taken) kept in
    let live = c.in_ok-put_new.ensures.live ∙ ap (λ (x : Told). if c.args.was_live then x.live else x.live + 1) kept in
    c.staged_is_kept.ensures.staged t u p (key, Some d) handed is storable (c.in_ok-shape.ensures.handed p is) (upsert_told t u key bytes d handed spelled put taken) (upsert_counted key t.live u.live d c.args.was_live _ live was_live)
    (upsert_room t.live u.live c.args.was_live live (few_live t p is) c.requires.room) (subst (λ names. length names < 2 ^ 32) (sym taken) (c.requires.names d of))
