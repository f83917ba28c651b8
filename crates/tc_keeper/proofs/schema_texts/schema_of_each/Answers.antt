use Rattle.std.proofs.Common.{◌+◌, subst, sym, take}
use Rattle.tc_part_model.specs.PartState.{told}
use Rattle.tc_keeper.specs.Places.{AtEach}
use Rattle.tc_keeper.specs.SchemaTexts.{IsSchemaText}
use Rattle.tc_keeper.specs.declared.seat.Seat.{Seat}
use Rattle.tc_keeper.proofs.SchemasShown.{all_of_them, one_more}
use Rattle.tc_keeper.proofs.schema_texts.schema_of_each.Goals as goal

pub loop-at-preserved : goal.loop-at-preserved
loop-at-preserved g c =
    let one : IsSchemaText (told g.S.Store.history g.S.Device.Device.history g.S.Frozen.Frozen.content) g.S.Frozen.Frozen.content g.S.Device.Device.size c.index-seats-at.result.engine c.in_ok-text.text =
    subst (λ (s : Seat _ _ _ _ _). IsSchemaText (told g.S.Store.history g.S.Device.Device.history g.S.Frozen.Frozen.content) g.S.Frozen.Frozen.content
    g.S.Device.Device.size s.engine c.in_ok-text.text) (sym c.index-seats-at.is)
    (record { documents = c.in_ok-text.ensures.documents; stored = c.in_ok-text.ensures.text; counts = c.in_ok-text.ensures.tree }) in
    subst (λ texts. AtEach (λ p s text. IsSchemaText (told g.S.Store.history g.S.Device.Device.history g.S.Frozen.Frozen.content) g.S.Frozen.Frozen.content g.S.Device.Device.size s.engine text) 0 (take (c.loop-at.at + 1) c.args.seats.now) texts) (sym c.in_ok-push.ensures.items)
    (one_more (λ p s text. IsSchemaText (told g.S.Store.history g.S.Device.Device.history g.S.Frozen.Frozen.content) g.S.Frozen.Frozen.content g.S.Device.Device.size
    s.engine text) c.loop-at.at c.args.seats.now c.loop-at.texts.items c.index-seats-at.result c.in_ok-text.text c.loop-at-test.true c.index-seats-at.is one
    c.loop-at.invariant)

pub returns : goal.returns
returns g c = all_of_them (λ p s text. IsSchemaText (told g.S.Store.history g.S.Device.Device.history g.S.Frozen.Frozen.content) g.S.Frozen.Frozen.content g.S.Device.Device.size s.engine text) c.loop-at.at c.args.seats.now c.loop-at.texts.items c.loop-at-test.false c.loop-at.invariant
