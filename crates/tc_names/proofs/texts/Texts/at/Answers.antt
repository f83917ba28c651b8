use Rattle.std.proofs.Common.{◌≡◌, ◌<◌, ◌∙◌, length, slice_get, subst, ap, sym}
use Rattle.tc_names.specs.Cutting.{cut}
use Rattle.tc_names.proofs.Cuts.{length-cut}
use Rattle.tc_names.proofs.texts.Texts.at.Goals as goal

pub between-requires : goal.between-requires
between-requires c =
    let below : c.args.place < length c.self.inside.ends.items =
    subst (λ n. c.args.place < n) (ap length (sym c.self.view_is) ∙ length-cut 0 c.self.inside.ends.items c.self.inside.bytes.items) c.requires in
    rw (c.deref-2.ensures.value, c.deref.ensures.value) (c.self.invariant, below)

pub returns : goal.returns
returns c =
    let same : cut 0 c.deref-2.result.now c.deref.result.now ≡ c.args.self.now =
    ap (λ ends. cut 0 ends c.deref.result.now) c.deref-2.ensures.value ∙ ap (cut 0 c.self.inside.ends.items) c.deref.ensures.value ∙ c.self.view_is in
    record { text = ap (λ texts. slice_get texts c.args.place) (sym same) ∙ c.between.ensures.text }
