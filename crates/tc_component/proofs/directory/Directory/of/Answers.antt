use Rattle.std.proofs.Common.{◌≡◌, ◌∙◌, ◌*◌, Some, take, sym, ap, subst}
use Rattle.tc_component.specs.Columns.{slots_in, AreHeld}
use Rattle.tc_component.proofs.Marks.{read_slots, marked_held}
use Rattle.tc_component.proofs.directory.Directory.of.Goals as goal

pub invariant_of-result : goal.invariant_of-result
invariant_of-result c =
    let own = take (c.args.sizes.entries * 12) c.args.bytes.items in
    let cut : c.shrink_to_fit.new.self.items ≡ own = c.shrink_to_fit.ensures.items ∙ c.truncate.ensures.items in
    subst (λ bytes. AreHeld c.args.sizes.entries bytes c.args.marks.items (slots_in c.args.sizes.entries bytes)) (sym cut)
    (marked_held c.args.sizes own c.args.marks.items c.requires.short c.requires.marked)

pub returns : goal.returns
returns c =
    let own = take (c.args.sizes.entries * 12) c.args.bytes.items in
    let cut : c.shrink_to_fit.new.self.items ≡ own = c.shrink_to_fit.ensures.items ∙ c.truncate.ensures.items in
    c.requires.marked.read ∙ ap Some (sym (ap (slots_in c.args.sizes.entries) cut ∙ read_slots c.args.sizes own c.args.marks.items c.requires.marked))
