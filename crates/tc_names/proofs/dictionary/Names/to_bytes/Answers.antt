use Rattle.std.proofs.Common.{◌≡◌, ◌∙◌, ◌++◌, Some, option_map, slice_get, length, ap, sym}
use Rattle.std.specs.Int.{w32, to_be_bytes}
use Rattle.tc_bytes.specs.Codec.{counted_bytes}
use Rattle.tc_bytes.proofs.Lists.{spelled-next}
use Rattle.tc_names.proofs.dictionary.Names.to_bytes.Goals as goal

pub loop-id-preserved : goal.loop-id-preserved
loop-id-preserved c =
    let here : slice_get c.args.self.now c.loop-id.id ≡ Some c.as_bytes.result.now =
    sym c.name_of.ensures.name ∙ ap (option_map (λ name. name.now)) c.unwrap.ensures ∙ ap Some (sym c.as_bytes.ensures.value) in
    c.in_ok-put_counted.ensures
    ∙ ap (λ out. out ++ counted_bytes c.as_bytes.result.now) c.loop-id.invariant
    ∙ ap (λ rest. to_be_bytes w32 (length c.args.self.now) ++ rest) (sym (spelled-next counted_bytes c.args.self.now c.loop-id.id c.as_bytes.result.now here))
