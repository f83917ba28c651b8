use Rattle.std.proofs.Common.{inl}
use Rattle.std.specs.Prelude.{option_map}
use Rattle.tc_store.proofs.Memory.RemainsLemmas.{left_image}
use Rattle.tc_store.proofs.mem.remains.device_image.Goals as goal

pub returns : goal.returns
returns c =
    let before = option_map (λ bytes. bytes.value.items) c.args.before.now in
    inl (left_image before c.args.calls.now _ _ c.settled_count-settled.result _ _ c.split_at.ensures.front c.split_at.ensures.back
    (c.in_ok-image.ensures before) c.in_ok-redo_all_perhaps.ensures)
