use Rattle.std.proofs.Common.{◌≡◌, take, drop}
use Rattle.std.specs.Prelude.{IfSome, IsErrOf, OnOk}
use Rattle.tc_store.specs.Counted.{IsCountedOnce}
use Rattle.tc_store.specs.Judging.{IfDamaged}
use Rattle.tc_store.specs.declared.damage.ReadFault.TheVariants.{Disk, Memory}
use Rattle.tc_component.specs.Cursors.{HasBytes, IsWindow, part_held}
use Rattle.tc_component.specs.Layout.{directory_place}
use Rattle.tc_component.specs.Spelling.{sizes_in}
use Rattle.tc_component.proofs.Windows.{at_range}
use Rattle.tc_component.proofs.cursor.RecordCursor.read.Goals as goal

pub returns-clause-read : goal.returns-clause-read
returns-clause-read g c =
    let r = c.record_range-begin in
    at_range (λ p n. OnOk c.read_part.result (IfSome (g.F.Frozen.content c.args.component.now.file) (λ bytes. part_held p n c.read_part.new.self ≡ take n (drop p bytes)))) _ _ _ _ r.ensures.begin r.ensures.length c.read_part.ensures.read

pub returns-clause-told : goal.returns-clause-told
returns-clause-told g c =
    let r = c.record_range-begin in
    at_range (λ p n. IfDamaged c.read_part.result (λ at kept. IfSome (g.F.Frozen.content c.args.component.now.file) (λ bytes. kept ≡ take n (drop p bytes)))) _ _ _ _ r.ensures.begin r.ensures.length c.read_part.ensures.told

pub returns-clause-window : goal.returns-clause-window
returns-clause-window g c =
    let r = c.record_range-begin in
    at_range (λ p n. OnOk c.read_part.result ((HasBytes p n c.args.self.now → ⊥) → IsWindow p n (directory_place (sizes_in c.args.component.now.index)) c.read_part.new.self)) _ _ _ _ r.ensures.begin r.ensures.length c.read_part.ensures.window

pub returns-clause-counted : goal.returns-clause-counted
returns-clause-counted g c =
    let r = c.record_range-begin in
    at_range (λ p n. IsCountedOnce (IsErrOf c.read_part.result Disk) ((HasBytes p n c.args.self.now → ⊥) × (IsErrOf c.read_part.result Memory → ⊥)) (g.F.Watch.Watch.counts c.args.watch.now) (g.F.Watch.Watch.counts c.read_part.new.watch)) _ _ _ _ r.ensures.begin r.ensures.length c.read_part.ensures.counted
