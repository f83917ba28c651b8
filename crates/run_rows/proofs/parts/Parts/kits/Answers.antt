use Rattle.std.proofs.Common.{◌≡◌, ◌∙◌, All, subst, sym}
use Rattle.std.specs.Prelude.{Ok, Err, Result, Some, if◌then◌else◌}
use Rattle.std.specs.Result.{is_ok, result_ok}
use Rattle.std.proofs.lemmas.List.Elements.{All-push}
use Rattle.tc_store.specs.Disk.{IsAtRest}
use Rattle.tc_store.specs.Memory.Shelf.{MemKit}
use Rattle.tc_store.specs.Memory.Store.{store_disks}
use Rattle.tc_store.specs.Moments.{IfTold}
use Rattle.run_rows.proofs.parts.Parts.kits.Goals as goal

abbrev rests : MemKit → Type 0
rests kit = IfTold (store_disks kit.store) IsAtRest

-- what holds where there was room holds
with_room : {A E X : Type 0} (r : Result A E) (v : A) (left full none : X) → result_ok r ≡ Some v → left ≡ (if is_ok r then full else none) → left ≡ full
with_room (Ok x) v left full none is same = same
with_room (Err e) v left full none is same = absurd (cc)

pub loop-at-preserved : goal.loop-at-preserved
loop-at-preserved c =
    let items = with_room c.push.result c.in_ok-ok.field-0 _ _ _ (sym c.ok.ensures.value ∙ c.in_ok-ok.was) c.push.ensures.items in
    subst (All rests) (sym items) (All-push rests c.loop-at.kits.items c.in_ok-kit.field-0 c.loop-at.invariant c.in_ok-kit.ensures)
