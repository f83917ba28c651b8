use Rattle.std.proofs.Common.{◌≡◌, All, subst, sym}
use Rattle.std.specs.Prelude.{Ok, Err, IfSome, Result, if◌then◌else◌}
use Rattle.std.specs.Result.{is_ok, result_ok}
use Rattle.std.proofs.lemmas.List.Elements.{All-push}
use Rattle.tc_store.specs.Disk.{IsAtRest}
use Rattle.tc_store.specs.Memory.Shelf.{MemKit}
use Rattle.tc_store.specs.Memory.Store.{store_disks}
use Rattle.tc_store.specs.Moments.{IfTold}
use Rattle.crash_rows.proofs.files.push_kit.Goals as goal

abbrev rests : MemKit → Type 0
rests kit = IfTold (store_disks kit.store) IsAtRest

-- of what is left where there was room
where_room : {A E X : Type 0} (P : X → Type 0) (r : Result A E) (left full none : X) → left ≡ (if is_ok r then full else none) → P full → IfSome (result_ok r) (λ v. P left)
where_room P (Ok x) left full none is holds = subst P (sym is) holds
where_room P (Err e) left full none is holds = tt

pub returns : goal.returns
returns c = subst (λ done. IfSome done (λ v. All rests c.push.new.self.items)) (sym c.ok.ensures.value)
    (where_room (All rests) c.push.result _ _ _ c.push.ensures.items (All-push rests _ c.args.kit c.requires.rest c.requires.one))
