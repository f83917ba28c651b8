use Rattle.std.proofs.Common.{◌∙◌, ap, List, ℕ, Option, Bor}
use Rattle.std.specs.Prelude.{option_map}
use Rattle.std.proofs.lemmas.Result.{on_ok_weaker}
use Rattle.tc_shown.proofs.NewestWrites.{stays_below, upsert_below, delete_below}
use Rattle.tc_shown.proofs.newest.put_below.Goals as goal

-- the bytes of the record that is handed in
abbrev held : Option (Bor (List ℕ)) → Option (List ℕ)
held bytes = option_map (λ (b : Bor (List ℕ)). b.now) bytes

pub returns-then-has : goal.returns-then-has
returns-then-has c = stays_below c.args.key (held c.args.bytes) c.args.table.now c.if-has.ensures.found

pub returns-in_ok-from_slice-in-Some : goal.returns-in_ok-from_slice-in-Some
returns-in_ok-from_slice-in-Some c =
    on_ok_weaker c.upsert.result
    (upsert_below c.args.key (held c.args.bytes) c.in-Some.bytes.now c.of.result c.args.table.now c.upsert.new.self (ap held c.in-Some.is) (c.of.ensures.same ∙ c.in_ok-from_slice-in-Some.ensures.items) c.if-has.ensures.found)
    c.upsert.ensures.ok

pub returns-in-None : goal.returns-in-None
returns-in-None c =
    on_ok_weaker c.delete.result
    (delete_below c.args.key (held c.args.bytes) c.args.table.now c.delete.new.self (ap held c.in-None.is) c.if-has.ensures.found)
    c.delete.ensures.ok
