use Rattle.std.proofs.Common.{◌∙◌, Bool, Option, Some, None, ap, is_some, sym}
use Rattle.std.specs.Prelude.{unwrap_or}
use Rattle.tc_model.specs.Keyed.{value_of}
use Rattle.tc_lsm_model.specs.Lists.{live}
use Rattle.tc_check.proofs.DocumentCounts.{written_at}
use Rattle.tc_check.proofs.counting.is_stored.Goals as goal

pub returns-in-Some : goal.returns-in-Some
returns-in-Some g c = λ part cs is_list shows.
    let found = written_at c.args.key c.args.written.now.entries (Some c.in-Some.stores.now) (sym c.in-Some.ensures.value) in
    sym (ap (λ (o : Option Bool). unwrap_or o (is_some (value_of c.args.key (live cs)))) found)

pub returns-in-None : goal.returns-in-None
returns-in-None g c = λ part cs is_list shows.
    let none = written_at c.args.key c.args.written.now.entries None (sym c.in-None.ensures.value) in
    c.is_live.ensures part cs is_list shows ∙ sym (ap (λ (o : Option Bool). unwrap_or o (is_some (value_of c.args.key (live cs)))) none)
