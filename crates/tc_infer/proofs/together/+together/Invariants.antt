use Rattle.std.proofs.Common.{◌≡◌, drop}
use Rattle.tc_schema.specs.Places.{fields_counted}
use Rattle.tc_infer.specs.Together.{do_all_fit}
use Rattle.tc_infer.proofs.together.+together.Given as goal

-- all fit where those that are left do
abbrev pub invariant-do_fields_fit-loop-one : goal.invariant-do_fields_fit-loop-one
invariant-do_fields_fit-loop-one l = do_all_fit (fields_counted (drop l.one-index l.ones)) (fields_counted l.others) ≡ do_all_fit (fields_counted l.ones) (fields_counted l.others)
