-- What a part means, where it has not failed.
use Rattle.std.proofs.Common.{◌≡◌, Bool, true, false, subst, Option, Some, None, is_some, refl}
use Rattle.tc_memory.specs.Table.{Table}
use Rattle.tc_part_model.specs.Meaning.{IsPart}
use Rattle.tc_part_model.specs.PartState.{Told}
use Rattle.tc_part_model.specs.PartView.{PartView}

-- the table that is sealed
pub table_in : (sealed : Option Table) → is_some sealed ≡ true → (table : Table) × (sealed ≡ Some table)
table_in None is = absurd (cc)
table_in (Some table) is = (table, refl)

abbrev pub told_in : {t : Told} {p : PartView} → IsPart t p → Told
told_in {t} is = t

-- what a part means it means still where it is said that it has not failed
pub unfailed : {t : Told} {p : PartView} → IsPart t p → IsPart (record t { failed = false }) p
unfailed {t} {p} is = subst (λ failed. IsPart (record t { failed = failed }) p) is.sound is

-- the side of an equation that stands first
abbrev pub left_of : {X : Type 0} {x y : X} → x ≡ y → X
left_of {X} {x} {y} e = x

-- no test is so and not so at once
pub both : {P : Type 0} (b : Bool) → b ≡ true → b ≡ false → P
both b is is_not = absurd (cc)
