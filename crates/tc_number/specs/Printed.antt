-- Which text writes a number: the digits that are printed of it, and no other.
use Rattle.std.specs.Prelude.{◌≡◌, ◌↔◌, ◌≤◌, ◌<◌, ◌^◌, ℕ, List, Some}
use Rattle.std.specs.Fmt.{decimal}
use Rattle.tc_number.specs.Number.{number_between}

-- a text writes a number from least to most exactly where it is that number's digits
abbrev pub ArePrinted : Type 0
ArePrinted = (least most : ℕ) (text : List ℕ) (n : ℕ) → most < 2 ^ 64
    → (number_between least most text ≡ Some n) ↔ ((text ≡ decimal n) × (least ≤ n) × (n ≤ most))
