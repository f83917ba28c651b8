-- A schema under a longer dictionary: it shows the same, and stays in the one form.
use Rattle.std.proofs.Common.{◌≡◌, ℕ, suc, ◌+◌, ◌<◌, ◌≤◌, ◌^◌, Bool, true, false, List, [], ◌∷◌, ◌++◌, Option, Some, None, option_map, length, bytes_eq, if◌then◌else◌, refl, sym, ap, ◌∙◌, arith, length-append}
use Rattle.std.proofs.lemmas.Bool.Decides.{nat_tests}
use Rattle.tc_model.specs.Document.{Name, ShapeTree, null_kind, boolean_kind, integer_kind, text_kind}
use Rattle.tc_schema_model.specs.Occurrences.{field, each_item, Path}
use Rattle.tc_model.specs.Kinds.{Kind, scalar, arrays, objects}
use Rattle.tc_schema_model.specs.Counted.{Counted, counted, Fields, no_fields, a_field, nothing, held, field_at, numbered_field, shows, total_at, IsCanonical, AreFieldsCanonical}
use Rattle.tc_schema_model.specs.Added.{IsNamed, added}
use Rattle.tc_schema_model.proofs.AddedLaws.{field_canonical}
use Rattle.tc_schema_model.proofs.FieldLaws.{held_canonical, canonical_below}
use Rattle.tc_model.specs.Dictionary.{number_of, Extends}
use Rattle.tc_model.proofs.NameNumbers.{number_of-append}
use Rattle.tc_schema_model.specs.Room.{DoesFit}
use Rattle.tc_schema_model.specs.Values.{values_at}
use Rattle.tc_schema_model.proofs.RoomLaws.{total-added}

-- ---- what is shown

-- a name that is new has a number behind the older ones
number_behind : (names more : List Name) (name : Name) (n : ℕ) → number_of names name ≡ None → number_of (names ++ more) name ≡ Some n → length names ≤ n
number_behind [] more name n none some = omega arith
number_behind (first ∷ names) more name n none some = cases (bytes_eq name first) (number_of names name) (number_of (names ++ more) name) (number_behind names more name) none some
  where
    cases : (same : Bool) (old new : Option ℕ) → ((m : ℕ) → old ≡ None → new ≡ Some m → length names ≤ m)
        → (if same then Some 0 else option_map suc old) ≡ None → (if same then Some 0 else option_map suc new) ≡ Some n → length (first ∷ names) ≤ n
    cases true old new behind none some = absurd (cc)
    cases false None None behind none some = absurd (cc)
    cases false None (Some m) behind none some = let at : suc m ≡ n = cc in let h = behind m refl refl in omega arith
    cases false (Some k) new behind none some = absurd (cc)

-- no field has such a number
nothing_behind : (limit low n : ℕ) (fs : Fields) → limit ≤ n → AreFieldsCanonical limit low fs → field_at n fs ≡ nothing
nothing_behind limit low n no_fields le canonical = refl
nothing_behind limit low n (a_field k d fs) le canonical = past limit n k d fs le canonical.1 (nothing_behind limit (k + 1) n fs le canonical.4)
  where
    past : (limit n k : ℕ) (d : Counted) (fs : Fields) → limit ≤ n → k < limit → field_at n fs ≡ nothing → field_at n (a_field k d fs) ≡ nothing
    past limit n k d fs le less later = grind (arith, nat_tests)

same_field : (names more : List Name) (name : Name) (fs : Fields) → AreFieldsCanonical (length names) 0 fs → numbered_field (number_of (names ++ more) name) fs ≡ numbered_field (number_of names name) fs
same_field names more name fs canonical = cases (number_of names name) refl (number_of (names ++ more) name) refl
  where
    cases : (old : Option ℕ) → number_of names name ≡ old → (new : Option ℕ) → number_of (names ++ more) name ≡ new → numbered_field new fs ≡ numbered_field old fs
    cases (Some n) some new is = ap (λ o. numbered_field o fs) (sym is ∙ number_of-append names more name n some)
    cases None none None is = refl
    cases None none (Some n) is = nothing_behind (length names) 0 n fs (number_behind names more name n none is) canonical

pub numbered_canonical : (limit : ℕ) (o : Option ℕ) (fs : Fields) → AreFieldsCanonical limit 0 fs → IsCanonical limit (numbered_field o fs)
numbered_canonical limit None fs canonical = (λ _. refl, λ _. refl, tt, tt)
numbered_canonical limit (Some n) fs canonical = field_canonical limit 0 n fs canonical

pub shows_further : (names more : List Name) (d : Counted) (path : Path) (t : Kind) → IsCanonical (length names) d → shows (names ++ more) d path t ≡ shows names d path t
shows_further names more d [] t canonical = refl
shows_further names more (counted c b fs) (each_item ∷ path) t canonical = shows_further names more (held b) path t (held_canonical (length names) b canonical.2)
shows_further names more (counted c b fs) (field name ∷ path) t canonical =
    ap (λ e. shows (names ++ more) e path t) (same_field names more name fs canonical.3)
    ∙ shows_further names more (numbered_field (number_of names name) fs) path t (numbered_canonical (length names) (number_of names name) fs canonical.3)

-- ---- under a dictionary that extends the other

pub same_shown : (newer older : List Name) (d : Counted) (path : Path) (t : Kind) → Extends newer older → IsCanonical (length older) d → shows newer d path t ≡ shows older d path t
same_shown newer older d path t extends canonical = ap (λ names. shows names d path t) extends.1 ∙ shows_further older extends.0 d path t canonical

pub canonical_newer : (newer older : List Name) (d : Counted) → Extends newer older → IsCanonical (length older) d → IsCanonical (length newer) d
canonical_newer newer older d extends canonical = canonical_below (length older) (length newer) d (omega (arith, ap length extends.1, length-append older extends.0)) canonical

pub same_total : (newer older : List Name) (d : Counted) (path : Path) → Extends newer older → IsCanonical (length older) d → total_at newer d path ≡ total_at older d path
same_total newer older d path extends canonical =
    let shown : (t : Kind) → shows newer d path t ≡ shows older d path t = λ t. same_shown newer older d path t extends canonical in
    omega (arith, shown (scalar null_kind), shown (scalar boolean_kind), shown (scalar integer_kind), shown (scalar text_kind), shown arrays, shown objects)

-- what a shape adds fits
pub added_fits : (newer older : List Name) (s : ShapeTree) (d : Counted) → Extends newer older → IsCanonical (length older) d → IsNamed newer s → ((path : Path) → total_at older d path + values_at s path < 2 ^ 64) → DoesFit newer (added newer s d)
added_fits newer older s d extends canonical named fits = λ path. omega (arith, total-added newer s d named path, same_total newer older d path extends canonical, fits path)
