use Rattle.std.proofs.Common.{◌≡◌, ◌∙◌, ◌≤◌, ℕ, zero, suc, List, [], ◌∷◌, Some, unwrap_or, length, get_or, refl, sym, ap, arith}
use Rattle.std.specs.Prelude.{slice_get}
use Rattle.std.proofs.lemmas.Option.{slice_get-get_or}
use Rattle.tc_model.specs.Document.{Name}
use Rattle.tc_model.specs.Dictionary.{number_of}
use Rattle.tc_model.proofs.NameNumbers.{number_of-slice_get}
use Rattle.tc_record.specs.WalkView.{key_of}
use Rattle.tc_record.specs.Building.{name_told}
use Rattle.tc_compact.specs.Meant.{name_at}
use Rattle.tc_infer.specs.Levels.{name_under}
use Rattle.tc_infer.proofs.guessing.known_number.Goals as goal

-- a number below the names is that of its name
pub returns-then-number-known-clause-some : goal.returns-then-number-known-clause-some
returns-then-number-known-clause-some c =
    let names = c.args.names.now in
    let k = c.in-Number.number in
    let there : slice_get names k ≡ Some (get_or names k []) = slice_get-get_or names k [] (omega (arith, c.if-number-known.true, c.len-known.ensures.count)) in
    let meant : name_under names (key_of c.args.label) ≡ name_at names k = ap (λ l. name_under names (key_of l)) c.in-Number.is in
    ap (number_of names) meant ∙ number_of-slice_get names (name_at names k) k c.len-known.ensures.dictionary.distinct (there ∙ ap Some (sym (ap (λ o. unwrap_or o []) there)))

-- and one that is not has the empty name
nameless : (names : List Name) (k : ℕ) → length names ≤ k → name_at names k ≡ []
nameless [] k over = refl
nameless (n ∷ names) zero over = absurd (omega (arith, over))
nameless (n ∷ names) (suc k) over = nameless names k (omega (arith, over))

pub returns-else-number-known-clause-none : goal.returns-else-number-known-clause-none
returns-else-number-known-clause-none c =
    let names = c.args.names.now in
    let k = c.in-Number.number in
    ap (λ l. name_under names (key_of l)) c.in-Number.is ∙ nameless names k (omega (arith, c.if-number-known.false, c.len-known.ensures.count)) ∙ sym (ap (λ l. name_told (key_of l)) c.in-Number.is)
