-- A bound on the length of a record with names.
use Rattle.std.proofs.Common.{◌≡◌, ◌<◌, ◌≤◌, ◌+◌, ◌*◌, ◌^◌, nat_lt, ℕ, true, List, length, arith}
use Rattle.std.proofs.lemmas.Bool.Decides.{nat_tests}
use Rattle.tc_model.specs.Document.{Name}
use Rattle.tc_names.specs.Longest.{longest_of}
use Rattle.tc_record.specs.Record.{labels, texts, record_of, NumberedTree}
use Rattle.tc_record.specs.Borrowed.{Record, Spells, numbered_tokens}
use Rattle.tc_compact.specs.Meant.{expanded}
use Rattle.tc_compact.proofs.NamedSizes.{named_most}

-- a record with names is short where it is with the longest name in place of each number, and four bytes for each length
pub short_by_bound : (names : List Name) (r : Record) (n : NumberedTree) → Spells r → r.tokens ≡ numbered_tokens n → nat_lt (length r.bytes + (length (labels r.tokens) * (longest_of names + 4) + length (texts r.tokens) * 4)) (2 ^ 30) ≡ true
    → length (record_of (expanded names n)) < 2 ^ 30
short_by_bound names r n spells tokens test = under (length (record_of (expanded names n))) _ (let most = named_most names r n spells tokens in omega (arith, most)) test
  where
    under : (len most : ℕ) → len ≤ most → nat_lt most (2 ^ 30) ≡ true → len < 2 ^ 30
    under len most less test = grind (arith, nat_tests)
