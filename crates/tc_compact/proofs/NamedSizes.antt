-- How long the record with names of a record with numbers is.
use Rattle.std.proofs.Common.{◌≡◌, ◌∙◌, ℕ, zero, suc, ◌+◌, ◌*◌, ◌-◌, ◌<◌, ◌≤◌, ◌^◌, nat_lt, if◌then◌else◌, Bool, true, false, List, [], ◌∷◌, Option, None, Some, IfSome, IfNone, length, map, flat_map, refl, sym, ap, subst, arith, length-append}
use Rattle.std.proofs.lemmas.Bool.Decides.{nat_tests}
use Rattle.std.proofs.lemmas.List.{length-map}
use Rattle.std.specs.List.{AllByRecursion}
use Rattle.tc_model.specs.Document.{Name, Scalar}
use Rattle.tc_model.specs.Dictionary.{IsName, IsDictionary}
use Rattle.tc_names.specs.Longest.{longest_of}
use Rattle.tc_record.specs.Preorder.{Token}
use Rattle.tc_record.specs.Record.{labels, texts, piece_tag, greatest, width, joined, in_bytes, record_of, NumberedTree}
use Rattle.tc_record.specs.Sections.{least_width}
use Rattle.tc_record.specs.Walk.{Key, name, number}
use Rattle.tc_record.specs.Borrowed.{Record, Spells, IsBelow, numbered_tokens}
use Rattle.tc_record.proofs.Cutting.{labels_within}
use Rattle.tc_record.proofs.NumberLengths.{length-numbers, bytes_most}
use Rattle.tc_record.proofs.NumberColumns.{least_width-is}
use Rattle.tc_compact.specs.Slots.{key_numbers, numbers_in}
use Rattle.tc_compact.specs.Meant.{name_at, expanded, HasRoom}
use Rattle.tc_compact.specs.Layout.{parts_of, values}
use Rattle.tc_compact.proofs.Laid.{whole_sum, whole_length}
use Rattle.tc_compact.proofs.Compacts.{record_holds}
use Rattle.tc_compact.proofs.NumberedTrees.{numbered_tree, expanded_laid}

-- ---- how long names are

short_at : (names : List Name) (k : ℕ) → AllByRecursion IsName names → length (name_at names k) < 2 ^ 32
short_at [] k each = omega arith
short_at (n ∷ names) zero each = each.0.short
short_at (n ∷ names) (suc k) each = short_at names k each.1

joined_few : (names : List Name) (ks : List ℕ) → AllByRecursion IsName names → length (joined (map (name_at names) ks)) ≤ length ks * (2 ^ 32 - 1)
joined_few names [] each = omega arith
joined_few names (k ∷ ks) each = omega (arith, length-append (name_at names k) (joined (map (name_at names) ks)), short_at names k each, joined_few names ks each)

-- the bytes of the names of fewer than 2^32 numbers
pub joined_short : (names : List Name) (ks : List ℕ) → IsDictionary names → length ks < 2 ^ 32 → length (joined (map (name_at names) ks)) < 2 ^ 64
joined_short names ks dictionary few = omega (arith, joined_few names ks dictionary.each, few)

-- there are fewer than 2^32 numbers, since each is that of a token
pub numbers_few : (r : Record) → Spells r → length (numbers_in r.tokens) < 2 ^ 32
numbers_few r spells =
    let holds = record_holds r spells in
    omega (arith, fewer (labels r.tokens), labels_within r.tokens, length-map r.tokens (λ (t : Token Key Scalar). piece_tag t.piece), holds.len, holds.short)
  where
    fewer : (ls : List Key) → length (flat_map key_numbers ls) ≤ length ls
    fewer [] = omega arith
    fewer (name n ∷ ls) = omega (arith, fewer ls)
    fewer (number k ∷ ls) = omega (arith, fewer ls)

-- what slots tell of the names that they measure
pub slots_told : (ns : List Name) (count longest : ℕ) → count ≡ length ns → longest ≡ greatest (map length ns) → (least_width in_bytes count longest ≡ width (map length ns)) × (count * least_width in_bytes count longest ≡ length (map length ns) * width (map length ns))
slots_told ns count longest many most =
    let ls = map length ns in
    let all : count ≡ length ls = many ∙ sym (length-map ns length) in
    let told : least_width in_bytes count longest ≡ width ls = ap (λ k. least_width in_bytes k longest) all ∙ ap (least_width in_bytes (length ls)) most ∙ least_width-is in_bytes ls in
    (told, ap (λ k. count * k) told ∙ ap (λ k. k * width ls) all)

-- ---- the length

-- by what is known of the names
pub named_length : (names : List Name) (r : Record) (n : NumberedTree) (count longest name_bytes len : ℕ) → r.tokens ≡ numbered_tokens n
    → count ≡ length (numbers_in r.tokens) → longest ≡ greatest (map length (map (name_at names) (numbers_in r.tokens))) → name_bytes ≡ length (joined (map (name_at names) (numbers_in r.tokens)))
    → len ≡ length (values in_bytes (parts_of r.tokens)) → 23 + len + count * least_width in_bytes count longest + name_bytes ≡ length (record_of (expanded names n))
named_length names r n count longest name_bytes len tokens many most bytes values_len =
    let ns = map (name_at names) (numbers_in r.tokens) in
    let ls = map length ns in
    let told = slots_told ns count longest (many ∙ sym (length-map (numbers_in r.tokens) (name_at names))) most in
    omega (arith, values_len, told.1, bytes, ap length (expanded_laid names n r.tokens tokens), whole_sum in_bytes 0 (parts_of r.tokens) ls (joined ns), length-numbers (width ls) ls)

-- a record that has room is short enough
pub short_with_names : (names : List Name) (r : Record) (count longest name_bytes len : ℕ) → Spells r → r.named ≡ false → HasRoom names r
    → count ≡ length (numbers_in r.tokens) → longest ≡ greatest (map length (map (name_at names) (numbers_in r.tokens))) → name_bytes ≡ length (joined (map (name_at names) (numbers_in r.tokens)))
    → len ≡ length (values in_bytes (parts_of r.tokens)) → 23 + len + count * least_width in_bytes count longest + name_bytes < 2 ^ 32
short_with_names names r count longest name_bytes len spells unnamed room many most bytes values_len =
    let tree = numbered_tree r spells unnamed in
    subst (λ k. k < 2 ^ 32) (sym (named_length names r tree.tree count longest name_bytes len tree.tokens many most bytes values_len)) (room.short tree.tree tree.tokens)

-- what has 32 bits
pub within : (total : ℕ) (o : Option ℕ) → o ≡ (if nat_lt total (2 ^ 32) then Some total else None) → IfSome o (λ len. len ≡ total) × IfNone o (2 ^ 32 ≤ total)
within total o is = rw is (by_test (nat_lt total (2 ^ 32)) refl)
  where
    by_test : (b : Bool) → nat_lt total (2 ^ 32) ≡ b → IfSome (if b then Some total else None) (λ len. len ≡ total) × IfNone (if b then Some total else None) (2 ^ 32 ≤ total)
    by_test true e = (refl, tt)
    by_test false e = (tt, grind (arith, nat_tests))

-- ---- a bound on the length

-- no name is longer than the longest
most_at : (names : List Name) (k : ℕ) → length (name_at names k) ≤ longest_of names
most_at [] k = omega arith
most_at (n ∷ names) zero = omega arith
most_at (n ∷ names) (suc k) = omega (arith, most_at names k)

-- a name and its slot in place of each number
slots_most : (names : List Name) (ls : List Key) → length (joined (map (name_at names) (flat_map key_numbers ls))) + length (flat_map key_numbers ls) * 4 ≤ length ls * (longest_of names + 4)
slots_most names [] = omega arith
slots_most names (name n ∷ ls) = omega (arith, slots_most names ls)
slots_most names (number k ∷ ls) = omega (arith, length-append (name_at names k) (joined (map (name_at names) (flat_map key_numbers ls))), most_at names k, slots_most names ls)

-- so the record with names is at most so long, whose lengths of texts take four bytes each at most
pub named_most : (names : List Name) (r : Record) (n : NumberedTree) → Spells r → r.tokens ≡ numbered_tokens n
    → length (record_of (expanded names n)) ≤ length r.bytes + length (labels r.tokens) * (longest_of names + 4) + length (texts r.tokens) * 4
named_most names r n spells tokens =
    let ks = numbers_in r.tokens in
    let ns = map (name_at names) ks in
    let ls = map length ns in
    let lengths = map length (texts r.tokens) in
    let members : length ls ≡ length ks = length-map ns length ∙ length-map ks (name_at names) in
    let holds = record_holds r spells in
    omega (
      arith,
      slots_most names (labels r.tokens),
      members,
      bytes_most ls,
      bytes_most lengths,
      length-map (texts r.tokens) length,
      holds.len,
      ap length (expanded_laid names n r.tokens tokens),
      whole_length in_bytes 0 (parts_of r.tokens) ls (joined ns),
    )

under : (len most : ℕ) → len ≤ most → nat_lt most (2 ^ 32) ≡ true → len < 2 ^ 32
under len most less test = grind (arith, nat_tests)

-- a record has room that is short enough with the longest name in place of each number
pub room_by_bound : (names : List Name) (r : Record) → Spells r → AllByRecursion (IsBelow (length names)) (labels r.tokens)
    → nat_lt (length r.bytes + (length (labels r.tokens) * (longest_of names + 4) + length (texts r.tokens) * 4)) (2 ^ 32) ≡ true → HasRoom names r
room_by_bound names r spells known test = record {
  known = known;
  short = λ n tokens. under (length (record_of (expanded names n))) _ (let most = named_most names r n spells tokens in omega (arith, most)) test;
}
