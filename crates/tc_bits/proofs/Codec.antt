-- A column is read from its spelling alone.
use Rattle.std.proofs.Common.{◌≡◌, ◌≤◌, ◌<◌, ℕ, zero, suc, ◌+◌, ◌-◌, ◌*◌, ◌/◌, ◌%◌, ◌^◌, true, IsTrue, List, [], ◌∷◌, ◌++◌, length, get_or, map, refl, sym, ap, ◌∙◌, subst, arith}
use Rattle.std.specs.Int.{bytes_high_first, byte_at}
use Rattle.std.proofs.Math.Nat.{mod-eq_of_lt, mul-mod_left, div-eq_of_lt}
use Rattle.std.proofs.lemmas.Nat.{pow_pos, pow-add, shr-shr, shr_high, shr_split, mul-le}
use Rattle.std.proofs.lemmas.Bool.Decides.{nat_tests}
use Rattle.std.proofs.lemmas.List.FromFn.{map-range_with_len_more, fill_by_all}
use Rattle.std.specs.List.{range_with_len}
use Rattle.tc_bits.specs.Bits.{value, joined, column_size, filling, column, elements, field_of, bits_after, bits_at, is_width_for, is_column, IsColumn}
use Rattle.tc_bits.proofs.Fields.{field-after, field-before, field-below}
use Rattle.tc_bits.proofs.Values.{AreBytes, value-below, value-high_first, length-high_first, byte_is}
use Rattle.tc_bits.proofs.Joined.{AreBelow, joined-below, digit_at, joined-push}
use Rattle.tc_bits.proofs.Elements.{ColumnJudged, column_judged, length-elements}

-- ---- sizes

pub size_room : (count w : ℕ) → count * w + filling count w ≡ 8 * column_size count w
size_room count w = omega arith

pub length-column : (w : ℕ) (ns : List ℕ) → length (column w ns) ≡ column_size (length ns) w
length-column w ns = length-high_first (column_size (length ns) w) (joined w ns * 2 ^ filling (length ns) w)

-- ---- what is spelled is read

pub value-column : (w : ℕ) (ns : List ℕ) → AreBelow w ns → value (column w ns) ≡ joined w ns * 2 ^ filling (length ns) w
value-column w ns each =
    let f = filling (length ns) w in
    let below : joined w ns * 2 ^ f < 2 ^ (8 * column_size (length ns) w) =
    subst (λ p. joined w ns * 2 ^ f < p)
    (sym (pow-add 2 (w * length ns) f) ∙ ap (λ k. 2 ^ k) (turned (length ns) w ∙ size_room (length ns) w))
    (scaled (joined w ns) (2 ^ (w * length ns)) f (joined-below w ns each)) in
    value-high_first (column_size (length ns) w) (joined w ns * 2 ^ f) ∙ mod-eq_of_lt below
  where
    turned : (k w : ℕ) → w * k + filling k w ≡ k * w + filling k w
    turned k w = omega arith

    scaled : (a b f : ℕ) → a < b → a * 2 ^ f < b * 2 ^ f
    scaled a b f below =
        let whole : (a + 1) * 2 ^ f ≤ b * 2 ^ f = mul-le (a + 1) (2 ^ f) b (2 ^ f) (omega (arith, below)) (omega arith) in
        let some = pow_pos f in omega (arith, whole, some)

-- the elements of the column of some numbers are these
pub element-column : (w i : ℕ) (ns : List ℕ) → AreBelow w ns → i < length ns → bits_at w (w * i) (column w ns) ≡ get_or ns i 0
element-column w i ns each within =
    let f = filling (length ns) w in
    let above : bits_after w (w * i) (column w ns) ≡ f + w * (length ns - 1 - i) = ap (λ k. 8 * k - (w * i + w)) (length-column w ns) ∙ room (length ns) (size_room (length ns) w) within in
    ap (λ k. field_of k w (value (column w ns))) above
    ∙ ap (field_of (f + w * (length ns - 1 - i)) w) (value-column w ns each ∙ nothing (joined w ns * 2 ^ f))
    ∙ field-after (w * (length ns - 1 - i)) f w (joined w ns) 0 (pow_pos f)
    ∙ digit_at w i ns each within
  where
    nothing : (n : ℕ) → n ≡ n + 0
    nothing n = omega arith

    room : (k : ℕ) → k * w + filling k w ≡ 8 * column_size k w → i < k → 8 * column_size k w - (w * i + w) ≡ filling k w + w * (k - 1 - i)
    room k whole below =
        let split : k ≡ i + 1 + (k - 1 - i) = omega (arith, below) in
        let spread : k * w ≡ w * i + w + w * (k - 1 - i) = ap (λ m. m * w) split ∙ omega arith in
        rw (sym whole) (omega (arith, spread))

pub elements-column : (w : ℕ) (ns : List ℕ) → AreBelow w ns → elements w (length ns) (column w ns) ≡ ns
elements-column w ns each = sym (fill_by_all (λ i. bits_at w (w * i) (column w ns)) ns (length ns) 0 refl (λ i within. sym (element-column w i ns each within)))

judged_true : (w count : ℕ) (bytes : List ℕ) → ColumnJudged w count bytes → is_column w count bytes ≡ true
judged_true w count bytes judged = let most = judged.most in let fits = judged.fits in let sized = judged.sized in let filled = judged.filled in grind (arith, nat_tests)

pub column_is : (w count : ℕ) (ns bytes : List ℕ) → length ns ≡ count → IsColumn w ns bytes → (is_column w count bytes ≡ true) × (elements w count bytes ≡ ns)
column_is w count ns bytes same is =
    let judged : ColumnJudged w (length ns) (column w ns) = record {
      most = is.most;
      fits = is.fits;
      sized = length-column w ns;
      filled = ap (λ v. v % 2 ^ filling (length ns) w) (value-column w ns is.each) ∙ mul-mod_left (joined w ns) (2 ^ filling (length ns) w);
    } in (
      ap (λ bs. is_column w count bs) is.spelled ∙ ap (λ k. is_column w k (column w ns)) (sym same) ∙ judged_true w (length ns) (column w ns) judged,
      ap (λ bs. elements w count bs) is.spelled ∙ ap (λ k. elements w k (column w ns)) (sym same) ∙ elements-column w ns is.each,
    )

-- ---- what is read is spelled so

pub high_first-low : (j d high low : ℕ) → bytes_high_first j (high * 2 ^ (8 * (j + d)) + low) ≡ bytes_high_first j low
high_first-low zero d high low = refl
high_first-low (suc j) d high low =
    let n = high * 2 ^ (8 * (suc j + d)) + low in
    let first : byte_at j n ≡ byte_at j low =
    byte_is j n ∙ ap (λ k. field_of (8 * j) 8 (high * 2 ^ k + low)) (spread j d) ∙ field-before (8 * j) 8 (8 * d) high low ∙ sym (byte_is j low) in
    let rest : bytes_high_first j n ≡ bytes_high_first j low =
    ap (λ k. bytes_high_first j (high * 2 ^ (8 * k) + low)) (shift j d) ∙ high_first-low j (suc d) high low in
    ap (λ b. b ∷ bytes_high_first j n) first ∙ ap (λ bs. byte_at j low ∷ bs) rest
  where
    spread : (j d : ℕ) → 8 * (suc j + d) ≡ 8 * d + 8 + 8 * j
    spread j d = omega arith

    shift : (j d : ℕ) → suc j + d ≡ j + suc d
    shift j d = omega arith

-- bytes are the bytes of their number
pub high_first-value : (bytes : List ℕ) → AreBytes bytes → bytes_high_first (length bytes) (value bytes) ≡ bytes
high_first-value [] each = refl
high_first-value (b ∷ bytes) each =
    let k = length bytes in
    let first : byte_at k (b * 2 ^ (8 * k) + value bytes) ≡ b =
    byte_is k (b * 2 ^ (8 * k) + value bytes)
    ∙ ap (λ m. m % 2 ^ 8) (shr_high b (8 * k) (value bytes) (value-below bytes (λ i. each (suc i))))
    ∙ mod-eq_of_lt (each 0) in
    let rest : bytes_high_first k (b * 2 ^ (8 * k) + value bytes) ≡ bytes =
    ap (λ m. bytes_high_first k (b * 2 ^ (8 * m) + value bytes)) (plain k) ∙ high_first-low k 0 b (value bytes) ∙ high_first-value bytes (λ i. each (suc i)) in
    ap (λ c. c ∷ bytes_high_first k (b * 2 ^ (8 * k) + value bytes)) first ∙ ap (λ bs. b ∷ bs) rest
  where
    plain : (k : ℕ) → k ≡ k + 0
    plain k = omega arith

-- the first elements, as one number, are the first bits
joined-elements : (w count : ℕ) (bytes : List ℕ) → AreBytes bytes → w * count ≤ 8 * length bytes → joined w (elements w count bytes) ≡ value bytes / 2 ^ (8 * length bytes - w * count)
joined-elements w zero bytes each room = sym (ap (λ k. value bytes / 2 ^ k) (whole w (8 * length bytes)) ∙ div-eq_of_lt (value-below bytes each))
  where
    whole : (w k : ℕ) → k - w * 0 ≡ k
    whole w k = omega arith
joined-elements w (suc count) bytes each room =
    let rest = 8 * length bytes - w * suc count in
    let more : elements w (suc count) bytes ≡ elements w count bytes ++ bits_at w (w * count) bytes ∷ [] =
    ap (λ k. elements w k bytes) (after count) ∙ map-range_with_len_more (λ i. bits_at w (w * i) bytes) 0 count count (before count) in
    let at : bits_after w (w * count) bytes ≡ rest = ap (λ k. 8 * length bytes - k) (spread w count) in
    let up : 8 * length bytes - w * count ≡ rest + w = gap w count (8 * length bytes) room in
    let higher : joined w (elements w count bytes) ≡ value bytes / 2 ^ rest / 2 ^ w =
    joined-elements w count bytes each (less w count (8 * length bytes) room) ∙ ap (λ k. value bytes / 2 ^ k) up ∙ sym (shr-shr (value bytes) rest w) in
    ap (joined w) more
    ∙ joined-push w (elements w count bytes) (bits_at w (w * count) bytes)
    ∙ ap (λ k. k * 2 ^ w + bits_at w (w * count) bytes) higher
    ∙ ap (λ k. value bytes / 2 ^ rest / 2 ^ w * 2 ^ w + field_of k w (value bytes)) at
    ∙ shr_split (value bytes / 2 ^ rest) w
  where
    after : (k : ℕ) → suc k ≡ k + 1
    after k = omega arith

    before : (k : ℕ) → 0 + k ≡ k
    before k = omega arith

    spread : (w k : ℕ) → w * k + w ≡ w * suc k
    spread w k = omega arith

    gap : (w k n : ℕ) → w * suc k ≤ n → n - w * k ≡ n - w * suc k + w
    gap w k n room = let s = spread w k in omega (arith, room, s)

    less : (w k n : ℕ) → w * suc k ≤ n → w * k ≤ n
    less w k n room = let s = spread w k in omega (arith, room, s)

each-below : (w a count : ℕ) (bytes : List ℕ) → AreBelow w (map (λ i. bits_at w (w * i) bytes) (range_with_len a count))
each-below w a zero bytes = tt
each-below w a (suc count) bytes = (field-below (bits_after w (w * a) bytes) w (value bytes), each-below w (a + 1) count bytes)

pub elements_spell : (w count : ℕ) (bytes : List ℕ) → AreBytes bytes → IsTrue (is_column w count bytes) → IsColumn w (elements w count bytes) bytes
elements_spell w count bytes each is =
    let judged = column_judged w count bytes is in
    let long = length-elements w count bytes in
    let f = filling count w in
    let whole : w * count + f ≡ 8 * length bytes = turned w count f ∙ size_room count w ∙ ap (λ k. 8 * k) (sym judged.sized) in
    let number : joined w (elements w count bytes) * 2 ^ f ≡ value bytes =
    ap (λ k. k * 2 ^ f) (joined-elements w count bytes each (omega (arith, whole)))
    ∙ ap (λ k. value bytes / 2 ^ k * 2 ^ f) (rest (w * count) f (8 * length bytes) whole)
    ∙ plus_nothing (value bytes / 2 ^ f * 2 ^ f)
    ∙ ap (λ k. value bytes / 2 ^ f * 2 ^ f + k) (sym judged.filled)
    ∙ shr_split (value bytes) f in
    record {
      most = judged.most;
      fits = subst (λ k. IsTrue (is_width_for w k)) (sym long) judged.fits;
      each = each-below w 0 count bytes;
      spelled =
          sym
          (ap (λ k. bytes_high_first (column_size k w) (joined w (elements w count bytes) * 2 ^ filling k w)) long
          ∙ ap (λ v. bytes_high_first (column_size count w) v) number
          ∙ ap (λ k. bytes_high_first k (value bytes)) (sym judged.sized)
          ∙ high_first-value bytes each);
    }
  where
    turned : (w k f : ℕ) → w * k + f ≡ k * w + f
    turned w k f = omega arith

    rest : (a f n : ℕ) → a + f ≡ n → n - a ≡ f
    rest a f n whole = omega (arith, whole)

    plus_nothing : (n : ℕ) → n ≡ n + 0
    plus_nothing n = omega arith
