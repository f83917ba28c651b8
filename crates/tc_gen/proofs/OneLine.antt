-- The lines that are read and written have no line feed in them, and the generated input has the generated lines.
use Rattle.std.proofs.Common.{◌≡◌, ℕ, zero, suc, ◌<◌, ◌+◌, ◌%◌, ◌/◌, ◌==◌, ◌||◌, ◌&&◌, Bool, true, false, not, List, [], ◌∷◌, ◌++◌, cond, refl, ap, sym, ◌∙◌, arith, append_assoc, codes, nat_lt}
use Rattle.std.specs.Prelude.{flat_map}
use Rattle.std.specs.List.{AllByRecursion, list_all}
use Rattle.std.specs.Char.{digit_char}
use Rattle.std.specs.Fmt.{decimal, signed_decimal, digits, digits_onto, digit_glyph}
use Rattle.std.proofs.lemmas.Bool.{false_from_ne_true, eqb-true}
use Rattle.json.specs.Print.{escape_letter, escape_byte, escape, quoted}
use Rattle.serde_json.specs.Data.{Num, unsigned, negative, float, Data, null, boolean, number, string, array, object, Items, no_items, item, Members, no_members, member}
use Rattle.serde_json.specs.Written.{number_text, comma_if, compact_text, items_text, members_text}
use Rattle.std.specs.Prelude.{pos, negsuc, ℤ}
use Rattle.tc_model.specs.Lines.{feed, lines_of}
use Rattle.tc_lines.specs.Holding.{IsOneLine}
use Rattle.tc_lines.proofs.LineLemmas.{IsOneLine-append, lines_of-line}
use Rattle.tc_gen.specs.Generated.{delete_line, generated, input_of, key_at, line_of, lines_from, members_at, schema_line, tags_member, upsert_line, user_member}

-- ---- bytes that are no line feed

above_feed : (k : ℕ) → feed < k → (k == feed) ≡ false
above_feed k more = false_from_ne_true (k == feed) (λ is. let e : k ≡ feed = eqb-true k feed is in omega (arith, e, more))

-- a text without one, by a test
abbrev has_none : List ℕ → Bool
has_none bs = list_all (λ b. not (b == feed)) bs

if_one_line : (b : Bool) (xs ys : List ℕ) → (b ≡ true → IsOneLine xs) → (b ≡ false → IsOneLine ys) → IsOneLine (cond b xs ys)
if_one_line true xs ys p q = p refl
if_one_line false xs ys p q = q refl

if_other : (b : Bool) (x y : ℕ) → (b ≡ true → (x == feed) ≡ false) → (y == feed) ≡ false → (cond b x y == feed) ≡ false
if_other true x y p q = p refl
if_other false x y p q = q

-- ---- JSON

either : (a b : Bool) (P : Type 0) → (a || b) ≡ true → (a ≡ true → P) → (b ≡ true → P) → P
either true b P is p q = p refl
either false b P is p q = q is

quote_or_backslash : (x : ℕ) → ((x == 34) || (x == 92)) ≡ true → (x == feed) ≡ false
quote_or_backslash x is =
    either (x == 34) (x == 92) ((x == feed) ≡ false) is (λ a. above_feed x (let e : x ≡ 34 = eqb-true x 34 a in omega (arith, e))) (λ b. above_feed x (let e : x ≡ 92 = eqb-true x 92 b in omega (arith, e)))

letter_is_other : (x : ℕ) → (escape_letter x == feed) ≡ false
letter_is_other x =
    if_other ((x == 34) || (x == 92)) x _ (quote_or_backslash x)
    (if_other (x == 8) 98 _ (λ _. refl) (if_other (x == 12) 102 _ (λ _. refl) (if_other (x == 10) 110 _ (λ _. refl) (if_other (x == 13) 114 _ (λ _. refl) (if_other (x == 9) 116 0 (λ _. refl) refl)))))

digit_is_other : (d : ℕ) → (digit_char d == feed) ≡ false
digit_is_other d = if_other (nat_lt d 10) (48 + d) (87 + d) (λ _. above_feed (48 + d) (omega arith)) (above_feed (87 + d) (omega arith))

plain_is_other : (x : ℕ) → nat_lt x 32 ≡ false → (x == feed) ≡ false
plain_is_other x high = false_from_ne_true (x == feed) (λ is.
    let bad : nat_lt 10 32 ≡ false = ap (λ y. nat_lt y 32) (sym (eqb-true x feed is)) ∙ high in
    cc)

escape_one_line : (x : ℕ) → IsOneLine (escape_byte x)
unfolding escape_byte
escape_one_line x =
    if_one_line (nat_lt 0 (escape_letter x)) (92 ∷ escape_letter x ∷ []) _ (λ _. (refl, (letter_is_other x, tt)))
    (λ _. if_one_line (nat_lt x 32) (92 ∷ 117 ∷ 48 ∷ 48 ∷ digit_char (x / 16) ∷ digit_char (x % 16) ∷ []) (x ∷ [])
    (λ _. (refl, (refl, (refl, (refl, (digit_is_other (x / 16), (digit_is_other (x % 16), tt))))))) (λ high. (plain_is_other x high, tt)))

escaped_one_line : (s : List ℕ) → IsOneLine (escape s)
escaped_one_line [] = tt
escaped_one_line (x ∷ xs) = IsOneLine-append (escape_byte x) (escape xs) (escape_one_line x) (escaped_one_line xs)

quoted_one_line : (s : List ℕ) → IsOneLine (quoted s)
quoted_one_line s = (refl, IsOneLine-append (escape s) (34 ∷ []) (escaped_one_line s) (refl, tt))

glyph_is_other : (d : ℕ) → (digit_glyph false d == feed) ≡ false
glyph_is_other d = if_other (nat_lt d 10) (48 + d) (87 + d) (λ _. above_feed (48 + d) (omega arith)) (above_feed (87 + d) (omega arith))

digits_one_line : (k n : ℕ) (acc : List ℕ) → IsOneLine acc → IsOneLine (digits_onto k 10 false n acc)
digits_one_line zero n acc is = is
digits_one_line (suc k) n acc is =
    let next : IsOneLine (digit_glyph false (n % 10) ∷ acc) = (glyph_is_other (n % 10), is) in
    if_one_line (n / 10 == 0) (digit_glyph false (n % 10) ∷ acc) _ (λ _. next) (λ _. digits_one_line k (n / 10) (digit_glyph false (n % 10) ∷ acc) next)

decimal_one_line : (n : ℕ) → IsOneLine (decimal n)
unfolding digits
decimal_one_line n = digits_one_line 64 n [] tt

signed_one_line : (z : ℤ) → IsOneLine (signed_decimal z)
signed_one_line (pos n) = decimal_one_line n
signed_one_line (negsuc n) = (refl, decimal_one_line (suc n))

number_one_line : (n : Num) → IsOneLine (number_text n)
number_one_line (unsigned n) = decimal_one_line n
number_one_line (negative z) = signed_one_line z
number_one_line (float x) = tt

comma_one_line : (later : Bool) → IsOneLine (comma_if later)
comma_one_line true = (refl, tt)
comma_one_line false = tt

mutual
  pub text_one_line : (d : Data) → IsOneLine (compact_text d)
  text_one_line null = (refl, (refl, (refl, (refl, tt))))
  text_one_line (boolean true) = (refl, (refl, (refl, (refl, tt))))
  text_one_line (boolean false) = (refl, (refl, (refl, (refl, (refl, tt)))))
  text_one_line (number n) = number_one_line n
  text_one_line (string s) = quoted_one_line s
  text_one_line (array ds) = (refl, items_one_line false ds)
  text_one_line (object ms) = (refl, members_one_line false ms)

  items_one_line : (later : Bool) (ds : Items) → IsOneLine (items_text later ds)
  items_one_line later no_items = (refl, tt)
  items_one_line later (item d ds) =
      IsOneLine-append (comma_if later) (compact_text d ++ items_text true ds) (comma_one_line later) (IsOneLine-append (compact_text d) (items_text true ds) (text_one_line d) (items_one_line true ds))

  members_one_line : (later : Bool) (ms : Members) → IsOneLine (members_text later ms)
  members_one_line later no_members = (refl, tt)
  members_one_line later (member k d ms) =
      IsOneLine-append (comma_if later) (quoted k ++ 58 ∷ (compact_text d ++ members_text true ms)) (comma_one_line later)
      (IsOneLine-append (quoted k) (58 ∷ (compact_text d ++ members_text true ms)) (quoted_one_line k) (refl, IsOneLine-append (compact_text d) (members_text true ms) (text_one_line d) (members_one_line true ms)))

-- ---- generated lines

no_feed_first : (b : ℕ) (bs : List ℕ) (t : Bool) → (b == feed) ≡ t → (has_none bs ≡ true → IsOneLine bs) → (not t && has_none bs) ≡ true → IsOneLine (b ∷ bs)
no_feed_first b bs true e more is = absurd (cc)
no_feed_first b bs false e more is = (e, more is)

one_line_where : (bs : List ℕ) → has_none bs ≡ true → IsOneLine bs
one_line_where [] is = tt
one_line_where (b ∷ bs) is = no_feed_first b bs (b == feed) refl (λ more. one_line_where bs more) is

around : (before : List ℕ) (n : ℕ) (after : List ℕ) → has_none before ≡ true → IsOneLine after → IsOneLine (before ++ (decimal n ++ after))
around before n after one two = IsOneLine-append before (decimal n ++ after) (one_line_where before one) (IsOneLine-append (decimal n) after (decimal_one_line n) two)

members_are_one_line : (k : ℕ) → IsOneLine (members_at k)
members_are_one_line k =
    if_one_line (k % 4 == 0) _ _ (λ _. IsOneLine-append (codes ",\"n\":") (decimal k) (one_line_where (codes ",\"n\":") refl) (decimal_one_line k))
    (λ _. if_one_line (k % 4 == 1) _ _ (λ _. around (codes ",\"n\":\"") k (codes "\"") refl (one_line_where (codes "\"") refl))
    (λ _. if_one_line (k % 4 == 2) _ _ (λ _. IsOneLine-append (tags_member k) (user_member (k % 10)) (around (codes ",\"tags\":[\"t0\",") k (codes "]") refl (one_line_where (codes "]") refl)) (around (codes ",\"user\":{\"name\":\"u") (k % 10) (codes "\"}") refl (one_line_where (codes "\"}") refl)))
    (λ _. around (codes ",\"n\":null,\"user\":{\"age\":") (k % 90) (codes "}") refl (one_line_where (codes "}") refl))))

upsert_is_one_line : (key : ℕ) (members : List ℕ) → IsOneLine members → IsOneLine (upsert_line key members)
upsert_is_one_line key members is = around (codes "{\"op\":\"upsert\",\"doc\":{\"id\":") key (members ++ codes "}}") refl (IsOneLine-append members (codes "}}") is (one_line_where (codes "}}") refl))

line_is_one_line : (k key : ℕ) → IsOneLine (line_of k key)
line_is_one_line k key =
    if_one_line (k % 5 == 0) (delete_line key) (upsert_line key (members_at k)) (λ _. around (codes "{\"op\":\"delete\",\"id\":") key (codes "}") refl (one_line_where (codes "}") refl)) (λ _. upsert_is_one_line key (members_at k) (members_are_one_line k))

lines_are_one_line : (k more : ℕ) → AllByRecursion IsOneLine (lines_from k more)
lines_are_one_line k zero = (one_line_where schema_line refl, tt)
lines_are_one_line k (suc more) = (line_is_one_line k (key_at k), lines_are_one_line (suc k) more)

lines_of-joined : (lines : List (List ℕ)) → AllByRecursion IsOneLine lines → lines_of (flat_map (λ line. line ++ feed ∷ []) lines) ≡ lines
lines_of-joined [] is = refl
lines_of-joined (line ∷ lines) is =
    ap lines_of (append_assoc line (feed ∷ []) (flat_map (λ line. line ++ feed ∷ []) lines)) ∙ lines_of-line line (flat_map (λ line. line ++ feed ∷ []) lines) is.0 ∙ ap (λ rest. line ∷ rest) (lines_of-joined lines is.1)

-- the generated input has the generated lines
pub lines_of_input : (n : ℕ) → lines_of (input_of n) ≡ generated n
lines_of_input n = lines_of-joined (generated n) (lines_are_one_line 1 n)
