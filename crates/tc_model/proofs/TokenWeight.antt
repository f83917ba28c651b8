-- The tokens of a text weigh no more than the text has bytes: one for each value that begins, and the bytes that keys and
-- strings stand for.
use Rattle.std.proofs.Common.{◌≡◌, ℕ, ◌+◌, ◌≤◌, ◌==◌, ◌&&◌, Bool, true, false, cond, nat_lt, List, [], ◌∷◌, length, Option, Some, None, option_and_then, refl, sym, ap, ◌∙◌, arith}
use Rattle.std.specs.Prelude.{nat_eq, drop, is_some, ⊤}
use Rattle.std.specs.List.{starts_with}
use Rattle.std.specs.Char.{is_digit, encode_utf8}
use Rattle.std.proofs.lemmas.Bool.{false≢true, eqb-true, and_parts}
use Rattle.std.proofs.lemmas.List.{length-append}
use Rattle.json.specs.Ascii as ascii
use Rattle.json.specs.Token.{Token, begin_object, end_object, begin_array, end_array, key, string, number, boolean, null, bad}
use Rattle.json.specs.Text.{code_unit, short_escape, is_high_surrogate, is_low_surrogate, surrogate_pair, Within, plain, after_backslash, after_u, after_high, prepend, content}
use Rattle.json.specs.Word.{is_operator, is_space, head, ends_word, after_number, number_before, literal, word}
use Rattle.json.specs.Lex.{Lexeme, token, comma, colon, Class, quote, backslash, operator, space, other, class, Mode, between, in_word, in_string, in_escape, operator_lexeme, string_token, lex_byte, lex, Place, fresh, after_value, after_comma, after_key, begins_colon, may_begin, may_close, if_allowed, place_token, punctuate, tokens}

abbrev pub token_weight : Token → ℕ
token_weight begin_object = 1
token_weight end_object = 0
token_weight begin_array = 1
token_weight end_array = 0
token_weight (key s) = length s
token_weight (string s) = 1 + length s
token_weight (number s) = 1
token_weight (boolean b) = 1
token_weight null = 1
token_weight bad = 0

abbrev pub tokens_weight : List Token → ℕ
tokens_weight [] = 0
tokens_weight (t ∷ ts) = token_weight t + tokens_weight ts

abbrev lexemes_weight : List Lexeme → ℕ
lexemes_weight [] = 0
lexemes_weight (token t ∷ ls) = token_weight t + lexemes_weight ls
lexemes_weight (comma ∷ ls) = lexemes_weight ls
lexemes_weight (colon ∷ ls) = lexemes_weight ls

-- ---- lexemes

chosen : (b : Bool) (t u : Token) (n : ℕ) → token_weight t ≤ n → token_weight u ≤ n → token_weight (cond b t u) ≤ n
chosen true t u n p q = p
chosen false t u n p q = q

number_weight : (t : List ℕ) (rest : Option (List ℕ)) → token_weight (number_before t rest) ≤ 1
number_weight t None = omega arith
number_weight t (Some rest) = chosen (ends_word rest) (number _) bad 1 (omega arith) (omega arith)

literal_weight : (name t : List ℕ) (u : Token) → token_weight u ≤ 1 → token_weight (literal name u t) ≤ 1
literal_weight name t u light = chosen (starts_with nat_eq t name && ends_word (drop (length name) t)) u bad 1 light (omega arith)

word_weight : (t : List ℕ) → token_weight (word t) ≤ 1
unfolding word
word_weight t =
    chosen (head t == ascii.lower_t) _ _ 1 (literal_weight ascii.true_text t (boolean true) (omega arith))
    (chosen (head t == ascii.lower_f) _ _ 1 (literal_weight ascii.false_text t (boolean false) (omega arith))
    (chosen (head t == ascii.lower_n) _ _ 1 (literal_weight ascii.null_text t null (omega arith)) (number_weight t (after_number t))))

chosen_lexeme : (b : Bool) (l m : Lexeme) (ls : List Lexeme) (n : ℕ) → lexemes_weight (l ∷ ls) ≤ n → lexemes_weight (m ∷ ls) ≤ n → lexemes_weight (cond b l m ∷ ls) ≤ n
chosen_lexeme true l m ls n p q = p
chosen_lexeme false l m ls n p q = q

operator_weight : (x : ℕ) (ls : List Lexeme) → lexemes_weight (operator_lexeme x ∷ ls) ≤ 1 + lexemes_weight ls
operator_weight x ls =
    chosen_lexeme (x == ascii.open_brace) _ _ ls _ (omega arith)
    (chosen_lexeme (x == ascii.close_brace) _ _ ls _ (omega arith)
    (chosen_lexeme (x == ascii.open_bracket) _ _ ls _ (omega arith)
    (chosen_lexeme (x == ascii.close_bracket) _ _ ls _ (omega arith)
    (chosen_lexeme (x == ascii.comma) _ _ ls _ (omega arith) (omega arith)))))

-- what follows in a string weighs no more than the bytes that the string has not
abbrev Light : ℕ → ℕ → Option (List ℕ) → Type 0
Light a n None = ⊤
Light a n (Some s) = a + length s ≤ n

either : (a n : ℕ) (b : Bool) (r s : Option (List ℕ)) → (b ≡ true → Light a n r) → (b ≡ false → Light a n s) → Light a n (cond b r s)
either a n true r s f g = f refl
either a n false r s f g = g refl

each_unit : (a n : ℕ) (f : ℕ → Option (List ℕ)) (o : Option ℕ) → ((u : ℕ) → o ≡ Some u → Light a n (f u)) → Light a n (option_and_then f o)
each_unit a n f None light = tt
each_unit a n f (Some u) light = light u refl

passed : (a n b m : ℕ) (r : Option (List ℕ)) → Light a n r → b + n ≤ m + a → Light b m r
passed a n b m None light room = tt
passed a n b m (Some s) light room = omega arith

longer : (a n b m : ℕ) (front : List ℕ) (r : Option (List ℕ)) → Light a n r → length front + b + n ≤ m + a → Light b m (prepend front r)
longer a n b m front None light room = tt
longer a n b m front (Some s) light room = omega (arith, length-append front s)

string_light : (a n : ℕ) (s : Option (List ℕ)) → Light a n s → a ≤ n → token_weight (string_token s) + a ≤ 1 + n
string_light a n None light least = omega arith
string_light a n (Some s) light least = omega arith

-- the weight of what the lexer reads on in a mode
abbrev ahead : Mode → List ℕ → ℕ
ahead m xs = lexemes_weight (lex m xs)

goes_on : (o s : Bool) (x : ℕ) (xs : List ℕ) (k : Mode → List Lexeme) → lex_byte in_string (cond o operator (cond s space other)) x xs k ≡ k in_string
goes_on true s x xs k = refl
goes_on false true x xs k = refl
goes_on false false x xs k = refl

ahead-plain : (x : ℕ) (xs : List ℕ) → (x == ascii.quote) ≡ false → (x == ascii.backslash) ≡ false → ahead in_string (x ∷ xs) ≡ ahead in_string xs
unfolding lex
ahead-plain x xs no_quote no_backslash =
    rw (no_quote, no_backslash) (ap lexemes_weight (goes_on (is_operator x) (is_space x) x xs (λ next. lex next xs)))

ahead-backslash : (x : ℕ) (xs : List ℕ) → (x == ascii.backslash) ≡ true → ahead in_string (x ∷ xs) ≡ ahead in_escape xs
unfolding lex
ahead-backslash x xs is = ap (λ y. ahead in_string (y ∷ xs)) (eqb-true x ascii.backslash is)

ahead-quote : (x : ℕ) (xs : List ℕ) → (x == ascii.quote) ≡ true → ahead in_string (x ∷ xs) ≡ ahead between xs
unfolding lex
ahead-quote x xs is = ap (λ y. ahead in_string (y ∷ xs)) (eqb-true x ascii.quote is)

ahead-escape : (x : ℕ) (xs : List ℕ) → ahead in_escape (x ∷ xs) ≡ ahead in_string xs
unfolding lex
ahead-escape x xs = refl

-- a hex digit is neither a quote nor a backslash
differs : (b : Bool) (x c : ℕ) → (b ≡ true → x ≡ c) → is_digit c 16 ≡ false → is_digit x 16 ≡ true → b ≡ false
differs false x c same none digit = refl
differs true x c same none digit = absurd (false≢true (sym none ∙ ap (λ y. is_digit y 16) (sym (same refl)) ∙ digit))

ahead-digit : (x : ℕ) (xs : List ℕ) → is_digit x 16 ≡ true → ahead in_string (x ∷ xs) ≡ ahead in_string xs
ahead-digit x xs digit =
    ahead-plain x xs (differs (x == ascii.quote) x ascii.quote (eqb-true x ascii.quote) refl digit) (differs (x == ascii.backslash) x ascii.backslash (eqb-true x ascii.backslash) refl digit)

test_of_some : (b : Bool) (v u : ℕ) → cond b (Some v) None ≡ Some u → b ≡ true
test_of_some true v u same = refl
test_of_some false v u same = absurd (false≢true (ap is_some same))

ahead-unit : (a b c d u : ℕ) (xs : List ℕ) → code_unit a b c d ≡ Some u → ahead in_string (a ∷ b ∷ c ∷ d ∷ xs) ≡ ahead in_string xs
unfolding code_unit
ahead-unit a b c d u xs found =
    let all = and_parts (is_digit a 16 && is_digit b 16 && is_digit c 16) (is_digit d 16) (test_of_some _ _ u found) in
    let three = and_parts (is_digit a 16 && is_digit b 16) (is_digit c 16) all.0 in
    let two = and_parts (is_digit a 16) (is_digit b 16) three.0 in
    ahead-digit a (b ∷ c ∷ d ∷ xs) two.0 ∙ ahead-digit b (c ∷ d ∷ xs) two.1 ∙ ahead-digit c (d ∷ xs) three.1 ∙ ahead-digit d xs all.1

encoded : (u : ℕ) → length (encode_utf8 u) ≤ 4
unfolding encode_utf8
encoded u = grind arith

-- one byte, where what follows it is light
byte_weight : (m : Mode) (c : Class) (x : ℕ) (xs : List ℕ) → Light (ahead in_string xs) (length xs) (content plain xs) → ((next : Mode) → ahead next xs ≤ length xs)
    → lexemes_weight (lex_byte m c x xs (λ next. lex next xs)) ≤ length (x ∷ xs)
byte_weight between quote x xs inside more = omega (arith, string_light (ahead in_string xs) (length xs) (content plain xs) inside (more in_string))
byte_weight between backslash x xs inside more = omega (arith, more in_word)
byte_weight between operator x xs inside more = omega (arith, more between, operator_weight x (lex between xs))
byte_weight between space x xs inside more = omega (arith, more between)
byte_weight between other x xs inside more = omega (arith, more in_word, word_weight (x ∷ xs))
byte_weight in_word quote x xs inside more = omega (arith, more in_word)
byte_weight in_word backslash x xs inside more = omega (arith, more in_word)
byte_weight in_word operator x xs inside more = omega (arith, more between, operator_weight x (lex between xs))
byte_weight in_word space x xs inside more = omega (arith, more between)
byte_weight in_word other x xs inside more = omega (arith, more in_word)
byte_weight in_string quote x xs inside more = omega (arith, more between)
byte_weight in_string backslash x xs inside more = omega (arith, more in_escape)
byte_weight in_string operator x xs inside more = omega (arith, more in_string)
byte_weight in_string space x xs inside more = omega (arith, more in_string)
byte_weight in_string other x xs inside more = omega (arith, more in_string)
byte_weight in_escape c x xs inside more = omega (arith, more in_string)

-- in which mode the lexer is, within a string
abbrev mode_of : Within → Mode
mode_of plain = in_string
mode_of after_backslash = in_escape
mode_of after_u = in_string
mode_of (after_high h) = in_string

mutual
  unfolding lex content

  lexed_weight : (m : Mode) (xs : List ℕ) → ahead m xs ≤ length xs
  lexed_weight m [] = omega arith
  lexed_weight m (x ∷ xs) = byte_weight m (class x) x xs (content_light plain xs) (λ next. lexed_weight next xs)

  content_light : (w : Within) (xs : List ℕ) → Light (ahead (mode_of w) xs) (length xs) (content w xs)
  content_light plain [] = tt
  content_light plain (x ∷ xs) =
      either _ _ (x == ascii.quote) _ _ (λ is. omega (arith, ahead-quote x xs is, lexed_weight between xs))
      (λ no_quote. either _ _ (x == ascii.backslash) _ _ (λ is. passed _ _ _ _ _ (content_light after_backslash xs) (omega (arith, ahead-backslash x xs is)))
      (λ no_backslash. either _ _ (nat_lt x ascii.space) _ _ (λ _. tt) (λ _. longer _ _ _ _ (x ∷ []) _ (content_light plain xs) (omega (arith, ahead-plain x xs no_quote no_backslash)))))
  content_light after_backslash [] = tt
  content_light after_backslash (x ∷ xs) =
      either _ _ (x == ascii.lower_u) _ _ (λ _. passed _ _ _ _ _ (content_light after_u xs) (omega (arith, ahead-escape x xs)))
      (λ _. each_unit _ _ _ (short_escape x) (λ c _. longer _ _ _ _ (c ∷ []) _ (content_light plain xs) (omega (arith, ahead-escape x xs))))
  content_light after_u [] = tt
  content_light after_u (a ∷ []) = tt
  content_light after_u (a ∷ b ∷ []) = tt
  content_light after_u (a ∷ b ∷ c ∷ []) = tt
  content_light after_u (a ∷ b ∷ c ∷ d ∷ xs) =
      each_unit _ _ _ (code_unit a b c d) (λ u found. either _ _ (is_high_surrogate u) _ _ (λ _. passed _ _ _ _ _ (content_light (after_high u) xs) (omega (arith, ahead-unit a b c d u xs found)))
      (λ _. either _ _ (is_low_surrogate u) _ _ (λ _. tt) (λ _. longer _ _ _ _ (encode_utf8 u) _ (content_light plain xs) (omega (arith, ahead-unit a b c d u xs found, encoded u)))))
  content_light (after_high h) [] = tt
  content_light (after_high h) (s ∷ []) = tt
  content_light (after_high h) (s ∷ u ∷ []) = tt
  content_light (after_high h) (s ∷ u ∷ a ∷ []) = tt
  content_light (after_high h) (s ∷ u ∷ a ∷ b ∷ []) = tt
  content_light (after_high h) (s ∷ u ∷ a ∷ b ∷ c ∷ []) = tt
  content_light (after_high h) (s ∷ u ∷ a ∷ b ∷ c ∷ d ∷ xs) =
      either _ _ ((s == ascii.backslash) && (u == ascii.lower_u)) _ _
      (λ is. each_unit _ _ _ (code_unit a b c d) (λ l found. either _ _ (is_low_surrogate l) _ _
      (λ _. longer _ _ _ _ (encode_utf8 (surrogate_pair h l)) _ (content_light plain xs)
      (omega (arith, ahead-backslash s (u ∷ a ∷ b ∷ c ∷ d ∷ xs) (and_parts _ _ is).0, ahead-escape u (a ∷ b ∷ c ∷ d ∷ xs), ahead-unit a b c d l xs found, encoded (surrogate_pair h l)))) (λ _. tt)))
      (λ _. tt)

-- ---- tokens

allowed : (b : Bool) (t : Token) (k : Place → List Token) (next : Place) (n : ℕ) → token_weight t + tokens_weight (k next) ≤ n → tokens_weight (if_allowed b t k next) ≤ n
allowed true t k next n light = light
allowed false t k next n light = omega arith

placed_weight : (p : Place) (t : Token) (before_colon : Bool) (k : Place → List Token) (n : ℕ) → ((next : Place) → tokens_weight (k next) ≤ n)
    → tokens_weight (place_token p t before_colon k) ≤ token_weight t + n
placed_weight p begin_object b k n light = allowed (may_begin p) begin_object k fresh _ (omega (arith, light fresh))
placed_weight p end_object b k n light = allowed (may_close p) end_object k after_value _ (omega (arith, light after_value))
placed_weight p begin_array b k n light = allowed (may_begin p) begin_array k fresh _ (omega (arith, light fresh))
placed_weight p end_array b k n light = allowed (may_close p) end_array k after_value _ (omega (arith, light after_value))
placed_weight p (key s) b k n light = omega arith
placed_weight p (string s) true k n light = allowed (may_begin p) (key s) k after_key _ (omega (arith, light after_key))
placed_weight p (string s) false k n light = allowed (may_begin p) (string s) k after_value _ (omega (arith, light after_value))
placed_weight p (number s) b k n light = allowed (may_begin p) (number s) k after_value _ (omega (arith, light after_value))
placed_weight p (boolean c) b k n light = allowed (may_begin p) (boolean c) k after_value _ (omega (arith, light after_value))
placed_weight p null b k n light = allowed (may_begin p) null k after_value _ (omega (arith, light after_value))
placed_weight p bad b k n light = omega arith

punctuated_weight : (p : Place) (ls : List Lexeme) → tokens_weight (punctuate p ls) ≤ lexemes_weight ls
unfolding punctuate
punctuated_weight fresh [] = omega arith
punctuated_weight after_value [] = omega arith
punctuated_weight after_comma [] = omega arith
punctuated_weight after_key [] = omega arith
punctuated_weight fresh (token t ∷ ls) = placed_weight fresh t (begins_colon ls) (λ next. punctuate next ls) _ (λ next. punctuated_weight next ls)
punctuated_weight after_value (token t ∷ ls) = placed_weight after_value t (begins_colon ls) (λ next. punctuate next ls) _ (λ next. punctuated_weight next ls)
punctuated_weight after_comma (token t ∷ ls) = placed_weight after_comma t (begins_colon ls) (λ next. punctuate next ls) _ (λ next. punctuated_weight next ls)
punctuated_weight after_key (token t ∷ ls) = placed_weight after_key t (begins_colon ls) (λ next. punctuate next ls) _ (λ next. punctuated_weight next ls)
punctuated_weight fresh (comma ∷ ls) = omega arith
punctuated_weight after_value (comma ∷ ls) = punctuated_weight after_comma ls
punctuated_weight after_comma (comma ∷ ls) = omega arith
punctuated_weight after_key (comma ∷ ls) = omega arith
punctuated_weight fresh (colon ∷ ls) = omega arith
punctuated_weight after_value (colon ∷ ls) = omega arith
punctuated_weight after_comma (colon ∷ ls) = omega arith
punctuated_weight after_key (colon ∷ ls) = punctuated_weight fresh ls

pub text_weight : (text : List ℕ) → tokens_weight (tokens text) ≤ length text
text_weight text = omega (arith, punctuated_weight fresh (lex between text), lexed_weight between text)
