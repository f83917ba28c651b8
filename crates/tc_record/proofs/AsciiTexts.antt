-- The laws of columns whose texts are ASCII, and are not cut while their lengths are passed.
use Rattle.std.proofs.Common.{◌≡◌, ◌≢◌, ◌∙◌, ◌<◌, ◌≤◌, ◌+◌, ◌-◌, ◌/◌, ◌==◌, ◌&&◌, ℕ, suc, nat_lt, Bool, true, false, if◌then◌else◌}
use Rattle.std.proofs.Common.{List, [], ◌∷◌, Option, None, Some, option_map, is_some, length, take, drop, refl, sym, ap, length-drop, drop-drop, arith}
use Rattle.std.specs.List.{sum}
use Rattle.std.specs.Str.{IsAscii}
use Rattle.std.proofs.lemmas.Bool.Decides.{nat_tests}
use Rattle.std.proofs.lemmas.List.{drop_all}
use Rattle.std.proofs.lemmas.List.Sums.{sum_by-append}
use Rattle.std.proofs.lemmas.Option.{same_Some}
use Rattle.std.proofs.lemmas.Str.{IsAscii-drop, IsUtf8-from_ascii}
use Rattle.tc_bytes.specs.Reading.{◌>>=◌, byte_at, number_at}
use Rattle.std.specs.Int.{w64, cast_signed}
use Rattle.tc_model.specs.Document.{Scalar, null, boolean, integer, text}
use Rattle.tc_record.specs.Preorder.{Piece, scalar, array_opened, object_opened, closed, Token}
use Rattle.tc_record.specs.Walk as walk
use Rattle.tc_record.specs.Moves.{label_moves, token_moves}
use Rattle.tc_record.specs.Stack.{is_array, kind_of, kinds_of}
use Rattle.tc_record.proofs.Judged.{closed_on, stuck_piece, moved_on}
use Rattle.tc_record.proofs.Labels.{if_parts}
use Rattle.tc_record.proofs.Stacks.{kinds_of-read}
use Rattle.tc_record.proofs.Utf8.{utf8_cut}

-- ---- a text that is passed by its length

-- columns with these lengths, and with as many of the last bytes of these texts as they say
abbrev pub with_lengths : walk.Columns → List ℕ → List ℕ → walk.Columns
with_lengths c ns ts = record c { lengths = ns; texts = drop (length ts - sum ns) ts }

sum_first : (n : ℕ) (ns : List ℕ) → sum (n ∷ ns) ≡ n + sum ns
sum_first n ns = sum_by-append (λ m. m) (n ∷ []) ns ∙ omega arith

-- ASCII may be cut anywhere
ascii_cut : (n : ℕ) (ts : List ℕ) → IsAscii ts → n ≤ length ts → walk.utf8_at n ts ≡ Some (take n ts, drop n ts)
ascii_cut n ts ascii within = utf8_cut n ts (IsUtf8-from_ascii ts ascii) (within, λ inside more. absurd (omega (arith, ascii n, more)))

text_read : (c : walk.Columns) (n : ℕ) (ns ts : List ℕ) → IsAscii ts → sum (n ∷ ns) ≤ length ts
    → (t : List ℕ) × (walk.text_at (with_lengths c (n ∷ ns) ts) ≡ Some (t, with_lengths c ns ts))
text_read c n ns ts ascii within =
    let left = drop (length ts - sum (n ∷ ns)) ts in
    let all = sum_first n ns in
    let behind : drop n left ≡ drop (length ts - sum ns) ts = drop-drop n (length ts - sum (n ∷ ns)) ts ∙ ap (λ k. drop k ts) (place (length ts) n (sum ns) (sum (n ∷ ns)) all within) in
    let cut = ascii_cut n left (IsAscii-drop ts (length ts - sum (n ∷ ns)) ascii) (omega (arith, all, within, length-drop (length ts - sum (n ∷ ns)) ts)) in
    (take n left, rw (cut, behind) refl)
  where
    place : (len n s all : ℕ) → all ≡ n + s → all ≤ len → len - all + n ≡ len - s
    place len n s all is within = omega (arith, is, within)

-- whether a length is passed is whether a text stands there
pub text_passed : (f : walk.Format) (tag : ℕ) (level behind : walk.Level) (levels : List walk.Level) (c rest : walk.Columns) (ns ms ts : List ℕ) (r : Bool) → tag ≡ 4
    → label_moves f level c ≡ Some (behind, with_lengths rest ns ts) → IsAscii ts → sum ns ≤ length ts
    → option_map (λ (n : ℕ × List ℕ). n.1) (walk.number_next ns) ≡ (if r then Some ms else None)
    → token_moves f tag (level ∷ levels) c ≡ (if r then Some (behind ∷ levels, with_lengths rest ms ts) else None)
text_passed f tag level behind levels c rest [] ms ts true is labelled ascii within next = cc
text_passed f tag level behind levels c rest [] ms ts false is labelled ascii within next =
    stuck_piece f tag level behind levels c (with_lengths rest [] ts) (omega (arith, is)) labelled (rw is refl)
text_passed f tag level behind levels c rest (n ∷ ns) ms ts false is labelled ascii within next = cc
text_passed f tag level behind levels c rest (n ∷ ns) ms ts true is labelled ascii within next =
    let same : ns ≡ ms = same_Some ns ms next in
    let read = text_read rest n ns ts ascii within in
    let piece : walk.piece_at tag (with_lengths rest (n ∷ ns) ts) ≡ Some (scalar (text read.0), with_lengths rest ns ts) = rw (is, read.1) refl in
    rw (← same) (moved_on f tag level behind levels c (with_lengths rest (n ∷ ns) ts) (with_lengths rest ns ts) (scalar (text read.0)) true (behind ∷ levels) (omega (arith, is)) labelled piece refl)

-- the lengths that are left are no longer than all
pub lengths_passed : (ns ms : List ℕ) (r : Bool) (k : ℕ) → sum ns ≤ k → option_map (λ (n : ℕ × List ℕ). n.1) (walk.number_next ns) ≡ (if r then Some ms else None) → r ≡ true → sum ms ≤ k
lengths_passed [] ms r k within next is = let none : None ≡ Some ms = next ∙ rw is refl in cc
lengths_passed (n ∷ ns) ms r k within next is = let same : ns ≡ ms = same_Some ns ms (next ∙ rw is refl) in rw (← same) (omega (arith, within, sum_first n ns))

-- ---- values that are no texts, whose columns keep texts and lengths

abbrev Read : Type 0
Read = Option (Piece Scalar × walk.Columns)

abbrev with_texts : List ℕ → Piece Scalar × walk.Columns → Piece Scalar × walk.Columns
with_texts t p = (p.0, record p.1 { texts = t })

abbrev kept : Piece Scalar × walk.Columns → List ℕ × List ℕ
kept p = (p.1.lengths, p.1.texts)

-- a value by the tests of its tag
abbrev by_tests : Bool → Bool → Bool → Bool → Bool → walk.Columns → Read
by_tests null_one bool_one int_one array_one object_one c =
    if null_one then Some (scalar null, c)
    else (if bool_one then (walk.bool_at c >>= λ b. Some (scalar (boolean b.0), b.1))
    else (if int_one then walk.integer_at c
    else (if array_one then Some (array_opened, c)
    else (if object_one then Some (object_opened, c) else None))))

tested : (tag : ℕ) (c : walk.Columns) → tag ≢ 4 → walk.piece_at tag c ≡ by_tests (tag == 1) (tag == 2) (tag == 3) (tag == 5) (tag == 6) c
tested tag c other = rw (no_text tag other) refl
  where
    no_text : (tag : ℕ) → tag ≢ 4 → (tag == 4) ≡ false
    no_text tag other = grind (arith, nat_tests)

record Keeps (t : List ℕ) (c : walk.Columns) (read with_t : Read) : Type 0 where
  pub same : with_t ≡ option_map (with_texts t) read
  pub keeps : option_map kept read ≡ option_map (λ p. (c.lengths, c.texts)) read

keeps : (t : List ℕ) (c : walk.Columns) (a b i r o : Bool) → Keeps t c (by_tests a b i r o c) (by_tests a b i r o (record c { texts = t }))
keeps t c true b i r o = record { same = refl; keeps = refl }
keeps t c false true i r o = by_byte (byte_at c.fixed)
  where
    with_fixed : walk.Columns → List ℕ → Bool → Option (Bool × walk.Columns)
    with_fixed d rest v = Some (v, record d { fixed = rest })

    as_piece : Bool × walk.Columns → Read
    as_piece b = Some (scalar (boolean b.0), b.1)

    by_value : (v : Option Bool) (rest : List ℕ) → Keeps t c ((v >>= with_fixed c rest) >>= as_piece) ((v >>= with_fixed (record c { texts = t }) rest) >>= as_piece)
    by_value None rest = record { same = refl; keeps = refl }
    by_value (Some v) rest = record { same = refl; keeps = refl }

    bool_from : walk.Columns → ℕ × List ℕ → Option (Bool × walk.Columns)
    bool_from d b = walk.bool_of b.0 >>= with_fixed d b.1

    by_byte : (x : Option (ℕ × List ℕ)) → Keeps t c ((x >>= bool_from c) >>= as_piece) ((x >>= bool_from (record c { texts = t })) >>= as_piece)
    by_byte None = record { same = refl; keeps = refl }
    by_byte (Some b) = by_value (walk.bool_of b.0) b.1
keeps t c false false true r o = by_number (number_at w64 c.fixed)
  where
    integer_from : walk.Columns → ℕ × List ℕ → Read
    integer_from d n = Some (scalar (integer (cast_signed w64 n.0)), record d { fixed = n.1 })

    by_number : (x : Option (ℕ × List ℕ)) → Keeps t c (x >>= integer_from c) (x >>= integer_from (record c { texts = t }))
    by_number None = record { same = refl; keeps = refl }
    by_number (Some n) = record { same = refl; keeps = refl }
keeps t c false false false true o = record { same = refl; keeps = refl }
keeps t c false false false false true = record { same = refl; keeps = refl }
keeps t c false false false false false = record { same = refl; keeps = refl }

all_kept : (tag : ℕ) (t : List ℕ) (c : walk.Columns) → tag ≢ 4 → Keeps t c (walk.piece_at tag c) (walk.piece_at tag (record c { texts = t }))
all_kept tag t c other =
    rw (tested tag c other, tested tag (record c { texts = t }) other) (keeps t c (tag == 1) (tag == 2) (tag == 3) (tag == 5) (tag == 6))

pub none_uncut : (tag : ℕ) (t : List ℕ) (c : walk.Columns) → tag ≢ 4 → walk.piece_at tag c ≡ None → walk.piece_at tag (record c { texts = t }) ≡ None
none_uncut tag t c other none = (all_kept tag t c other).same ∙ ap (option_map (with_texts t)) none

pub piece_uncut : (tag : ℕ) (t : List ℕ) (c d : walk.Columns) (p : Piece Scalar) → tag ≢ 4 → walk.piece_at tag c ≡ Some (p, d)
    → (walk.piece_at tag (record c { texts = t }) ≡ Some (p, record d { texts = t })) × (d.lengths ≡ c.lengths) × (d.texts ≡ c.texts)
piece_uncut tag t c d p other read =
    let all = all_kept tag t c other in
    let both : Some (d.lengths, d.texts) ≡ Some (c.lengths, c.texts) = sym (ap (option_map kept) read) ∙ all.keeps ∙ ap (option_map (λ p. (c.lengths, c.texts))) read in
    let same = same_Some (d.lengths, d.texts) (c.lengths, c.texts) both in
    (all.same ∙ ap (option_map (with_texts t)) read, ap (λ (x : List ℕ × List ℕ). x.0) same, ap (λ (x : List ℕ × List ℕ). x.1) same)

-- ---- what is open

-- what a value opens leaves open what was
pub stays_open : (p : Piece Scalar) (levels inner : List walk.Level) (r : Bool) → (if r then Some inner else None) ≡ walk.opened p levels → r ≡ true → 0 < length levels → 0 < length inner
stays_open p levels inner false opens is some = cc
stays_open (scalar s) levels inner true opens is some = rw (same_Some inner levels opens) some
stays_open array_opened levels inner true opens is some = let told = if_parts (nat_lt (length levels) 32) (walk.in_array ∷ levels) inner (sym opens) in rw (← told.0) (omega arith)
stays_open object_opened levels inner true opens is some = let told = if_parts (nat_lt (length levels) 32) (walk.in_object None ∷ levels) inner (sym opens) in rw (← told.0) (omega arith)
stays_open closed levels inner true opens is some = cc

-- a close, by the bits that tell what is open
pub closed_kinds : (f : walk.Format) (tag a n a' n' : ℕ) (c : walk.Columns) → tag ≡ 7 → 0 < n → kinds_of a' n' ≡ kinds_of (a / 2) (n - 1) → token_moves f tag (kinds_of a n) c ≡ Some (kinds_of a' n', c)
closed_kinds f tag a n a' n' c is some closes =
    ap (λ ls. token_moves f tag ls c) (kinds_of-read a n some) ∙ closed_on f tag (kind_of (is_array a)) (kinds_of (a / 2) (n - 1)) c is ∙ ap (λ ls. Some (ls, c)) (sym closes)

-- where nothing is open, a walk is at its end
all_closed : (f : walk.Format) (tags : List ℕ) (c : walk.Columns) → is_some (walk.walk f tags [] c) ≡ ((length tags == 0) && walk.is_used_up c)
all_closed f [] c = by_use (walk.is_used_up c)
  where
    ended : Bool → Option (List (Token walk.Key Scalar))
    ended used = if used then Some [] else None

    by_use : (used : Bool) → is_some (ended used) ≡ used
    by_use true = refl
    by_use false = refl
all_closed f (tag ∷ tags) c = rw (some (length tags)) refl
  where
    some : (k : ℕ) → (suc k == 0) ≡ false
    some k = grind (arith, nat_tests)

pub closed_last : (f : walk.Format) (tags : List ℕ) (i : ℕ) (levels : List walk.Level) (c : walk.Columns) (told : Bool) → i + 1 ≡ length tags → levels ≡ [] → is_some (walk.walk f (drop (i + 1) tags) levels c) ≡ told
    → walk.is_used_up c ≡ told
closed_last f tags i levels c told last none tells =
    let behind : drop (i + 1) tags ≡ [] = drop_all (i + 1) tags (omega (arith, last)) in
    sym (all_closed f [] c) ∙ ap (λ ts. is_some (walk.walk f ts [] c)) (sym behind) ∙ ap (λ ls. is_some (walk.walk f (drop (i + 1) tags) ls c)) (sym none) ∙ tells

pub closed_early : (f : walk.Format) (tags : List ℕ) (i : ℕ) (levels : List walk.Level) (c : walk.Columns) (told : Bool) → i < length tags → (i + 1 ≡ length tags → ⊥) → levels ≡ []
    → is_some (walk.walk f (drop (i + 1) tags) levels c) ≡ told → (i + 1 == length tags) ≡ told
closed_early f tags i levels c told within more none tells =
    let some : length (drop (i + 1) tags) ≢ 0 = λ e. more (omega (arith, e, within, length-drop (i + 1) tags)) in
    unequal (i + 1) (length tags) more
    ∙ ap (λ b. b && walk.is_used_up c) (sym (unequal (length (drop (i + 1) tags)) 0 some))
    ∙ sym (all_closed f (drop (i + 1) tags) c) ∙ ap (λ ls. is_some (walk.walk f (drop (i + 1) tags) ls c)) (sym none) ∙ tells
  where
    unequal : (a b : ℕ) → a ≢ b → (a == b) ≡ false
    unequal a b other = grind (arith, nat_tests)

-- where something is open, no walk is at its end
pub still_open : (f : walk.Format) (tags : List ℕ) (i : ℕ) (levels : List walk.Level) (c : walk.Columns) (told : Bool) → length tags ≤ i → is_some (walk.walk f (drop i tags) levels c) ≡ told → 0 < length levels → false ≡ told
still_open f tags i [] c told all tells some = absurd (omega (arith, some))
still_open f tags i (level ∷ levels) c told all tells some =
    let none : is_some (walk.walk f (drop i tags) (level ∷ levels) c) ≡ false = rw (drop_all i tags all) refl in
    sym none ∙ tells
