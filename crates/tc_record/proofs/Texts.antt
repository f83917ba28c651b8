-- The laws of texts and names: bytes that are UTF-8, whose length stands in another column.
use Rattle.std.proofs.Common.{◌≡◌, ℕ, true, List, [], ◌∷◌, ◌++◌, None, Some, if◌then◌else◌, length, refl, ap, subst, arith}
use Rattle.std.specs.Str.{IsUtf8, is_utf8}
use Rattle.std.proofs.lemmas.Bool.Decides.{nat_tests}
use Rattle.std.proofs.lemmas.Str.{IsUtf8-from_is_utf8, is_utf8-from_IsUtf8}
use Rattle.std.proofs.lemmas.Option.{same_Some}
use Rattle.tc_bits.proofs.Joined.{AreBelow}
use Rattle.tc_bytes.specs.Reading.{bytes_at}
use Rattle.tc_bytes.specs.Codec.{IsBytes}
use Rattle.tc_bytes.proofs.Fields.{bytes_codec, bytes_again}
use Rattle.tc_bytes.proofs.Codecs.{then_parts}
use Rattle.tc_record.specs.Walk.{Columns, number_next, utf8_at, text_at}
use Rattle.tc_record.proofs.ColumnLaws.{same_columns}

-- what the columns hold: bytes, and slots of 32 bits
pub record AreColumns (c : Columns) : Type 0 where
  pub fixed : IsBytes c.fixed
  pub texts : IsBytes c.texts
  pub slots : AreBelow 32 c.slots
  pub names : IsBytes c.names

passing : (t : List ℕ × List ℕ) (q : List ℕ × List ℕ) → (if is_utf8 t.0 then Some t else None) ≡ Some q → (t ≡ q) × (is_utf8 t.0 ≡ true)
passing t q gives = grind (arith, nat_tests)

-- bytes that were read as UTF-8
pub record Utf8Found (n : ℕ) (bytes : List ℕ) (q : List ℕ × List ℕ) : Type 0 where
  pub spelled : bytes ≡ q.0 ++ q.1
  pub rest : IsBytes q.1
  pub utf8 : IsUtf8 q.0
  pub len : length q.0 ≡ n

pub utf8_found : (n : ℕ) (bytes : List ℕ) (q : List ℕ × List ℕ) → IsBytes bytes → utf8_at n bytes ≡ Some q → Utf8Found n bytes q
utf8_found n bytes q each gives =
    let one = then_parts (bytes_at n bytes) _ q gives in
    let passes = passing one.0 q one.2 in
    let here = (bytes_codec n).found bytes one.0.0 one.0.1 each one.1 in
    subst (Utf8Found n bytes) passes.0 (record { spelled = here.0; rest = here.1; utf8 = IsUtf8-from_is_utf8 one.0.0 passes.1; len = here.2 })

pub utf8_again : (n : ℕ) (t rest : List ℕ) → length t ≡ n → IsUtf8 t → utf8_at n (t ++ rest) ≡ Some (t, rest)
utf8_again n t rest len utf8 = rw (bytes_again n t rest len, is_utf8-from_IsUtf8 t utf8) refl

-- a number that was read
pub number_found : (ns : List ℕ) (q : ℕ × List ℕ) → number_next ns ≡ Some q → ns ≡ q.0 ∷ q.1
number_found [] q gives = cc
number_found (n ∷ ns) q gives = ap (λ (p : ℕ × List ℕ). p.0 ∷ p.1) (same_Some (n, ns) q gives)

-- the columns before a text was read
abbrev pub with_text : List ℕ → Columns → Columns
with_text s c = record c { lengths = length s ∷ c.lengths; texts = s ++ c.texts }

pub text_again : (s : List ℕ) (c : Columns) → IsUtf8 s → text_at (with_text s c) ≡ Some (s, c)
text_again s c utf8 = rw (utf8_again (length s) s c.texts refl utf8) refl

pub record TextFound (c : Columns) (q : List ℕ × Columns) : Type 0 where
  pub spelled : c ≡ with_text q.0 q.1
  pub rest : AreColumns q.1
  pub utf8 : IsUtf8 q.0

pub text_found : (c : Columns) (q : List ℕ × Columns) → AreColumns c → text_at c ≡ Some q → TextFound c q
text_found c q each gives =
    let one = then_parts (number_next c.lengths) _ q gives in
    let two = then_parts (utf8_at one.0.0 c.texts) _ q one.2 in
    let held = utf8_found one.0.0 c.texts two.0 each.texts two.1 in
    let told : c.lengths ≡ length two.0.0 ∷ one.0.1 = rw held.len (number_found c.lengths one.0 one.1) in
    subst (TextFound c) (same_Some _ q two.2)
    (record {
      spelled = same_columns c _ _ _ _ _ refl told held.spelled refl refl;
      rest = record { fixed = each.fixed; texts = held.rest; slots = each.slots; names = each.names };
      utf8 = held.utf8;
    })
