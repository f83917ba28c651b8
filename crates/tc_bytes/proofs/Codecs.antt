-- The laws of formats that are made of others: each part a codec, the whole is one.
use Rattle.std.proofs.Common.{◌≡◌, ◌<◌, ◌^◌, ℕ, Bool, true, List, ◌++◌, Option, None, Some, if◌then◌else◌, length, refl, sym, ap, ◌∙◌, subst, arith, append_assoc}
use Rattle.std.specs.Int.{w32, to_be_bytes}
use Rattle.std.proofs.lemmas.Bool.Decides.{nat_tests}
use Rattle.std.proofs.lemmas.Option.{same_Some}
use Rattle.tc_bytes.specs.Reading.{Reader, ◌>>=◌, number_at, bytes_at, counted_bytes_at, mapped_at, passing_at, pair_at}
use Rattle.tc_bytes.specs.Codec.{IsBytes, IsCodec, counted_bytes}
use Rattle.tc_bytes.proofs.Fields.{number_codec_32, bytes_codec}

-- where one reading goes on from another, both gave a value
pub then_parts : {A B : Type 0} (first : Option A) (second : A → Option B) (y : B) → first >>= second ≡ Some y → (x : A) × (first ≡ Some x) × (second x ≡ Some y)
then_parts None second y read = cc
then_parts (Some x) second y read = (x, refl, read)

-- the same format, with what is spelled said in other words
pub restated_codec : {A : Type 0} {read : Reader A} {spell : A → List ℕ} {Fits Restated : A → Type 0} → ((x : A) → Fits x → Restated x) → ((x : A) → Restated x → Fits x) → IsCodec read spell Fits → IsCodec read spell Restated
restated_codec into from codec = record {
  found = λ bytes x rest each gives. let here = codec.found bytes x rest each gives in (here.0, here.1, into x here.2);
  again = λ x rest fits. codec.again x rest (from x fits);
}

-- what f makes of a value, where g gives the value back
pub mapped_codec : {A B : Type 0} {read : Reader A} {spell : A → List ℕ} {Fits : A → Type 0} (f : A → B) (g : B → A) → ((x : A) → Fits x → g (f x) ≡ x) → IsCodec read spell Fits
    → IsCodec (mapped_at f read) (λ y. spell (g y)) (λ y. Fits (g y) × (f (g y) ≡ y))
mapped_codec {A} {B} {read} {spell} {Fits} f g back codec = record {
  found = λ bytes y rest each gives. mapped_found bytes (y, rest) each gives;
  again = λ y rest fits. rw (codec.again (g y) rest fits.0, fits.1) refl;
}
  where
    Found : List ℕ → B × List ℕ → Type 0
    Found bytes q = (bytes ≡ spell (g q.0) ++ q.1) × IsBytes q.1 × (Fits (g q.0) × (f (g q.0) ≡ q.0))

    mapped_found : (bytes : List ℕ) (q : B × List ℕ) → IsBytes bytes → mapped_at f read bytes ≡ Some q → Found bytes q
    mapped_found bytes q each gives =
        let parts = then_parts (read bytes) _ q gives in
        let here = codec.found bytes parts.0.0 parts.0.1 each parts.1 in
        let same = back parts.0.0 here.2 in
        subst (Found bytes) (same_Some _ _ parts.2)
        (here.0 ∙ ap (λ x. spell x ++ parts.0.1) (sym same), here.1, (subst Fits (sym same) here.2, ap f same))

-- a value that passes a test
pub passing_codec : {A : Type 0} {read : Reader A} {spell : A → List ℕ} {Fits : A → Type 0} (test : A → Bool) → IsCodec read spell Fits → IsCodec (passing_at test read) spell (λ x. Fits x × (test x ≡ true))
passing_codec {A} {read} {spell} {Fits} test codec = record {
  found = λ bytes x rest each gives.
      let parts = then_parts (read bytes) _ (x, rest) gives in
      let passes = passing_parts parts.0 x rest parts.2 in
      let here = codec.found bytes x rest each (parts.1 ∙ ap Some passes.0) in
      (here.0, here.1, (here.2, passes.1));
  again = λ x rest fits. rw (codec.again x rest fits.0, fits.1) refl;
}
  where
    passing_parts : (y : A × List ℕ) (x : A) (rest : List ℕ) → (if test y.0 then Some y else None) ≡ Some (x, rest) → (y ≡ (x, rest)) × (test x ≡ true)
    passing_parts y x rest gives = grind (arith, nat_tests)

-- one value and then another
pub pair_codec : {A B : Type 0} {first : Reader A} {spell : A → List ℕ} {Fits : A → Type 0} {second : A → Reader B} {spell_second : A → B → List ℕ} {FitsSecond : A → B → Type 0}
    → IsCodec first spell Fits → ((x : A) → Fits x → IsCodec (second x) (spell_second x) (FitsSecond x))
    → IsCodec (pair_at first second) (λ p. spell p.0 ++ spell_second p.0 p.1) (λ p. Fits p.0 × FitsSecond p.0 p.1)
pair_codec {A} {B} {first} {spell} {Fits} {second} {spell_second} {FitsSecond} codec codec_second = record {
  found = λ bytes p rest each gives. pair_found bytes (p, rest) each gives;
  again = λ p rest fits.
      rw (append_assoc (spell p.0) (spell_second p.0 p.1) rest, codec.again p.0 (spell_second p.0 p.1 ++ rest) fits.0, (codec_second p.0 fits.0).again p.1 rest fits.1) refl;
}
  where
    Found : List ℕ → (A × B) × List ℕ → Type 0
    Found bytes q = (bytes ≡ (spell q.0.0 ++ spell_second q.0.0 q.0.1) ++ q.1) × IsBytes q.1 × (Fits q.0.0 × FitsSecond q.0.0 q.0.1)

    pair_found : (bytes : List ℕ) (q : (A × B) × List ℕ) → IsBytes bytes → pair_at first second bytes ≡ Some q → Found bytes q
    pair_found bytes q each gives =
        let one = then_parts (first bytes) _ q gives in
        let two = then_parts (second one.0.0 one.0.1) _ q one.2 in
        let front = codec.found bytes one.0.0 one.0.1 each one.1 in
        let back = (codec_second one.0.0 front.2).found one.0.1 two.0.0 two.0.1 front.1 two.1 in
        subst (Found bytes) (same_Some _ _ two.2)
        (front.0 ∙ ap (λ r. spell one.0.0 ++ r) back.0 ∙ sym (append_assoc (spell one.0.0) (spell_second one.0.0 two.0.0) two.0.1), back.1, (front.2, back.2))

-- bytes behind their number
pub counted_bytes_codec : IsCodec counted_bytes_at counted_bytes (λ bytes. length bytes < 2 ^ 32)
counted_bytes_codec = record {
  found = counted_found;
  again = λ bytes rest fits.
      ap (λ n. n >>= λ n. bytes_at n.0 n.1) (number_codec_32.again (length bytes) (bytes ++ rest) fits) ∙ (bytes_codec (length bytes)).again bytes rest refl;
}
  where
    counted_found : (bytes front rest : List ℕ) → IsBytes bytes → counted_bytes_at bytes ≡ Some (front, rest)
        → (bytes ≡ counted_bytes front ++ rest) × IsBytes rest × (length front < 2 ^ 32)
    counted_found bytes front rest each gives =
        let parts = then_parts (number_at w32 bytes) _ (front, rest) gives in
        let count = number_codec_32.found bytes parts.0.0 parts.0.1 each parts.1 in
        let content = (bytes_codec parts.0.0).found parts.0.1 front rest count.1 parts.2 in
        let spelled : bytes ≡ counted_bytes front ++ rest = rw content.2 (count.0 ∙ ap (λ r. to_be_bytes w32 parts.0.0 ++ r) content.0 ∙ sym (append_assoc (to_be_bytes w32 parts.0.0) front rest)) in
        (spelled, content.1, subst (λ n. n < 2 ^ 32) (sym content.2) count.2)
