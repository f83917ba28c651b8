-- The laws of lists: elements one after the other, each of which may follow those before it.
use Rattle.std.proofs.Common.{slice_get, get_or, take, ◌+◌, ◌≡◌, ◌<◌, ◌^◌, ◌-◌, ℕ, zero, suc, Bool, true, false, List, [], ◌∷◌, ◌++◌, Option, None, Some, if◌then◌else◌, length, flat_map, refl, sym, ap, ◌∙◌, subst, arith, rules, append_assoc, append-nil}
use Rattle.std.specs.Int.{w32, to_be_bytes}
use Rattle.std.specs.List.{AllByRecursion}
use Rattle.std.proofs.lemmas.Option.{same_Some}
use Rattle.std.proofs.lemmas.List.{take_more}
use Rattle.std.proofs.lemmas.List.Concat.{flat_map-append}
use Rattle.std.proofs.lemmas.Option.{get_or_from_slice_get, slice_get_within}
use Rattle.tc_bytes.specs.Reading.{Reader, ◌>>=◌, number_at, elements_at, counted_list_at}
use Rattle.tc_bytes.specs.Codec.{IsBytes, IsCodec, counted_list, MayFollow, any_order}
use Rattle.tc_bytes.proofs.Fields.{number_codec_32}
use Rattle.tc_bytes.proofs.Codecs.{then_parts}

-- one element more, as a loop writes it
pub spelled-next : {A : Type 0} (spell : A → List ℕ) (xs : List A) (i : ℕ) (x : A) → slice_get xs i ≡ Some x → flat_map spell (take (i + 1) xs) ≡ flat_map spell (take i xs) ++ spell x
spelled-next spell xs i x at =
    let here : get_or xs i x ≡ x = get_or_from_slice_get xs i x x at in
    let front : take (i + 1) xs ≡ take i xs ++ x ∷ [] = take_more xs i x (slice_get_within xs i x at) ∙ ap (λ y. take i xs ++ y ∷ []) here in
    ap (flat_map spell) front ∙ flat_map-append spell (take i xs) (x ∷ []) ∙ ap (λ bytes. flat_map spell (take i xs) ++ bytes) (append-nil (spell x))

-- one element more of those that are asked for
elements_next : {A : Type 0} (may_follow : List A → A → Bool) (read : Reader A) (n : ℕ) (before : List A) (bytes : List ℕ) → 0 < n
    → elements_at may_follow read n before bytes ≡ (read bytes >>= λ x. if may_follow before x.0 then elements_at may_follow read (n - 1) (before ++ x.0 ∷ []) x.1 else None)
elements_next may_follow read zero before bytes some = absurd (omega arith)
elements_next may_follow read (suc n) before bytes some = let same : suc n - 1 ≡ n = omega arith in rw same refl

-- a turn of the loop that reads n elements: none stands there, one that may not follow, or one that may
pub elements_none : {A : Type 0} (may_follow : List A → A → Bool) (read : Reader A) (n : ℕ) (before : List A) (bytes : List ℕ) → 0 < n
    → read bytes ≡ None → elements_at may_follow read n before bytes ≡ None
elements_none may_follow read n before bytes some none = elements_next may_follow read n before bytes some ∙ rw none refl

pub elements_refused : {A : Type 0} (may_follow : List A → A → Bool) (read : Reader A) (n : ℕ) (before : List A) (bytes : List ℕ) (x : A) (rest : List ℕ) → 0 < n
    → read bytes ≡ Some (x, rest) → may_follow before x ≡ false → elements_at may_follow read n before bytes ≡ None
elements_refused may_follow read n before bytes x rest some one refused = elements_next may_follow read n before bytes some ∙ rw (one, refused) refl

pub elements_more : {A : Type 0} (may_follow : List A → A → Bool) (read : Reader A) (n : ℕ) (before : List A) (bytes : List ℕ) (x : A) (rest : List ℕ) → 0 < n
    → read bytes ≡ Some (x, rest) → may_follow before x ≡ true → elements_at may_follow read n before bytes ≡ elements_at may_follow read (n - 1) (before ++ x ∷ []) rest
elements_more may_follow read n before bytes x rest some one follows = elements_next may_follow read n before bytes some ∙ rw (one, follows) refl

-- what reading n elements behind those before gave
record ElementsFound {A : Type 0} (may_follow : List A → A → Bool) (spell : A → List ℕ) (Fits : A → Type 0) (n : ℕ) (before : List A) (bytes : List ℕ) (q : List A × List ℕ) : Type 0 where
  more : List A
  all : q.0 ≡ before ++ more
  spelled : bytes ≡ flat_map spell more ++ q.1
  rest : IsBytes q.1
  count : length more ≡ n
  each : AllByRecursion Fits more
  order : MayFollow may_follow before more

elements_found : {A : Type 0} {read : Reader A} {spell : A → List ℕ} {Fits : A → Type 0} (may_follow : List A → A → Bool) → IsCodec read spell Fits
    → (n : ℕ) (before : List A) (bytes : List ℕ) (q : List A × List ℕ) → IsBytes bytes → elements_at may_follow read n before bytes ≡ Some q
    → ElementsFound may_follow spell Fits n before bytes q
elements_found may_follow codec zero before bytes q each gives =
    subst (ElementsFound may_follow _ _ 0 before bytes) (same_Some (before, bytes) q gives)
    (record { more = []; all = sym (append-nil before); spelled = refl; rest = each; count = refl; each = tt; order = tt })
elements_found {A} {read} {spell} {Fits} may_follow codec (suc n) before bytes q each gives =
    let one = then_parts (read bytes) _ q gives in
    let first = codec.found bytes one.0.0 one.0.1 each one.1 in
    let next = allowed (may_follow before one.0.0) (elements_at may_follow read n (before ++ one.0.0 ∷ []) one.0.1) one.2 in
    onto one.0.0 one.0.1 first next.0 (elements_found may_follow codec n (before ++ one.0.0 ∷ []) one.0.1 q first.1 next.1)
  where
    allowed : (t : Bool) (then_gives : Option (List A × List ℕ)) → (if t then then_gives else None) ≡ Some q → (t ≡ true) × (then_gives ≡ Some q)
    allowed true then_gives e = (refl, e)
    allowed false then_gives e = cc

    onto : (x : A) (rest : List ℕ) → (bytes ≡ spell x ++ rest) × IsBytes rest × Fits x → may_follow before x ≡ true
        → ElementsFound may_follow spell Fits n (before ++ x ∷ []) rest q → ElementsFound may_follow spell Fits (suc n) before bytes q
    onto x rest first next others = record {
      more = x ∷ others.more;
      all = others.all ∙ append_assoc before (x ∷ []) others.more;
      spelled = first.0 ∙ ap (λ r. spell x ++ r) others.spelled ∙ sym (append_assoc (spell x) (flat_map spell others.more) q.1);
      rest = others.rest;
      count = let e = others.count in omega arith;
      each = (first.2, others.each);
      order = (search (rules, next), others.order);
    }

elements_again : {A : Type 0} {read : Reader A} {spell : A → List ℕ} {Fits : A → Type 0} (may_follow : List A → A → Bool) → IsCodec read spell Fits
    → (before more : List A) (rest : List ℕ) → AllByRecursion Fits more → MayFollow may_follow before more
    → elements_at may_follow read (length more) before (flat_map spell more ++ rest) ≡ Some (before ++ more, rest)
elements_again may_follow codec before [] rest each order = rw append-nil refl
elements_again {A} {read} {spell} {Fits} may_follow codec before (x ∷ more) rest each order =
    let grouped : (spell x ++ flat_map spell more) ++ rest ≡ spell x ++ (flat_map spell more ++ rest) = append_assoc (spell x) (flat_map spell more) rest in
    let first : read ((spell x ++ flat_map spell more) ++ rest) ≡ Some (x, flat_map spell more ++ rest) = rw grouped (codec.again x (flat_map spell more ++ rest) each.0) in
    let allowed : may_follow before x ≡ true = search (rules, order.0) in
    let others = elements_again may_follow codec (before ++ x ∷ []) more rest each.1 order.1 in
    rw (first, allowed) (others ∙ ap (λ xs. Some (xs, rest)) (append_assoc before (x ∷ []) more))

-- so many elements
pub elements_codec : {A : Type 0} {read : Reader A} {spell : A → List ℕ} {Fits : A → Type 0} (may_follow : List A → A → Bool) (n : ℕ) → IsCodec read spell Fits
    → IsCodec (elements_at may_follow read n []) (flat_map spell) (λ xs. (length xs ≡ n) × AllByRecursion Fits xs × MayFollow may_follow [] xs)
elements_codec {A} {read} {spell} {Fits} may_follow n codec = record {
  found = λ bytes xs rest each gives.
      let all = elements_found may_follow codec n [] bytes (xs, rest) each gives in
      let same : xs ≡ all.more = all.all in
      let fits : (length all.more ≡ n) × AllByRecursion Fits all.more × MayFollow may_follow [] all.more = (all.count, all.each, all.order) in
      (all.spelled ∙ ap (λ ys. flat_map spell ys ++ rest) (sym same), all.rest, subst (λ ys. (length ys ≡ n) × AllByRecursion Fits ys × MayFollow may_follow [] ys) (sym same) fits);
  again = λ xs rest fits. subst (λ m. elements_at may_follow read m [] (flat_map spell xs ++ rest) ≡ Some (xs, rest)) fits.0 (elements_again may_follow codec [] xs rest fits.1 fits.2);
}

-- a list behind the number of its elements
pub counted_list_codec : {A : Type 0} {read : Reader A} {spell : A → List ℕ} {Fits : A → Type 0} (may_follow : List A → A → Bool) → IsCodec read spell Fits
    → IsCodec (counted_list_at may_follow read) (counted_list spell) (λ xs. (length xs < 2 ^ 32) × AllByRecursion Fits xs × MayFollow may_follow [] xs)
counted_list_codec {A} {read} {spell} {Fits} may_follow codec = record {
  found = list_found;
  again = λ xs rest fits.
      ap (λ n. n >>= λ n. elements_at may_follow read n.0 [] n.1) (number_codec_32.again (length xs) (flat_map spell xs ++ rest) fits.0)
      ∙ (elements_codec may_follow (length xs) codec).again xs rest (refl, fits.1, fits.2);
}
  where
    list_found : (bytes : List ℕ) (xs : List A) (rest : List ℕ) → IsBytes bytes → counted_list_at may_follow read bytes ≡ Some (xs, rest)
        → (bytes ≡ counted_list spell xs ++ rest) × IsBytes rest × ((length xs < 2 ^ 32) × AllByRecursion Fits xs × MayFollow may_follow [] xs)
    list_found bytes xs rest each gives =
        let parts = then_parts (number_at w32 bytes) _ (xs, rest) gives in
        let count = number_codec_32.found bytes parts.0.0 parts.0.1 each parts.1 in
        let content = (elements_codec may_follow parts.0.0 codec).found parts.0.1 xs rest count.1 parts.2 in
        let spelled : bytes ≡ counted_list spell xs ++ rest = rw content.2.0 (count.0 ∙ ap (λ r. to_be_bytes w32 parts.0.0 ++ r) content.0 ∙ sym (append_assoc (to_be_bytes w32 parts.0.0) (flat_map spell xs) rest)) in
        (spelled, content.1, (subst (λ n. n < 2 ^ 32) (sym content.2.0) count.2, content.2.1, content.2.2))

-- in any order each list may follow
pub MayFollow-any_order : {A : Type 0} (before xs : List A) → MayFollow any_order before xs
MayFollow-any_order before [] = tt
MayFollow-any_order before (x ∷ xs) = (search rules, MayFollow-any_order (before ++ x ∷ []) xs)
