-- The laws of entries and bodies: each is read from its spelling alone.
use Rattle.std.proofs.Common.{◌≡◌, ◌∙◌, ◌<◌, ◌+◌, ◌^◌, ◌==◌, ℕ, zero, suc, Bool, true, false, if◌then◌else◌, List, [], ◌∷◌, ◌++◌, Option, None, Some, option_map, length, map, drop, refl, sym, ap, subst, arith, append_assoc, append-nil}
use Rattle.std.proofs.lemmas.Bool.{eqb-true}
use Rattle.std.specs.Int.{w32}
use Rattle.std.specs.List.{AllByRecursion}
use Rattle.std.proofs.lemmas.Bool.Decides.{nat_tests}
use Rattle.std.proofs.lemmas.Option.{same_Some}
use Rattle.tc_bytes.specs.Codec.{IsBytes, IsCodec, any_order}
use Rattle.tc_bytes.specs.Reading.{◌>>=◌, number_at, mapped_at, elements_at, ended}
use Rattle.tc_bytes.proofs.Codecs.{then_parts, restated_codec, mapped_codec, passing_codec, pair_codec}
use Rattle.tc_bytes.proofs.Fields.{number_codec_32, number_codec_64, bytes_codec, IsBytes-front}
use Rattle.tc_bytes.proofs.Lists.{elements_codec, MayFollow-any_order}
use Rattle.tc_bytes.proofs.Whole.{whole_found, whole_again}
use Rattle.tc_model.specs.Document.{Document}
use Rattle.tc_record.specs.Preorder.{tokens_of}
use Rattle.tc_record.specs.Record.{record_of, body, labels, joined}
use Rattle.tc_log.specs.declared.write.Write.{Write}
use Rattle.tc_log.specs.declared.write.Write.TheVariants.{Upsert, Delete}
use Rattle.tc_log.specs.Reading.{record_at, held_at, is_key, entry_at, body_read}
use Rattle.tc_log.specs.Spelling.{held_bytes, entry_bytes, body_bytes}
use Rattle.tc_record.specs.StoredTest.{is_stored}
use Rattle.tc_log.specs.Writes.{key_of, record_in, write_of, IsHeld, IsWrite}
use Rattle.tc_record.specs.StoredRecord.{IsStoredRecord}
use Rattle.tc_record.proofs.StoredRecords.{IsStoredRecord-from_test, test-from_IsStoredRecord}

-- ---- records

-- a record begins with its length
length_first : (d : Document) (rest : List ℕ) → length (record_of d) < 2 ^ 32 → (behind : List ℕ) × (number_at w32 (record_of d ++ rest) ≡ Some (length (record_of d), behind))
length_first d rest short =
    let ts = tokens_of d in
    let total = 23 + length (body ts (map length (labels ts)) (joined (labels ts))) in
    let same : total ≡ length (record_of d) = omega arith in
    let behind = drop 4 (record_of d ++ rest) in
    let reads : number_at w32 (record_of d ++ rest) ≡ Some (total, behind) = number_codec_32.again total behind (omega (arith, same)) in
    (behind, reads ∙ ap (λ (n : ℕ). Some (n, behind)) same)

record_again : (bytes rest : List ℕ) → IsStoredRecord bytes → record_at (bytes ++ rest) ≡ Some (bytes, rest)
record_again bytes rest is =
    let spelled = is.is_record.spelled in
    let first = length_first is.document rest (subst (λ bs. length bs < 2 ^ 32) spelled is.is_record.short) in
    let told : number_at w32 (bytes ++ rest) ≡ Some (length bytes, first.0) = subst (λ bs. number_at w32 (bs ++ rest) ≡ Some (length bs, first.0)) (sym spelled) first.1 in
    let cut = (passing_codec is_stored (bytes_codec (length bytes))).again bytes rest (refl, test-from_IsStoredRecord bytes is) in
    rw told cut

record_codec : IsCodec record_at (λ bytes. bytes) IsStoredRecord
record_codec = record {
  found = λ bytes front rest each gives.
      let parts = then_parts (number_at w32 bytes) _ (front, rest) gives in
      let cut = (passing_codec is_stored (bytes_codec parts.0.0)).found bytes front rest each parts.2 in
      (cut.0, cut.1, IsStoredRecord-from_test front (IsBytes-front front rest (subst IsBytes cut.0 each)) cut.2.1);
  again = record_again;
}

-- ---- what an entry holds

Found : List ℕ → Option (List ℕ) × List ℕ → Type 0
Found bytes q = (bytes ≡ held_bytes q.0 ++ q.1) × IsBytes q.1 × IsHeld q.0

kind_found : (kind : ℕ) (more : List ℕ) (q : Option (List ℕ) × List ℕ) (one two : Bool) → (kind == 1) ≡ one → (kind == 2) ≡ two → IsBytes more
    → (if one then mapped_at Some record_at more else (if two then Some (None, more) else None)) ≡ Some q → Found (kind ∷ more) q
unfolding Found
kind_found kind more q true two is_one is_two each gives =
    let parts = then_parts (record_at more) _ q gives in
    let here = record_codec.found more parts.0.0 parts.0.1 each parts.1 in
    subst (Found (kind ∷ more)) (same_Some _ q parts.2) (rw (eqb-true kind 1 is_one) (ap (λ bytes. 1 ∷ bytes) here.0), here.1, here.2)
kind_found kind more q false true is_one is_two each gives =
    subst (Found (kind ∷ more)) (same_Some _ q gives) (rw (eqb-true kind 2 is_two) refl, each, tt)
kind_found kind more q false false is_one is_two each gives = cc

held_codec : IsCodec held_at held_bytes IsHeld
unfolding Found
held_codec = record { found = held_found; again = held_again }
  where
    held_found : (bytes : List ℕ) (held : Option (List ℕ)) (rest : List ℕ) → IsBytes bytes → held_at bytes ≡ Some (held, rest) → (bytes ≡ held_bytes held ++ rest) × IsBytes rest × IsHeld held
    held_found [] held rest each gives = cc
    held_found (kind ∷ more) held rest each gives = kind_found kind more (held, rest) (kind == 1) (kind == 2) refl refl (λ i. each (suc i)) gives

    held_again : (held : Option (List ℕ)) (rest : List ℕ) → IsHeld held → held_at (held_bytes held ++ rest) ≡ Some (held, rest)
    held_again None rest is = refl
    held_again (Some bytes) rest is = rw (record_codec.again bytes rest is) refl

-- ---- entries

abbrev parts_of : Write → ℕ × Option (List ℕ)
parts_of write = (key_of write, record_in write)

parts_back : (x : ℕ × Option (List ℕ)) → parts_of (write_of x) ≡ x
parts_back (key, Some bytes) = refl
parts_back (key, None) = refl

write_back : (write : Write) → write_of (parts_of write) ≡ write
write_back (Upsert key bytes) = refl
write_back (Delete key) = refl

key_below : (key : ℕ) → is_key key ≡ true → key < 2 ^ 63
key_below key is = grind (arith, nat_tests)

key_test : (key : ℕ) → key < 2 ^ 63 → is_key key ≡ true
key_test key below = grind (arith, nat_tests)

pub entry_codec : IsCodec entry_at entry_bytes IsWrite
entry_codec = restated_codec
    (λ write fits. record { key = key_below (key_of write) fits.0.0.1; held = fits.0.1 })
    (λ write is. ((((let key = is.key in omega arith), key_test (key_of write) is.key), is.held), write_back write))
    (mapped_codec write_of parts_of (λ x fits. parts_back x) (pair_codec (passing_codec is_key number_codec_64) (λ key fits. held_codec)))

-- ---- bodies

pub record BodyFound (count : ℕ) (body : List ℕ) (writes : List Write) : Type 0 where
  pub spelled : body ≡ body_bytes writes
  pub count_is : length writes ≡ count
  pub each : AllByRecursion IsWrite writes

body_codec : (n : ℕ) → IsCodec (elements_at any_order entry_at n []) body_bytes (λ writes. (length writes ≡ n) × AllByRecursion IsWrite writes)
body_codec n = restated_codec (λ writes fits. (fits.0, fits.1)) (λ writes fits. (fits.0, fits.1, MayFollow-any_order [] writes)) (elements_codec any_order n entry_codec)

-- these writes before those that were read
abbrev onto : List Write → List Write × List ℕ → List Write × List ℕ
onto before q = (before ++ q.0, q.1)

-- the writes before stand before those that are read
behind_before : (n : ℕ) (before : List Write) (bytes : List ℕ) → elements_at any_order entry_at n before bytes ≡ option_map (onto before) (elements_at any_order entry_at n [] bytes)
behind_before zero before bytes = ap (λ (writes : List Write). Some (writes, bytes)) (sym (append-nil before))
behind_before (suc n) before bytes = one (entry_at bytes) (behind_before n)
  where
    both : (x : Write) (o : Option (List Write × List ℕ)) → option_map (onto (before ++ x ∷ [])) o ≡ option_map (onto before) (option_map (onto (x ∷ [])) o)
    both x None = refl
    both x (Some q) = ap (λ (writes : List Write). Some (writes, q.1)) (append_assoc before (x ∷ []) q.0)

    one : (o : Option (Write × List ℕ))
        → ((before : List Write) (bytes : List ℕ) → elements_at any_order entry_at n before bytes ≡ option_map (onto before) (elements_at any_order entry_at n [] bytes))
        → (o >>= λ x. elements_at any_order entry_at n (before ++ x.0 ∷ []) x.1) ≡ option_map (onto before) (o >>= λ x. elements_at any_order entry_at n (x.0 ∷ []) x.1)
    one None others = refl
    one (Some x) others = others (before ++ x.0 ∷ []) x.1 ∙ both x.0 (elements_at any_order entry_at n [] x.1) ∙ ap (option_map (onto before)) (sym (others (x.0 ∷ []) x.1))

-- what is read behind the writes before, and what is read alone
body_behind : (n : ℕ) (before : List Write) (body : List ℕ) → body_read n before body ≡ option_map (λ writes. before ++ writes) (body_read n [] body)
body_behind n before body = ap (λ r. r >>= ended) (behind_before n before body) ∙ ends (elements_at any_order entry_at n [] body)
  where
    ends : (o : Option (List Write × List ℕ)) → (option_map (onto before) o >>= ended) ≡ option_map (λ writes. before ++ writes) (o >>= ended)
    ends None = refl
    ends (Some (writes, [])) = refl
    ends (Some (writes, b ∷ rest)) = refl

pub body_again : (before writes : List Write) → AllByRecursion IsWrite writes → body_read (length writes) before (body_bytes writes) ≡ Some (before ++ writes)
body_again before writes each =
    body_behind (length writes) before (body_bytes writes) ∙ ap (option_map (λ more. before ++ more)) (whole_again (body_codec (length writes)) writes (refl, each))

-- what was read of a body behind the writes before
pub record BodyRead (count : ℕ) (before : List Write) (body : List ℕ) (all : List Write) : Type 0 where
  pub writes : List Write
  pub is : BodyFound count body writes
  pub all_are : all ≡ before ++ writes

pub body_found : (n : ℕ) (before : List Write) (body : List ℕ) (all : List Write) → IsBytes body → body_read n before body ≡ Some all → BodyRead n before body all
body_found n before body all each gives = alone (body_read n [] body) refl (sym (body_behind n before body) ∙ gives)
  where
    alone : (o : Option (List Write)) → body_read n [] body ≡ o → option_map (λ writes. before ++ writes) o ≡ Some all → BodyRead n before body all
    alone None reads gives = cc
    alone (Some writes) reads gives =
        let here = whole_found (body_codec n) body writes each reads in
        record { writes = writes; is = record { spelled = here.0; count_is = here.1.0; each = here.1.1 }; all_are = sym (same_Some _ all gives) }
