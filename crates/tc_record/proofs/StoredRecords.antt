-- Which records have no member `id`, by their tokens and by their documents.
use Rattle.std.proofs.Common.{◌≡◌, ◌∙◌, ◌<◌, ◌+◌, ◌-◌, ◌^◌, ◌==◌, ℕ, Bool, true, false, not, is_some, if◌then◌else◌, List, [], ◌∷◌, ◌++◌, Option, None, Some, length, refl, sym, ap, inl, inr, arith, append_assoc, codes, bytes_eq}
use Rattle.std.proofs.lemmas.Bool.{and_parts}
use Rattle.std.proofs.lemmas.Bool.Decides.{nat_tests}
use Rattle.std.proofs.lemmas.List.{length-map}
use Rattle.tc_bytes.specs.Codec.{IsBytes}
use Rattle.tc_model.specs.Tree.{Tree, leaf, array, object, Items, no_items, item, Members, no_members, member, relabel, members_relabel}
use Rattle.tc_model.specs.Document.{Name, Document, Scalar, member_at}
use Rattle.tc_record.specs.Preorder.{scalar, array_opened, object_opened, Token, token, preorder, items_preorder, members_preorder}
use Rattle.tc_record.specs.Record.{piece_tag, IsRecordOf}
use Rattle.tc_record.specs.Walk.{Key, name, Format}
use Rattle.tc_record.specs.Sections.{record_read}
use Rattle.tc_record.specs.Borrowed.{Record, IsRecord, Spells, named_tokens}
use Rattle.tc_record.proofs.Cutting.{body_length}
use Rattle.tc_record.proofs.Walks.{close}
use Rattle.tc_record.proofs.Holding.{spelled_record}
use Rattle.tc_record.proofs.Keyed.{record_of-keyed}
use Rattle.tc_record.proofs.Reading.{document_again, numbered_again, read_found}
use Rattle.tc_record.specs.StoredTest.{is_id, depth_behind, lacks_id, is_stored_read, is_stored}
use Rattle.tc_model.specs.Stored.{IsKeyless}
use Rattle.tc_record.specs.StoredRecord.{IsStoredRecord}

-- ---- what stands deeper than in the outermost object

deep : (n : ℕ) (t : Token Key Scalar) (ts : List (Token Key Scalar)) → 1 < n → lacks_id n (t ∷ ts) ≡ lacks_id (depth_behind t.piece n) ts
deep n t ts below = let other = not_one n below in rw other refl
  where
    not_one : (n : ℕ) → 1 < n → (n == 1) ≡ false
    not_one n below = grind (arith, nat_tests)

back : (n : ℕ) → n + 1 - 1 ≡ n
back n = omega arith

-- what is opened and closed again leaves the depth as it was
closes : (n : ℕ) (inner rest : List (Token Key Scalar)) → 1 < n + 1 → ((after : List (Token Key Scalar)) → lacks_id (n + 1) (inner ++ after) ≡ lacks_id (n + 1) after)
    → lacks_id (n + 1) ((inner ++ close ∷ []) ++ rest) ≡ lacks_id n rest
closes n inner rest below passes =
    ap (lacks_id (n + 1)) (append_assoc inner (close ∷ []) rest) ∙ passes (close ∷ rest) ∙ deep (n + 1) close rest below ∙ ap (λ k. lacks_id k rest) (back n)

mutual
  passed : (t : Tree Key Scalar) (l : Option Key) (n : ℕ) (rest : List (Token Key Scalar)) → 1 < n → lacks_id n (preorder l t ++ rest) ≡ lacks_id n rest
  passed (leaf s) l n rest below = deep n (token l (scalar s)) rest below
  passed (array xs) l n rest below = deep n (token l array_opened) _ below ∙ closes n (items_preorder xs) rest (omega arith) (λ after. passed_items xs (n + 1) after (omega arith))
  passed (object ms) l n rest below = deep n (token l object_opened) _ below ∙ closes n (members_preorder ms) rest (omega arith) (λ after. passed_members ms (n + 1) after (omega arith))

  passed_items : (xs : Items Key Scalar) (n : ℕ) (rest : List (Token Key Scalar)) → 1 < n → lacks_id n (items_preorder xs ++ rest) ≡ lacks_id n rest
  passed_items no_items n rest below = refl
  passed_items (item t ts) n rest below =
      ap (lacks_id n) (append_assoc (preorder None t) (items_preorder ts) rest) ∙ passed t None n (items_preorder ts ++ rest) below ∙ passed_items ts n rest below

  passed_members : (ms : Members Key Scalar) (n : ℕ) (rest : List (Token Key Scalar)) → 1 < n → lacks_id n (members_preorder ms ++ rest) ≡ lacks_id n rest
  passed_members no_members n rest below = refl
  passed_members (member k t ms) n rest below =
      ap (lacks_id n) (append_assoc (preorder (Some k) t) (members_preorder ms) rest) ∙ passed t (Some k) n (members_preorder ms ++ rest) below ∙ passed_members ms n rest below

-- ---- the members of the outermost object

top : (t : Tree Key Scalar) (l : Option Key) (rest : List (Token Key Scalar)) → lacks_id 1 (preorder l t ++ rest) ≡ (if is_id l then false else lacks_id 1 rest)
top (leaf s) l rest = refl
top (array xs) l rest = ap (λ b. if is_id l then false else b) (closes 1 (items_preorder xs) rest (omega arith) (λ after. passed_items xs 2 after (omega arith)))
top (object ms) l rest = ap (λ b. if is_id l then false else b) (closes 1 (members_preorder ms) rest (omega arith) (λ after. passed_members ms 2 after (omega arith)))

none_there : {A : Type 0} (b : Bool) (x : A) (o : Option A) → (if b then false else not (is_some o)) ≡ not (is_some (if b then Some x else o))
none_there true x o = refl
none_there false x o = refl

top_members : (ms : Members Name Scalar) → lacks_id 1 (members_preorder (members_relabel name (λ s. s) ms) ++ close ∷ []) ≡ not (is_some (member_at (codes "id") ms))
top_members no_members = refl
top_members (member n t ms) =
    let held = relabel name (λ s. s) t in
    let others = members_preorder (members_relabel name (λ s. s) ms) in
    ap (lacks_id 1) (append_assoc (preorder (Some (name n)) held) others (close ∷ [])) ∙ top held (Some (name n)) (others ++ close ∷ [])
    ∙ ap (λ b. if bytes_eq n (codes "id") then false else b) (top_members ms)
    ∙ none_there (bytes_eq n (codes "id")) t (member_at (codes "id") ms)

nothing_is : {A : Type 0} (o : Option A) → not (is_some o) ≡ true → o ≡ None
nothing_is None e = refl
nothing_is (Some x) e = cc

-- ---- records

keyless_from : (d : Document) (bytes : List ℕ) → IsRecordOf d bytes → lacks_id 0 (named_tokens d) ≡ true → IsKeyless d
keyless_from (leaf s) bytes is lacks = absurd is.is_object
keyless_from (array xs) bytes is lacks = absurd is.is_object
keyless_from (object ms) bytes is lacks = nothing_is (member_at (codes "id") ms) (sym (top_members ms) ∙ lacks)

lacks_from : (d : Document) → IsKeyless d → lacks_id 0 (named_tokens d) ≡ true
lacks_from (leaf s) keyless = absurd keyless
lacks_from (array xs) keyless = absurd keyless
lacks_from (object ms) keyless = top_members ms ∙ ap (λ (o : Option Document). not (is_some o)) keyless

-- the tokens of what spells a record are what is read of it
pub read_is : (r : Record) → Spells r → record_read r.bytes ≡ Some (record { form = r.form; named = r.named }, r.tokens)
read_is r (inl (d, (named, is, tokens, form))) = document_again d r.bytes is ∙ rw (named, tokens, form) refl
read_is r (inr (n, (named, is, tokens, told))) = numbered_again r.form told n r.bytes is ∙ rw (named, tokens) refl

read_none : (bytes : List ℕ) (o : Option (Format × List (Token Key Scalar))) → IsBytes bytes → (IsRecord bytes → ⊥) → record_read bytes ≡ o → o ≡ None
read_none bytes None each no_record reads = refl
read_none bytes (Some q) each no_record reads = absurd (no_record (spelled_record _ (read_found bytes q each reads)))

pub not_stored : (bytes : List ℕ) → IsBytes bytes → (IsRecord bytes → ⊥) → is_stored bytes ≡ false
not_stored bytes each no_record = ap is_stored_read (read_none bytes (record_read bytes) each no_record refl)

-- a record has fewer tokens than bytes
pub few_tokens : (r : Record) → Spells r → r.named ≡ true → length r.tokens < 2 ^ 32
few_tokens r (inl (d, (named, is, tokens, form))) is_named =
    let ts = named_tokens d in
    let spelled = ap length (is.spelled ∙ record_of-keyed d) in
    let short = is.short in
    let sum = body_length ts in
    let tags = length-map ts (λ (t : Token Key Scalar). piece_tag t.piece) in
    let same = ap length tokens in
    omega arith
few_tokens r (inr (n, (named, is, tokens, told))) is_named = cc

-- what is tested is what is defined
keyless_spelled : (bytes : List ℕ) (form : ℕ) (named : Bool) (tokens : List (Token Key Scalar)) → named ≡ true → lacks_id 0 tokens ≡ true → Spells (record { bytes = bytes; form = form; named = named; tokens = tokens }) → IsStoredRecord bytes
keyless_spelled bytes form named tokens is_named lacks (inl (d, (told, is, same, form_is))) =
    record { document = d; is_record = is; keyless = keyless_from d bytes is (ap (lacks_id 0) (sym same) ∙ lacks) }
keyless_spelled bytes form named tokens is_named lacks (inr (n, (told, is, same, form_is))) = cc

keyless_read : (bytes : List ℕ) (o : Option (Format × List (Token Key Scalar))) → IsBytes bytes → record_read bytes ≡ o → is_stored_read o ≡ true → IsStoredRecord bytes
keyless_read bytes None each reads passes = cc
keyless_read bytes (Some q) each reads passes =
    let parts = and_parts q.0.named (lacks_id 0 q.1) passes in
    keyless_spelled bytes q.0.form q.0.named q.1 parts.0 parts.1 (read_found bytes q each reads)

pub IsStoredRecord-from_test : (bytes : List ℕ) → IsBytes bytes → is_stored bytes ≡ true → IsStoredRecord bytes
IsStoredRecord-from_test bytes each passes = keyless_read bytes (record_read bytes) each refl passes

pub test-from_IsStoredRecord : (bytes : List ℕ) → IsStoredRecord bytes → is_stored bytes ≡ true
test-from_IsStoredRecord bytes is = ap is_stored_read (document_again is.document bytes is.is_record) ∙ lacks_from is.document is.keyless
