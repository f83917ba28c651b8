-- Which objects lack a member, by the tokens of records with numbers.
use Rattle.std.proofs.Common.{◌≡◌, ◌∙◌, ◌<◌, ◌+◌, ◌-◌, ◌==◌, ℕ, Bool, true, false, not, is_some, if◌then◌else◌, List, [], ◌∷◌, ◌++◌, Option, None, Some, refl, sym, ap, arith, append_assoc, codes, bytes_eq}
use Rattle.std.proofs.lemmas.Bool.{eqb-true}
use Rattle.std.proofs.lemmas.Bool.Decides.{nat_tests}
use Rattle.std.proofs.lemmas.Option.{same_Some}
use Rattle.std.proofs.lemmas.Slice.Eq.{bytes_eq-Decides}
use Rattle.tc_model.specs.Tree.{Tree, leaf, array, object, Items, no_items, item, Members, no_members, member, relabel, members_relabel}
use Rattle.tc_model.specs.Document.{Name, Document, Scalar, member_at, document_shape, scalar_kind}
use Rattle.tc_model.specs.Dictionary.{number_of, number as name_number}
use Rattle.tc_model.specs.KnownNames.{HasNumber, HasEach}
use Rattle.tc_model.specs.ShapeNames.{names_within, names_of_members}
use Rattle.tc_model.specs.Stored.{IsKeyless, IsObject}
use Rattle.tc_model.proofs.NameNumbers.{numbered}
use Rattle.tc_model.proofs.LearnedNames.{all_of_rest}
use Rattle.tc_record.specs.Preorder.{scalar, array_opened, object_opened, Token, token, preorder, items_preorder, members_preorder}
use Rattle.tc_record.specs.StoredTest.{depth_behind}
use Rattle.tc_record.specs.Walk.{Key, number}
use Rattle.tc_record.specs.Borrowed.{numbered_tokens}
use Rattle.tc_record.proofs.Walks.{close}
use Rattle.tc_schema_model.proofs.NumberLaws.{one_name}
use Rattle.tc_compact.specs.Compacted.{compacted}
use Rattle.tc_audit.specs.Lacking.{is_numbered, lacks, lacks_number, lacks_id}

-- ---- what stands deeper than in the outermost object

module _ (test : Option Key → Bool) where
  abbrev Skips : List (Token Key Scalar) → Type 0
  Skips ts = (n : ℕ) (rest : List (Token Key Scalar)) → 1 < n → lacks test n (ts ++ rest) ≡ lacks test n rest

  deeper : (n : ℕ) (t : Token Key Scalar) (ts : List (Token Key Scalar)) → 1 < n → lacks test n (t ∷ ts) ≡ lacks test (depth_behind t.piece n) ts
  deeper n t ts deep = let other : (n == 1) ≡ false = grind (arith, nat_tests) in rw other refl

  -- what is opened and closed again leaves the depth as it was
  around : (inner : List (Token Key Scalar)) → Skips inner → (n : ℕ) → 0 < n → (rest : List (Token Key Scalar)) → lacks test (n + 1) ((inner ++ close ∷ []) ++ rest) ≡ lacks test n rest
  around inner skips n some rest =
      let back : n + 1 - 1 ≡ n = omega arith in
      ap (lacks test (n + 1)) (append_assoc inner (close ∷ []) rest) ∙ skips (n + 1) (close ∷ rest) (omega (arith, some)) ∙ deeper (n + 1) close rest (omega (arith, some)) ∙ ap (λ k. lacks test k rest) back

  mutual
    skip : (t : Tree Key Scalar) (l : Option Key) → Skips (preorder l t)
    skip (leaf s) l = λ n rest deep. deeper n (token l (scalar s)) rest deep
    skip (array xs) l = λ n rest deep. deeper n (token l array_opened) _ deep ∙ around (items_preorder xs) (skip_items xs) n (omega (arith, deep)) rest
    skip (object ms) l = λ n rest deep. deeper n (token l object_opened) _ deep ∙ around (members_preorder ms) (skip_members ms) n (omega (arith, deep)) rest

    skip_items : (xs : Items Key Scalar) → Skips (items_preorder xs)
    skip_items no_items = λ n rest deep. refl
    skip_items (item t ts) = λ n rest deep. ap (lacks test n) (append_assoc (preorder None t) (items_preorder ts) rest) ∙ skip t None n (items_preorder ts ++ rest) deep ∙ skip_items ts n rest deep

    skip_members : (ms : Members Key Scalar) → Skips (members_preorder ms)
    skip_members no_members = λ n rest deep. refl
    skip_members (member k t ms) = λ n rest deep. ap (lacks test n) (append_assoc (preorder (Some k) t) (members_preorder ms) rest) ∙ skip t (Some k) n (members_preorder ms ++ rest) deep ∙ skip_members ms n rest deep

  -- ---- the members of the outermost object

  outermost : (t : Tree Key Scalar) (l : Option Key) (rest : List (Token Key Scalar)) → lacks test 1 (preorder l t ++ rest) ≡ (if test l then false else lacks test 1 rest)
  outermost (leaf s) l rest = refl
  outermost (array xs) l rest = ap (λ b. if test l then false else b) (around (items_preorder xs) (skip_items xs) 1 (omega arith) rest)
  outermost (object ms) l rest = ap (λ b. if test l then false else b) (around (members_preorder ms) (skip_members ms) 1 (omega arith) rest)

-- ---- the member of a name

module _ (names : List Name) (wanted : Name) where
  -- a name has a number exactly where it is the name of that number
  same_test : (n : Name) (k : ℕ) → HasNumber names n → number_of names wanted ≡ Some k → (name_number names n == k) ≡ bytes_eq n wanted
  same_test n k known has = cases (bytes_eq n wanted) refl
    where
      cases : (b : Bool) → bytes_eq n wanted ≡ b → (name_number names n == k) ≡ b
      cases true same =
          let is : n ≡ wanted = (bytes_eq-Decides n wanted).0 same in
          let number_is : name_number names n ≡ k = same_Some _ _ (sym (numbered names n known) ∙ ap (number_of names) is ∙ has) in
          grind (arith, nat_tests)
      cases false other = tested (name_number names n == k) refl
        where
          tested : (b : Bool) → (name_number names n == k) ≡ b → (name_number names n == k) ≡ false
          tested false is = is
          tested true is =
              let one : n ≡ wanted = one_name names n wanted k (numbered names n known ∙ ap Some (eqb-true (name_number names n) k is)) has in
              let equal : bytes_eq n wanted ≡ true = (bytes_eq-Decides n wanted).1 one in
              cc

  picked : (b : Bool) (x : Document) (o : Option Document) → (if b then false else not (is_some o)) ≡ not (is_some (if b then Some x else o))
  picked true x o = refl
  picked false x o = refl

  abbrev numbered_members : Members Name Scalar → Members Key Scalar
  numbered_members ms = members_relabel number (λ s. s) (members_relabel (name_number names) (λ s. s) ms)

  among : (k : ℕ) → number_of names wanted ≡ Some k → (ms : Members Name Scalar) → HasEach names (names_of_members (members_relabel (λ name. name) scalar_kind ms))
      → lacks (is_numbered k) 1 (members_preorder (numbered_members ms) ++ close ∷ []) ≡ not (is_some (member_at wanted ms))
  among k has no_members known = refl
  among k has (member n t ms) known =
      let held = relabel number (λ s. s) (relabel (name_number names) (λ s. s) t) in
      let others = members_preorder (numbered_members ms) in
      let rest = all_of_rest (HasNumber names) (names_within (document_shape t)) (names_of_members (members_relabel (λ name. name) scalar_kind ms)) known.1 in
      ap (lacks (is_numbered k) 1) (append_assoc (preorder (Some (number (name_number names n))) held) others (close ∷ []))
      ∙ outermost (is_numbered k) held (Some (number (name_number names n))) (others ++ close ∷ [])
      ∙ ap (λ b. if b then false else lacks (is_numbered k) 1 (others ++ close ∷ [])) (same_test n k known.0 has)
      ∙ ap (λ b. if bytes_eq n wanted then false else b) (among k has ms rest)
      ∙ picked (bytes_eq n wanted) t (member_at wanted ms)

  -- a name without a number is that of no member
  not_among : number_of names wanted ≡ None → (ms : Members Name Scalar) → HasEach names (names_of_members (members_relabel (λ name. name) scalar_kind ms)) → not (is_some (member_at wanted ms)) ≡ true
  not_among has no_members known = refl
  not_among has (member n t ms) known =
      let rest = all_of_rest (HasNumber names) (names_within (document_shape t)) (names_of_members (members_relabel (λ name. name) scalar_kind ms)) known.1 in
      cases (bytes_eq n wanted) refl (not_among has ms rest)
    where
      cases : (b : Bool) → bytes_eq n wanted ≡ b → not (is_some (member_at wanted ms)) ≡ true → not (is_some (if b then Some t else member_at wanted ms)) ≡ true
      cases false other more = more
      cases true same more =
          let number_is : number_of names wanted ≡ Some (name_number names n) = ap (number_of names) (sym ((bytes_eq-Decides n wanted).0 same)) ∙ numbered names n known.0 in
          cc

  told : (o : Option ℕ) → number_of names wanted ≡ o → (ms : Members Name Scalar) → HasEach names (names_of_members (members_relabel (λ name. name) scalar_kind ms))
      → lacks_number o (numbered_tokens (object (members_relabel (name_number names) (λ s. s) ms))) ≡ not (is_some (member_at wanted ms))
  told None has ms known = sym (not_among has ms known)
  told (Some k) has ms known = among k has ms known

pub nothing_is : (o : Option Document) → not (is_some o) ≡ true → o ≡ None
nothing_is None e = refl
nothing_is (Some x) e = cc

-- ---- the member `id`

pub keyless_by_test : (names : List Name) (d : Document) → IsObject d → HasEach names (names_within (document_shape d)) → lacks_id names (numbered_tokens (compacted names d)) ≡ true → IsKeyless d
keyless_by_test names (leaf s) is known test = absurd is
keyless_by_test names (array xs) is known test = absurd is
keyless_by_test names (object ms) is known test = nothing_is (member_at (codes "id") ms) (sym (told names (codes "id") (number_of names (codes "id")) refl ms known) ∙ test)

pub test_of_keyless : (names : List Name) (d : Document) → IsKeyless d → HasEach names (names_within (document_shape d)) → lacks_id names (numbered_tokens (compacted names d)) ≡ true
test_of_keyless names (leaf s) keyless known = absurd keyless
test_of_keyless names (array xs) keyless known = absurd keyless
test_of_keyless names (object ms) keyless known =
    told names (codes "id") (number_of names (codes "id")) refl ms known ∙ ap (λ (o : Option Document). not (is_some o)) keyless
