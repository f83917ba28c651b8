-- An object whose first member is called by a name behind `id` has no member `id`.
use Rattle.std.proofs.Common.{◌≡◌, ◌∙◌, ℕ, Bool, true, false, IsTrue, if◌then◌else◌, List, [], ◌∷◌, ◌++◌, None, Some, map, refl, sym, ap, subst, codes, bytes_eq}
use Rattle.std.specs.List.{AllByRecursion}
use Rattle.std.specs.Ordering.{is_eq}
use Rattle.std.specs.declared.cmp.Ordering.TheVariants.{Less}
use Rattle.std.proofs.lemmas.Bool.{false≢true}
use Rattle.std.proofs.lemmas.Map.Keys.{sorted_head}
use Rattle.std.proofs.lemmas.Map.Text.{is_eq-slice_cmp}
use Rattle.std.proofs.lemmas.Slice.Eq.{bytes_eq-Decides}
use Rattle.tc_model.specs.Tree.{leaf, array, object, Members, no_members, member, relabel, members_relabel, listed_members}
use Rattle.tc_model.specs.Document.{Name, Document, Scalar, document_shape, member_at, name_cmp, IsDocument}
use Rattle.tc_model.specs.Dictionary.{number as name_number}
use Rattle.tc_model.specs.KnownNames.{HasEach}
use Rattle.tc_model.specs.ShapeNames.{names_within}
use Rattle.tc_model.specs.Stored.{IsKeyless, IsObject}
use Rattle.tc_record.specs.Preorder.{Token, token, closed, tokens_of, preorder, members_preorder}
use Rattle.tc_record.specs.Record.{labels, NumberedTree}
use Rattle.tc_record.specs.Walk.{is_above}
use Rattle.tc_record.proofs.Documents.{follows_before}
use Rattle.tc_compact.specs.Compacted.{compacted}
use Rattle.tc_compact.specs.Meant.{name_at}
use Rattle.tc_audit.specs.Lacking.{begins_behind}
use Rattle.tc_audit.proofs.NamesAgain.{again}

-- a name behind another is not that one
other_name : (n wanted : Name) → name_cmp wanted n ≡ Less → bytes_eq n wanted ≡ false
other_name n wanted less = by_test (bytes_eq n wanted) refl
  where
    by_test : (b : Bool) → bytes_eq n wanted ≡ b → bytes_eq n wanted ≡ false
    by_test false other = other
    by_test true same =
        let itself : name_cmp wanted wanted ≡ Less = subst (λ m. name_cmp wanted m ≡ Less) ((bytes_eq-Decides n wanted).0 same) less in
        absurd (false≢true (sym (ap is_eq itself) ∙ is_eq-slice_cmp wanted wanted ∙ (bytes_eq-Decides wanted wanted).1 refl))

none_behind : (wanted : Name) (ms : Members Name Scalar) → AllByRecursion (λ n. name_cmp wanted n ≡ Less) (map (λ m. m.0) (listed_members ms)) → member_at wanted ms ≡ None
none_behind wanted no_members behind = refl
none_behind wanted (member n t ms) behind = ap (λ b. if b then Some t else member_at wanted ms) (other_name n wanted behind.0) ∙ none_behind wanted ms behind.1

-- the first number of an object is that of its first member
first_number : (names : List Name) (k : ℕ) (t : NumberedTree) (ts more : List (Token ℕ Scalar)) → begins_behind names (labels ((preorder (Some k) t ++ ts) ++ more)) ≡ is_above (Some (codes "id")) (name_at names k)
first_number names k (leaf s) ts more = refl
first_number names k (array xs) ts more = refl
first_number names k (object ms) ts more = refl

pub keyless_behind : (names : List Name) (d : Document) → IsObject d → IsDocument d → HasEach names (names_within (document_shape d)) → IsTrue (begins_behind names (labels (tokens_of (compacted names d)))) → IsKeyless d
keyless_behind names (leaf s) is lawful known begins = absurd is
keyless_behind names (array xs) is lawful known begins = absurd is
keyless_behind names (object no_members) is lawful known begins = refl
keyless_behind names (object (member n t ms)) is lawful known begins =
    let numbered = relabel (name_number names) (λ s. s) t in
    let others = members_preorder (members_relabel (name_number names) (λ s. s) ms) in
    let above : is_above (Some (codes "id")) n ≡ true =
    ap (is_above (Some (codes "id"))) (sym (again names n known.0)) ∙ sym (first_number names (name_number names n) numbered others (token None closed ∷ [])) ∙ begins in
    let sorted = follows_before (Some (codes "id")) n (map (λ m. m.0) (listed_members ms)) above lawful.0 in
    none_behind (codes "id") (member n t ms) (sorted_head name_cmp (codes "id") (map (λ m. m.0) (listed_members (member n t ms))) sorted)
