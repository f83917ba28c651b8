-- When the value at a spot of a record is a document, and what is reached where a path leads to it.
use Rattle.std.proofs.Common.{◌≡◌, ◌∙◌, ◌-◌, ◌==◌, ℕ, zero, suc, ℤ, Bool, true, false, if◌then◌else◌, List, [], ◌∷◌, ◌++◌, Option, None, Some, option_map, option_to_list, length, map, drop, inl, inr, refl, sym, ap, subst, arith}
use Rattle.std.specs.List.{AllByRecursion}
use Rattle.std.specs.Str.{bytes_eq}
use Rattle.std.proofs.lemmas.Option.{same_Some}
use Rattle.tc_bytes.specs.Reading.{bytes_at}
use Rattle.tc_bytes.proofs.Fields.{bytes_again}
use Rattle.tc_model.specs.Tree.{leaf, array, object}
use Rattle.tc_model.specs.Document.{Name, Document, Scalar, null, boolean, integer, text, IsScalar, scalar_kind, document_shape}
use Rattle.tc_model.specs.Kinds.{tag, kind_of}
use Rattle.tc_model.specs.Dictionary.{IsDictionary}
use Rattle.tc_request_model.specs.Request.{Hop}
use Rattle.tc_request_model.specs.Paths.{reached}
use Rattle.tc_request_model.specs.Equal.{same_document, same_scalar}
use Rattle.tc_request_model.specs.Rows.{is_among}
use Rattle.tc_record.specs.Preorder.{Token}
use Rattle.tc_record.specs.Record.{joined, texts, fixed, labels, scalar_fixed, NumberedTree}
use Rattle.tc_record.specs.Walk.{Key}
use Rattle.tc_record.specs.Borrowed.{Record, Spells, IsBelow}
use Rattle.tc_compact.specs.Meant.{expanded, IsRecordUnder}
use Rattle.tc_compact.proofs.Meanings.{under_expanded, has_room}
use Rattle.tc_compact.proofs.NumberedTrees.{HasTree, numbered_tree}
use Rattle.tc_path.specs.Leads.{kinds_in, tag_of, AreHops, IsLead, lead_from}
use Rattle.tc_path.specs.Spots.{value_by, StandsAt}
use Rattle.tc_path.specs.declared.leading.Spot.{Spot}
use Rattle.tc_path.specs.declared.leading.Lead.{Lead}
use Rattle.tc_path.specs.declared.leading.Lead.TheVariants.{Unknown, Nowhere, To}
use Rattle.tc_path.proofs.Led.{led_nowhere, led_to}
use Rattle.tc_path.proofs.Hopped.{hopped}

-- ---- when it is a document

-- values of other tags are other documents
other_scalar : (a b : Scalar) → (tag_of (leaf (scalar_kind a)) ≡ tag (kind_of (leaf (scalar_kind b))) → ⊥) → same_scalar a b ≡ false
other_scalar null null other = absurd (other refl)
other_scalar (boolean a) (boolean b) other = absurd (other refl)
other_scalar (integer a) (integer b) other = absurd (other refl)
other_scalar (text a) (text b) other = absurd (other refl)
other_scalar a b other = refl

other_value : (names : List Name) (t : NumberedTree) (d : Document) → (tag_of (kinds_in t) ≡ tag (kind_of (document_shape d)) → ⊥) → same_document (expanded names t) d ≡ false
other_value names (leaf a) (leaf b) other = other_scalar a b other
other_value names (array xs) (array ys) other = absurd (other refl)
other_value names (object xs) (object ys) other = absurd (other refl)
other_value names t d other = refl

pub other_at : (names : List Name) (t : NumberedTree) (d : Document) (own wanted : ℕ) → own ≡ tag_of (kinds_in t) → tag (kind_of (document_shape d)) ≡ wanted → (own ≡ wanted → ⊥) → false ≡ same_document (expanded names t) d
other_at names t d own wanted tagged is other = sym (other_value names t d (λ same. other (tagged ∙ same ∙ is)))

-- the tag alone tells a null
pub null_at : (names : List Name) (t : NumberedTree) → (tag_of (kinds_in t) == 1) ≡ same_document (expanded names t) (leaf null)
null_at names (leaf null) = refl
null_at names (leaf (boolean b)) = refl
null_at names (leaf (integer z)) = refl
null_at names (leaf (text s)) = refl
null_at names (array xs) = refl
null_at names (object ms) = refl

-- of another scalar with its tag, its column tells
module _ (names : List Name) (ts : List (Token Key Scalar)) (s : Spot) (same : Bool) where
  pub boolean_at : (t : NumberedTree) (value : Bool) → StandsAt ts s t → s.tag ≡ 2
      → ((own : Bool) (more : List ℕ) → drop s.fixed (fixed ts) ≡ scalar_fixed (boolean own) ++ more → same ≡ same_scalar (boolean own) (boolean value)) → same ≡ same_document (expanded names t) (leaf (boolean value))
  boolean_at (leaf (boolean own)) value stands is told = told own stands.more_fixed stands.fixed_are
  boolean_at t value stands is told = absurd (omega (arith, is, stands.tagged))

  pub integer_at : (t : NumberedTree) (value : ℤ) → StandsAt ts s t → s.tag ≡ 3
      → ((own : ℤ) (more : List ℕ) → IsScalar (integer own) → drop s.fixed (fixed ts) ≡ scalar_fixed (integer own) ++ more → same ≡ same_scalar (integer own) (integer value))
      → same ≡ same_document (expanded names t) (leaf (integer value))
  integer_at (leaf (integer own)) value stands is told = told own stands.more_fixed stands.lawful stands.fixed_are
  integer_at t value stands is told = absurd (omega (arith, is, stands.tagged))

  pub text_at : (t : NumberedTree) (value : List ℕ) → StandsAt ts s t → s.tag ≡ 4
      → ((own : List ℕ) (more : List (List ℕ)) → drop s.texts (texts ts) ≡ own ∷ more → same ≡ bytes_eq own value) → same ≡ same_document (expanded names t) (leaf (text value))
  text_at (leaf (text own)) value stands is told = told own stands.more_texts stands.texts_are
  text_at t value stands is told = absurd (omega (arith, is, stands.tagged))

-- ---- what a path reaches where it leads

-- in a record without names that spells a document
module _ (names : List Name) (path : List Hop) (hops : List ℕ) (r : Record) (d : Document) (dictionary : IsDictionary names) (are : AreHops names path hops)
    (spells : Spells r) (unnamed : r.named ≡ false) (under : IsRecordUnder names d r.bytes) where
  tree : HasTree r
  tree = numbered_tree r spells unnamed

  reached_by : reached path d ≡ option_to_list (option_map (expanded names) (value_by hops tree.tree))
  reached_by =
      let below = subst (λ ts. AllByRecursion (IsBelow (length names)) (labels ts)) tree.tokens (has_room names r d spells unnamed under).known in
      ap (reached path) (under_expanded names r tree.tree d spells tree.tokens under) ∙ hopped names dictionary tree.tree path hops below are

  led : (lead : Lead) → (lead ≡ Unknown → ⊥) → IsLead hops r.tokens lead → lead ≡ lead_from hops (kinds_in tree.tree) 0 0
  led lead known (inl unknown) = absurd (known unknown)
  led lead known (inr is) = is tree.tree tree.tokens

  pub none_reached : (value : Document) → IsLead hops r.tokens Nowhere → false ≡ is_among value (reached path d)
  none_reached value is =
      let none = led_nowhere tree.tree hops tree.is.tree (led Nowhere known is) in
      sym (ap (is_among value) (reached_by ∙ ap (λ o. option_to_list (option_map (expanded names) o)) none))
    where
      known : Nowhere ≡ Unknown → ⊥
      known e = cc

  pub one_reached : (value : Document) (s : Spot) (same : Bool) → IsLead hops r.tokens (To s) → ((t : NumberedTree) → StandsAt r.tokens s t → same ≡ same_document (expanded names t) value) → same ≡ is_among value (reached path d)
  one_reached value s same is told =
      let (t, one, stands) = led_to tree.tree hops s tree.is.tree (led (To s) known is) in
      let there : StandsAt r.tokens s t = subst (λ ts. StandsAt ts s t) (sym tree.tokens) stands in
      told t there ∙ sym (alone (same_document (expanded names t) value)) ∙ sym (ap (is_among value) (reached_by ∙ ap (λ o. option_to_list (option_map (expanded names) o)) one))
    where
      known : To s ≡ Unknown → ⊥
      known e = cc

      alone : (b : Bool) → (if b then true else false) ≡ b
      alone true = refl
      alone false = refl

-- ---- texts, one after the other

-- what is left of texts and of their lengths, where so many are to be passed
pub record TextsLeft (all : List (List ℕ)) (which left : ℕ) (lengths rest : List ℕ) : Type 0 where
  pub some : List (List ℕ)
  pub lengths_are : lengths ≡ map length some
  pub rest_is : rest ≡ joined some
  pub same : drop left some ≡ drop which all

-- the first of them, as its length and their bytes tell it
record FirstText (some : List (List ℕ)) (len : ℕ) (lengths rest : List ℕ) : Type 0 where
  first : List ℕ
  others : List (List ℕ)
  are : some ≡ first ∷ others
  lengths_are : lengths ≡ map length others
  read : bytes_at len rest ≡ Some (first, joined others)

first_text : (some : List (List ℕ)) (len : ℕ) (lengths rest : List ℕ) → len ∷ lengths ≡ map length some → rest ≡ joined some → FirstText some len lengths rest
first_text [] len lengths rest lengths_are rest_is = cc
first_text (one ∷ others) len lengths rest lengths_are rest_is =
    let whole : length one ≡ len = cc in
    record { first = one; others = others; are = refl; lengths_are = cc; read = ap (bytes_at len) rest_is ∙ bytes_again len one (joined others) whole }

-- where a length is left, its text is there
pub text_there : (all : List (List ℕ)) (which left : ℕ) (lengths rest : List ℕ) (len : ℕ) (more : List ℕ) → TextsLeft all which left lengths rest → lengths ≡ len ∷ more → bytes_at len rest ≡ None → ⊥
text_there all which left lengths rest len more t taken none = no _ (sym none ∙ (first_text t.some len more rest (sym taken ∙ t.lengths_are) t.rest_is).read)
  where
    no : (x : List ℕ × List ℕ) → ◌≡◌ {A = Option (List ℕ × List ℕ)} None (Some x) → ⊥
    no x is = cc

-- and is passed where another is wanted
pub text_passed : (all : List (List ℕ)) (which left : ℕ) (lengths rest : List ℕ) (len : ℕ) (more own behind : List ℕ) → TextsLeft all which left lengths rest → lengths ≡ len ∷ more
    → bytes_at len rest ≡ Some (own, behind) → (left ≡ 0 → ⊥) → TextsLeft all which (left - 1) more behind
text_passed all which left lengths rest len more own behind t taken read other =
    let taken_text = first_text t.some len more rest (sym taken ∙ t.lengths_are) t.rest_is in
    let both : (own, behind) ≡ (taken_text.first, joined taken_text.others) = same_Some (own, behind) (taken_text.first, joined taken_text.others) (sym read ∙ taken_text.read) in
    record {
      some = taken_text.others;
      lengths_are = taken_text.lengths_are;
      rest_is = ap (λ (x : List ℕ × List ℕ). x.1) both;
      same = sym (behind_first left taken_text.first taken_text.others other) ∙ ap (drop left) (sym taken_text.are) ∙ t.same;
    }
  where
    behind_first : (n : ℕ) (one : List ℕ) (others : List (List ℕ)) → (n ≡ 0 → ⊥) → drop n (one ∷ others) ≡ drop (n - 1) others
    behind_first zero one others other = absurd (other refl)
    behind_first (suc n) one others other = let e : suc n - 1 ≡ n = omega arith in rw e refl
