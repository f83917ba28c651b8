-- The laws of walks: the tokens of a tree are read from its columns alone.
use Rattle.std.proofs.Common.{◌≡◌, ◌∙◌, ◌<◌, ◌≤◌, ◌+◌, ◌==◌, ℕ, nat_lt, false, if◌then◌else◌, List, [], ◌∷◌, ◌++◌, Option, None, Some, length, map, refl, sym, ap, subst, arith, append_assoc}
use Rattle.std.proofs.lemmas.Bool.Decides.{nat_tests}
use Rattle.std.proofs.lemmas.List.{map-append}
use Rattle.tc_bytes.specs.Reading.{◌>>=◌}
use Rattle.tc_model.specs.Tree.{Tree, leaf, array, object, Items, no_items, item, Members, no_members, member, depth, items_depth, members_depth}
use Rattle.tc_model.specs.Document.{Name, Scalar, null, boolean, integer, text, IsScalar}
use Rattle.tc_record.specs.Preorder.{Piece, scalar, array_opened, object_opened, closed, Token, token, preorder, items_preorder, members_preorder}
use Rattle.tc_record.specs.Record.{piece_tag}
use Rattle.tc_record.specs.Walk.{Key, name, number, Level, in_array, in_object, Format, Columns, value_at, opened, walk}
use Rattle.tc_record.proofs.Labels.{IsLabelled, with_token, value_again}

-- a tree whose scalars and labels may stand in a record, and whose names ascend where there are names
abbrev mutual
  pub IsKeyed : Format → Tree Key Scalar → Type 0
  IsKeyed f (leaf s) = IsScalar s
  IsKeyed f (array xs) = AreKeyedItems f xs
  IsKeyed f (object ms) = AreKeyedMembers f None ms

  pub AreKeyedItems : Format → Items Key Scalar → Type 0
  AreKeyedItems f no_items = Unit {0}
  AreKeyedItems f (item t ts) = IsKeyed f t × AreKeyedItems f ts

  pub AreKeyedMembers : Format → Option Name → Members Key Scalar → Type 0
  AreKeyedMembers f last no_members = Unit {0}
  AreKeyedMembers f last (member k t ms) = (next : Option Name) × (IsLabelled f (in_object last) (Some k) (in_object next) × IsKeyed f t × AreKeyedMembers f next ms)

-- the columns before tokens were read
abbrev pub with_tokens : List (Token Key Scalar) → Columns → Columns
with_tokens [] c = c
with_tokens (t ∷ ts) c = with_token t (with_tokens ts c)

pub with_tokens-append : (ts us : List (Token Key Scalar)) (c : Columns) → with_tokens (ts ++ us) c ≡ with_tokens ts (with_tokens us c)
with_tokens-append [] us c = refl
with_tokens-append (t ∷ ts) us c = ap (with_token t) (with_tokens-append ts us c)

abbrev pub tags_of : List (Token Key Scalar) → List ℕ
tags_of ts = map (λ t. piece_tag t.piece) ts

abbrev pub close : Token Key Scalar
close = token None closed

-- ---- what is spelled is read

-- further tokens behind some
abbrev before : List (Token Key Scalar) → Option (List (Token Key Scalar)) → Option (List (Token Key Scalar))
before ts read = read >>= λ us. Some (ts ++ us)

before-before : (ts us : List (Token Key Scalar)) (read : Option (List (Token Key Scalar))) → before ts (before us read) ≡ before (ts ++ us) read
before-before ts us None = refl
before-before ts us (Some vs) = ap Some (sym (append_assoc ts us vs))

room : (levels : List Level) (x : Option (List Level)) → length levels < 32 → (if nat_lt (length levels) 32 then x else None) ≡ x
room levels x few = grind (arith, nat_tests)

-- a value that opens nothing more than levels
walk_value : (f : Format) (tags : List ℕ) (level : Level) (levels : List Level) (label : Option Key) (behind : Level) (p : Piece Scalar) (inner : List Level) (c : Columns) → (piece_tag p == 7) ≡ false
    → value_at f level (piece_tag p) (with_token (token label p) c) ≡ Some (token label p, behind, c) → opened p (behind ∷ levels) ≡ Some inner
    → walk f (piece_tag p ∷ tags) (level ∷ levels) (with_token (token label p) c) ≡ before (token label p ∷ []) (walk f tags inner c)
walk_value f tags level levels label behind p inner c goes read opens = rw (goes, read, opens) refl

not_close : (s : Scalar) → (piece_tag (scalar s) == 7) ≡ false
not_close null = refl
not_close (boolean b) = refl
not_close (integer z) = refl
not_close (text s) = refl

leaf_again : (s : Scalar) (f : Format) (label : Option Key) (level behind : Level) (levels : List Level) (tags : List ℕ) (c : Columns) → IsLabelled f level label behind → IsScalar s
    → walk f (piece_tag (scalar s) ∷ tags) (level ∷ levels) (with_token (token label (scalar s)) c) ≡ before (token label (scalar s) ∷ []) (walk f tags (behind ∷ levels) c)
leaf_again s f label level behind levels tags c labelled keyed =
    walk_value f tags level levels label behind (scalar s) (behind ∷ levels) c (not_close s) (value_again f level label behind (scalar s) c labelled keyed) refl

-- around what an array or an object holds: its opening and its close
around_again : (f : Format) (label : Option Key) (level behind inner end : Level) (levels : List Level) (p : Piece Scalar) (held : List (Token Key Scalar)) (tags : List ℕ) (c : Columns) → (piece_tag p == 7) ≡ false
    → value_at f level (piece_tag p) (with_token (token label p) (with_tokens held c)) ≡ Some (token label p, behind, with_tokens held c)
    → opened p (behind ∷ levels) ≡ Some (inner ∷ behind ∷ levels)
    → walk f (tags_of held ++ 7 ∷ tags) (inner ∷ behind ∷ levels) (with_tokens held c) ≡ before held (walk f (7 ∷ tags) (end ∷ behind ∷ levels) c)
    → walk f (tags_of (token label p ∷ (held ++ close ∷ [])) ++ tags) (level ∷ levels) (with_tokens (token label p ∷ (held ++ close ∷ [])) c) ≡ before (token label p ∷ (held ++ close ∷ [])) (walk f tags (behind ∷ levels) c)
around_again f label level behind inner end levels p held tags c goes read opens within =
    let tag_list : tags_of (held ++ close ∷ []) ++ tags ≡ tags_of held ++ 7 ∷ tags = ap (λ ns. ns ++ tags) (map-append (λ (t : Token Key Scalar). piece_tag t.piece) held (close ∷ [])) ∙ append_assoc (tags_of held) (7 ∷ []) tags in
    let columns : with_tokens (held ++ close ∷ []) c ≡ with_tokens held c = with_tokens-append held (close ∷ []) c in
    rw (tag_list, columns)
    (walk_value f (tags_of held ++ 7 ∷ tags) level levels label behind p (inner ∷ behind ∷ levels) (with_tokens held c) goes read opens
    ∙ ap (before (token label p ∷ [])) (within ∙ before-before held (close ∷ []) (walk f tags (behind ∷ levels) c))
    ∙ before-before (token label p ∷ []) (held ++ close ∷ []) (walk f tags (behind ∷ levels) c))

-- one tree, and then others
more_again : (f : Format) (ts us : List (Token Key Scalar)) (levels middle behind : List Level) (tags : List ℕ) (c : Columns)
    → walk f (tags_of ts ++ (tags_of us ++ tags)) levels (with_tokens ts (with_tokens us c)) ≡ before ts (walk f (tags_of us ++ tags) middle (with_tokens us c))
    → walk f (tags_of us ++ tags) middle (with_tokens us c) ≡ before us (walk f tags behind c)
    → walk f (tags_of (ts ++ us) ++ tags) levels (with_tokens (ts ++ us) c) ≡ before (ts ++ us) (walk f tags behind c)
more_again f ts us levels middle behind tags c first second =
    let tag_list : tags_of (ts ++ us) ++ tags ≡ tags_of ts ++ (tags_of us ++ tags) = ap (λ ns. ns ++ tags) (map-append (λ (t : Token Key Scalar). piece_tag t.piece) ts us) ∙ append_assoc (tags_of ts) (tags_of us) tags in
    rw (tag_list, with_tokens-append ts us c) (first ∙ ap (before ts) second ∙ before-before ts us (walk f tags behind c))

no_more : (f : Format) (tags : List ℕ) (levels : List Level) (c : Columns) → walk f tags levels c ≡ before [] (walk f tags levels c)
no_more f tags levels c = same (walk f tags levels c)
  where
    same : (read : Option (List (Token Key Scalar))) → read ≡ before [] read
    same None = refl
    same (Some us) = refl

mutual
  pub tree_again : (t : Tree Key Scalar) (f : Format) (label : Option Key) (level behind : Level) (levels : List Level) (tags : List ℕ) (c : Columns) → IsLabelled f level label behind → IsKeyed f t → depth t + length (level ∷ levels) ≤ 32
      → walk f (tags_of (preorder label t) ++ tags) (level ∷ levels) (with_tokens (preorder label t) c) ≡ before (preorder label t) (walk f tags (behind ∷ levels) c)
  tree_again (leaf s) f label level behind levels tags c labelled keyed shallow = leaf_again s f label level behind levels tags c labelled keyed
  tree_again (array xs) f label level behind levels tags c labelled keyed shallow =
      around_again f label level behind in_array in_array levels array_opened (items_preorder xs) tags c refl (value_again f level label behind array_opened (with_tokens (items_preorder xs) c) labelled tt) (room (behind ∷ levels) (Some (in_array ∷ behind ∷ levels)) (omega arith)) (items_again xs f (behind ∷ levels) (7 ∷ tags) c keyed (omega arith))
  tree_again (object ms) f label level behind levels tags c labelled keyed shallow =
      let within = members_again ms f None (behind ∷ levels) (7 ∷ tags) c keyed (omega arith) in
      around_again f label level behind (in_object None) (in_object within.0) levels object_opened (members_preorder ms) tags c refl (value_again f level label behind object_opened (with_tokens (members_preorder ms) c) labelled tt) (room (behind ∷ levels) (Some (in_object None ∷ behind ∷ levels)) (omega arith)) within.1

  items_again : (xs : Items Key Scalar) (f : Format) (levels : List Level) (tags : List ℕ) (c : Columns) → AreKeyedItems f xs → items_depth xs + length (in_array ∷ levels) ≤ 32
      → walk f (tags_of (items_preorder xs) ++ tags) (in_array ∷ levels) (with_tokens (items_preorder xs) c) ≡ before (items_preorder xs) (walk f tags (in_array ∷ levels) c)
  items_again no_items f levels tags c keyed shallow = no_more f tags (in_array ∷ levels) c
  items_again (item t ts) f levels tags c keyed shallow =
      more_again f (preorder None t) (items_preorder ts) (in_array ∷ levels) (in_array ∷ levels) (in_array ∷ levels) tags c (tree_again t f None in_array in_array levels (tags_of (items_preorder ts) ++ tags) (with_tokens (items_preorder ts) c) refl keyed.0 (omega arith)) (items_again ts f levels tags c keyed.1 (omega arith))

  pub members_again : (ms : Members Key Scalar) (f : Format) (last : Option Name) (levels : List Level) (tags : List ℕ) (c : Columns) → AreKeyedMembers f last ms → members_depth ms + length (in_object last ∷ levels) ≤ 32
      → (end : Option Name) × (walk f (tags_of (members_preorder ms) ++ tags) (in_object last ∷ levels) (with_tokens (members_preorder ms) c) ≡ before (members_preorder ms) (walk f tags (in_object end ∷ levels) c))
  members_again no_members f last levels tags c keyed shallow = (last, no_more f tags (in_object last ∷ levels) c)
  members_again (member k t ms) f last levels tags c keyed shallow =
      let others = members_again ms f keyed.0 levels tags c keyed.1.2 (omega arith) in
      (others.0, more_again f (preorder (Some k) t) (members_preorder ms) (in_object last ∷ levels) (in_object keyed.0 ∷ levels) (in_object others.0 ∷ levels) tags c (tree_again t f (Some k) (in_object last) (in_object keyed.0) levels (tags_of (members_preorder ms) ++ tags) (with_tokens (members_preorder ms) c) keyed.1.0 keyed.1.1 (omega arith)) others.1)

-- ---- what is read is spelled so

-- Tokens that end what is open: for each level, innermost first, further items or members and a close.
abbrev pub Completes : Format → List Level → List (Token Key Scalar) → Type 0
Completes f [] ts = ts ≡ []
Completes f (in_array ∷ levels) ts =
    (xs : Items Key Scalar) × ((rest : List (Token Key Scalar)) × (AreKeyedItems f xs × (items_depth xs + length (in_array ∷ levels) ≤ 32) × (ts ≡ items_preorder xs ++ close ∷ rest) × Completes f levels rest))
Completes f (in_object last ∷ levels) ts =
    (ms : Members Key Scalar) × ((rest : List (Token Key Scalar)) × (AreKeyedMembers f last ms × (members_depth ms + length (in_object last ∷ levels) ≤ 32) × (ts ≡ members_preorder ms ++ close ∷ rest) × Completes f levels rest))

-- a value before what completes the levels
pub one_more : (t : Tree Key Scalar) (f : Format) (level : Level) (label : Option Key) (behind : Level) (levels : List Level) (rest : List (Token Key Scalar)) → IsLabelled f level label behind → IsKeyed f t
    → depth t + length (level ∷ levels) ≤ 32 → Completes f (behind ∷ levels) rest → Completes f (level ∷ levels) (preorder label t ++ rest)
one_more t f in_array None behind levels rest labelled keyed shallow complete =
    let further : Completes f (in_array ∷ levels) rest = subst (λ b. Completes f (b ∷ levels) rest) labelled complete in
    (item t further.0, (further.1.0, ((keyed, further.1.1.0), omega arith, ap (λ us. preorder None t ++ us) further.1.1.2 ∙ sym (append_assoc (preorder None t) (items_preorder further.0) (close ∷ further.1.0)), further.1.1.3)))
one_more t f in_array (Some k) behind levels rest labelled keyed shallow complete = absurd labelled
one_more t f (in_object last) None behind levels rest labelled keyed shallow complete = absurd labelled
one_more t f (in_object last) (Some (name n)) behind levels rest labelled keyed shallow complete =
    let further : Completes f (in_object (Some n) ∷ levels) rest = subst (λ b. Completes f (b ∷ levels) rest) labelled.3 complete in
    (member (name n) t further.0, (further.1.0, ((Some n, ((labelled.0, labelled.1, labelled.2, refl), keyed, further.1.1.0)), omega arith, ap (λ us. preorder (Some (name n)) t ++ us) further.1.1.2 ∙ sym (append_assoc (preorder (Some (name n)) t) (members_preorder further.0) (close ∷ further.1.0)), further.1.1.3)))
one_more t f (in_object last) (Some (number k)) behind levels rest labelled keyed shallow complete =
    let further : Completes f (in_object None ∷ levels) rest = subst (λ b. Completes f (b ∷ levels) rest) labelled.2 complete in
    (member (number k) t further.0, (further.1.0, ((None, ((labelled.0, labelled.1, refl), keyed, further.1.1.0)), omega arith, ap (λ us. preorder (Some (number k)) t ++ us) further.1.1.2 ∙ sym (append_assoc (preorder (Some (number k)) t) (members_preorder further.0) (close ∷ further.1.0)), further.1.1.3)))
