-- What is read of a record's columns is a tree that they spell.
use Rattle.std.proofs.Common.{◌≡◌, ◌∙◌, ◌≤◌, ◌==◌, ℕ, suc, nat_lt, Bool, true, false, if◌then◌else◌, List, [], ◌∷◌, ◌++◌, Option, None, Some, length, refl, sym, ap, subst, arith, append_assoc}
use Rattle.std.proofs.lemmas.Bool.{and_parts}
use Rattle.std.proofs.lemmas.Bool.Decides.{nat_tests}
use Rattle.std.proofs.lemmas.List.{map-append}
use Rattle.std.proofs.lemmas.Option.{same_Some}
use Rattle.tc_bytes.specs.Reading.{◌>>=◌}
use Rattle.tc_bytes.proofs.Codecs.{then_parts}
use Rattle.tc_model.specs.Tree.{leaf, array, object, no_items, Members, no_members, depth}
use Rattle.tc_model.specs.Document.{Scalar}
use Rattle.tc_record.specs.Preorder.{Piece, scalar, array_opened, object_opened, closed, Token, token, preorder, items_preorder, members_preorder}
use Rattle.tc_record.specs.Record.{piece_tag}
use Rattle.tc_record.specs.Walk.{Key, Level, in_array, in_object, Format, Columns, value_at, opened, step, is_used_up, walk, tokens_read}
use Rattle.tc_record.proofs.ColumnLaws.{no_columns, same_columns}
use Rattle.tc_record.proofs.Texts.{AreColumns}
use Rattle.tc_record.proofs.Scalars.{FitsPiece}
use Rattle.tc_record.proofs.Labels.{IsLabelled, with_token, if_parts, value_found}
use Rattle.tc_record.proofs.Walks.{AreKeyedMembers, with_tokens, tags_of, close, Completes, one_more, members_again, with_tokens-append}

empty : (xs : List ℕ) → (length xs == 0) ≡ true → xs ≡ []
empty [] none = refl
empty (x ∷ xs) none = absurd (some (length xs) none)
  where
    some : (n : ℕ) → (suc n == 0) ≡ true → ⊥
    some n e = grind (arith, nat_tests)

pub used_up : (c : Columns) → is_used_up c ≡ true → c ≡ no_columns
used_up c ended =
    let fixed = and_parts (length c.fixed == 0) _ ended in
    let lengths = and_parts (length c.lengths == 0) _ fixed.1 in
    let texts = and_parts (length c.texts == 0) _ lengths.1 in
    let slots = and_parts (length c.slots == 0) (length c.names == 0) texts.1 in
    same_columns c [] [] [] [] [] (empty c.fixed fixed.0) (empty c.lengths lengths.0) (empty c.texts texts.0) (empty c.slots slots.0) (empty c.names slots.1)

-- the tokens that a walk read
pub record WalkFound (f : Format) (tags : List ℕ) (levels : List Level) (c : Columns) (ts : List (Token Key Scalar)) : Type 0 where
  pub tagged : tags ≡ tags_of ts
  pub spelled : c ≡ with_tokens ts no_columns
  pub completes : Completes f levels ts

-- a walk over the tags that are left
abbrev Walks : Format → List ℕ → Type 0
Walks f tags = (levels : List Level) (c : Columns) (ts : List (Token Key Scalar)) → AreColumns c → length levels ≤ 32 → walk f tags levels c ≡ Some ts → WalkFound f tags levels c ts

closed_level : (f : Format) (level : Level) (levels : List Level) (ts : List (Token Key Scalar)) → length (level ∷ levels) ≤ 32 → Completes f levels ts → Completes f (level ∷ levels) (close ∷ ts)
closed_level f in_array levels ts shallow complete = (no_items, (ts, (tt, omega arith, refl, complete)))
closed_level f (in_object last) levels ts shallow complete = (no_members, (ts, (tt, omega arith, refl, complete)))

-- a value that was read completes what was open, with what completes the levels behind it
value_completes : (p : Piece Scalar) (f : Format) (level : Level) (label : Option Key) (behind : Level) (levels inner : List Level) (ts : List (Token Key Scalar)) → IsLabelled f level label behind → FitsPiece p
    → length (level ∷ levels) ≤ 32 → opened p (behind ∷ levels) ≡ Some inner → Completes f inner ts → Completes f (level ∷ levels) (token label p ∷ ts)
value_completes (scalar s) f level label behind levels inner ts labelled fits shallow opens complete =
    one_more (leaf s) f level label behind levels ts labelled fits (omega arith) (subst (λ ls. Completes f ls ts) (sym (same_Some (behind ∷ levels) inner opens)) complete)
value_completes array_opened f level label behind levels inner ts labelled fits shallow opens complete =
    let room = if_parts (nat_lt (length (behind ∷ levels)) 32) (in_array ∷ behind ∷ levels) inner opens in
    let held : Completes f (in_array ∷ behind ∷ levels) ts = subst (λ ls. Completes f ls ts) (sym room.0) complete in
    let whole : preorder label (array held.0) ++ held.1.0 ≡ token label array_opened ∷ ts = ap (λ us. token label array_opened ∷ us) (append_assoc (items_preorder held.0) (close ∷ []) held.1.0 ∙ sym held.1.1.2) in
    subst (Completes f (level ∷ levels)) whole (one_more (array held.0) f level label behind levels held.1.0 labelled held.1.1.0 (omega (arith, held.1.1.1)) held.1.1.3)
value_completes object_opened f level label behind levels inner ts labelled fits shallow opens complete =
    let room = if_parts (nat_lt (length (behind ∷ levels)) 32) (in_object None ∷ behind ∷ levels) inner opens in
    let held : Completes f (in_object None ∷ behind ∷ levels) ts = subst (λ ls. Completes f ls ts) (sym room.0) complete in
    let whole : preorder label (object held.0) ++ held.1.0 ≡ token label object_opened ∷ ts = ap (λ us. token label object_opened ∷ us) (append_assoc (members_preorder held.0) (close ∷ []) held.1.0 ∙ sym held.1.1.2) in
    subst (Completes f (level ∷ levels)) whole (one_more (object held.0) f level label behind levels held.1.0 labelled held.1.1.0 (omega (arith, held.1.1.1)) held.1.1.3)
value_completes closed f level label behind levels inner ts labelled fits shallow opens complete = absurd fits

-- at most 32 levels are open behind a value
few_levels : (p : Piece Scalar) (levels inner : List Level) → length levels ≤ 32 → opened p levels ≡ Some inner → length inner ≤ 32
few_levels (scalar s) levels inner shallow opens = subst (λ ls. length ls ≤ 32) (same_Some levels inner opens) shallow
few_levels array_opened levels inner shallow opens =
    let room = if_parts (nat_lt (length levels) 32) (in_array ∷ levels) inner opens in subst (λ ls. length ls ≤ 32) room.0 (below (length levels) room.1)
  where
    below : (n : ℕ) → nat_lt n 32 ≡ true → suc n ≤ 32
    below n few = grind (arith, nat_tests)
few_levels object_opened levels inner shallow opens =
    let room = if_parts (nat_lt (length levels) 32) (in_object None ∷ levels) inner opens in subst (λ ls. length ls ≤ 32) room.0 (below (length levels) room.1)
  where
    below : (n : ℕ) → nat_lt n 32 ≡ true → suc n ≤ 32
    below n few = grind (arith, nat_tests)
few_levels closed levels inner shallow opens = cc

-- a token, and then the further ones
abbrev Stepped : Type 0
Stepped = Token Key Scalar × List Level × Columns

step_then : (f : Format) (tag : ℕ) (tags : List ℕ) (level : Level) (levels : List Level) (c : Columns) (s : Stepped) (us : List (Token Key Scalar)) (b : Bool) → (tag == 7) ≡ b → AreColumns c → length (level ∷ levels) ≤ 32
    → (if b then Some (token None closed, levels, c) else (value_at f level tag c >>= λ v. opened v.0.piece (v.1 ∷ levels) >>= λ inner. Some (v.0, inner, v.2))) ≡ Some s
    → Walks f tags → walk f tags s.1 s.2 ≡ Some us → WalkFound f (tag ∷ tags) (level ∷ levels) c (s.0 ∷ us)
step_then f tag tags level levels c s us true is each shallow gives further walked =
    let here = same_Some _ s gives in
    let found : WalkFound f tags levels c us = further levels c us each (omega arith) (subst (λ (q : Stepped). walk f tags q.1 q.2 ≡ Some us) (sym here) walked) in
    let seven : tag ≡ 7 = is_seven tag is in
    subst (λ (q : Stepped). WalkFound f (tag ∷ tags) (level ∷ levels) c (q.0 ∷ us)) here
    (record { tagged = rw seven (ap (λ ns. 7 ∷ ns) found.tagged); spelled = found.spelled; completes = closed_level f level levels us shallow found.completes })
  where
    is_seven : (n : ℕ) → (n == 7) ≡ true → n ≡ 7
    is_seven n e = grind (arith, nat_tests)
step_then f tag tags level levels c s us false is each shallow gives further walked =
    let one = then_parts (value_at f level tag c) _ s gives in
    let value = value_found f level tag c one.0 each one.1 in
    let two = then_parts (opened one.0.0.piece (one.0.1 ∷ levels)) _ s one.2 in
    let here = same_Some _ s two.2 in
    let found : WalkFound f tags two.0 one.0.2 us = further two.0 one.0.2 us value.rest (few_levels one.0.0.piece (one.0.1 ∷ levels) two.0 (omega arith) two.1) (subst (λ (q : Stepped). walk f tags q.1 q.2 ≡ Some us) (sym here) walked) in
    subst (λ (q : Stepped). WalkFound f (tag ∷ tags) (level ∷ levels) c (q.0 ∷ us)) here
    (record {
      tagged = ap (λ n. n ∷ tags) value.tagged ∙ ap (λ ns. piece_tag one.0.0.piece ∷ ns) found.tagged;
      spelled = value.spelled ∙ ap (with_token one.0.0) found.spelled;
      completes = value_completes one.0.0.piece f level one.0.0.label one.0.1 levels two.0 us value.labelled value.fits shallow two.1 found.completes;
    })

pub walk_found : (tags : List ℕ) (f : Format) → Walks f tags
walk_found [] f [] c ts each shallow gives =
    let ended = if_parts (is_used_up c) [] ts gives in
    subst (WalkFound f [] [] c) ended.0 (record { tagged = refl; spelled = used_up c ended.1; completes = refl })
walk_found [] f (level ∷ levels) c ts each shallow gives = cc
walk_found (tag ∷ tags) f [] c ts each shallow gives = cc
walk_found (tag ∷ tags) f (level ∷ levels) c ts each shallow gives =
    let one = then_parts (step f tag (level ∷ levels) c) _ ts gives in
    let two = then_parts (walk f tags one.0.1 one.0.2) _ ts one.2 in
    subst (WalkFound f (tag ∷ tags) (level ∷ levels) c) (same_Some _ ts two.2)
    (step_then f tag tags level levels c one.0 two.0 (tag == 7) refl each shallow one.1 (walk_found tags f) two.1)

-- ---- whole records

-- the tokens of a record, which are those of an object
pub record TokensFound (f : Format) (tags : List ℕ) (c : Columns) (ts : List (Token Key Scalar)) : Type 0 where
  pub members : Members Key Scalar
  pub keyed : AreKeyedMembers f None members
  pub shallow : depth (object members) ≤ 32
  pub tokens : ts ≡ preorder None (object members)
  pub tagged : tags ≡ tags_of ts
  pub spelled : c ≡ with_tokens ts no_columns

root_found : (f : Format) (tag : ℕ) (tags : List ℕ) (c : Columns) (ts : List (Token Key Scalar)) (b : Bool) → (tag == 6) ≡ b → AreColumns c
    → (if b then (walk f tags (in_object None ∷ []) c >>= λ us. Some (token None object_opened ∷ us)) else None) ≡ Some ts → TokensFound f (tag ∷ tags) c ts
root_found f tag tags c ts true is each gives =
    let one = then_parts (walk f tags (in_object None ∷ []) c) _ ts gives in
    let found = walk_found tags f (in_object None ∷ []) c one.0 each (omega arith) one.1 in
    let held = found.completes in
    let last : one.0 ≡ members_preorder held.0 ++ close ∷ [] = held.1.1.2 ∙ ap (λ us. members_preorder held.0 ++ close ∷ us) held.1.1.3 in
    subst (TokensFound f (tag ∷ tags) c) (same_Some _ ts one.2)
    (record {
      members = held.0;
      keyed = held.1.1.0;
      shallow = omega (arith, held.1.1.1);
      tokens = ap (λ us. token None object_opened ∷ us) last;
      tagged = rw (is_six tag is) (ap (λ ns. 6 ∷ ns) found.tagged);
      spelled = found.spelled;
    })
  where
    is_six : (n : ℕ) → (n == 6) ≡ true → n ≡ 6
    is_six n e = grind (arith, nat_tests)
root_found f tag tags c ts false is each gives = cc

pub tokens_found : (tags : List ℕ) (f : Format) (c : Columns) (ts : List (Token Key Scalar)) → AreColumns c → tokens_read f tags c ≡ Some ts → TokensFound f tags c ts
tokens_found [] f c ts each gives = cc
tokens_found (tag ∷ tags) f c ts each gives = root_found f tag tags c ts (tag == 6) refl each gives

pub tokens_again : (ms : Members Key Scalar) (f : Format) → AreKeyedMembers f None ms → depth (object ms) ≤ 32
    → tokens_read f (tags_of (preorder None (object ms))) (with_tokens (preorder None (object ms)) no_columns) ≡ Some (preorder None (object ms))
tokens_again ms f keyed shallow =
    let held = members_preorder ms in
    let within = members_again ms f None [] (7 ∷ []) no_columns keyed (omega arith) in
    let tag_list : tags_of (held ++ close ∷ []) ≡ tags_of held ++ 7 ∷ [] = map-append (λ (t : Token Key Scalar). piece_tag t.piece) held (close ∷ []) in
    rw (tag_list, with_tokens-append held (close ∷ []) no_columns, within.1) refl
