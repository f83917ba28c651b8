-- Steps of the walk to where hops lead.
use Rattle.std.proofs.Common.{◌≡◌, ◌∙◌, ◌==◌, ℕ, Bool, if◌then◌else◌, List, [], ◌∷◌, ◌++◌, None, true, false, refl, sym, ap, subst, append-nil, arith}
use Rattle.std.proofs.lemmas.Bool.Decides.{nat_tests}
use Rattle.tc_model.specs.Document.{Scalar}
use Rattle.tc_model.specs.Tree.{leaf, array, object, Members, no_members, member}
use Rattle.tc_record.specs.Preorder.{object_opened, closed, Token, token, tokens_of, members_preorder}
use Rattle.tc_record.specs.Record.{NumberedTree}
use Rattle.tc_path.specs.Leads.{kinds_in, members_kinds, spot, lead_from, lead_among}
use Rattle.tc_path.specs.declared.leading.Lead.{Lead}
use Rattle.tc_path.specs.declared.leading.Lead.TheVariants.{Nowhere, To}
use Rattle.tc_path.specs.Trails.{TrailState, IsTrailOf, IsTaken}
use Rattle.tc_path.proofs.TrailSteps.{IsBehindTag, IsBehindNumber, taken, close_taken, member_taken, scalar_low, own_tag, held, MembersLeft, TellsBehind}

-- ---- from a whole record

-- it has a tag
pub tree_some : {A : Type 0} (n : NumberedTree) (trail : TrailState) → IsTrailOf (tokens_of n) trail → trail.tags ≡ [] → A
tree_some (leaf s) trail is none = let all = sym none ∙ is.tags_are in cc
tree_some (array xs) trail is none = let all = sym none ∙ is.tags_are in cc
tree_some (object ms) trail is none = let all = sym none ∙ is.tags_are in cc

pub tree_taken : (n : NumberedTree) (old : TrailState) (tag : ℕ) (new : TrailState) → IsTrailOf (tokens_of n) old → IsBehindTag old tag new → IsTaken tag (tokens_of n ++ []) new
tree_taken n old tag new is step = subst (λ ts. IsTaken tag ts new) (sym (append-nil (tokens_of n))) (taken (tokens_of n) old tag new is step)

-- ---- from a value

-- no hop leads to the value itself
pub lead_here : (n : NumberedTree) (more : List (Token ℕ Scalar)) (tag : ℕ) (trail : TrailState) → IsTaken tag (tokens_of n ++ more) trail → To (spot tag trail.texts trail.fixed) ≡ lead_from [] (kinds_in n) trail.texts trail.fixed
lead_here n more tag trail is = ap (λ own. To (spot own trail.texts trail.fixed)) (own_tag n more tag trail is)

module _ (hop : ℕ) (rest : List ℕ) (more : List (Token ℕ Scalar)) (tag : ℕ) (trail : TrailState) where
  -- a hop leads into an object
  pub lead_within : (lead : Lead) → tag ≡ 6 → ((ms : Members ℕ Scalar) (more : List (Token ℕ Scalar)) → IsTrailOf (members_preorder ms ++ token None closed ∷ more) trail → lead ≡ lead_among hop rest (members_kinds ms) trail.texts trail.fixed)
      → (n : NumberedTree) → IsTaken tag (tokens_of n ++ more) trail → lead ≡ lead_from (hop ∷ rest) (kinds_in n) trail.texts trail.fixed
  lead_within lead opens told (leaf s) is = absurd (let low = scalar_low s in let own = own_tag (leaf s) more tag trail is in omega (arith, low, own, opens))
  lead_within lead opens told (array xs) is = absurd (let own = own_tag (array xs) more tag trail is in omega (arith, own, opens))
  lead_within lead opens told (object ms) is = told ms more (held object_opened (members_preorder ms) more tag trail is)

  -- and from nothing else
  pub lead_nowhere : (tag ≡ 6 → ⊥) → (n : NumberedTree) → IsTaken tag (tokens_of n ++ more) trail → Nowhere ≡ lead_from (hop ∷ rest) (kinds_in n) trail.texts trail.fixed
  lead_nowhere other (leaf s) is = refl
  lead_nowhere other (array xs) is = refl
  lead_nowhere other (object ms) is = absurd (other (own_tag (object ms) more tag trail is))

-- ---- among members

-- where hops lead among members
abbrev pub members_lead : ℕ → List ℕ → Members ℕ Scalar → ℕ → ℕ → Lead
members_lead hop rest ms x f = lead_among hop rest (members_kinds ms) x f

-- a close is left behind them
pub members_some : {A : Type 0} (ts more : List (Token ℕ Scalar)) (trail : TrailState) → IsTrailOf (ts ++ token None closed ∷ more) trail → trail.tags ≡ [] → A
members_some [] more trail is none = let all = sym none ∙ is.tags_are in cc
members_some (t ∷ ts) more trail is none = let all = sym none ∙ is.tags_are in cc

-- behind a member of another number
pub lead_behind : (hop : ℕ) (rest : List ℕ) (k : ℕ) → (k ≡ hop → ⊥) → TellsBehind (members_lead hop rest) k
lead_behind hop rest k other n ms x f = passes _ _ (k == hop) (grind (arith, nat_tests))
  where
    passes : (here there : Lead) (b : Bool) → b ≡ false → (if b then here else there) ≡ there
    passes here there b is = rw is refl

-- and from the first member of a number
pub lead_at : (hop : ℕ) (rest : List ℕ) (n : NumberedTree) (ms : Members ℕ Scalar) (x f : ℕ) → members_lead hop rest (member hop n ms) x f ≡ lead_from rest (kinds_in n) x f
lead_at hop rest n ms x f = stops _ _ (hop == hop) (grind (arith, nat_tests))
  where
    stops : (here there : Lead) (b : Bool) → b ≡ true → (if b then here else there) ≡ here
    stops here there b is = rw is refl

pub lead_found : (hop : ℕ) (rest : List ℕ) (ms : Members ℕ Scalar) (more : List (Token ℕ Scalar)) (old now : TrailState) (tag : ℕ) (between : TrailState) → IsBehindTag now tag between → (number : ℕ) (new : TrailState) → IsBehindNumber between number new
    → (tag ≡ 7 → ⊥) → number ≡ hop → (lead : Lead) → ((n : NumberedTree) (more : List (Token ℕ Scalar)) → IsTaken tag (tokens_of n ++ more) new → lead ≡ lead_from rest (kinds_in n) new.texts new.fixed)
    → (ns : Members ℕ Scalar) → MembersLeft (members_lead hop rest) ns ms more old now → lead ≡ members_lead hop rest ms old.texts old.fixed
lead_found hop rest ms more old now tag between step number new next further found lead told no_members is = absurd (further (close_taken more tag between (taken _ now tag between is.left step)).0)
lead_found hop rest ms more old now tag between step number new next further found lead told (member k n ns) is =
    let here = member_taken k n ns (token None closed ∷ more) tag between number new (taken _ now tag between is.left step) next in
    let texts : new.texts ≡ now.texts = next.texts ∙ step.texts in
    let fixed : new.fixed ≡ now.fixed = next.fixed ∙ step.fixed in
    let from : lead ≡ lead_from rest (kinds_in n) now.texts now.fixed = rw (← texts, ← fixed) (told n (members_preorder ns ++ token None closed ∷ more) here.1) in
    from ∙ sym (lead_at hop rest n ns now.texts now.fixed) ∙ ap (λ j. members_lead hop rest (member j n ns) now.texts now.fixed) (sym (here.0 ∙ found)) ∙ is.same
