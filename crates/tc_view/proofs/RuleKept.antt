-- Each step on the view keeps the rule.
use Rattle.std.proofs.Common.{◌≡◌, ℕ, zero, suc, ◌≢◌, List, [], ◌∷◌, set, Option, Some, None, Result, Ok, Err, IfOk, refl, ap, sym, ◌∙◌, subst, ⊎_elim}
use mathlib.Core.Option.{some, some-ne-none, some-injective}
use lib.ListN.{get_elem?}
use Rattle.left_right.specs.Register.{Admits, Turns, TurnsAt, Forks, Merges}
use Rattle.atomic_table.proofs.Lists.{at_set, at_snoc, set_again}
use Rattle.tc_view.specs.declared.content.Content.{Content}
use Rattle.tc_view.specs.declared.rule.Key.{Key}
use Rattle.tc_view.specs.Rules.{IsViewOf, Agreed, Opened, Stayed}

same_key : (j k : Key) → Some j ≡ Some k → j ≡ k
same_key j k e = cc e

no_key : (k : Key) → None ≡ Some k → ⊥
no_key k e = cc e

module _ {F W T : Type 0} (f : T → Content F W) where
  abbrev pub Holds : T → List (Option Key) → Type 0
  Holds x views = Agreed (f x) views

  pub admits : Admits Holds None
  admits x views h = record {
    key = h.key;
    is = h.is;
    agree = λ seat k at. ⊎_elim (h.agree seat k) (λ (e : None ≡ Some k). absurd (no_key k e)) (at_snoc views None (Some k) seat at);
  }

  set_agree : (views : List (Option Key)) (key : Key) → ((seat : ℕ) (k : Key) → get_elem? views seat ≡ some (Some k) → k ≡ key)
      → (at : ℕ) (v : Option Key) → ((k : Key) → v ≡ Some k → k ≡ key)
      → (seat : ℕ) (k : Key) → get_elem? (set views at v) seat ≡ some (Some k) → k ≡ key
  set_agree views key agree at v same seat k e = ⊎_elim (λ (t : (seat ≡ at) × (v ≡ Some k)). same k t.1) (λ (t : (seat ≢ at) × (get_elem? views seat ≡ some (Some k))). agree seat k t.1) (at_set views at seat v (Some k) e)

  -- a publication of something of the key's view
  pub stays : (seat : ℕ) (v : Option Key) (k : Key) (x y : T) → v ≡ Some k → IsViewOf k (f y) → TurnsAt Holds seat v x y (λ v x y w. Stayed v (f y) w)
  stays seat v k x y same is views h at = let e : k ≡ h.key = h.agree seat k (at ∙ ap some same) in (
    v,
    record {
      key = h.key;
      is = subst (λ (j : Key). IsViewOf j (f y)) e is;
      agree = set_agree views h.key h.agree seat v (λ j s. sym (same_key k j (sym same ∙ s)) ∙ e);
    },
    (refl, λ j s. subst (λ (z : Key). IsViewOf z (f y)) (same_key k j (sym same ∙ s)) is),
  )

  -- an entry
  pub looks : (seat : ℕ) (v : Option Key) → Turns Holds seat v (λ x. x) (λ v x y w. Stayed v (f y) w)
  looks seat v x views h at = (
    v,
    subst (λ (l : List (Option Key)). Agreed (f x) l) (sym (set_again views seat v at)) h,
    (refl, λ k e. subst (λ (z : Key). IsViewOf z (f x)) (sym (h.agree seat k (at ∙ ap some e))) h.is),
  )

  -- the first publication, which changes nothing
  pub opens : (seat : ℕ) (v : Option Key) (x y : T) → f y ≡ f x → TurnsAt Holds seat v x y (λ v x y w. Opened (f y) w)
  opens seat v x y same views h at = let is : IsViewOf h.key (f y) = subst (λ (c : Content F W). IsViewOf h.key c) (sym same) h.is in (
    Some h.key,
    record { key = h.key; is = is; agree = set_agree views h.key h.agree seat (Some h.key) (λ j s. sym (same_key h.key j s)) },
    (h.key, refl, is),
  )

  pub forks : (seat : ℕ) (v : Option Key) → Forks Holds seat v v v
  forks seat v x views h at = record {
    key = h.key;
    is = h.is;
    agree = λ j k e. ⊎_elim (set_agree views h.key h.agree seat v (λ u s. h.agree seat u (at ∙ ap some s)) j k) (λ (s : v ≡ Some k). h.agree seat k (at ∙ ap some s)) (at_snoc (set views seat v) v (Some k) j e);
  }

  pub merges : (seat : ℕ) (v : Option Key) (other : ℕ) (w : Option Key) → Merges Holds seat v other w w None
  merges seat v other w x views h at apart there =
      let noted : get_elem? views other ≡ some w = ⊎_elim (λ (t : (other ≡ seat) × (w ≡ w)). absurd (apart t.0)) (λ (t : (other ≢ seat) × (get_elem? views other ≡ some w)). t.1) (at_set views seat other w w there) in
      record {
        key = h.key;
        is = h.is;
        agree = set_agree (set views seat w) h.key (set_agree views h.key h.agree seat w (λ u s. h.agree other u (noted ∙ ap some s))) other None (λ u s. absurd (no_key u s));
      }

pub if_ok : {A E : Type 0} {P Q : A → Type 0} → (r : Result A E) → IfOk r P → ((x : A) → P x → Q x) → IfOk r Q
if_ok (Ok x) h f = f x h
if_ok (Err e) h f = h

-- the rule of a view that nobody was told of
pub agreed_first : {F W : Type 0} (key : Key) (c : Content F W) → IsViewOf key c → Agreed c (None ∷ [])
agreed_first key c is = record { key = key; is = is; agree = go }
  where
    go : (seat : ℕ) (k : Key) → get_elem? (None ∷ []) seat ≡ some (Some k) → k ≡ key
    go zero k e = absurd (no_key k (some-injective None (Some k) e))
    go (suc j) k e = absurd (some-ne-none (Some k) (sym e))
