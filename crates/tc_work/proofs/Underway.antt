-- A window of which some commands were run: what is done, before what is left, is the whole.
use Rattle.std.proofs.Common.{◌≡◌, ◌∙◌, ℕ, List, [], ◌∷◌, ◌++◌, map, refl, sym, ap, subst, append_assoc, append-nil}
use Rattle.std.proofs.lemmas.List.{map-append}
use Rattle.tc_model.specs.Keyed.{Keyed, values_in, on_value}
use Rattle.tc_request_model.specs.Request.{Request}
use Rattle.tc_request_model.specs.Rendered.{Rendered, rendered}
use Rattle.tc_plain_model.specs.Room.{Limits}
use Rattle.tc_request_model.specs.Part.{part_left, part_left_all, part_reply, part_writes, part_writes_all}
use Rattle.tc_plain_model.specs.Store.{Store}
use Rattle.tc_plain_model.specs.Writes.{Write}
use Rattle.tc_part_model.specs.Meaning.{IsPart, plain_of}
use Rattle.tc_part_model.specs.PartState.{Told}
use Rattle.tc_part_model.specs.PartView.{PartView}
use Rattle.tc_route.specs.Answers.{answered}
use Rattle.tc_work.specs.Windowed.{staged_as, IsStagedAs}

-- The writes that were staged and the replies that were made, before those of the requests that are left, are those of all.
pub record IsUnderway (limits : Limits) (all : Keyed Request) (first : Store) (p : PartView) (are_told : Type 0) (left : Keyed Request) (made : Keyed Rendered) (t : Told) : Type 0 where
  pub writes : List Write
  pub now : Store
  pub staged : IsStagedAs writes now p t
  pub all_writes : part_writes_all limits (values_in all) first ≡ writes ++ part_writes_all limits (values_in left) now
  pub all_left : part_left_all limits (values_in all) first ≡ part_left_all limits (values_in left) now
  pub all_replies : are_told → map (on_value rendered) (answered limits all first) ≡ made ++ map (on_value rendered) (answered limits left now)

pub begins : (limits : Limits) (all : Keyed Request) (p : PartView) (are_told : Type 0) (t : Told) → IsPart t p → IsUnderway limits all (plain_of t p) p are_told all [] t
begins limits all p are_told t is = record {
  writes = [];
  now = plain_of t p;
  staged = record { part = subst (IsPart t) none is; plain = ap (plain_of t) (sym none) };
  all_writes = refl;
  all_left = refl;
  all_replies = λ told. refl;
}
  where
    none : p ≡ staged_as [] p
    none = ap (λ (ws : List Write). record p { staged = ws }) (sym (append-nil p.staged))

-- writes that are staged behind others
staged_more : (ws more : List Write) (s : Store) (p : PartView) (t : Told) → IsStagedAs more s (staged_as ws p) t → IsStagedAs (ws ++ more) s p t
staged_more ws more s p t is =
    let same : staged_as more (staged_as ws p) ≡ staged_as (ws ++ more) p = ap (λ (all : List Write). record p { staged = all }) (append_assoc p.staged ws more) in
    record { part = subst (IsPart t) same is.part; plain = subst (λ (q : PartView). plain_of t q ≡ s) same is.plain }

-- one more command was run
pub goes_on : (limits other : Limits) (all : Keyed Request) (first : Store) (p : PartView) (are_told : Type 0) (r : ℕ × Request) (left : Keyed Request) (made : Keyed Rendered) (a : ℕ × Rendered) (t u : Told) (is : IsUnderway limits all first p are_told (r ∷ left) made t)
    → other ≡ limits → a.0 ≡ r.0
    → IsStagedAs (part_writes other r.1 (plain_of t (staged_as is.writes p))) (part_left other r.1 (plain_of t (staged_as is.writes p))) (staged_as is.writes p) u
    → (are_told → a.1 ≡ rendered (part_reply other r.1 (plain_of t (staged_as is.writes p))))
    → IsUnderway limits all first p are_told left (made ++ a ∷ []) u
goes_on limits other all first p are_told r left made a t u is same at staged_there reply_there =
    let seen = is.staged.plain in
    let q = staged_as is.writes p in
    let staged = subst (λ (x : Limits). IsStagedAs (part_writes x r.1 (plain_of t q)) (part_left x r.1 (plain_of t q)) q u) same staged_there in
    let reply : are_told → a.1 ≡ rendered (part_reply limits r.1 (plain_of t q)) = λ told. reply_there told ∙ ap (λ (x : Limits). rendered (part_reply x r.1 (plain_of t q))) same in
    record {
      writes = is.writes ++ part_writes limits r.1 is.now;
      now = part_left limits r.1 is.now;
      staged = subst (λ (s : Store). IsStagedAs (is.writes ++ part_writes limits r.1 s) (part_left limits r.1 s) p u) seen (staged_more is.writes (part_writes limits r.1 (plain_of t (staged_as is.writes p))) (part_left limits r.1 (plain_of t (staged_as is.writes p))) p u staged);
      all_writes = is.all_writes ∙ sym (append_assoc is.writes (part_writes limits r.1 is.now) (part_writes_all limits (values_in left) (part_left limits r.1 is.now)));
      all_left = is.all_left;
      all_replies = λ told. is.all_replies told ∙ ap (λ b. made ++ b ∷ map (on_value rendered) (answered limits left (part_left limits r.1 is.now)))
          (sym (placed a r (rendered (part_reply limits r.1 is.now)) at (reply told ∙ ap (λ s. rendered (part_reply limits r.1 s)) seen)))
          ∙ sym (append_assoc made (a ∷ []) (map (on_value rendered) (answered limits left (part_left limits r.1 is.now))));
    }
  where
    placed : (a : ℕ × Rendered) (r : ℕ × Request) (b : Rendered) → a.0 ≡ r.0 → a.1 ≡ b → a ≡ (r.0, b)
    placed a r b at same = ap (λ n. (n, a.1)) at ∙ ap (λ x. (r.0, x)) same

-- all commands were run
pub ends_staged : (limits : Limits) (all : Keyed Request) (first : Store) (p : PartView) (are_told : Type 0) (made : Keyed Rendered) (t : Told) → IsUnderway limits all first p are_told [] made t
    → IsStagedAs (part_writes_all limits (values_in all) first) (part_left_all limits (values_in all) first) p t
ends_staged limits all first p are_told made t is =
    let ws : is.writes ≡ part_writes_all limits (values_in all) first = sym (is.all_writes ∙ append-nil is.writes) in
    let s : is.now ≡ part_left_all limits (values_in all) first = sym is.all_left in
    subst (λ (w : List Write). IsStagedAs w (part_left_all limits (values_in all) first) p t) ws (subst (λ (x : Store). IsStagedAs is.writes x p t) s is.staged)

pub ends_replied : (limits : Limits) (all : Keyed Request) (first : Store) (p : PartView) (are_told : Type 0) (made : Keyed Rendered) (t : Told) → IsUnderway limits all first p are_told [] made t → are_told → made ≡ map (on_value rendered) (answered limits all first)
ends_replied limits all first p are_told made t is told = sym (is.all_replies told ∙ append-nil made)

-- the places of what is made, before those of what is left, are the places of all
pub place_moves : {X Y : Type 0} (f : X → ℕ) (h : Y → ℕ) (xs : List X) (x : X) (y : Y) (ys : List Y) (all : List ℕ) → f x ≡ h y → map f xs ++ map h (y ∷ ys) ≡ all → map f (xs ++ x ∷ []) ++ map h ys ≡ all
place_moves f h xs x y ys all same is =
    ap (λ (ns : List ℕ). ns ++ map h ys) (map-append f xs (x ∷ [])) ∙ append_assoc (map f xs) (f x ∷ []) (map h ys) ∙ ap (λ n. map f xs ++ n ∷ map h ys) same ∙ is
