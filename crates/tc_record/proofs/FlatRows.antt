-- Rows that are taken as a whole: what a walk over a record that was judged is behind their tokens.
use Rattle.std.proofs.Common.{◌≡◌, ◌∙◌, ◌<◌, ◌+◌, ℕ, true, List, [], ◌∷◌, ◌++◌, Option, None, Some, option_map, is_some, unwrap_or, length, map, drop, get_or, refl, sym, ap, arith}
use Rattle.std.proofs.lemmas.List.{append_assoc, map-append, length-append, drop_more}
use Rattle.tc_bytes.specs.Reading.{◌>>=◌}
use Rattle.tc_model.specs.Document.{Scalar}
use Rattle.tc_record.specs.Preorder.{Piece, scalar, object_opened, closed, Token, token}
use Rattle.tc_record.specs.FlatRows.{members_of, IsRowBefore}
use Rattle.tc_record.specs.Walk.{Key, Level, Format, Columns, known_step, known_walk}

abbrev Tokens : Type 0
Tokens = List (Token Key Scalar)

-- where a tag stands, it is the first of those from there on
pub next_tag : (i tag : ℕ) (tags : List ℕ) → get_or tags i 0 ≡ tag → i < length tags → drop i tags ≡ tag ∷ drop (i + 1) tags
next_tag i tag tags is within = drop_more tags i 0 within ∙ ap (λ t. t ∷ drop (i + 1) tags) is

-- a token that stands next is the first of those that are left
walk_on : (f : Format) (tag : ℕ) (tags : List ℕ) (levels inner : List Level) (c after : Columns) (t : Token Key Scalar) → known_step f tag levels c ≡ Some (t, inner, after)
    → known_walk f (tag ∷ tags) levels c ≡ option_map (λ ts. t ∷ ts) (known_walk f tags inner after)
walk_on f tag tags levels inner c after t steps = rw steps (by_walk (known_walk f tags inner after))
  where
    by_walk : (o : Option Tokens) → (o >>= λ ts. Some (t ∷ ts)) ≡ option_map (λ ts. t ∷ ts) o
    by_walk None = refl
    by_walk (Some ts) = refl

-- one more member at the end
members_more : (ks : List Key) (vs : List Scalar) (k : Key) (v : Scalar) (ts : Tokens) → length ks ≡ length vs → members_of (ks ++ k ∷ []) (vs ++ v ∷ []) ++ ts ≡ members_of ks vs ++ token (Some k) (scalar v) ∷ ts
members_more [] [] k v ts same = refl
members_more [] (w ∷ vs) k v ts same = cc
members_more (l ∷ ks) [] k v ts same = cc
members_more (l ∷ ks) (w ∷ vs) k v ts same = ap (λ us. token (Some l) (scalar w) ∷ us) (members_more ks vs k v ts (omega (arith, same)))

-- the tokens behind the opening of an object and so many of its members
abbrev begun : List Key → List Scalar → Tokens → Tokens
begun ks vs ts = token None object_opened ∷ (members_of ks vs ++ ts)

-- an object was opened, and scalars that these pieces are were taken from it, with what is left behind them
pub record HasBegun (pieces : List (Piece Scalar)) (behind tokens : Option Tokens) : Type 0 where
  pub keys : List Key
  pub values : List Scalar
  pub as_many : length keys ≡ length values
  pub pieces_are : pieces ≡ map scalar values
  pub tokens_are : tokens ≡ option_map (begun keys values) behind

pub row_begins : (f : Format) (tag : ℕ) (left tags : List ℕ) (levels inner : List Level) (c after : Columns) → left ≡ tag ∷ tags → known_step f tag levels c ≡ Some (token None object_opened, inner, after)
    → HasBegun [] (known_walk f tags inner after) (known_walk f left levels c)
row_begins f tag left tags levels inner c after next steps = record {
  keys = [];
  values = [];
  as_many = refl;
  pieces_are = refl;
  tokens_are = ap (λ ts. known_walk f ts levels c) next ∙ walk_on f tag tags levels inner c after (token None object_opened) steps;
}

pub row_goes_on : (f : Format) (tag : ℕ) (left tags : List ℕ) (levels inner : List Level) (c after : Columns) (k : Key) (v : Scalar) (pieces : List (Piece Scalar)) (tokens : Option Tokens) → HasBegun pieces (known_walk f left levels c) tokens
    → left ≡ tag ∷ tags → known_step f tag levels c ≡ Some (token (Some k) (scalar v), inner, after) → HasBegun (pieces ++ scalar v ∷ []) (known_walk f tags inner after) tokens
row_goes_on f tag left tags levels inner c after k v pieces tokens on next steps = record {
  keys = on.keys ++ k ∷ [];
  values = on.values ++ v ∷ [];
  as_many = omega (arith, on.as_many, length-append on.keys (k ∷ []), length-append on.values (v ∷ []));
  pieces_are = ap (λ ps. ps ++ scalar v ∷ []) on.pieces_are ∙ sym (map-append scalar on.values (v ∷ []));
  tokens_are = on.tokens_are ∙ ap (λ ts. option_map (begun on.keys on.values) (known_walk f ts levels c)) next
      ∙ ap (option_map (begun on.keys on.values)) (walk_on f tag tags levels inner c after (token (Some k) (scalar v)) steps) ∙ by_walk (known_walk f tags inner after);
}
  where
    by_walk : (o : Option Tokens) → option_map (begun on.keys on.values) (option_map (λ ts. token (Some k) (scalar v) ∷ ts) o) ≡ option_map (begun (on.keys ++ k ∷ []) (on.values ++ v ∷ [])) o
    by_walk None = refl
    by_walk (Some ts) = ap (λ us. Some (token None object_opened ∷ us)) (sym (members_more on.keys on.values k v ts on.as_many))

pub row_ends : (f : Format) (tag : ℕ) (left tags : List ℕ) (levels inner : List Level) (c after : Columns) (pieces : List (Piece Scalar)) (tokens : Option Tokens) → HasBegun pieces (known_walk f left levels c) tokens
    → left ≡ tag ∷ tags → known_step f tag levels c ≡ Some (token None closed, inner, after) → is_some tokens ≡ true
    → IsRowBefore (unwrap_or (known_walk f tags inner after) []) pieces (unwrap_or tokens []) × (is_some (known_walk f tags inner after) ≡ true)
row_ends f tag left tags levels inner c after pieces tokens on next steps some =
    let whole : tokens ≡ option_map (begun on.keys on.values) (option_map (λ ts. token None closed ∷ ts) (known_walk f tags inner after)) =
    on.tokens_are ∙ ap (λ ts. option_map (begun on.keys on.values) (known_walk f ts levels c)) next
    ∙ ap (option_map (begun on.keys on.values)) (walk_on f tag tags levels inner c after (token None closed) steps) in
    by_walk (known_walk f tags inner after) tokens whole some
  where
    by_walk : (o all : Option Tokens) → all ≡ option_map (begun on.keys on.values) (option_map (λ ts. token None closed ∷ ts) o) → is_some all ≡ true
        → IsRowBefore (unwrap_or o []) pieces (unwrap_or all []) × (is_some o ≡ true)
    by_walk None all is some = cc
    by_walk (Some ts) all is some = (
      record {
        keys = on.keys;
        values = on.values;
        as_many = on.as_many;
        pieces_are = on.pieces_are;
        tokens_are = rw is (ap (λ us. token None object_opened ∷ us) (sym (append_assoc (members_of on.keys on.values) (token None closed ∷ []) ts)));
      },
      refl,
    )
