-- What a step of a walk leaves, and what a walk is by its first step.
use Rattle.std.proofs.Common.{◌≡◌, ◌≢◌, ◌∙◌, ◌<◌, ◌≤◌, ◌+◌, ◌==◌, ℕ, Bool, true, false, if◌then◌else◌, List, [], ◌∷◌, Option, None, Some, option_map, is_some, length, get_or, drop, refl, sym, ap, subst, arith}
use Rattle.std.proofs.lemmas.Bool.Decides.{nat_tests}
use Rattle.std.proofs.lemmas.List.{drop_all, drop_more}
use Rattle.std.proofs.lemmas.Option.{same_Some}
use Rattle.tc_bytes.specs.Reading.{◌>>=◌}
use Rattle.tc_model.specs.Document.{Scalar}
use Rattle.tc_record.specs.Preorder.{Piece, Token, token}
use Rattle.tc_record.specs.Walk as walk
use Rattle.tc_record.specs.Moves.{behind_label, label_moves, behind_token, token_moves}
use Rattle.tc_record.proofs.Stacks.{not_close}

-- ---- a walk by its first step

abbrev pub Stepped : Type 0
Stepped = Token walk.Key Scalar × List walk.Level × walk.Columns

abbrev and_further : walk.Format → List ℕ → Stepped → Option (List (Token walk.Key Scalar))
and_further f tags q = walk.walk f tags q.1 q.2 >>= λ ts. Some (q.0 ∷ ts)

pub walk_on : (f : walk.Format) (tag : ℕ) (tags : List ℕ) (levels behind : List walk.Level) (c rest : walk.Columns) → token_moves f tag levels c ≡ Some (behind, rest)
    → is_some (walk.walk f tags behind rest) ≡ is_some (walk.walk f (tag ∷ tags) levels c)
walk_on f tag tags levels behind c rest gives = by_step (walk.step f tag levels c) gives
  where
    kept : (ts : Option (List (Token walk.Key Scalar))) (t : Token walk.Key Scalar) → is_some ts ≡ is_some (ts >>= λ us. Some (t ∷ us))
    kept None t = refl
    kept (Some us) t = refl

    by_step : (s : Option Stepped) → option_map behind_token s ≡ Some (behind, rest) → is_some (walk.walk f tags behind rest) ≡ is_some (s >>= and_further f tags)
    by_step None e = cc
    by_step (Some q) e =
        let P : List walk.Level × walk.Columns → Type 0 = λ x. is_some (walk.walk f tags x.0 x.1) ≡ is_some (and_further f tags q) in
        subst P (same_Some (behind_token q) (behind, rest) e) (kept (walk.walk f tags q.1 q.2) q.0)

pub walk_ends : (f : walk.Format) (tag : ℕ) (tags : List ℕ) (levels : List walk.Level) (c : walk.Columns) → token_moves f tag levels c ≡ None → false ≡ is_some (walk.walk f (tag ∷ tags) levels c)
walk_ends f tag tags levels c gives = by_step (walk.step f tag levels c) gives
  where
    by_step : (s : Option Stepped) → option_map behind_token s ≡ None → false ≡ is_some (s >>= and_further f tags)
    by_step None e = refl
    by_step (Some q) e = cc

-- ---- a walk over tags from one of them on, of which is told whether it comes to its end

at_drop : (tags : List ℕ) (i : ℕ) (F : List ℕ → Bool) → i < length tags → F (get_or tags i 0 ∷ drop (i + 1) tags) ≡ F (drop i tags)
at_drop tags i F within = ap F (sym (drop_more tags i 0 within))

pub walk_goes_on : (f : walk.Format) (tags : List ℕ) (i : ℕ) (levels behind : List walk.Level) (c rest : walk.Columns) (told : Bool) → i < length tags → is_some (walk.walk f (drop i tags) levels c) ≡ told
    → token_moves f (get_or tags i 0) levels c ≡ Some (behind, rest) → is_some (walk.walk f (drop (i + 1) tags) behind rest) ≡ told
walk_goes_on f tags i levels behind c rest told within tells gives =
    walk_on f (get_or tags i 0) (drop (i + 1) tags) levels behind c rest gives ∙ at_drop tags i (λ ts. is_some (walk.walk f ts levels c)) within ∙ tells

pub walk_stops : (f : walk.Format) (tags : List ℕ) (i : ℕ) (levels : List walk.Level) (c : walk.Columns) (told : Bool) → i < length tags → is_some (walk.walk f (drop i tags) levels c) ≡ told
    → token_moves f (get_or tags i 0) levels c ≡ None → false ≡ told
walk_stops f tags i levels c told within tells gives =
    walk_ends f (get_or tags i 0) (drop (i + 1) tags) levels c gives ∙ at_drop tags i (λ ts. is_some (walk.walk f ts levels c)) within ∙ tells

-- behind the last tag nothing is open
pub walk_left_open : (f : walk.Format) (tags : List ℕ) (i n : ℕ) (levels : List walk.Level) (c : walk.Columns) (told : Bool) → length tags ≤ i → is_some (walk.walk f (drop i tags) levels c) ≡ told → length levels ≡ n
    → n ≢ 0 → (n == 0) ≡ told
walk_left_open f tags i n [] c told all tells many some = absurd (omega (arith, many, some))
walk_left_open f tags i n (level ∷ levels) c told all tells many some =
    let none : is_some (walk.walk f (drop i tags) (level ∷ levels) c) ≡ false = rw (drop_all i tags all) refl in
    unequal n some ∙ sym none ∙ tells
  where
    unequal : (n : ℕ) → n ≢ 0 → (n == 0) ≡ false
    unequal n some = grind (arith, nat_tests)

-- ---- a value by its parts: its label, with the level and the columns behind it, and then its piece

abbrev pub Labelled : Type 0
Labelled = Option walk.Key × walk.Level × walk.Columns

abbrev pub Valued : Type 0
Valued = Token walk.Key Scalar × walk.Level × walk.Columns

abbrev pub with_piece : Labelled → Piece Scalar × walk.Columns → Option Valued
with_piece x p = Some (token x.0 p.0, x.1, p.1)

abbrev pub valued : walk.Format → ℕ → Labelled → Option Valued
valued f tag x = walk.piece_at tag x.2 >>= with_piece x

no_label : (f : walk.Format) (level : walk.Level) (tag : ℕ) (c : walk.Columns) → label_moves f level c ≡ None → walk.value_at f level tag c ≡ None
no_label f level tag c gives = by_label (walk.label_at f level c) gives
  where
    by_label : (l : Option Labelled) → option_map behind_label l ≡ None → (l >>= valued f tag) ≡ None
    by_label None e = refl
    by_label (Some x) e = cc

no_piece : (f : walk.Format) (level behind : walk.Level) (tag : ℕ) (c rest : walk.Columns) → label_moves f level c ≡ Some (behind, rest) → walk.piece_at tag rest ≡ None → walk.value_at f level tag c ≡ None
no_piece f level behind tag c rest gives none = by_label (walk.label_at f level c) gives
  where
    stuck : (x : Labelled) → behind_label x ≡ (behind, rest) → valued f tag x ≡ None
    stuck x e = let columns : x.2 ≡ rest = ap (λ (q : walk.Level × walk.Columns). q.1) e in rw (columns, none) refl

    by_label : (l : Option Labelled) → option_map behind_label l ≡ Some (behind, rest) → (l >>= valued f tag) ≡ None
    by_label None e = refl
    by_label (Some x) e = stuck x (same_Some (behind_label x) (behind, rest) e)

a_value : (f : walk.Format) (level behind : walk.Level) (tag : ℕ) (c rest after : walk.Columns) (p : Piece Scalar) → label_moves f level c ≡ Some (behind, rest) → walk.piece_at tag rest ≡ Some (p, after)
    → (l : Option walk.Key) × (walk.value_at f level tag c ≡ Some (token l p, behind, after))
a_value f level behind tag c rest after p gives read = by_label (walk.label_at f level c) gives
  where
    there : (x : Labelled) → behind_label x ≡ (behind, rest) → valued f tag x ≡ Some (token x.0 p, behind, after)
    there x e =
        let columns : x.2 ≡ rest = ap (λ (q : walk.Level × walk.Columns). q.1) e in
        let level_is : x.1 ≡ behind = ap (λ (q : walk.Level × walk.Columns). q.0) e in
        rw (columns, read, level_is) refl

    by_label : (l : Option Labelled) → option_map behind_label l ≡ Some (behind, rest) → (k : Option walk.Key) × ((l >>= valued f tag) ≡ Some (token k p, behind, after))
    by_label None e = cc
    by_label (Some x) e = (x.0, there x (same_Some (behind_label x) (behind, rest) e))

-- ---- a step, by what stands in the innermost level

pub closed_on : (f : walk.Format) (tag : ℕ) (level : walk.Level) (levels : List walk.Level) (c : walk.Columns) → tag ≡ 7 → token_moves f tag (level ∷ levels) c ≡ Some (levels, c)
closed_on f tag level levels c is = rw is refl

pub stuck_label : (f : walk.Format) (tag : ℕ) (level : walk.Level) (levels : List walk.Level) (c : walk.Columns) → tag ≢ 7 → label_moves f level c ≡ None → token_moves f tag (level ∷ levels) c ≡ None
stuck_label f tag level levels c goes none = rw (not_close tag goes, no_label f level tag c none) refl

pub stuck_piece : (f : walk.Format) (tag : ℕ) (level behind : walk.Level) (levels : List walk.Level) (c rest : walk.Columns) → tag ≢ 7
    → label_moves f level c ≡ Some (behind, rest) → walk.piece_at tag rest ≡ None → token_moves f tag (level ∷ levels) c ≡ None
stuck_piece f tag level behind levels c rest goes labelled none = rw (not_close tag goes, no_piece f level behind tag c rest labelled none) refl

pub moved_on : (f : walk.Format) (tag : ℕ) (level behind : walk.Level) (levels : List walk.Level) (c rest after : walk.Columns) (p : Piece Scalar) (r : Bool) (inner : List walk.Level) → tag ≢ 7
    → label_moves f level c ≡ Some (behind, rest) → walk.piece_at tag rest ≡ Some (p, after)
    → (if r then Some inner else None) ≡ walk.opened p (behind ∷ levels) → token_moves f tag (level ∷ levels) c ≡ (if r then Some (inner, after) else None)
moved_on f tag level behind levels c rest after p r inner goes labelled read opens =
    let value = a_value f level behind tag c rest after p labelled read in
    rw (not_close tag goes, value.1, ← opens) (by_test (token value.0 p) r)
  where
    with_token : Token walk.Key Scalar → List walk.Level → Option Stepped
    with_token t i = Some (t, i, after)

    by_test : (t : Token walk.Key Scalar) (r : Bool) → option_map behind_token ((if r then Some inner else None) >>= with_token t) ≡ (if r then Some (inner, after) else None)
    by_test t true = refl
    by_test t false = refl
