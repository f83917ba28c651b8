-- What a walk over a record that was judged is behind tokens that are passed.
use Rattle.std.proofs.Common.{◌≡◌, ◌≢◌, ◌∙◌, ◌<◌, ◌≤◌, ◌+◌, ◌-◌, ◌/◌, ◌==◌, ℕ, suc, Bool, true, false, nat_lt, if◌then◌else◌, List, [], ◌∷◌, Option, None, Some, option_map, is_some, unwrap_or, length, refl, sym, ap, arith}
use Rattle.std.proofs.lemmas.List.{length-map}
use Rattle.std.proofs.lemmas.Option.{same_Some}
use Rattle.tc_bytes.specs.Reading.{◌>>=◌, byte_at}
use Rattle.tc_bytes.proofs.Codecs.{then_parts}
use Rattle.tc_model.specs.Document.{Scalar}
use Rattle.tc_record.specs.Preorder.{Piece, scalar, array_opened, object_opened, closed, Token, token}
use Rattle.tc_record.specs.Behind.{still_open, behind_closes, behind_close}
use Rattle.tc_record.specs.Walk.{Key, Level, in_array, in_object, Format, Columns, value_at, opened, step, is_used_up, nameless, without_names, known_step, known_walk}
use Rattle.tc_record.specs.Moves.{behind_token, token_moves, known_moves}
use Rattle.tc_record.specs.Stack.{kinds_of}
use Rattle.tc_record.specs.Held.{tokens_left}
use Rattle.tc_record.specs.declared.walking.Walk.{Walk}
use Rattle.tc_record.proofs.LevelsBehind.{behind_closes-none, behind_inner}
use Rattle.tc_record.proofs.Judged.{Stepped}
use Rattle.tc_record.proofs.KnownWalks.{closed_known, kinds_nameless, opening, with_first}
use Rattle.tc_record.proofs.Labels.{if_parts}
use Rattle.tc_record.proofs.Stacks.{length-kinds_of, not_close}

abbrev Tokens : Type 0
Tokens = List (Token Key Scalar)

-- ---- how many are open behind a token

opened_deep : (p : Piece Scalar) (levels inner : List Level) (k m : ℕ) → opened p levels ≡ Some inner → length levels ≡ suc k + m → length inner ≡ still_open p k + m
opened_deep (scalar s) levels inner k m gives deep = ap length (sym (same_Some levels inner gives)) ∙ deep
opened_deep array_opened levels inner k m gives deep =
    let told = if_parts (nat_lt (length levels) 32) (in_array ∷ levels) inner gives in
    ap length (sym told.0) ∙ omega (arith, deep)
opened_deep object_opened levels inner k m gives deep =
    let told = if_parts (nat_lt (length levels) 32) (in_object None ∷ levels) inner gives in
    ap length (sym told.0) ∙ omega (arith, deep)
opened_deep closed levels inner k m gives deep = cc

-- a value closes nothing
opened_more : (p : Piece Scalar) (levels inner : List Level) (k : ℕ) → opened p levels ≡ Some inner → suc k ≤ still_open p k
opened_more (scalar s) levels inner k gives = omega arith
opened_more array_opened levels inner k gives = omega arith
opened_more object_opened levels inner k gives = omega arith
opened_more closed levels inner k gives = cc

step_deep : (f : Format) (tag : ℕ) (levels : List Level) (c : Columns) (s : Stepped) (k m : ℕ) → step f tag levels c ≡ Some s → length levels ≡ suc k + m
    → (length s.1 ≡ still_open s.0.piece k + m) × (tag ≢ 7 → suc k ≤ still_open s.0.piece k)
step_deep f tag [] c s k m gives deep = cc
step_deep f tag (level ∷ levels) c s k m gives deep = by_tag (tag == 7) refl gives
  where
    by_tag : (close : Bool) → (tag == 7) ≡ close → (if close then Some (token None closed, levels, c) else (value_at f level tag c >>= opening levels)) ≡ Some s
        → (length s.1 ≡ still_open s.0.piece k + m) × (tag ≢ 7 → suc k ≤ still_open s.0.piece k)
    by_tag true is e =
        let same = same_Some (token None closed, levels, c) s e in
        rw (← same) (omega (arith, deep), λ goes. let other = not_close tag goes in cc)
    by_tag false is e =
        let v = then_parts (value_at f level tag c) _ s e in
        let o = then_parts (opened v.0.0.piece (v.0.1 ∷ levels)) _ s v.2 in
        let same = same_Some (v.0.0, o.0, v.0.2) s o.2 in
        rw (← same) (opened_deep v.0.0.piece (v.0.1 ∷ levels) o.0 k m o.1 deep, λ goes. opened_more v.0.0.piece (v.0.1 ∷ levels) o.0 k o.1)

known_deep : (f : Format) (tag : ℕ) (levels : List Level) (c : Columns) (s : Stepped) (k m : ℕ) → known_step f tag levels c ≡ Some s → length levels ≡ suc k + m
    → (length s.1 ≡ still_open s.0.piece k + m) × (tag ≢ 7 → suc k ≤ still_open s.0.piece k)
known_deep f tag levels c s k m gives deep = by_step (step f tag levels c) refl gives
  where
    by_step : (o : Option Stepped) → step f tag levels c ≡ o → option_map without_names o ≡ Some s → (length s.1 ≡ still_open s.0.piece k + m) × (tag ≢ 7 → suc k ≤ still_open s.0.piece k)
    by_step None steps e = cc
    by_step (Some q) steps e =
        let same = same_Some (without_names q) s e in
        let deeper = step_deep f tag levels c q k m steps deep in
        rw (← same) (length-map q.1 nameless ∙ deeper.0, deeper.1)

-- ---- a walk over levels without names, by its first token

abbrev and_further : Format → List ℕ → Stepped → Option Tokens
and_further f tags q = known_walk f tags q.1 q.2 >>= λ ts. Some (q.0 ∷ ts)

-- a token that stands next is one of those that are passed
pub passed_on : (f : Format) (left : List ℕ) (tag : ℕ) (tags : List ℕ) (a n a' n' : ℕ) (c c' : Columns) (m : ℕ) → byte_at left ≡ Some (tag, tags) → m < n → known_moves f tag (kinds_of a n) c ≡ Some (kinds_of a' n', c')
    → (m ≤ n') × (tag ≢ 7 → m < n') × (option_map (behind_closes (n' - m)) (known_walk f tags (kinds_of a' n') c') ≡ option_map (behind_closes (n - m)) (known_walk f left (kinds_of a n) c))
passed_on f [] tag tags a n a' n' c c' m next within gives = cc
passed_on f (first ∷ rest) tag tags a n a' n' c c' m next within gives =
    let is = same_Some (first, rest) (tag, tags) next in
    rw (ap (λ (x : ℕ × List ℕ). x.0) is, ap (λ (x : ℕ × List ℕ). x.1) is) (by_step (known_step f tag (kinds_of a n) c) refl gives)
  where
    k : ℕ
    k = n - m - 1

    deep : length (kinds_of a n) ≡ suc k + m
    deep = omega (arith, length-kinds_of a n, within)

    less : n - m ≡ suc k
    less = omega (arith, within)

    passed : (o : Option Tokens) (t : Token Key Scalar) → option_map (behind_closes (still_open t.piece k)) o ≡ option_map (behind_closes (suc k)) (o >>= λ ts. Some (t ∷ ts))
    passed None t = refl
    passed (Some ts) t = refl

    by_step : (s : Option Stepped) → known_step f tag (kinds_of a n) c ≡ s → option_map behind_token s ≡ Some (kinds_of a' n', c')
        → (m ≤ n') × (tag ≢ 7 → m < n') × (option_map (behind_closes (n' - m)) (known_walk f tags (kinds_of a' n') c') ≡ option_map (behind_closes (n - m)) (s >>= and_further f tags))
    by_step None steps e = cc
    by_step (Some q) steps e =
        let same = same_Some (behind_token q) (kinds_of a' n', c') e in
        let levels : q.1 ≡ kinds_of a' n' = ap (λ (x : List Level × Columns). x.0) same in
        let columns : q.2 ≡ c' = ap (λ (x : List Level × Columns). x.1) same in
        let open_now = known_deep f tag (kinds_of a n) c q k m steps deep in
        let opens : n' ≡ still_open q.0.piece k + m = sym (length-kinds_of a' n') ∙ ap length (sym levels) ∙ open_now.0 in
        let left : n' - m ≡ still_open q.0.piece k = omega (arith, opens) in
        (omega (arith, opens), λ goes. omega (arith, opens, open_now.1 goes), rw (less, left, ← levels, ← columns) (passed (known_walk f tags q.1 q.2) q.0))

-- so is a close, which leaves what stands around the innermost level
pub closed_past : (f : Format) (left : List ℕ) (tag : ℕ) (tags : List ℕ) (a n a' n' : ℕ) (c : Columns) (m : ℕ) → byte_at left ≡ Some (tag, tags) → m < n → tag ≡ 7 → kinds_of a' n' ≡ kinds_of (a / 2) (n - 1)
    → (m ≤ n') × (option_map (behind_closes (n' - m)) (known_walk f tags (kinds_of a' n') c) ≡ option_map (behind_closes (n - m)) (known_walk f left (kinds_of a n) c))
closed_past f left tag tags a n a' n' c m next within is closes =
    let moves : known_moves f tag (kinds_of a n) c ≡ Some (kinds_of a' n', c) = ap (option_map behind_token) (closed_known f tag a n c (omega (arith, within)) is) ∙ ap (λ ls. Some (ls, c)) (sym closes) in
    let on = passed_on f left tag tags a n a' n' c c m next within moves in
    (on.0, on.2)

-- where none stands next there is no walk
pub passed_none : (f : Format) (left : List ℕ) (tag : ℕ) (tags : List ℕ) (levels : List Level) (c : Columns) → byte_at left ≡ Some (tag, tags) → known_moves f tag levels c ≡ None → known_walk f left levels c ≡ None
passed_none f [] tag tags levels c next gives = cc
passed_none f (first ∷ rest) tag tags levels c next gives =
    let is = same_Some (first, rest) (tag, tags) next in
    rw (ap (λ (x : ℕ × List ℕ). x.0) is) (by_step (known_step f tag levels c) gives)
  where
    by_step : (s : Option Stepped) → option_map behind_token s ≡ None → (s >>= and_further f rest) ≡ None
    by_step None e = refl
    by_step (Some q) e = cc

-- a walk that is at its end, by whether the columns are
abbrev ended : Bool → Option Tokens
ended used = if used then Some [] else None

-- behind the last tag there is nothing to pass
passed_all : (f : Format) (levels : List Level) (c : Columns) (n : ℕ) → option_map (behind_closes n) (known_walk f [] levels c) ≡ known_walk f [] levels c
passed_all f [] c n = by_use (is_used_up c)
  where
    by_use : (used : Bool) → option_map (behind_closes n) (ended used) ≡ ended used
    by_use true = ap Some (behind_closes-none n)
    by_use false = refl
passed_all f (level ∷ levels) c n = refl

-- nor where nothing is open
pub passed_nothing : (f : Format) (tags : List ℕ) (a n : ℕ) (c : Columns) → n ≡ 0 → known_walk f tags (kinds_of a n) c ≡ option_map behind_close (known_walk f tags (kinds_of a n) c)
passed_nothing f [] a n c is = sym (passed_all f (kinds_of a n) c 1)
passed_nothing f (tag ∷ tags) a n c is = rw is refl

-- the tokens behind no close are all
pub behind_none : (n : ℕ) (o : Option Tokens) → n ≡ 0 → option_map (behind_closes n) o ≡ o
behind_none n None is = refl
behind_none n (Some ts) is = rw is refl

-- tokens that are there are left behind a close
pub left_behind : (o : Option Tokens) → is_some o ≡ true → option_map behind_close o ≡ None → ⊥
left_behind None is none = cc
left_behind (Some ts) is none = cc

-- ---- what is told of a step is told of that of a walk over levels without names

pub known_by_moves : (f : Format) (tag a n a' n' : ℕ) (c c' : Columns) (r : Bool) → token_moves f tag (kinds_of a n) c ≡ (if r then Some (kinds_of a' n', c') else None)
    → known_moves f tag (kinds_of a n) c ≡ (if r then Some (kinds_of a' n', c') else None)
known_by_moves f tag a n a' n' c c' r gives = by_step (step f tag (kinds_of a n) c) r gives
  where
    by_step : (s : Option Stepped) (r : Bool) → option_map behind_token s ≡ (if r then Some (kinds_of a' n', c') else None)
        → option_map behind_token (option_map without_names s) ≡ (if r then Some (kinds_of a' n', c') else None)
    by_step None true e = cc
    by_step None false e = refl
    by_step (Some q) true e =
        let same = same_Some (behind_token q) (kinds_of a' n', c') e in
        let levels : q.1 ≡ kinds_of a' n' = ap (λ (x : List Level × Columns). x.0) same in
        let columns : q.2 ≡ c' = ap (λ (x : List Level × Columns). x.1) same in
        rw (levels, columns, kinds_nameless a' n') refl
    by_step (Some q) false e = cc

-- ---- a record whose first token was not taken: two closes are behind that

pub passed_whole : (started : Bool) (bytes rest : List ℕ) (first : ℕ) (w : Walk) (inner all : Option Tokens) → started ≡ false → byte_at bytes ≡ Some (first, rest) → is_some (tokens_left started bytes w) ≡ true
    → inner ≡ option_map behind_close (tokens_left true rest w) → all ≡ option_map behind_close inner → unwrap_or all [] ≡ behind_close (unwrap_or (tokens_left started bytes w) [])
passed_whole true bytes rest first w inner all before next some is_inner is_all = cc
passed_whole false [] rest first w inner all before next some is_inner is_all = cc
passed_whole false (b ∷ bytes) rest first w inner all before next some is_inner is_all =
    let same = same_Some (b, bytes) (first, rest) next in
    let left : rest ≡ bytes = ap (λ (x : ℕ × List ℕ). x.1) (sym same) in
    rw (is_all, is_inner, left) (by_walk (tokens_left true bytes w) (b == 6) some)
  where
    by_walk : (o : Option Tokens) (opens : Bool) → is_some (if opens then (o >>= with_first) else None) ≡ true
        → unwrap_or (option_map behind_close (option_map behind_close o)) [] ≡ behind_close (unwrap_or (if opens then (o >>= with_first) else None) [])
    by_walk o false e = cc
    by_walk None true e = cc
    by_walk (Some ts) true e = behind_inner 1 1 2 ts refl
