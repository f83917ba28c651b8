-- A walk over a record that was judged comes to the same tokens without the names of the members before.
use Rattle.std.proofs.Common.{◌≡◌, ◌≢◌, ◌∙◌, ◌<◌, ◌-◌, ◌/◌, ◌==◌, ℕ, zero, suc, nat_lt, Bool, true, false, if◌then◌else◌, List, [], ◌∷◌, length, map, Option, None, Some, option_map, is_some, refl, sym, ap}
use Rattle.std.proofs.lemmas.List.{length-map}
use Rattle.std.proofs.lemmas.Option.{same_Some}
use Rattle.tc_bytes.specs.Reading.{◌>>=◌}
use Rattle.tc_bytes.proofs.Codecs.{then_parts}
use Rattle.tc_model.specs.Document.{Name, Scalar}
use Rattle.tc_record.specs.Preorder.{Piece, scalar, array_opened, object_opened, closed, Token, token}
use Rattle.tc_record.specs.Walk.{Key, name, number, Level, in_array, in_object, Format, Columns, number_next, utf8_at, is_above, name_at, label_at, piece_at, value_at, opened, step, walk, nameless, without_last, without_names, known_step, known_walk}
use Rattle.tc_record.specs.Walk as walk
use Rattle.tc_record.specs.WalkView.{columns_of, format_of}
use Rattle.tc_record.specs.SectionsView.{cut_columns_of}
use Rattle.tc_record.specs.Held.{tokens_held, tokens_left}
use Rattle.tc_record.specs.declared.sections.Sections.{Sections}
use Rattle.tc_record.specs.declared.walking.Walk.{Walk}
use Rattle.tc_record.specs.Stack.{is_array, kind_of, kinds_of}
use Rattle.tc_record.proofs.Judged.{Labelled, Stepped, Valued, valued}
use Rattle.tc_record.proofs.Labels.{if_parts}
use Rattle.tc_record.proofs.Stacks.{not_close, kinds_of-read}

abbrev Tokens : Type 0
Tokens = List (Token Key Scalar)

-- the parts of a step
abbrev by_name : Name × Columns → Option Labelled
by_name n = Some (Some (name n.0), in_object (Some n.0), n.1)

abbrev by_number : Columns → ℕ × List ℕ → Option Labelled
by_number c n = Some (Some (number n.0), in_object None, record c { slots = n.1 })

abbrev pub opening : List Level → Valued → Option Stepped
opening levels v = opened v.0.piece (v.1 ∷ levels) >>= λ inner. Some (v.0, inner, v.2)

nameless_again : (levels : List Level) → map nameless (map nameless levels) ≡ map nameless levels
nameless_again [] = refl
nameless_again (in_array ∷ levels) = ap (λ ls. in_array ∷ ls) (nameless_again levels)
nameless_again (in_object last ∷ levels) = ap (λ ls. in_object None ∷ ls) (nameless_again levels)

-- a name that stands above the one before is read without that one too
name_known : (last : Option Name) (c : Columns) (q : Name × Columns) → name_at last c ≡ Some q → name_at None c ≡ Some q
name_known last c q gives =
    let one = then_parts (number_next c.slots) _ q gives in
    let two = then_parts (utf8_at one.0.0 c.names) _ q one.2 in
    let three = if_parts (is_above last two.0.0) _ q two.2 in
    rw (one.1, two.1) (ap Some three.0)

label_known : (f : Format) (level : Level) (c : Columns) (l : Labelled) → label_at f level c ≡ Some l
    → (b : Level) × (label_at f (nameless level) c ≡ Some (l.0, b, l.2)) × (nameless b ≡ nameless l.1)
label_known f in_array c l gives = (l.1, gives, refl)
label_known f (in_object last) c l gives = by_form f.named gives
  where
    by_form : (named : Bool) → (if named then (name_at last c >>= by_name) else (number_next c.slots >>= by_number c)) ≡ Some l
        → (b : Level) × ((if named then (name_at None c >>= by_name) else (number_next c.slots >>= by_number c)) ≡ Some (l.0, b, l.2)) × (nameless b ≡ nameless l.1)
    by_form true e =
        let n = then_parts (name_at last c) _ l e in
        (l.1, rw (name_known last c n.0 n.1) n.2, refl)
    by_form false e = (l.1, e, refl)

value_known : (f : Format) (level : Level) (tag : ℕ) (c : Columns) (v : Valued) → value_at f level tag c ≡ Some v
    → (b : Level) × (value_at f (nameless level) tag c ≡ Some (v.0, b, v.2)) × (nameless b ≡ nameless v.1)
value_known f level tag c v gives =
    let l = then_parts (label_at f level c) _ v gives in
    let p = then_parts (piece_at tag l.0.2) _ v l.2 in
    let k = label_known f level c l.0 l.1 in
    let same = same_Some (token l.0.0 p.0.0, l.0.1, p.0.1) v p.2 in
    (k.0, rw (k.1, p.1) (ap (λ (x : Valued). Some (x.0, k.0, x.2)) same), k.2 ∙ ap (λ (x : Valued). nameless x.1) same)

as_many : (levels known : List Level) → map nameless known ≡ map nameless levels → length known ≡ length levels
as_many levels known same = sym (length-map known nameless) ∙ ap length same ∙ length-map levels nameless

opened_known : (p : Piece Scalar) (levels known inner : List Level) → map nameless known ≡ map nameless levels → opened p levels ≡ Some inner
    → (i : List Level) × (opened p known ≡ Some i) × (map nameless i ≡ map nameless inner)
opened_known (scalar s) levels known inner same gives = (known, refl, same ∙ ap (map nameless) (same_Some levels inner gives))
opened_known array_opened levels known inner same gives =
    let told = if_parts (nat_lt (length levels) 32) (in_array ∷ levels) inner gives in
    (in_array ∷ known, rw (as_many levels known same, told.1) refl, ap (λ ls. in_array ∷ ls) same ∙ ap (map nameless) told.0)
opened_known object_opened levels known inner same gives =
    let told = if_parts (nat_lt (length levels) 32) (in_object None ∷ levels) inner gives in
    (in_object None ∷ known, rw (as_many levels known same, told.1) refl, ap (λ ls. in_object None ∷ ls) same ∙ ap (map nameless) told.0)
opened_known closed levels known inner same gives = cc

step_known : (f : Format) (tag : ℕ) (levels : List Level) (c : Columns) (s : Stepped) → step f tag levels c ≡ Some s
    → known_step f tag (map nameless levels) c ≡ Some (without_names s)
step_known f tag [] c s gives = cc
step_known f tag (level ∷ levels) c s gives = by_tag (tag == 7) gives
  where
    by_tag : (close : Bool) → (if close then Some (token None closed, levels, c) else (value_at f level tag c >>= opening levels)) ≡ Some s
        → option_map without_names (if close then Some (token None closed, map nameless levels, c) else (value_at f (nameless level) tag c >>= opening (map nameless levels))) ≡ Some (without_names s)
    by_tag true e = ap (λ ls. Some (token None closed, ls, c)) (nameless_again levels) ∙ ap (λ x. Some (without_names x)) (same_Some _ s e)
    by_tag false e =
        let v = then_parts (value_at f level tag c) _ s e in
        let o = then_parts (opened v.0.0.piece (v.0.1 ∷ levels)) _ s v.2 in
        let k = value_known f level tag c v.0 v.1 in
        let i = opened_known v.0.0.piece (v.0.1 ∷ levels) (k.0 ∷ map nameless levels) o.0 (ap (λ l. l ∷ map nameless (map nameless levels)) k.2 ∙ ap (λ ls. nameless v.0.1 ∷ ls) (nameless_again levels)) o.1 in
        rw (k.1, i.1) (ap (λ ls. Some (v.0.0, ls, v.0.2)) i.2 ∙ ap (λ x. Some (without_names x)) (same_Some (v.0.0, o.0, v.0.2) s o.2))

pub walk_known : (tags : List ℕ) (f : Format) (levels : List Level) (c : Columns) (ts : Tokens) → walk f tags levels c ≡ Some ts → known_walk f tags (map nameless levels) c ≡ Some ts
walk_known [] f [] c ts gives = gives
walk_known [] f (level ∷ levels) c ts gives = cc
walk_known (tag ∷ tags) f levels c ts gives =
    let s = then_parts (step f tag levels c) _ ts gives in
    let u = then_parts (walk f tags s.0.1 s.0.2) _ ts s.2 in
    rw (step_known f tag levels c s.0 s.1, walk_known tags f s.0.1 s.0.2 u.0 u.1) u.2

-- the tokens behind the first one, and that
abbrev pub with_first : Tokens → Option Tokens
with_first ts = Some (token None object_opened ∷ ts)

-- so do the tokens of a record that has some
pub tokens_again : (s : Sections) (w : Walk) → w.format ≡ s.format → columns_of w.columns ≡ cut_columns_of s.columns → kinds_of w.kinds.arrays w.kinds.depth ≡ in_object None ∷ [] → is_some (tokens_held s) ≡ true
    → tokens_left false s.tags.now w ≡ tokens_held s
tokens_again s w format columns kinds some = by_tags s.tags.now some
  where
    by_walk : (tags : List ℕ) (o : Option Tokens) (opens : Bool) → walk (format_of s.format) tags (in_object None ∷ []) (cut_columns_of s.columns) ≡ o → is_some (if opens then (o >>= with_first) else None) ≡ true
        → (if opens then (known_walk (format_of s.format) tags (in_object None ∷ []) (cut_columns_of s.columns) >>= with_first) else None) ≡ (if opens then (o >>= with_first) else None)
    by_walk tags o false e is = refl
    by_walk tags None true e is = cc
    by_walk tags (Some ts) true e is = rw (walk_known tags (format_of s.format) (in_object None ∷ []) (cut_columns_of s.columns) ts e) refl

    by_tags : (tags : List ℕ) → is_some (walk.tokens_read (format_of s.format) tags (cut_columns_of s.columns)) ≡ true → tokens_left false tags w ≡ walk.tokens_read (format_of s.format) tags (cut_columns_of s.columns)
    by_tags [] is = refl
    by_tags (tag ∷ tags) is = rw (format, columns, kinds) (by_walk tags (walk (format_of s.format) tags (in_object None ∷ []) (cut_columns_of s.columns)) (tag == 6) refl is)

-- ---- a step of such a walk, by what is told of the levels that are open

-- levels of which is told which are arrays have no names
kind_nameless : (in_array : Bool) → nameless (kind_of in_array) ≡ kind_of in_array
kind_nameless true = refl
kind_nameless false = refl

pub kinds_nameless : (a n : ℕ) → map nameless (kinds_of a n) ≡ kinds_of a n
kinds_nameless a zero = refl
kinds_nameless a (suc n) = rw (kind_nameless (is_array a)) (ap (λ ls. kind_of (is_array a) ∷ ls) (kinds_nameless (a / 2) n))

opened_nameless : (p : Piece Scalar) (levels : List Level) → option_map (map nameless) (opened p levels) ≡ opened p (map nameless levels)
opened_nameless (scalar s) levels = refl
opened_nameless array_opened levels = rw (length-map levels nameless) (by_room (nat_lt (length levels) 32))
  where
    by_room : (room : Bool) → option_map (map nameless) (if room then Some (in_array ∷ levels) else None) ≡ (if room then Some (in_array ∷ map nameless levels) else None)
    by_room true = refl
    by_room false = refl
opened_nameless object_opened levels = rw (length-map levels nameless) (by_room (nat_lt (length levels) 32))
  where
    by_room : (room : Bool) → option_map (map nameless) (if room then Some (in_object None ∷ levels) else None) ≡ (if room then Some (in_object None ∷ map nameless levels) else None)
    by_room true = refl
    by_room false = refl
opened_nameless closed levels = refl

pub closed_known : (f : Format) (tag : ℕ) (a n : ℕ) (c : Columns) → 0 < n → tag ≡ 7 → known_step f tag (kinds_of a n) c ≡ Some (token None closed, kinds_of (a / 2) (n - 1), c)
closed_known f tag a n c some is =
    rw (is, kinds_of-read a n some) (ap (λ ls. Some (token None closed, ls, c)) (kinds_nameless (a / 2) (n - 1)))

known_stepped : (f : Format) (tag : ℕ) (a n : ℕ) (c : Columns) → 0 < n → tag ≢ 7
    → known_step f tag (kinds_of a n) c ≡ option_map without_names (value_at f (kind_of (is_array a)) tag c >>= opening (kinds_of (a / 2) (n - 1)))
known_stepped f tag a n c some goes = rw (kinds_of-read a n some, not_close tag goes) refl

pub no_label_known : (f : Format) (tag : ℕ) (a n : ℕ) (c : Columns) → 0 < n → tag ≢ 7
    → option_map without_last (label_at f (kind_of (is_array a)) c) ≡ None → known_step f tag (kinds_of a n) c ≡ None
no_label_known f tag a n c some goes none = known_stepped f tag a n c some goes ∙ by_label (label_at f (kind_of (is_array a)) c) none
  where
    by_label : (l : Option Labelled) → option_map without_last l ≡ None
        → option_map without_names ((l >>= valued f tag) >>= opening (kinds_of (a / 2) (n - 1))) ≡ None
    by_label None e = refl
    by_label (Some x) e = cc

pub no_piece_known : (f : Format) (tag : ℕ) (a n : ℕ) (c rest : Columns) (k : Option Key) (kind : Level) → 0 < n → tag ≢ 7
    → option_map without_last (label_at f (kind_of (is_array a)) c) ≡ Some (k, kind, rest) → piece_at tag rest ≡ None → known_step f tag (kinds_of a n) c ≡ None
no_piece_known f tag a n c rest k kind some goes labels none = known_stepped f tag a n c some goes ∙ by_label (label_at f (kind_of (is_array a)) c) labels
  where
    by_label : (l : Option Labelled) → option_map without_last l ≡ Some (k, kind, rest)
        → option_map without_names ((l >>= valued f tag) >>= opening (kinds_of (a / 2) (n - 1))) ≡ None
    by_label None e = cc
    by_label (Some x) e =
        let columns : x.2 ≡ rest = ap (λ (q : Labelled). q.2) (same_Some (without_last x) (k, kind, rest) e) in
        rw (columns, none) refl

pub token_known : (f : Format) (tag : ℕ) (a n : ℕ) (c rest after : Columns) (k : Option Key) (p : Piece Scalar) (r : Bool) (inner : List Level) → 0 < n → tag ≢ 7
    → option_map without_last (label_at f (kind_of (is_array a)) c) ≡ Some (k, kind_of (is_array a), rest) → piece_at tag rest ≡ Some (p, after)
    → (if r then Some inner else None) ≡ opened p (kinds_of a n) → known_step f tag (kinds_of a n) c ≡ (if r then Some (token k p, inner, after) else None)
token_known f tag a n c rest after k p r inner some goes labels read opens =
    known_stepped f tag a n c some goes ∙ by_label (label_at f (kind_of (is_array a)) c) labels
  where
    below : List Level
    below = kinds_of (a / 2) (n - 1)

    levels_are : kinds_of a n ≡ kind_of (is_array a) ∷ below
    levels_are = kinds_of-read a n some

    with_levels : (t : Token Key Scalar) (o : Option (List Level)) (r : Bool) → option_map (map nameless) o ≡ (if r then Some inner else None)
        → option_map without_names (o >>= λ i. Some (t, i, after)) ≡ (if r then Some (t, inner, after) else None)
    with_levels t None true e = cc
    with_levels t None false e = refl
    with_levels t (Some i) true e = ap (λ ls. Some (t, ls, after)) (same_Some (map nameless i) inner e)
    with_levels t (Some i) false e = cc

    opens_so : (behind : Level) → nameless behind ≡ kind_of (is_array a) → option_map (map nameless) (opened p (behind ∷ below)) ≡ (if r then Some inner else None)
    opens_so behind is =
        opened_nameless p (behind ∷ below) ∙ ap (opened p) (ap (λ l. l ∷ map nameless below) is ∙ ap (λ ls. kind_of (is_array a) ∷ ls) (kinds_nameless (a / 2) (n - 1)) ∙ sym levels_are) ∙ sym opens

    by_label : (l : Option Labelled) → option_map without_last l ≡ Some (k, kind_of (is_array a), rest)
        → option_map without_names ((l >>= valued f tag) >>= opening below) ≡ (if r then Some (token k p, inner, after) else None)
    by_label None e = cc
    by_label (Some x) e =
        let same = same_Some (without_last x) (k, kind_of (is_array a), rest) e in
        let columns : x.2 ≡ rest = ap (λ (q : Labelled). q.2) same in
        let label : x.0 ≡ k = ap (λ (q : Labelled). q.0) same in
        rw (columns, read, label) (with_levels (token k p) (opened p (x.1 ∷ below)) r (opens_so x.1 (ap (λ (q : Labelled). q.1) same)))
