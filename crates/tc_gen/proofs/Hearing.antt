-- Replies are heard line by line.
use Rattle.std.proofs.Common.{◌≡◌, ◌≤◌, ℕ, zero, suc, ◌<◌, ◌+◌, ◌-◌, ◌^◌, ◌==◌, min, Bool, true, false, List, [], ◌∷◌, ◌++◌, length, take, drop, refl, ap, sym, ◌∙◌, subst, arith, add-one, append_assoc, append-nil, length-append, codes}
use Rattle.std.specs.Prelude.{flat_map, if◌then◌else◌}
use Rattle.std.specs.List.{starts_with}
use Rattle.json.specs.Print.{escape_byte}
use Rattle.serde_json.specs.Written.{compact_text}
use Rattle.tc_model.specs.Lines.{feed}
use Rattle.tc_request_model.specs.Reply.{Reply, reply_data, reply_line, upserted, deleted, got, rows, flushed, schemas, started, collected, turned_down}
use Rattle.tc_lines.specs.Holding.{HasFeedAt, IsOneLine}
use Rattle.tc_gen.specs.TwoLines.{Heard, heard_of, is_refusal, last_line, refusals_in}
use Rattle.tc_gen.proofs.OneLine.{text_one_line}

-- ---- how a reply begins

abbrev pub refuses : List ℕ → Bool
refuses line = starts_with (λ x y. x == y) line (codes "{\"refused\":")

begins_so : (a : Reply) → refuses (reply_line a) ≡ is_refusal a
unfolding escape_byte
begins_so (upserted n replaced) = refl
begins_so (deleted n found) = refl
begins_so (got n d) = refl
begins_so (rows rs) = refl
begins_so flushed = refl
begins_so (schemas ds) = refl
begins_so started = refl
begins_so (collected rs upto) = refl
begins_so (turned_down r) = refl

-- ---- the first line

-- a line feed behind a text without one is the first
first_feed_at : (text rest : List ℕ) (n : ℕ) → IsOneLine text → HasFeedAt (text ++ feed ∷ rest) n → n ≡ length text
first_feed_at [] rest zero is at = refl
first_feed_at [] rest (suc n) is at = let bad : true ≡ false = at.before.0 in cc
first_feed_at (x ∷ text) rest zero is at =
    let e : x ≡ feed = ap (λ bs. head bs) at.at in
    let bad : true ≡ false = ap (λ y. y == feed) (sym e) ∙ is.0 in
    cc
  where
    head : List ℕ → ℕ
    head [] = 0
    head (b ∷ bs) = b
first_feed_at (x ∷ text) rest (suc n) is at =
    let e : suc n + 1 ≡ suc (n + 1) = omega arith in
    let there = subst (λ m. drop (suc n) (x ∷ (text ++ feed ∷ rest)) ≡ feed ∷ drop m (x ∷ (text ++ feed ∷ rest))) e at.at in
    ap suc (first_feed_at text rest n is.1 (record { before = at.before.1; at = there }))

cut_at : (text rest : List ℕ) → (take (suc (length text)) (text ++ feed ∷ rest) ≡ text ++ feed ∷ []) × (drop (suc (length text)) (text ++ feed ∷ rest) ≡ rest)
cut_at [] rest = (refl, refl)
cut_at (x ∷ text) rest = let more = cut_at text rest in (ap (λ bs. x ∷ bs) more.0, more.1)

no_feed_within : (text rest : List ℕ) → IsOneLine (text ++ feed ∷ rest) → ⊥
no_feed_within [] rest is = let bad : true ≡ false = is.0 in cc
no_feed_within (x ∷ text) rest is = no_feed_within text rest is.1

abbrev text_of : Reply → List ℕ
text_of a = compact_text (reply_data a)

joined : (a : Reply) (left : List Reply) → flat_map reply_line (a ∷ left) ≡ text_of a ++ feed ∷ flat_map reply_line left
joined a left = append_assoc (text_of a) (feed ∷ []) (flat_map reply_line left)

-- ---- what is kept

refusals_behind : (replies : List Reply) (a : Reply) → refusals_in (replies ++ a ∷ []) ≡ (if is_refusal a then refusals_in replies + 1 else refusals_in replies)
refusals_behind [] a = one (is_refusal a)
  where
    one : (b : Bool) → (if b then suc 0 else 0) ≡ (if b then 0 + 1 else 0)
    one true = refl
    one false = refl
refusals_behind (x ∷ replies) a = both (is_refusal x) (is_refusal a) (refusals_in (replies ++ a ∷ [])) (refusals_in replies) (refusals_behind replies a)
  where
    both : (b t : Bool) (m n : ℕ) → m ≡ (if t then n + 1 else n) → (if b then suc m else m) ≡ (if t then (if b then suc n else n) + 1 else (if b then suc n else n))
    both true true m n e = omega (arith, e)
    both true false m n e = ap suc e
    both false true m n e = e
    both false false m n e = e

last_behind : (line : List ℕ) (replies : List Reply) (a : Reply) → last_line line (replies ++ a ∷ []) ≡ reply_line a
last_behind line [] a = refl
last_behind line (x ∷ replies) a = last_behind (reply_line x) replies a

few_refusals : (replies : List Reply) → refusals_in replies ≤ length replies
few_refusals [] = omega arith
few_refusals (x ∷ replies) = both (is_refusal x) (refusals_in replies) (length replies) (few_refusals replies)
  where
    both : (b : Bool) (m n : ℕ) → m ≤ n → (if b then suc m else m) ≤ suc n
    both true m n e = omega (arith, e)
    both false m n e = omega (arith, e)

-- a line more
abbrev pub hears : Heard → List ℕ → Heard
hears heard line = record { refused = if refuses line then min (heard.refused + 1) (2 ^ 32 - 1) else heard.refused; last = line }

hears_reply : (replies : List Reply) (a : Reply) → length replies + 1 < 2 ^ 32 → hears (heard_of replies) (reply_line a) ≡ heard_of (replies ++ a ∷ [])
hears_reply replies a few = rw (begins_so a, last_behind [] replies a, refusals_behind replies a) (counted (is_refusal a) (refusals_in replies) (few_refusals replies))
  where
    counted : (b : Bool) (m : ℕ) → m ≤ length replies → (let h : Heard = record { refused = if b then min (m + 1) (2 ^ 32 - 1) else m; last = reply_line a } in h ≡ record { refused = if b then m + 1 else m; last = reply_line a })
    counted true m most = let e : min (m + 1) (2 ^ 32 - 1) ≡ m + 1 = omega (arith, most, few) in rw e refl
    counted false m most = refl

-- ---- the walk

-- Of more replies some were heard, and the lines of the others are left.
pub record HearsOn (replies more : List Reply) (rest : List ℕ) (now : Heard) : Type 0 where
  pub done : List Reply
  pub left : List Reply
  pub all : more ≡ done ++ left
  pub lines : rest ≡ flat_map reply_line left
  pub kept : now ≡ heard_of (replies ++ done)

abbrev pub MayHear : Heard → List ℕ → List Reply → List Reply → Type 0
MayHear old lines replies more = (old ≡ heard_of replies) × (length (replies ++ more) < 2 ^ 32) × (lines ≡ flat_map reply_line more)

pub hears_none : (replies more : List Reply) (old : Heard) (lines : List ℕ) → MayHear old lines replies more → HearsOn replies more lines old
hears_none replies more old lines may = record { done = []; left = more; all = refl; lines = may.2; kept = may.0 ∙ ap heard_of (sym (append-nil replies)) }

next : (replies more : List Reply) (rest : List ℕ) (now : Heard) (n : ℕ) (left : List Reply) (on : HearsOn replies more rest now) → on.left ≡ left → length (replies ++ more) < 2 ^ 32 → HasFeedAt rest n
    → HearsOn replies more (drop (n + 1) rest) (hears now (take (n + 1) rest))
next replies more rest now n [] on is few at =
    let none : rest ≡ [] = on.lines ∙ ap (flat_map reply_line) is in
    let bad : drop n rest ≡ feed ∷ drop (n + 1) rest = at.at in
    absurd (nothing n (rw none at bad))
  where
    nothing : (n : ℕ) → drop n [] ≡ feed ∷ drop (n + 1) [] → ⊥
    nothing zero e = cc
    nothing (suc n) e = cc
next replies more rest now n (a ∷ left) on is few at =
    let whole : rest ≡ text_of a ++ feed ∷ flat_map reply_line left = on.lines ∙ ap (flat_map reply_line) is ∙ joined a left in
    let len : n ≡ length (text_of a) = first_feed_at (text_of a) (flat_map reply_line left) n (text_one_line (reply_data a)) (subst (λ bs. HasFeedAt bs n) whole at) in
    let cut = cut_at (text_of a) (flat_map reply_line left) in
    let end : n + 1 ≡ suc (length (text_of a)) = add-one n ∙ ap suc len in
    let line : take (n + 1) rest ≡ reply_line a = ap (λ m. take m rest) end ∙ ap (take (suc (length (text_of a)))) whole ∙ cut.0 in
    let behind : drop (n + 1) rest ≡ flat_map reply_line left = ap (λ m. drop m rest) end ∙ ap (drop (suc (length (text_of a)))) whole ∙ cut.1 in
    let split : more ≡ (on.done ++ a ∷ []) ++ left = on.all ∙ ap (λ xs. on.done ++ xs) is ∙ sym (append_assoc on.done (a ∷ []) left) in
    let size : length (replies ++ more) ≡ length replies + (length on.done + suc (length left)) = length-append replies more ∙ ap (λ xs. length replies + length xs) (on.all ∙ ap (λ xs. on.done ++ xs) is) ∙ ap (λ m. length replies + m) (length-append on.done (a ∷ left)) in
    let inside : length (replies ++ on.done) ≡ length replies + length on.done = length-append replies on.done in
    record {
      done = on.done ++ a ∷ [];
      left = left;
      all = split;
      lines = behind;
      kept = ap (λ h. hears h (take (n + 1) rest)) on.kept ∙ ap (hears (heard_of (replies ++ on.done))) line ∙ hears_reply (replies ++ on.done) a (omega (arith, few, size, inside)) ∙ ap heard_of (append_assoc replies on.done (a ∷ []));
    }

pub hears_next : (replies more : List Reply) (rest : List ℕ) (now : Heard) (n : ℕ) → length (replies ++ more) < 2 ^ 32 → HasFeedAt rest n → HearsOn replies more rest now
    → HearsOn replies more (drop (n + 1) rest) (hears now (take (n + 1) rest))
hears_next replies more rest now n few at on = next replies more rest now n on.left on refl few at

ended : (replies more : List Reply) (rest : List ℕ) (now : Heard) (left : List Reply) (on : HearsOn replies more rest now) → on.left ≡ left → IsOneLine rest → now ≡ heard_of (replies ++ more)
ended replies more rest now [] on is none = on.kept ∙ ap (λ xs. heard_of (replies ++ xs)) (sym (on.all ∙ ap (λ xs. on.done ++ xs) is ∙ append-nil on.done))
ended replies more rest now (a ∷ left) on is none =
    absurd (no_feed_within (text_of a) (flat_map reply_line left) (subst IsOneLine (on.lines ∙ ap (flat_map reply_line) is ∙ joined a left) none))

pub hears_all : (replies more : List Reply) (rest : List ℕ) (now : Heard) → IsOneLine rest → HearsOn replies more rest now → now ≡ heard_of (replies ++ more)
hears_all replies more rest now none on = ended replies more rest now on.left on refl none
