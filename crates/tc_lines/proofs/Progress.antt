-- How far the search for a line has come, and what it answers where it ends.
use Rattle.std.proofs.Common.{◌≡◌, ℕ, ◌+◌, ◌≤◌, ◌<◌, ◌==◌, ◌⊎◌, Bool, true, false, List, [], ◌∷◌, ◌++◌, Option, length, take, drop, MatchBool, refl, sym, ap, ◌∙◌, subst, inl, inr, ⊎_elim, arith, append_assoc, append-nil, length-append, take-append-drop}
use Rattle.std.proofs.lemmas.Bool.{MatchBool-at_true, MatchBool-at_false}
use Rattle.std.specs.Io.KnownBytes.{Consumes, IsAtEnd, Keeps}
use Rattle.std.proofs.KnownBytes.{Consumes-nil, Consumes-trans, Consumes-kept}
use Rattle.tc_edge.specs.Moments.{Moment, one_read, with_further}
use Rattle.tc_edge.proofs.Moments.{with_further-nil}
use Rattle.tc_model.specs.Lines.{feed, whole_lines}
use Rattle.tc_lines.specs.Needed.{HasReadNeeded}
use Rattle.tc_lines.proofs.NeededReads.{needed_once_more}
use Rattle.tc_lines.specs.Holding.{Holding, IsOneLine, HasFeedAt}
use Rattle.tc_lines.specs.Answer.{IsLastLine, IsAnswered, is_failure}
use Rattle.tc_lines.specs.Giving.{reading_of, GivesLine, GivesLast, MakesRoom}
use Rattle.tc_lines.specs.declared.intake.TheConstants.{MAX_TAKEN}
use Rattle.tc_lines.specs.declared.reader.Line.{Line}
use Rattle.tc_lines.specs.declared.reader.Line.TheVariants.{Whole, Oversized, End, ReadFault, Spent, Memory}
use Rattle.tc_lines.proofs.LineLemmas.{IsOneLine-append, whole_lines-line, whole_lines-one_line, begins_with_line, is_last_line}

-- Some input was read since the reader held `first`, and each read was needed. What it skipped of the line, as too many
-- bytes, stands before what it holds.
pub record IsUnderWay (limit : ℕ) (oversized : Bool) (first now : Holding) (left left' accepted : Option (List ℕ)) (told told' : Option (List Moment)) : Type 0 where
  pub input : List ℕ
  pub skipped : List ℕ
  pub consumed : Consumes left left' input
  pub counted : now.taken ≡ first.taken + length input
  pub split : first.front ++ first.rest ++ input ≡ skipped ++ (now.front ++ now.rest)
  pub skipped_line : IsOneLine skipped
  pub front_line : IsOneLine now.front
  pub long : MatchBool oversized (limit < length skipped) (skipped ≡ [])
  pub prompt : HasReadNeeded (first.front ++ first.rest) accepted input told told'

pub starts : (limit : ℕ) (first : Holding) (left accepted : Option (List ℕ)) (told : Option (List Moment)) → first.front ≡ [] → IsUnderWay limit false first first left left accepted told told
starts limit first left accepted told none = record {
  input = [];
  skipped = [];
  consumed = Consumes-nil left;
  counted = omega arith;
  split = append-nil (first.front ++ first.rest);
  skipped_line = tt;
  front_line = subst IsOneLine (sym none) tt;
  long = refl;
  prompt = record { further = []; moments = with_further-nil told; given = refl; needed = tt };
}

long_more : (limit : ℕ) (oversized : Bool) (skipped held : List ℕ) → MatchBool oversized (limit < length skipped) (skipped ≡ [])
    → (oversized ≡ true) ⊎ (limit < length held) → limit < length (skipped ++ held)
long_more limit oversized skipped held long too_many =
    let len = length-append skipped held in
    ⊎_elim (λ is. let before = MatchBool-at_true _ _ is long in omega (arith, before, len)) (λ more. omega (arith, more, len)) too_many

pub makes_room : (limit : ℕ) (too_long oversized : Bool) (first now new : Holding) (left left' accepted : Option (List ℕ)) (told told' : Option (List Moment)) → IsUnderWay limit oversized first now left left' accepted told told'
    → IsOneLine now.rest → MakesRoom too_long limit oversized now new → IsUnderWay limit too_long first new left left' accepted told told'
makes_room limit true oversized first now new left left' accepted told told' way line room =
    let held = now.front ++ now.rest in subst (λ h. IsUnderWay limit true first h left left' accepted told told') (sym room.0) (record {
      input = way.input;
      skipped = way.skipped ++ held;
      consumed = way.consumed;
      counted = way.counted;
      split = way.split ∙ sym (append-nil (way.skipped ++ held));
      skipped_line = IsOneLine-append way.skipped held way.skipped_line (IsOneLine-append now.front now.rest way.front_line line);
      front_line = tt;
      long = long_more limit oversized way.skipped held way.long room.1;
      prompt = way.prompt;
    })
makes_room limit false oversized first now new left left' accepted told told' way line room =
    let held = now.front ++ now.rest in subst (λ h. IsUnderWay limit false first h left left' accepted told told') (sym room.0) (record {
      input = way.input;
      skipped = way.skipped;
      consumed = way.consumed;
      counted = way.counted;
      split = way.split ∙ ap (λ bs. way.skipped ++ bs) (sym (append-nil held));
      skipped_line = way.skipped_line;
      front_line = IsOneLine-append now.front now.rest way.front_line line;
      long = MatchBool-at_false _ _ room.2 way.long;
      prompt = way.prompt;
    })

-- the last read left nothing then, and the earlier ones no more than a line may have
pub room_made : (limit : ℕ) (too_long oversized : Bool) (now new : Holding) → MakesRoom too_long limit oversized now new → (new.rest ≡ []) × (length new.front ≤ limit)
room_made limit true oversized now new room = (ap (λ h. h.rest) room.0, let front : length new.front ≡ 0 = ap (λ h. length h.front) room.0 in omega (arith, front))
room_made limit false oversized now new room =
    (ap (λ h. h.rest) room.0, let front : length new.front ≡ length (now.front ++ now.rest) = ap (λ h. length h.front) room.0 in omega (arith, front, room.1))

-- all bytes so far, where the last read left none
all_bytes : (limit : ℕ) (oversized : Bool) (first now : Holding) (left left' accepted : Option (List ℕ)) (told told' : Option (List Moment)) → (way : IsUnderWay limit oversized first now left left' accepted told told') → now.rest ≡ []
    → first.front ++ first.rest ++ way.input ≡ way.skipped ++ now.front
all_bytes limit oversized first now left left' accepted told told' way none =
    way.split ∙ ap (λ bs. way.skipped ++ (now.front ++ bs)) none ∙ ap (λ bs. way.skipped ++ bs) (append-nil now.front)

-- no line feed was read, where the last read left nothing
no_whole_line : (limit : ℕ) (oversized : Bool) (first now : Holding) (left left' accepted : Option (List ℕ)) (told told' : Option (List Moment)) → (way : IsUnderWay limit oversized first now left left' accepted told told') → now.rest ≡ []
    → whole_lines (first.front ++ first.rest ++ way.input) ≡ []
no_whole_line limit oversized first now left left' accepted told told' way none =
    ap whole_lines (all_bytes limit oversized first now left left' accepted told told' way none)
    ∙ whole_lines-one_line _ (IsOneLine-append way.skipped now.front way.skipped_line way.front_line)

pub reads_more : (limit : ℕ) (oversized : Bool) (first now new : Holding) (n : ℕ) (left left' left'' accepted : Option (List ℕ)) (told told' told'' : Option (List Moment)) → IsUnderWay limit oversized first now left left' accepted told told'
    → now.rest ≡ [] → length new.rest ≡ n → new ≡ record now { rest = new.rest; taken = now.taken + n; ended = n == 0 } → Consumes left' left'' new.rest
    → told'' ≡ with_further (one_read accepted new.rest) told' → IsUnderWay limit oversized first new left left'' accepted told told''
reads_more limit oversized first now new n left left' left'' accepted told told' told'' way none len is consumed read =
    let front : new.front ≡ now.front = ap (λ h. h.front) is in
    let taken : new.taken ≡ now.taken + n = ap (λ h. h.taken) is in
    let more = length-append way.input new.rest in
    let all : now.front ++ now.rest ++ new.rest ≡ new.front ++ new.rest =
    ap (λ bs. now.front ++ bs ++ new.rest) none ∙ ap (λ bs. bs ++ new.rest) (append-nil now.front ∙ sym front) in record {
      input = way.input ++ new.rest;
      skipped = way.skipped;
      consumed = Consumes-trans left left' left'' way.input new.rest way.consumed consumed;
      counted = omega (arith, taken, way.counted, more, len);
      split = sym (append_assoc (first.front ++ first.rest) way.input new.rest) ∙ ap (λ bs. bs ++ new.rest) way.split
          ∙ append_assoc way.skipped (now.front ++ now.rest) new.rest ∙ ap (λ bs. way.skipped ++ bs) all;
      skipped_line = way.skipped_line;
      front_line = subst IsOneLine (sym front) way.front_line;
      long = way.long;
      prompt = needed_once_more _ _ _ _ _ _ _ way.prompt (no_whole_line limit oversized first now left left' accepted told told' way none) read;
    }

-- what is held is the line, and a line feed, and what is behind it
split_at_feed : (front rest : List ℕ) (n : ℕ) → HasFeedAt rest n → front ++ rest ≡ (front ++ take n rest) ++ feed ∷ drop (n + 1) rest
split_at_feed front rest n found =
    ap (λ bs. front ++ bs) (sym (take-append-drop n rest) ∙ ap (λ bs. take n rest ++ bs) found.at) ∙ sym (append_assoc front (take n rest) (feed ∷ drop (n + 1) rest))

pub answers_at_feed : (line : Line) (limit n : ℕ) (oversized : Bool) (first now new : Holding) (left left' accepted : Option (List ℕ)) (told told' : Option (List Moment)) → IsUnderWay limit oversized first now left left' accepted told told'
    → now.ended ≡ false → HasFeedAt now.rest n → GivesLine line (now.front ++ take n now.rest) limit oversized
    → (is_failure line ≡ false → new ≡ record now { front = []; rest = drop (n + 1) now.rest }) → (is_failure line ≡ true → new ≡ now)
    → IsAnswered line (reading_of limit false first) (reading_of limit (is_failure line) new) left left' accepted told told'
answers_at_feed (Whole given) limit n oversized first now new left left' accepted told told' way goes_on found gives moves fails =
    subst (λ h. IsAnswered (Whole given) (reading_of limit false first) (reading_of limit false h) left left' accepted told told') (sym (moves refl)) (
    let none : way.skipped ≡ [] = MatchBool-at_false _ _ gives.2 way.long in
    let line_is : now.front ++ take n now.rest ≡ given = sym gives.0 in
    let bytes_are = way.split ∙ ap (λ bs. bs ++ (now.front ++ now.rest)) none ∙ split_at_feed now.front now.rest n found ∙ ap (λ bs. bs ++ feed ∷ drop (n + 1) now.rest) line_is in
    let one = IsOneLine-append now.front (take n now.rest) way.front_line found.before in record {
      input = way.input;
      consumed = way.consumed;
      counted = way.counted;
      prompt = way.prompt;
      says = (inl (begins_with_line _ given _ bytes_are (subst IsOneLine line_is one), goes_on), subst (λ bs. length bs ≤ limit) line_is gives.1);
    })
answers_at_feed Oversized limit n oversized first now new left left' accepted told told' way goes_on found gives moves fails =
    subst (λ h. IsAnswered Oversized (reading_of limit false first) (reading_of limit false h) left left' accepted told told') (sym (moves refl)) (
    let part = now.front ++ take n now.rest in
    let bytes_are = way.split ∙ ap (λ bs. way.skipped ++ bs) (split_at_feed now.front now.rest n found) ∙ sym (append_assoc way.skipped part (feed ∷ drop (n + 1) now.rest)) in
    let one = IsOneLine-append way.skipped part way.skipped_line (IsOneLine-append now.front (take n now.rest) way.front_line found.before) in record {
      input = way.input;
      consumed = way.consumed;
      counted = way.counted;
      prompt = way.prompt;
      says = (way.skipped ++ part, inl (begins_with_line _ (way.skipped ++ part) _ bytes_are one, goes_on), long_more limit oversized way.skipped part way.long gives);
    })
answers_at_feed Memory limit n oversized first now new left left' accepted told told' way goes_on found gives moves fails =
    subst (λ h. IsAnswered Memory (reading_of limit false first) (reading_of limit true h) left left' accepted told told') (sym (fails refl)) (record {
      input = way.input;
      consumed = way.consumed;
      counted = way.counted;
      prompt = way.prompt;
      says = tt;
    })
answers_at_feed End limit n oversized first now new left left' accepted told told' way goes_on found gives moves fails = absurd gives
answers_at_feed ReadFault limit n oversized first now new left left' accepted told told' way goes_on found gives moves fails = absurd gives
answers_at_feed Spent limit n oversized first now new left left' accepted told told' way goes_on found gives moves fails = absurd gives

pub answers_at_end : (line : Line) (limit : ℕ) (oversized : Bool) (first now new : Holding) (left left' accepted : Option (List ℕ)) (told told' : Option (List Moment)) → IsUnderWay limit oversized first now left left' accepted told told'
    → now.rest ≡ [] → length now.front ≤ limit → IsAtEnd left' → now.ended ≡ true → now.taken < MAX_TAKEN → GivesLast line now.front oversized → new ≡ record now { front = [] }
    → IsAnswered line (reading_of limit false first) (reading_of limit (is_failure line) new) left left' accepted told told'
answers_at_end (Whole given) limit oversized first now new left left' accepted told told' way none fits at_end ended below gives moves =
    subst (λ h. IsAnswered (Whole given) (reading_of limit false first) (reading_of limit false h) left left' accepted told told') (sym moves) (
    let skipped_none : way.skipped ≡ [] = MatchBool-at_false _ _ gives.2 way.long in
    let line_is : now.front ≡ given = sym gives.0 in
    let bytes_are = all_bytes limit oversized first now left left' accepted told told' way none ∙ ap (λ bs. bs ++ now.front) skipped_none ∙ line_is in
    let last = is_last_line given (subst (λ bs. 0 < length bs) line_is gives.1) (subst IsOneLine line_is way.front_line) in record {
      input = way.input;
      consumed = way.consumed;
      counted = way.counted;
      prompt = way.prompt;
      says = (inr (subst (λ bs. IsLastLine bs given) (sym bytes_are) last, record { at_end = at_end; held = none; taken = below; ended = ended }), subst (λ bs. length bs ≤ limit) line_is fits);
    })
answers_at_end Oversized limit oversized first now new left left' accepted told told' way none fits at_end ended below gives moves =
    subst (λ h. IsAnswered Oversized (reading_of limit false first) (reading_of limit false h) left left' accepted told told') (sym moves) (
    let line = way.skipped ++ now.front in
    let bytes_are = all_bytes limit oversized first now left left' accepted told told' way none in
    let long = long_more limit oversized way.skipped now.front way.long (inl gives) in
    let last = is_last_line line (omega (arith, long)) (IsOneLine-append way.skipped now.front way.skipped_line way.front_line) in record {
      input = way.input;
      consumed = way.consumed;
      counted = way.counted;
      prompt = way.prompt;
      says = (line, inr (subst (λ bs. IsLastLine bs line) (sym bytes_are) last, record { at_end = at_end; held = none; taken = below; ended = ended }), long);
    })
answers_at_end End limit oversized first now new left left' accepted told told' way none fits at_end ended below gives moves =
    subst (λ h. IsAnswered End (reading_of limit false first) (reading_of limit false h) left left' accepted told told') (sym moves) (
    let skipped_none : way.skipped ≡ [] = MatchBool-at_false _ _ gives.1 way.long in record {
      input = way.input;
      consumed = way.consumed;
      counted = way.counted;
      prompt = way.prompt;
      says = (all_bytes limit oversized first now left left' accepted told told' way none ∙ ap (λ bs. bs ++ now.front) skipped_none ∙ gives.0, record { at_end = at_end; held = none; taken = below; ended = ended });
    })
answers_at_end Memory limit oversized first now new left left' accepted told told' way none fits at_end ended below gives moves = absurd gives
answers_at_end ReadFault limit oversized first now new left left' accepted told told' way none fits at_end ended below gives moves = absurd gives
answers_at_end Spent limit oversized first now new left left' accepted told told' way none fits at_end ended below gives moves = absurd gives

pub none_of_length : (bytes : List ℕ) → length bytes ≡ 0 → bytes ≡ []
none_of_length [] len = refl
none_of_length (b ∷ bs) len = absurd (omega (arith, len))

pub answers_fault : (limit : ℕ) (oversized : Bool) (first now new : Holding) (left left' left'' accepted : Option (List ℕ)) (told told' told'' : Option (List Moment)) → IsUnderWay limit oversized first now left left' accepted told told'
    → now.rest ≡ [] → new ≡ now → Keeps left' left'' → now.taken < MAX_TAKEN → told'' ≡ told'
    → IsAnswered ReadFault (reading_of limit false first) (reading_of limit true new) left left'' accepted told told''
answers_fault limit oversized first now new left left' left'' accepted told told' told'' way none same kept below untold =
    subst (λ h. IsAnswered ReadFault (reading_of limit false first) (reading_of limit true h) left left'' accepted told told'') (sym same) (record {
      input = way.input;
      consumed = Consumes-kept left left' left'' way.input way.consumed kept;
      counted = way.counted;
      prompt = subst (HasReadNeeded (first.front ++ first.rest) accepted way.input told) (sym untold) way.prompt;
      says = (no_whole_line limit oversized first now left left' accepted told told' way none, below);
    })

pub answers_spent : (limit : ℕ) (oversized : Bool) (first now new : Holding) (left left' left'' accepted : Option (List ℕ)) (told told' told'' : Option (List Moment)) → IsUnderWay limit oversized first now left left' accepted told told'
    → now.rest ≡ [] → new ≡ now → Keeps left' left'' → now.taken ≡ MAX_TAKEN → told'' ≡ told'
    → IsAnswered Spent (reading_of limit false first) (reading_of limit true new) left left'' accepted told told''
answers_spent limit oversized first now new left left' left'' accepted told told' told'' way none same kept all untold =
    subst (λ h. IsAnswered Spent (reading_of limit false first) (reading_of limit true h) left left'' accepted told told'') (sym same) (record {
      input = way.input;
      consumed = Consumes-kept left left' left'' way.input way.consumed kept;
      counted = way.counted;
      prompt = subst (HasReadNeeded (first.front ++ first.rest) accepted way.input told) (sym untold) way.prompt;
      says = (no_whole_line limit oversized first now left left' accepted told told' way none, all);
    })

-- a line feed ends a whole line
pub feed_ends_line : (front rest : List ℕ) (n : ℕ) → IsOneLine front → HasFeedAt rest n → whole_lines (front ++ rest) ≡ [] → ⊥
feed_ends_line front rest n one found none =
    let line = front ++ take n rest in
    let first = whole_lines-line line (drop (n + 1) rest) (IsOneLine-append front (take n rest) one found.before) in
    let both : line ∷ whole_lines (drop (n + 1) rest) ≡ [] = sym first ∙ ap whole_lines (sym (split_at_feed front rest n found)) ∙ none in
    cc
