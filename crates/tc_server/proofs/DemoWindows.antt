-- Windows and replies of a demonstration: what a line closes, whatever closed before it, and replies cut in two.
use Rattle.std.proofs.Common.{◌≡◌, ℕ, suc, ◌<◌, ◌≤◌, ◌⊎◌, Bool, true, false, List, [], ◌∷◌, ◌++◌, length, length-append, refl, ap, sym, ◌∙◌, append_assoc, append-nil, inl, inr, arith}
use Rattle.std.specs.Prelude.{Option, Some, None, if◌then◌else◌}
use Rattle.std.proofs.lemmas.List.{map-append, length-map}
use Rattle.tc_request_model.specs.Request.{Request, request_of}
use Rattle.tc_request_model.specs.Reply.{Reply}
use Rattle.tc_run_model.specs.World.{World, after, after_all}
use Rattle.tc_run_model.specs.Replies.{AreReplies}
use Rattle.tc_run_model.specs.Kinds.{AreOfKinds}
use Rattle.tc_run_model.specs.Known.{MayReply, known_after}
use Rattle.tc_run_model.specs.Windows.{BeginsWith, Window, Windows, is_control, is_full, unless_empty, with_line, with_open, windows_of, lines_in}
use Rattle.tc_run_model.specs.Course.{behind, requests_for, requests_in}
use Rattle.tc_run_model.proofs.WindowLaws.{lines_held-windows_of, lines_in-append, lines_in-unless_empty, windows_of-push}
use Rattle.tc_run_model.proofs.ReplyLaws.{after_all-append}
use Rattle.tc_server.specs.Demo.{ended}
use Rattle.tc_keeper.specs.Sight.{nothing, sees, sight_behind, Sight}

-- ---- requests of windows

pub requests_for-append : (xs ys : List (List ℕ)) → requests_for (xs ++ ys) ≡ requests_for xs ++ requests_for ys
requests_for-append xs ys = map-append request_of xs ys

pub requests_in-append : (us vs : List Window) → requests_in (us ++ vs) ≡ requests_in us ++ requests_in vs
requests_in-append us vs = ap requests_for (lines_in-append us vs) ∙ requests_for-append (lines_in us) (lines_in vs)

requests_count : (lines : List (List ℕ)) → length (requests_for lines) ≡ length lines
requests_count lines = length-map lines request_of

pub behind_more : (us vs : List Window) (w : World) → behind w (us ++ vs) ≡ behind (behind w us) vs
behind_more us vs w = ap (λ rs. after_all rs w) (requests_in-append us vs) ∙ after_all-append (requests_in us) (requests_in vs) w

pub sight_more : (us vs : List Window) (first : Sight) → sight_behind first (us ++ vs) ≡ sight_behind (sight_behind first us) vs
sight_more us vs (sees only w) = ap (sees only) (behind_more us vs w)
sight_more us vs nothing = refl

-- all windows have all lines
pub lines_ended : (most : ℕ) (lines : List (List ℕ)) → lines_in (ended (windows_of most lines)) ≡ lines
lines_ended most lines =
    let ws = windows_of most lines in
    lines_in-append ws.closed (unless_empty ws.open_lines) ∙ ap (λ ls. lines_in ws.closed ++ ls) (lines_in-unless_empty ws.open_lines) ∙ lines_held-windows_of most lines

-- ---- what a line closes

abbrev pub shifted : List Window → Windows → Windows
shifted before ws = record { closed = before ++ ws.closed; open_lines = ws.open_lines }

-- the same windows, of which none has closed
abbrev pub fresh : Windows → Windows
fresh ws = record { closed = []; open_lines = ws.open_lines }

abbrev all_closed : List Window → Windows
all_closed closed = record { closed = closed; open_lines = [] }

abbrev with_closed : Window → List Window → Windows
with_closed window closed = record { closed = closed; open_lines = window }

shifted_if : (b : Bool) (before : List Window) (x y : Windows) → (if b then shifted before x else shifted before y) ≡ shifted before (if b then x else y)
shifted_if true before x y = refl
shifted_if false before x y = refl

if_same : (b : Bool) (x y u v : Windows) → x ≡ u → y ≡ v → (if b then x else y) ≡ (if b then u else v)
if_same true x y u v p q = p
if_same false x y u v p q = q

shift_open : (limit : ℕ) (before closed : List Window) (window : Window) → with_open limit (before ++ closed) window ≡ shifted before (with_open limit closed window)
shift_open limit before closed window =
    if_same (is_full limit window) (all_closed ((before ++ closed) ++ window ∷ [])) (with_closed window (before ++ closed)) (all_closed (before ++ (closed ++ window ∷ []))) (with_closed window (before ++ closed)) (ap all_closed (append_assoc before closed (window ∷ []))) refl
    ∙ shifted_if (is_full limit window) before (all_closed (closed ++ window ∷ [])) (with_closed window closed)

shift_line : (limit : ℕ) (before : List Window) (ws : Windows) (line : List ℕ) → with_line limit (shifted before ws) line ≡ shifted before (with_line limit ws line)
shift_line limit before ws line = cases (is_control (request_of line)) refl
  where
    cases : (b : Bool) → is_control (request_of line) ≡ b → with_line limit (shifted before ws) line ≡ shifted before (with_line limit ws line)
    cases true e =
        let further = unless_empty ws.open_lines in
        rw e (ap all_closed (ap (λ vs. vs ++ (line ∷ []) ∷ []) (append_assoc before ws.closed further) ∙ append_assoc before (ws.closed ++ further) ((line ∷ []) ∷ [])))
    cases false e = rw e (shift_open limit before ws.closed (ws.open_lines ++ line ∷ []))

-- what a line closes does not depend on what closed before it
pub next_windows : (limit : ℕ) (seen : List (List ℕ)) (line : List ℕ) → windows_of limit (seen ++ line ∷ []) ≡ shifted (windows_of limit seen).closed (with_line limit (fresh (windows_of limit seen)) line)
next_windows limit seen line =
    let ws = windows_of limit seen in
    windows_of-push limit seen line ∙ ap (λ closed. with_line limit (with_closed ws.open_lines closed) line) (sym (append-nil ws.closed)) ∙ shift_line limit ws.closed (fresh ws) line

-- ---- as many replies as requests

count_replies : (rs : List Request) (w : World) (replies : List Reply) → AreReplies rs w replies → length replies ≡ length rs
count_replies [] w [] given = refl
count_replies [] w (a ∷ more) given = absurd given
count_replies (r ∷ rs) w [] given = absurd given
count_replies (r ∷ rs) w (a ∷ more) given = ap suc (count_replies rs (after r w) more given.1)

count_kinds : (rs : List Request) (replies : List Reply) → AreOfKinds rs replies → length replies ≡ length rs
count_kinds [] [] given = refl
count_kinds [] (a ∷ more) given = absurd given
count_kinds (r ∷ rs) [] given = absurd given
count_kinds (r ∷ rs) (a ∷ more) given = ap suc (count_kinds rs more given.1)

replies_count : (rs : List Request) (known : Option World) (replies : List Reply) → MayReply rs known replies → length replies ≡ length rs
replies_count rs (Some w) replies given = count_replies rs w replies given
replies_count rs None replies given = count_kinds rs replies given

pub replies_to_lines : (lines : List (List ℕ)) (known : Option World) (replies : List Reply) → MayReply (requests_for lines) known replies → length replies ≡ length lines
replies_to_lines lines known replies given = replies_count (requests_for lines) known replies given ∙ requests_count lines

-- no more lines were answered than came
pub few_answered : (most : ℕ) (seen : List (List ℕ)) (known : Option World) (replies : List Reply) → MayReply (requests_in (windows_of most seen).closed) known replies → length replies ≤ length seen
few_answered most seen known replies given =
    let ws = windows_of most seen in
    omega (arith, replies_to_lines (lines_in ws.closed) known replies given, length-append (lines_in ws.closed) ws.open_lines, ap length (lines_held-windows_of most seen))

-- ---- replies cut in two

-- the replies to some requests, and those to the requests behind them
pub record AreCut (rs ss : List Request) (known : Option World) (replies : List Reply) : Type 0 where
  pub front : List Reply
  pub back : List Reply
  pub all : replies ≡ front ++ back
  pub given : MayReply rs known front
  pub more : MayReply ss (known_after rs known) back

cut_replies : (rs ss : List Request) (w : World) (replies : List Reply) → AreReplies (rs ++ ss) w replies → AreCut rs ss (Some w) replies
cut_replies [] ss w replies given = record { front = []; back = replies; all = refl; given = tt; more = given }
cut_replies (r ∷ rs) ss w [] given = absurd given
cut_replies (r ∷ rs) ss w (a ∷ replies) given =
    let rest = cut_replies rs ss (after r w) replies given.1 in record { front = a ∷ rest.front; back = rest.back; all = ap (λ xs. a ∷ xs) rest.all; given = (given.0, rest.given); more = rest.more }

cut_kinds : (rs ss : List Request) (replies : List Reply) → AreOfKinds (rs ++ ss) replies → AreCut rs ss None replies
cut_kinds [] ss replies given = record { front = []; back = replies; all = refl; given = tt; more = given }
cut_kinds (r ∷ rs) ss [] given = absurd given
cut_kinds (r ∷ rs) ss (a ∷ replies) given =
    let rest = cut_kinds rs ss replies given.1 in record { front = a ∷ rest.front; back = rest.back; all = ap (λ xs. a ∷ xs) rest.all; given = (given.0, rest.given); more = rest.more }

pub cut : (rs ss : List Request) (known : Option World) (replies : List Reply) → MayReply (rs ++ ss) known replies → AreCut rs ss known replies
cut rs ss (Some w) replies given = cut_replies rs ss w replies given
cut rs ss None replies given = cut_kinds rs ss replies given

-- ---- the last window that has a line

pub record HasLast (ws : List Window) : Type 0 where
  pub answered : List Window
  pub last : Window
  pub among : BeginsWith ws (answered ++ unless_empty last)
  pub lines : lines_in ws ≡ lines_in (answered ++ unless_empty last)
  pub some : (lines_in ws ≡ []) ⊎ (0 < length last)

-- windows of which only the first may have a line
first_alone : (window : Window) (ws : List Window) → lines_in ws ≡ [] → HasLast (window ∷ ws)
first_alone [] ws none = record { answered = []; last = []; among = record { more = [] ∷ ws; goes_on = refl }; lines = none; some = inl none }
first_alone (line ∷ lines) ws none = record {
  answered = [];
  last = line ∷ lines;
  among = record { more = ws; goes_on = refl };
  lines = ap (λ ls. (line ∷ lines) ++ ls) none;
  some = inr (omega arith);
}

window_before : (window : Window) (ws : List Window) (l : HasLast ws) → (lines_in ws ≡ []) ⊎ (0 < length l.last) → HasLast (window ∷ ws)
window_before window ws l (inl none) = first_alone window ws none
window_before window ws l (inr some) = record {
  answered = window ∷ l.answered;
  last = l.last;
  among = record { more = l.among.more; goes_on = ap (λ vs. window ∷ vs) l.among.goes_on };
  lines = ap (λ ls. window ++ ls) l.lines;
  some = inr some;
}

pub last_of : (ws : List Window) → HasLast ws
last_of [] = record { answered = []; last = []; among = record { more = []; goes_on = refl }; lines = refl; some = inl refl }
last_of (window ∷ ws) = let l = last_of ws in window_before window ws l l.some

-- windows that begin others have no more lines
pub no_more_lines : (ws vs : List Window) → BeginsWith ws vs → length (lines_in vs) ≤ length (lines_in ws)
no_more_lines ws vs begins =
    omega (arith, ap (λ us. length (lines_in us)) begins.goes_on, ap length (lines_in-append vs begins.more), length-append (lines_in vs) (lines_in begins.more))

-- the lines of windows and one more
pub lines_with : (answered : List Window) (last : Window) → lines_in (answered ++ unless_empty last) ≡ lines_in answered ++ last
lines_with answered last = lines_in-append answered (unless_empty last) ∙ ap (λ ls. lines_in answered ++ ls) (lines_in-unless_empty last)

-- worlds behind windows of the same lines are the same
pub same_lines : (us vs : List Window) (w : World) → lines_in us ≡ lines_in vs → behind w us ≡ behind w vs
same_lines us vs w same = ap (λ ls. after_all (requests_for ls) w) same
