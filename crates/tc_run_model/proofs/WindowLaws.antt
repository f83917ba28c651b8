-- Laws of windows: what they hold, one more line, and more lines.
use Rattle.std.proofs.Common.{◌≡◌, ℕ, true, false, List, [], ◌∷◌, ◌++◌, refl, ap, subst, sym, ◌∙◌, append_assoc, append-nil}
use Rattle.std.specs.Prelude.{fold, if◌then◌else◌}
use Rattle.std.proofs.lemmas.List.Sums.{fold-append}
use Rattle.tc_request_model.specs.Request.{request_of}
use Rattle.tc_run_model.specs.Windows.{BeginsWith, Window, Windows, is_control, is_full, unless_empty, with_open, with_line, windows_of, lines_in}

-- ---- the lines of windows

pub lines_in-append : (us vs : List Window) → lines_in (us ++ vs) ≡ lines_in us ++ lines_in vs
lines_in-append [] vs = refl
lines_in-append (u ∷ us) vs = ap (λ lines. u ++ lines) (lines_in-append us vs) ∙ sym (append_assoc u (lines_in us) (lines_in vs))

pub lines_in-unless_empty : (window : Window) → lines_in (unless_empty window) ≡ window
lines_in-unless_empty [] = refl
lines_in-unless_empty (line ∷ lines) = append-nil (line ∷ lines)

-- all lines of windows, closed or open
abbrev pub lines_held : Windows → List (List ℕ)
lines_held ws = lines_in ws.closed ++ ws.open_lines

lines_in-push : (closed : List Window) (window : Window) → lines_in (closed ++ window ∷ []) ++ [] ≡ lines_in closed ++ window
lines_in-push closed window = append-nil (lines_in (closed ++ window ∷ [])) ∙ lines_in-append closed (window ∷ []) ∙ ap (λ lines. lines_in closed ++ lines) (append-nil window)

pub lines_held-with_open : (limit : ℕ) (closed : List Window) (window : Window) → lines_held (with_open limit closed window) ≡ lines_in closed ++ window
lines_held-with_open limit closed window =
    elim (is_full limit window) as (λ b. lines_held (if b then record { closed = closed ++ window ∷ []; open_lines = [] } else record { closed = closed; open_lines = window }) ≡ lines_in closed ++ window) [
      | true ↦ lines_in-push closed window
      | false ↦ refl
    ]

lines_held-control : (ws : Windows) (line : List ℕ) → lines_in (ws.closed ++ unless_empty ws.open_lines ++ (line ∷ []) ∷ []) ++ [] ≡ lines_held ws ++ line ∷ []
lines_held-control ws line =
    lines_in-push (ws.closed ++ unless_empty ws.open_lines) (line ∷ []) ∙ ap (λ lines. lines ++ line ∷ []) (lines_in-append ws.closed (unless_empty ws.open_lines) ∙ ap (λ lines. lines_in ws.closed ++ lines) (lines_in-unless_empty ws.open_lines))

pub lines_held-with_line : (limit : ℕ) (ws : Windows) (line : List ℕ) → lines_held (with_line limit ws line) ≡ lines_held ws ++ line ∷ []
lines_held-with_line limit ws line =
    elim (is_control (request_of line)) as (λ b. lines_held (if b then record { closed = ws.closed ++ unless_empty ws.open_lines ++ (line ∷ []) ∷ []; open_lines = [] } else with_open limit ws.closed (ws.open_lines ++ line ∷ [])) ≡ lines_held ws ++ line ∷ []) [
      | true ↦ lines_held-control ws line
      | false ↦ lines_held-with_open limit ws.closed (ws.open_lines ++ line ∷ []) ∙ sym (append_assoc (lines_in ws.closed) ws.open_lines (line ∷ []))
    ]

lines_held-fold : (limit : ℕ) (ws : Windows) (lines : List (List ℕ)) → lines_held (fold (with_line limit) ws lines) ≡ lines_held ws ++ lines
lines_held-fold limit ws [] = sym (append-nil (lines_held ws))
lines_held-fold limit ws (line ∷ lines) =
    lines_held-fold limit (with_line limit ws line) lines ∙ ap (λ held. held ++ lines) (lines_held-with_line limit ws line) ∙ append_assoc (lines_held ws) (line ∷ []) lines

-- windows hold the lines that they were made of
pub lines_held-windows_of : (limit : ℕ) (lines : List (List ℕ)) → lines_held (windows_of limit lines) ≡ lines
lines_held-windows_of limit lines = lines_held-fold limit (record { closed = []; open_lines = [] }) lines

-- ---- more lines

pub windows_of-push : (limit : ℕ) (lines : List (List ℕ)) (line : List ℕ) → windows_of limit (lines ++ line ∷ []) ≡ with_line limit (windows_of limit lines) line
windows_of-push limit lines line = fold-append (with_line limit) (record { closed = []; open_lines = [] }) lines (line ∷ [])

pub BeginsWith-trans : {X : Type 0} {whole front start : List X} → BeginsWith whole front → BeginsWith front start → BeginsWith whole start
BeginsWith-trans {start = start} b c =
    record { more = c.more ++ b.more; goes_on = b.goes_on ∙ ap (λ xs. xs ++ b.more) c.goes_on ∙ append_assoc start c.more b.more }

-- windows that have closed stay closed
closed-with_open : (limit : ℕ) (closed : List Window) (window : Window) → BeginsWith (with_open limit closed window).closed closed
closed-with_open limit closed window =
    elim (is_full limit window) as (λ b. let ws : Windows = if b then record { closed = closed ++ window ∷ []; open_lines = [] } else record { closed = closed; open_lines = window } in BeginsWith ws.closed closed) [
      | true ↦ record { more = window ∷ []; goes_on = refl }
      | false ↦ record { more = []; goes_on = sym (append-nil closed) }
    ]

pub closed-with_line : (limit : ℕ) (ws : Windows) (line : List ℕ) → BeginsWith (with_line limit ws line).closed ws.closed
closed-with_line limit ws line =
    elim (is_control (request_of line)) as (λ b. let next : Windows = if b then record { closed = ws.closed ++ unless_empty ws.open_lines ++ (line ∷ []) ∷ []; open_lines = [] } else with_open limit ws.closed (ws.open_lines ++ line ∷ []) in BeginsWith next.closed ws.closed) [
      | true ↦ record { more = unless_empty ws.open_lines ++ (line ∷ []) ∷ []; goes_on = append_assoc ws.closed (unless_empty ws.open_lines) ((line ∷ []) ∷ []) }
      | false ↦ closed-with_open limit ws.closed (ws.open_lines ++ line ∷ [])
    ]

pub closed-fold : (limit : ℕ) (ws : Windows) (lines : List (List ℕ)) → BeginsWith (fold (with_line limit) ws lines).closed ws.closed
closed-fold limit ws [] = record { more = []; goes_on = sym (append-nil ws.closed) }
closed-fold limit ws (line ∷ lines) = BeginsWith-trans (closed-fold limit (with_line limit ws line) lines) (closed-with_line limit ws line)

-- what has closed among lines is closed among more lines
pub closed-windows_of-append : (limit : ℕ) (lines more : List (List ℕ)) → BeginsWith (windows_of limit (lines ++ more)).closed (windows_of limit lines).closed
closed-windows_of-append limit lines more =
    subst (λ (ws : Windows). BeginsWith ws.closed (windows_of limit lines).closed) (sym (fold-append (with_line limit) (record { closed = []; open_lines = [] }) lines more)) (closed-fold limit (windows_of limit lines) more)
