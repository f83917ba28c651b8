-- Where windows are cut: each that has closed is a command of the whole store, is full, or stands before such a command.
use Rattle.std.proofs.Common.{◌≡◌, ◌⊎◌, ℕ, Bool, true, false, List, [], ◌∷◌, ◌++◌, refl, ap, sym, subst, ◌∙◌, append_assoc, inl, inr}
use Rattle.std.specs.Prelude.{fold, if◌then◌else◌}
use Rattle.tc_model.specs.Lines.{lines_of}
use Rattle.tc_request_model.specs.Request.{request_of}
use Rattle.tc_run_model.specs.Windows.{Window, Windows, is_control, is_full, unless_empty, with_open, with_line, windows_of, windows, lines_in, AreCut, HasReason}
use Rattle.tc_run_model.proofs.WindowLaws.{lines_in-append, lines_in-unless_empty, lines_held-windows_of}

-- the windows of an input hold its lines
pub lines_in-windows : (limit : ℕ) (input : List ℕ) → lines_in (windows limit input) ≡ lines_of input
lines_in-windows limit input =
    let ws = windows_of limit (lines_of input) in
    lines_in-append ws.closed (unless_empty ws.open_lines) ∙ ap (λ more. lines_in ws.closed ++ more) (lines_in-unless_empty ws.open_lines) ∙ lines_held-windows_of limit (lines_of input)

reason_kept : (limit : ℕ) (window : Window) (us vs : List Window) → HasReason limit window us → HasReason limit window (us ++ vs)
reason_kept limit window us vs (inl control) = inl control
reason_kept limit window us vs (inr (inl full)) = inr (inl full)
reason_kept limit window [] vs (inr (inr before)) = absurd before
reason_kept limit window (u ∷ us) vs (inr (inr before)) = inr (inr before)

cut-append : (limit : ℕ) (us vs : List Window) → AreCut limit us → AreCut limit vs → AreCut limit (us ++ vs)
cut-append limit [] vs first rest = rest
cut-append limit (u ∷ us) vs first rest = (reason_kept limit u us vs first.0, cut-append limit us vs first.1 rest)

-- the open window before a command of the whole store
cut_control : (limit : ℕ) (window : Window) (line : List ℕ) → is_control (request_of line) ≡ true → AreCut limit (unless_empty window ++ (line ∷ []) ∷ [])
cut_control limit [] line control = (inl (record { line = line; alone = refl; control = control }), tt)
cut_control limit (first ∷ lines) line control =
    (inr (inr (record { line = line; alone = refl; control = control })), (inl (record { line = line; alone = refl; control = control }), tt))

cut-with_open : (limit : ℕ) (closed : List Window) (window : Window) → AreCut limit closed → AreCut limit (with_open limit closed window).closed
cut-with_open limit closed window cut = cases (is_full limit window) refl
  where
    cases : (b : Bool) → is_full limit window ≡ b → (let ws : Windows = if b then record { closed = closed ++ window ∷ []; open_lines = [] } else record { closed = closed; open_lines = window } in AreCut limit ws.closed)
    cases true full = cut-append limit closed (window ∷ []) cut (inr (inl full), tt)
    cases false full = cut

cut-with_line : (limit : ℕ) (ws : Windows) (line : List ℕ) → AreCut limit ws.closed → AreCut limit (with_line limit ws line).closed
cut-with_line limit ws line cut = cases (is_control (request_of line)) refl
  where
    cases : (b : Bool) → is_control (request_of line) ≡ b
        → (let next : Windows = if b then record { closed = ws.closed ++ unless_empty ws.open_lines ++ (line ∷ []) ∷ []; open_lines = [] } else with_open limit ws.closed (ws.open_lines ++ line ∷ []) in AreCut limit next.closed)
    cases true control =
        subst (AreCut limit) (sym (append_assoc ws.closed (unless_empty ws.open_lines) ((line ∷ []) ∷ [])))
        (cut-append limit ws.closed (unless_empty ws.open_lines ++ (line ∷ []) ∷ []) cut (cut_control limit ws.open_lines line control))
    cases false plain = cut-with_open limit ws.closed (ws.open_lines ++ line ∷ []) cut

cut-fold : (limit : ℕ) (ws : Windows) (lines : List (List ℕ)) → AreCut limit ws.closed → AreCut limit (fold (with_line limit) ws lines).closed
cut-fold limit ws [] cut = cut
cut-fold limit ws (line ∷ lines) cut = cut-fold limit (with_line limit ws line) lines (cut-with_line limit ws line cut)

-- each window that has closed has one of the reasons
pub windows_are_cut : (limit : ℕ) (lines : List (List ℕ)) → AreCut limit (windows_of limit lines).closed
windows_are_cut limit lines = cut-fold limit (record { closed = []; open_lines = [] }) lines tt
