-- The row of an entry.
use Rattle.std.proofs.Common.{◌≡◌, ◌∙◌, ◌<◌, ◌+◌, ℕ, Bool, true, false, List, [], ◌∷◌, Option, None, Some, take, drop, refl, sym, ap, subst, arith}
use Rattle.std.specs.Prelude.{◌==◌, if◌then◌else◌, All, IfSome, IsSome, is_some, unwrap_or}
use Rattle.std.proofs.lemmas.Bool.{true≢false}
use Rattle.std.proofs.lemmas.Bool.Decides.{nat_tests}
use Rattle.std.proofs.lemmas.List.{drop-drop}
use Rattle.std.proofs.lemmas.List.Elements.{All-nil, All-cons}
use Rattle.tc_component.specs.declared.found.Span.{Span}
use Rattle.tc_component.specs.declared.slot.Slot.{Slot}
use Rattle.tc_component.specs.Loading.{ComponentState}
use Rattle.tc_component.specs.Spans.{IsSpan}
use Rattle.tc_component.specs.Spelling.{Row, slot, lengths_of}
use Rattle.tc_merge.specs.Inputs.{rows_from}
use Rattle.tc_merge.specs.Merging.{rewritten, held_in, rows_in, kept, live_rows}
use Rattle.tc_merge.proofs.RowsAhead.{rows_there}

same_row : (row one : Row) (left rest : List Row) → row ∷ left ≡ one ∷ rest → row ≡ one
same_row row one left rest is = cc

module _ (version : ℕ) (slots : List Slot) (at : ℕ) (e : Span) (is : IsSpan slots at e) where
  gone_there : (bytes : List ℕ) (row : Row) (left : List Row) → e.count ≡ 0 → drop at (rows_in version slots bytes) ≡ row ∷ left → row ≡ (e.key, None)
  gone_there bytes row left none rows =
      same_row row (e.key, held_in version e.count (drop (lengths_of (take at slots)) bytes)) left (drop (at + 1) (rows_in version slots bytes)) (sym rows ∙ rows_there version slots bytes at (slot e.key e.count) is.here)
      ∙ ap (λ n. (e.key, held_in version n (drop (lengths_of (take at slots)) bytes))) none

  held_some : (bytes : List ℕ) → 0 < e.count → held_in version e.count bytes ≡ Some (rewritten version (take e.count bytes))
  held_some bytes some =
      let other : (e.count == 0) ≡ false = grind (arith, nat_tests) in
      ap (λ b. if b then None else Some (rewritten version (take e.count bytes))) other

  live_there : (whole : List ℕ) (row : Row) (left : List Row) → 0 < e.count → drop at (rows_in version slots (drop 61 whole)) ≡ row ∷ left → row ≡ (e.key, Some (rewritten version (take e.count (drop e.begin whole))))
  live_there whole row left live rows =
      let start = lengths_of (take at slots) in
      same_row row (e.key, held_in version e.count (drop start (drop 61 whole))) left (drop (at + 1) (rows_in version slots (drop 61 whole))) (sym rows ∙ rows_there version slots (drop 61 whole) at (slot e.key e.count) is.here)
      ∙ ap (λ held. (e.key, held)) (held_some (drop start (drop 61 whole)) live)
      ∙ ap (λ bytes. (e.key, Some (rewritten version (take e.count bytes)))) (drop-drop start 61 whole)
      ∙ ap (λ place. (e.key, Some (rewritten version (take e.count (drop place whole))))) (sym is.begin)

pub gone_row : {F : Type 0} (content : F → Option (List ℕ)) (c : ComponentState F) (at : ℕ) (e : Span) (row : Row) (left : List Row) → IsSpan c.index.slots at e → e.count ≡ 0 → rows_from content c at ≡ row ∷ left
    → (e.key, None) ≡ row
gone_row content c at e row left is none rows = sym (gone_there c.index.version c.index.slots at e is (drop 61 (unwrap_or (content c.file) [])) row left none rows)

-- a row with a record is kept
pub kept_live : (from key : ℕ) (bytes : List ℕ) → kept from ((key, Some bytes) ∷ []) ≡ (key, Some bytes) ∷ []
kept_live from key bytes = cases (from == 1)
  where
    cases : (b : Bool) → ◌≡◌ {A = List Row} (if b then (key, Some bytes) ∷ [] else (key, Some bytes) ∷ []) ((key, Some bytes) ∷ [])
    cases true = refl
    cases false = refl

-- the row of an entry with a record, by its bytes in a file that tells
pub live_put : {F : Type 0} (content : F → Option (List ℕ)) (c : ComponentState F) (at : ℕ) (e : Span) (from : ℕ) (row : Row) (left : List Row) (P : List Row → Type 0) → IsSpan c.index.slots at e → 0 < e.count
    → IsSome (content c.file) → rows_from content c at ≡ row ∷ left → IfSome (content c.file) (λ whole. P ((e.key, Some (rewritten c.index.version (take e.count (drop e.begin whole)))) ∷ [])) → P (kept from (row ∷ []))
live_put {F} content c at e from row left P is live told rows put = step (content c.file) told rows put
  where
    step : (o : Option (List ℕ)) → IsSome o → drop at (rows_in c.index.version c.index.slots (drop 61 (unwrap_or o []))) ≡ row ∷ left
        → IfSome o (λ whole. P ((e.key, Some (rewritten c.index.version (take e.count (drop e.begin whole)))) ∷ [])) → P (kept from (row ∷ []))
    step None told rows put = absurd (true≢false (sym told))
    step (Some whole) told rows put =
        subst (λ r. P (kept from (r ∷ []))) (sym (live_there c.index.version c.index.slots at e is whole row left live rows))
        (subst P (sym (kept_live from e.key (rewritten c.index.version (take e.count (drop e.begin whole))))) put)

-- bytes that were read are those of a file that tells
pub if_read : (o : Option (List ℕ)) (bytes held : List ℕ) (part : List ℕ → List ℕ) (P : List ℕ → Type 0) → bytes ≡ held → IfSome o (λ whole. held ≡ part whole) → P bytes → IfSome o (λ whole. P (part whole))
if_read None bytes held part P same read p = tt
if_read (Some whole) bytes held part P same read p = subst P (same ∙ read) p

-- what is so of the bytes of a file that tells is so of the row
pub live_judged : {F : Type 0} (content : F → Option (List ℕ)) (c : ComponentState F) (at : ℕ) (e : Span) (row : Row) (left : List Row) (P : List ℕ → Type 0) → IsSpan c.index.slots at e → 0 < e.count
    → IsSome (content c.file) → rows_from content c at ≡ row ∷ left → IfSome (content c.file) (λ whole. P (rewritten c.index.version (take e.count (drop e.begin whole)))) → IfSome row.1 P
live_judged {F} content c at e row left P is live told rows judged = step (content c.file) told rows judged
  where
    step : (o : Option (List ℕ)) → IsSome o → drop at (rows_in c.index.version c.index.slots (drop 61 (unwrap_or o []))) ≡ row ∷ left
        → IfSome o (λ whole. P (rewritten c.index.version (take e.count (drop e.begin whole)))) → IfSome row.1 P
    step None told rows judged = absurd (true≢false (sym told))
    step (Some whole) told rows judged = subst (λ (r : Row). IfSome r.1 P) (sym (live_there c.index.version c.index.slots at e is whole row left live rows)) judged

-- a row that is left out breaks nothing
pub all_kept : (P : Row → Type 0) (from : ℕ) (row : Row) → P row → All P (kept from (row ∷ []))
all_kept P from row p = cases (from == 1) (is_some row.1)
  where
    cases : (b c : Bool) → All P (if b then (if c then row ∷ [] else []) else row ∷ [])
    cases true true = All-cons P row [] p (All-nil P)
    cases true false = All-nil P
    cases false c = All-cons P row [] p (All-nil P)

pub live_one : {F : Type 0} (content : F → Option (List ℕ)) (c : ComponentState F) (at : ℕ) (e : Span) (row : Row) (left : List Row) → IsSpan c.index.slots at e → 0 < e.count
    → rows_from content c at ≡ row ∷ left → live_rows (row ∷ []) ≡ 1
live_one content c at e row left is live rows = subst (λ (r : Row). live_rows (r ∷ []) ≡ 1) (sym (live_there c.index.version c.index.slots at e is (unwrap_or (content c.file) []) row left live rows)) refl
