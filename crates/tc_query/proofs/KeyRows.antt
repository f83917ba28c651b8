-- What one key more adds to rows and to reads.
use Rattle.std.proofs.Common.{◌≡◌, ◌≤◌, ◌+◌, ◌++◌, ◌∙◌, ℕ, List, Option, Some, None, length, map, sym, ap, arith}
use Rattle.std.proofs.lemmas.List.{map-append}
use Rattle.std.specs.Prelude.{All, IfSome}
use Rattle.std.specs.List.{AllZip}
use Rattle.tc_component.specs.Loading.{ComponentState}
use Rattle.tc_component.specs.Spelling.{IsIndex}
use Rattle.tc_list.specs.Contents.{Shows}
use Rattle.tc_memory.specs.Table.{Table, IsTable}
use Rattle.tc_request_model.specs.Request.{Ask}
use Rattle.tc_request_model.specs.Rows.{rows_over}
use Rattle.tc_request_model.specs.Rendered.{RowText, row_text}
use Rattle.tc_plain_model.specs.Writes.{Pairs}
use Rattle.tc_query.proofs.RowSteps.{rows-next, rows-end, reads-next}
use Rattle.tc_query.proofs.ShownKeys.{Ascends-shown, live_shown, few_below}
use Rattle.tc_query.proofs.StoredKeys.{Ascends-stored}
use Rattle.tc_query.proofs.WalkedKeys.{gap_stored, gap_shown, end_stored}
use Rattle.tc_query.specs.Faults.{IsReadIf}
use Rattle.tc_query.specs.Rows.{rows_at, texts_at, below}
use Rattle.tc_query.specs.Shown.{IsListed, unread, shown, live_keys}
use Rattle.tc_query.specs.Stored.{Holds}
use Rattle.tc_query.specs.Walking.{IsNext, HasNoneIn}
use Rattle.tc_store.specs.Counted.{Counts}

module _ {F : Type 0} (told : F → Option (List ℕ)) (cs : List (ComponentState F)) (sealed : Option Table) (active : Table) where
  -- ---- reads

  pub reads_more : (low key first : ℕ) (old new : Counts) → All (λ (c : ComponentState F). IsIndex c.index) cs → IsNext low (Some key) (HasNoneIn cs sealed active) → IsReadIf (IsListed cs sealed active key) old new
      → old.reads ≤ first + length (below low (shown cs sealed active)) → new.reads ≤ first + length (below (key + 1) (shown cs sealed active))
  reads_more low key first old new lawful next one before =
      reads-next low key (shown cs sealed active) (IsListed cs sealed active key) first old new (Ascends-shown cs sealed active) next.0 (gap_shown told cs sealed active low key next)
      (λ listed. (unread, live_shown cs sealed active key lawful listed)) before one

  pub reads_within : (n first : ℕ) (now : Counts) → now.reads ≤ first + length (below n (shown cs sealed active)) → now.reads ≤ first + live_keys cs sealed active
  reads_within n first now before = let few = few_below n (shown cs sealed active) in omega (arith, before, few)

  -- where the call ends behind the read of a key
  pub reads_ended : (low key first : ℕ) (old new : Counts) → All (λ (c : ComponentState F). IsIndex c.index) cs → IsNext low (Some key) (HasNoneIn cs sealed active) → IsReadIf (IsListed cs sealed active key) old new
      → old.reads ≤ first + length (below low (shown cs sealed active)) → new.reads ≤ first + live_keys cs sealed active
  reads_ended low key first old new lawful next one before = reads_within (key + 1) first new (reads_more low key first old new lawful next one before)

  -- ---- rows

  module _ (pairs : Pairs) (h : Holds told cs sealed active pairs) (sealed_is : IfSome sealed IsTable) (active_is : IsTable active) (shows : AllZip Shows cs h.contents) (ask : Ask) where
    pub rows_more : (low key : ℕ) (before row after : List RowText) → IsNext low (Some key) (HasNoneIn cs sealed active) → before ≡ map row_text (rows_over ask (below low pairs)) → row ≡ texts_at ask key pairs
        → after ≡ before ++ row → after ≡ map row_text (rows_over ask (below (key + 1) pairs))
    rows_more low key before row after next done one pushed =
        pushed ∙ ap (λ rows. rows ++ row) done ∙ ap (λ rows. map row_text (rows_over ask (below low pairs)) ++ rows) one
        ∙ sym (map-append row_text (rows_over ask (below low pairs)) (rows_at ask key pairs))
        ∙ sym (ap (map row_text) (rows-next ask low key pairs (Ascends-stored told cs sealed active pairs h) next.0 (gap_stored told cs sealed active pairs h sealed_is active_is shows low key next)))

    pub rows_whole : (low : ℕ) (rows : List RowText) → IsNext low None (HasNoneIn cs sealed active) → rows ≡ map row_text (rows_over ask (below low pairs)) → rows ≡ map row_text (rows_over ask pairs)
    rows_whole low rows next done =
        done ∙ ap (map row_text) (rows-end ask low pairs (Ascends-stored told cs sealed active pairs h) (end_stored told cs sealed active pairs h sealed_is active_is shows low next))
