-- Calls that move documents, one after another, change nothing else.
use Rattle.std.proofs.Common.{◌≡◌, ◌∙◌, refl, sym, ap, subst}
use Rattle.tc_part_model.specs.PartState.{PartState}
use Rattle.tc_work.specs.Settling.{HasOnlyMoved}

module _ {S D F W : Type 0} where
  pub moved_then : (old mid new : PartState S D F W) → HasOnlyMoved old mid → HasOnlyMoved mid new → HasOnlyMoved old new
  moved_then old mid new one two =
      two
      ∙ ap (λ (s : PartState S D F W). record s {
        store = new.store;
        main = new.main;
        flusher = new.flusher;
        merger = new.merger;
        list = new.list;
        sealed = new.sealed;
        sealed_log = new.sealed_log;
        active = new.active;
        log = new.log;
        generation = new.generation;
        flushing = new.flushing;
        merging = new.merging;
        failed = new.failed;
      }) one

  -- while components are merged, and while a flush is listed besides
  abbrev pub HasOnlyMerged : PartState S D F W → PartState S D F W → Type 0
  HasOnlyMerged old new = new ≡ record old { store = new.store; main = new.main; merger = new.merger; list = new.list; merging = new.merging }

  abbrev pub HasOnlyListed : PartState S D F W → PartState S D F W → Type 0
  HasOnlyListed old new = new ≡ record old { store = new.store; main = new.main; flusher = new.flusher; merger = new.merger; list = new.list; sealed = new.sealed; sealed_log = new.sealed_log; flushing = new.flushing; merging = new.merging }

  pub merged_then : (old mid new : PartState S D F W) → HasOnlyMerged old mid → HasOnlyMerged mid new → HasOnlyMerged old new
  merged_then old mid new one two = two ∙ ap (λ (s : PartState S D F W). record s { store = new.store; main = new.main; merger = new.merger; list = new.list; merging = new.merging }) one

  pub listed_then : (old mid new : PartState S D F W) → HasOnlyListed old mid → HasOnlyListed mid new → HasOnlyListed old new
  listed_then old mid new one two =
      two ∙ ap (λ (s : PartState S D F W). record s { store = new.store; main = new.main; flusher = new.flusher; merger = new.merger; list = new.list; sealed = new.sealed; sealed_log = new.sealed_log; flushing = new.flushing; merging = new.merging }) one

  pub listed_of_merged : (old new : PartState S D F W) → HasOnlyMerged old new → HasOnlyListed old new
  listed_of_merged old new is = subst (λ (s : PartState S D F W). HasOnlyListed old s) (sym is) refl
