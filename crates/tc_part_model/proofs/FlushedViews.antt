-- What a part has in memory once its flush is listed: what it stores, its tables and its names are as they were.
use Rattle.std.proofs.Common.{◌≡◌, ◌++◌, List, [], ◌∷◌, sym, ap, ◌∙◌, subst, append-nil}
use Rattle.tc_plain_model.specs.Store.{names_after}
use Rattle.tc_plain_model.specs.Writes.{Write, after_writes}
use Rattle.tc_lsm_model.specs.Contents.{Content}
use Rattle.tc_lsm_model.specs.Flushes.{IsFlush}
use Rattle.tc_lsm_model.specs.Lists.{live}
use Rattle.tc_lsm_model.specs.Tables.{Table, over, writes_of}
use Rattle.tc_lsm_model.proofs.FlushLaws.{flushed_live, names_of-push}
use Rattle.tc_machine.specs.Events.{flush_installed, step}
use Rattle.tc_machine.specs.Kept.{IsMemoryKept}
use Rattle.tc_machine.specs.State.{table_after}
use Rattle.tc_machine.specs.Writes.{AreFew, HasRoom}
use Rattle.tc_machine.proofs.MemorySteps.{flush_installed_memory, rebased_memory, same_store}
use Rattle.tc_part_model.specs.PartView.{PartView, MayStart, below_of, names_in, state_of, store_of, stored_with, table_of}
use Rattle.tc_part_model.proofs.FlushInstalls.{after, flushed_soon}

module _ (p : PartView) (table : Table) (ws : List Write) (c : Content) (is_flush : IsFlush p.part p.list table 1 c) where
  pub below_stays : below_of (after p table ws c is_flush) ≡ below_of (flushed_soon p table ws)
  below_stays = flushed_live p.part p.list table 1 c is_flush

  pub table_stays : table_of (after p table ws c is_flush) ≡ table_of (flushed_soon p table ws)
  table_stays = ap (λ below. table_after below p.active.table p.staged) below_stays

  pub names_stay : names_in (after p table ws c is_flush) ≡ names_in (flushed_soon p table ws)
  names_stay = ap (λ ns. names_after ns (writes_of p.active.table ++ p.staged)) (names_of-push p.list c ∙ is_flush.names)

  module _ (memory : IsMemoryKept p.part (state_of (flushed_soon p table ws))) where
    installed_memory : IsMemoryKept p.part (step (flush_installed c) (state_of (flushed_soon p table ws)))
    installed_memory = flush_installed_memory p.part (state_of (flushed_soon p table ws)) (record { table = table; logs = ws ∷ [] }) (flushed_soon p table ws).flush c memory is_flush

    pub flushed_memory : IsMemoryKept p.part (state_of (after p table ws c is_flush))
    flushed_memory = rebased_memory p.part (step (flush_installed c) (state_of (flushed_soon p table ws))) installed_memory

    pub store_stays : store_of (after p table ws c is_flush) ≡ store_of (flushed_soon p table ws)
    store_stays =
        same_store p.part (step (flush_installed c) (state_of (flushed_soon p table ws))) installed_memory
        ∙ ap (λ vs. after_writes (live p.list) (vs ++ (p.active.writes ++ []))) (append-nil ws)

    pub stored_stays : stored_with (after p table ws c is_flush) ≡ stored_with (flushed_soon p table ws)
    stored_stays = ap (λ pairs. after_writes pairs p.staged) store_stays

    pub flushed_starts : MayStart (flushed_soon p table ws) → MayStart (after p table ws c is_flush)
    flushed_starts start = record {
      each = start.each;
      room = subst (λ below. HasRoom (after_writes (over below p.active.table) p.staged)) (sym below_stays) start.room;
      few = subst (λ ns. AreFew ns) (sym names_stay) start.few;
    }
