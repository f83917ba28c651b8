-- What a kept state holds.
use Rattle.std.proofs.Common.{◌≡◌, List, [], ◌∷◌, ◌++◌, refl, sym, ap, ◌∙◌, Option, Some, None, append_assoc, append-nil}
use Rattle.std.specs.Prelude.{IfSome}
use Rattle.std.proofs.lemmas.List.Concat.{flat_map-append}
use Rattle.tc_model.specs.Keyed.{Ascends}
use Rattle.tc_plain_model.specs.Writes.{Pairs, Write, after_writes}
use Rattle.tc_plain_model.proofs.WriteLaws.{after_writes-append}
use Rattle.tc_plain_model.proofs.WriteLookups.{Ascends-after_writes}
use Rattle.tc_lsm_model.specs.Contents.{Partition}
use Rattle.tc_lsm_model.specs.Lists.{live}
use Rattle.tc_lsm_model.specs.Tables.{KeepsShapes, over, table_over}
use Rattle.tc_lsm_model.proofs.ListLaws.{Ascends-live}
use Rattle.tc_lsm_model.proofs.TableLaws.{IsTableOver, IsTableOver-table_over, over-table_over}
use Rattle.tc_machine.specs.Kept.{IsMemoryKept}
use Rattle.tc_machine.specs.Logs.{all_writes}
use Rattle.tc_machine.specs.State.{Active, Sealed, State, active_logs, active_table, below_active, held, history, sealed_logs, sealed_table}

pub all_writes-append : (xs ys : List (List Write)) → all_writes (xs ++ ys) ≡ all_writes xs ++ all_writes ys
all_writes-append xs ys = flat_map-append (λ ws. ws) xs ys

pub all_writes-one : (ws : List Write) → all_writes (ws ∷ []) ≡ ws
all_writes-one ws = append-nil ws

-- ---- tables over stores

pub sealed_is : (p : Pairs) (sealed : Option Sealed) → Ascends p → IfSome sealed (λ d. d.table ≡ table_over p (all_writes d.logs)) → over p (sealed_table sealed) ≡ after_writes p (all_writes (sealed_logs sealed))
sealed_is p None up is = refl
sealed_is p (Some d) up is = rw is (over-table_over p (all_writes d.logs) up)

pub active_is : (p : Pairs) (active : Option Active) → Ascends p → IfSome active (λ d. d.table ≡ table_over p d.writes) → over p (active_table active) ≡ after_writes p (all_writes (active_logs active))
active_is p None up is = refl
active_is p (Some d) up is = rw (is, append-nil d.writes) (over-table_over p d.writes up)

pub sealed_table_over : (p : Pairs) (sealed : Option Sealed) → IfSome sealed (λ d. d.table ≡ table_over p (all_writes d.logs)) → IsTableOver p (sealed_table sealed)
sealed_table_over p None is = IsTableOver-table_over p []
sealed_table_over p (Some d) is = rw is (IsTableOver-table_over p (all_writes d.logs))

pub active_table_over : (p : Pairs) (active : Option Active) → IfSome active (λ d. d.table ≡ table_over p d.writes) → IsTableOver p (active_table active)
active_table_over p None is = IsTableOver-table_over p []
active_table_over p (Some d) is = rw is (IsTableOver-table_over p d.writes)

-- ---- what is held

module _ {part : Partition} {s : State} where
  pub sealed_holds : IsMemoryKept part s → below_active s ≡ after_writes s.base (s.folded ++ all_writes (sealed_logs s.sealed))
  sealed_holds k =
      sealed_is (live s.list) s.sealed (Ascends-live s.list) k.sealed
      ∙ ap (λ p. after_writes p (all_writes (sealed_logs s.sealed))) k.list_holds
      ∙ sym (after_writes-append s.base s.folded (all_writes (sealed_logs s.sealed)))

  pub Ascends-below : IsMemoryKept part s → Ascends (below_active s)
  Ascends-below k = rw (sealed_is (live s.list) s.sealed (Ascends-live s.list) k.sealed) (Ascends-after_writes (live s.list) (all_writes (sealed_logs s.sealed)) (Ascends-live s.list))

  pub holds : IsMemoryKept part s → held s ≡ after_writes s.base (history s)
  holds k =
      active_is (below_active s) s.active (Ascends-below k) k.active
      ∙ ap (λ p. after_writes p (all_writes (active_logs s.active))) (sealed_holds k)
      ∙ sym (after_writes-append s.base (s.folded ++ all_writes (sealed_logs s.sealed)) (all_writes (active_logs s.active)))
      ∙ ap (λ ws. after_writes s.base ws) (append_assoc s.folded (all_writes (sealed_logs s.sealed)) (all_writes (active_logs s.active))
      ∙ ap (λ ws. s.folded ++ ws) (sym (all_writes-append (sealed_logs s.sealed) (active_logs s.active))))

  pub sealed_shapes : IsMemoryKept part s → KeepsShapes (live s.list) (sealed_table s.sealed)
  sealed_shapes k = (sealed_table_over (live s.list) s.sealed k.sealed).keeps

  pub active_shapes : IsMemoryKept part s → KeepsShapes (below_active s) (active_table s.active)
  active_shapes k = (active_table_over (below_active s) s.active k.active).keeps
