-- Writes that are replayed where the files are told make the table over what is live in the components.
use Rattle.std.proofs.Common.{◌≡◌, ◌∙◌, ◌++◌, ℕ, List, [], ◌∷◌, Option, Some, None, map, refl, sym, ap, subst}
use Rattle.std.specs.Prelude.{All, fold}
use Rattle.std.specs.List.{AllZip}
use Rattle.std.proofs.lemmas.List.{map-append}
use Rattle.std.proofs.lemmas.List.Elements.{All-head, All-nil, All-tail}
use Rattle.tc_model.specs.Document.{ShapeTree}
use Rattle.tc_model.specs.Keyed.{value_of}
use Rattle.tc_log.specs.declared.write.Write as log
use Rattle.tc_log.specs.Writes.{key_of}
use Rattle.tc_plain_model.specs.Writes.{Write}
use Rattle.tc_component.specs.Loaded.{IsLoadedOf}
use Rattle.tc_component.specs.Loading.{ComponentState}
use Rattle.tc_lsm_model.specs.Contents.{Content, Partition}
use Rattle.tc_lsm_model.specs.Lists.{IsList, live}
use Rattle.tc_lsm_model.specs.Tables as documents
use Rattle.tc_memory.specs.DocumentTables.{IsStoredAt, IsTableOf}
use Rattle.tc_memory.specs.Table.{Table}
use Rattle.tc_memory.proofs.DocumentLaws.{IsTableOf-deleted, IsTableOf-upserted}
use Rattle.tc_machine.specs.Logs.{all_writes, kept_write}
use Rattle.tc_machine.specs.Writes.{IsStorableWrite}
use Rattle.tc_part_model.specs.Staging.{called}
use Rattle.tc_part_model.proofs.TableViews.{called_below}
use Rattle.tc_open.specs.LastWrites.{written_in}
use Rattle.tc_open.specs.Replays.{Replayed, Replays, put_in}

-- ---- one write

key_kept : (w : Write) → key_of (kept_write w) ≡ w.0
key_kept (key, Some d) = refl
key_kept (key, None) = refl

put_kept : (w : Write) (handed : Option ShapeTree) (t : Table) → put_in (kept_write w) handed t ≡ called w handed t
put_kept (key, Some d) handed t = refl
put_kept (key, None) handed t = refl

called_table : (below : ℕ → Option ShapeTree) (w : Write) (t : documents.Table) (kept : Table) → IsStorableWrite w → IsTableOf t kept → IsTableOf (documents.table_with below t w) (called w (below w.0) kept)
called_table below (key, Some d) t kept storable of = IsTableOf-upserted below key d t kept storable.document storable.storable of
called_table below (key, None) t kept storable of = IsTableOf-deleted below key t kept of

-- ---- all writes

module _ {F : Type 0} (content : F → Option (List ℕ)) (list : List (ComponentState F)) (part : Partition) (cs : List Content) (is_list : IsList part cs) (loaded : AllZip (IsLoadedOf content) list cs) where
  one_write : (w : Write) (t : documents.Table) (old new : Table) → IsStorableWrite w → IsTableOf t old → Replayed content list (kept_write w) old new → IsTableOf (documents.table_with (documents.shape_in (live cs)) t w) new
  one_write w t old new storable of is =
      let below = documents.shape_in (live cs) in
      let hands : value_of w.0 old ≡ None → is.0 ≡ below w.0 = λ none.
      subst (λ key. is.0 ≡ below key) (key_kept w) ((is.1 (subst (λ key. value_of key old ≡ None) (sym (key_kept w)) none)).shape part cs is_list loaded) in
      subst (λ kept. IsTableOf (documents.table_with below t w) kept) (sym (is.2 ∙ put_kept w is.0 old ∙ called_below w is.0 (below w.0) old hands)) (called_table below w t old storable of)

  all_replayed : (ws : List Write) (t : documents.Table) (old new : Table) → All IsStorableWrite ws → IsTableOf t old → Replays content list (map kept_write ws) old new → IsTableOf (fold (documents.table_with (documents.shape_in (live cs))) t ws) new
  all_replayed [] t old new storable of is = subst (λ kept. IsTableOf t kept) (sym is) of
  all_replayed (w ∷ ws) t old new storable of is =
      all_replayed ws (documents.table_with (documents.shape_in (live cs)) t w) is.0 new (All-tail IsStorableWrite w ws storable) (one_write w t old is.0 (All-head IsStorableWrite w ws storable) of is.1) is.2

  -- ---- all logs

  written_kept : (logs : List (List Write)) → written_in (map (λ log. map kept_write log) logs) ≡ map kept_write (all_writes logs)
  written_kept [] = refl
  written_kept (ws ∷ logs) = ap (λ more. map kept_write ws ++ more) (written_kept logs) ∙ sym (map-append kept_write ws (all_writes logs))

  pub replayed_table : (logs : List (List log.Write)) (ws : List (List Write)) (new : Table) → logs ≡ map (λ log. map kept_write log) ws → All IsStorableWrite (all_writes ws) → Replays content list (written_in logs) [] new
      → IsTableOf (documents.table_over (live cs) (all_writes ws)) new
  replayed_table logs ws new same storable is =
      all_replayed (all_writes ws) [] [] new storable (record { is = refl; stored = All-nil IsStoredAt }) (subst (λ us. Replays content list us [] new) (ap written_in same ∙ written_kept ws) is)
