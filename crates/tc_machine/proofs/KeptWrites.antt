-- What a log keeps of writes is kept of no other writes, so that bytes mean one list of writes.
use Rattle.std.proofs.Common.{◌≡◌, ℕ, List, [], ◌∷◌, refl, sym, ap, ◌∙◌, subst, arith, Some, None}
use Rattle.std.specs.Prelude.{All, map}
use Rattle.std.proofs.lemmas.List.Elements.{All-head, All-tail}
use Rattle.tc_model.specs.Document.{Document}
use Rattle.tc_model.proofs.StoredDocuments.{keyless_object}
use Rattle.tc_plain_model.specs.Writes.{Write}
use Rattle.tc_lsm_model.specs.Contents.{Partition}
use Rattle.tc_record.specs.Record.{record_of, IsRecordOf}
use Rattle.tc_record.proofs.OneDocument.{documents_are_one}
use Rattle.tc_log.specs.declared.write.Write as log
use Rattle.tc_log.specs.declared.write.Write.TheVariants.{Upsert, Delete}
use Rattle.tc_log.proofs.Appended.{means_same}
use Rattle.tc_machine.specs.Writes.{IsStorableWrite}
use Rattle.tc_machine.specs.Logs.{log_head, kept_write, IsLog}

is_record : (key : ℕ) (d : Document) → IsStorableWrite (key, Some d) → IsRecordOf d (record_of d)
is_record key d is = record { document = is.document; is_object = keyless_object d is.storable.1; shallow = is.storable.0; spelled = refl; short = omega (arith, is.short) }

same_record : (k j : ℕ) (d e : Document) → IsStorableWrite (k, Some d) → IsStorableWrite (j, Some e) → record_of d ≡ record_of e → d ≡ e
same_record k j d e one two same = documents_are_one d e (record_of d) (is_record k d one) (subst (IsRecordOf e) (sym same) (is_record j e two))

one_kept : (w v : Write) → IsStorableWrite w → IsStorableWrite v → kept_write w ≡ kept_write v → w ≡ v
one_kept (k, Some d) (j, Some e) s t same = both
  where
    keys : Upsert k (record_of d) ≡ Upsert j (record_of e) → k ≡ j
    keys q = cc

    records : Upsert k (record_of d) ≡ Upsert j (record_of e) → record_of d ≡ record_of e
    records q = cc

    both : ◌≡◌ {A = Write} (k, Some d) (j, Some e)
    both = ap (λ (n : ℕ). let w : Write = (n, Some d) in w) (keys same) ∙ ap (λ (x : Document). let w : Write = (j, Some x) in w) (same_record k j d e s t (records same))
one_kept (k, Some d) (j, None) s t same = absurd (cc)
one_kept (k, None) (j, Some e) s t same = absurd (cc)
one_kept (k, None) (j, None) s t same = both
  where
    keys : Delete k ≡ Delete j → k ≡ j
    keys q = cc

    both : ◌≡◌ {A = Write} (k, None) (j, None)
    both = ap (λ (n : ℕ). let w : Write = (n, None) in w) (keys same)

head_same : (x y : log.Write) (xs ys : List log.Write) → x ∷ xs ≡ y ∷ ys → x ≡ y
head_same x y xs ys e = cc

tail_same : (x y : log.Write) (xs ys : List log.Write) → x ∷ xs ≡ y ∷ ys → xs ≡ ys
tail_same x y xs ys e = cc

pub all_kept : (ws vs : List Write) → All IsStorableWrite ws → All IsStorableWrite vs → map kept_write ws ≡ map kept_write vs → ws ≡ vs
all_kept [] [] a b same = refl
all_kept [] (v ∷ vs) a b same = absurd (cc)
all_kept (w ∷ ws) [] a b same = absurd (cc)
all_kept (w ∷ ws) (v ∷ vs) a b same =
    ap (λ x. x ∷ ws) (one_kept w v (All-head IsStorableWrite w ws a) (All-head IsStorableWrite v vs b) (head_same (kept_write w) (kept_write v) (map kept_write ws) (map kept_write vs) same))
    ∙ ap (λ l. v ∷ l) (all_kept ws vs (All-tail IsStorableWrite w ws a) (All-tail IsStorableWrite v vs b) (tail_same (kept_write w) (kept_write v) (map kept_write ws) (map kept_write vs) same))

pub logs_mean_one : (part : Partition) (g : ℕ) (bytes : List ℕ) (ws vs : List Write) → All IsStorableWrite ws → All IsStorableWrite vs → IsLog part g ws bytes → IsLog part g vs bytes → ws ≡ vs
logs_mean_one part g bytes ws vs a b one two =
    all_kept ws vs a b (means_same bytes (log_head part g) (log_head part g) (map kept_write ws) (map kept_write vs) one two).1
