-- Writes put into a memory table one after the other, and the names of the table that they make.
use Rattle.std.proofs.Common.{◌≡◌, ◌∙◌, ℕ, List, [], ◌∷◌, ◌++◌, fold, Option, None, Some, refl, sym, subst, ap}
use Rattle.std.specs.Prelude.{All}
use Rattle.std.proofs.lemmas.List.Elements.{All-head, All-nil}
use Rattle.std.proofs.lemmas.List.Sums.{fold-append}
use Rattle.tc_model.specs.Document.{Document, IsDocument, Name, ShapeTree}
use Rattle.tc_model.specs.Stored.{IsStorable}
use Rattle.tc_model.specs.Dictionary.{all_learned}
use Rattle.tc_model.specs.Keyed.{Ascends, values_in}
use Rattle.tc_model.specs.ShapeNames.{names_of_documents}
use Rattle.tc_record.specs.Record.{record_of}
use Rattle.tc_log.specs.declared.write.Write.{Write as LogWrite}
use Rattle.tc_log.specs.declared.write.Write.TheVariants.{Delete, Upsert}
use Rattle.tc_memory.specs.DocumentTables.{IsStoredAt, IsTableOf}
use Rattle.tc_memory.specs.Table as memory
use Rattle.tc_plain_model.specs.Store.{names_after}
use Rattle.tc_plain_model.specs.Writes.{Pairs, Write, after_writes, set, unset}
use Rattle.tc_lsm_model.specs.Tables.{Table, over, shape_in, shapes_held, table_over, table_with}
use Rattle.tc_machine.specs.Writes.{IsStorableWrite}
use Rattle.tc_machine.proofs.Options.{All-back, All-front}
use Rattle.tc_flush.specs.Recounting.{names_with}
use Rattle.tc_flush.proofs.TableDocuments.{SetDocuments, names_with-held}
use Rattle.tc_check.specs.Naming.{PutsIn}
use Rattle.tc_check.proofs.DocumentCounts.{split}

-- ---- one write

-- what a call on a memory table makes of a table of documents
abbrev pub UpsertsAre : Type 0
UpsertsAre = (below : ℕ → Option ShapeTree) (key : ℕ) (d : Document) (t : Table) (kept : memory.Table) → IsDocument d → IsStorable d → IsTableOf t kept → IsTableOf (table_with below t (set key d)) (memory.upserted key (record_of d) (below key) kept)

abbrev pub DeletesAre : Type 0
DeletesAre = (below : ℕ → Option ShapeTree) (key : ℕ) (t : Table) (kept : memory.Table) → IsTableOf t kept → IsTableOf (table_with below t (unset key)) (memory.deleted key (below key) kept)

pub upsert_puts : UpsertsAre → (key : ℕ) (bytes : List ℕ) (old new : memory.Table) → new ≡ memory.upserted key bytes None old → PutsIn (Upsert key bytes ∷ []) old new
upsert_puts puts key bytes old new made t [] same all is = absurd (cc)
upsert_puts puts key bytes old new made t ((k, None) ∷ ws) same all is = absurd (cc)
upsert_puts puts key bytes old new made t ((k, Some d) ∷ v ∷ ws) same all is = absurd (cc)
upsert_puts puts key bytes old new made t ((k, Some d) ∷ []) same all is =
    let keys : key ≡ k = cc in
    let records : bytes ≡ record_of d = cc in
    let w = All-head IsStorableWrite (k, Some d) [] all in
    let here : new ≡ memory.upserted k (record_of d) None old = made ∙ (ap (λ n. memory.upserted n bytes None old) keys ∙ ap (λ b. memory.upserted k b None old) records) in
    subst (IsTableOf (table_with (shape_in []) t (k, Some d))) (sym here) (puts (shape_in []) k d t old w.document w.storable is)

pub delete_puts : DeletesAre → (key : ℕ) (old new : memory.Table) → new ≡ memory.deleted key None old → PutsIn (Delete key ∷ []) old new
delete_puts puts key old new made t [] same all is = absurd (cc)
delete_puts puts key old new made t ((k, Some d) ∷ ws) same all is = absurd (cc)
delete_puts puts key old new made t ((k, None) ∷ v ∷ ws) same all is = absurd (cc)
delete_puts puts key old new made t ((k, None) ∷ []) same all is =
    let keys : key ≡ k = cc in
    let here : new ≡ memory.deleted k None old = made ∙ ap (λ n. memory.deleted n None old) keys in
    subst (IsTableOf (table_with (shape_in []) t (k, None))) (sym here) (puts (shape_in []) k t old is)

-- ---- some writes, and then others

pub puts_none : (a : memory.Table) → PutsIn [] a a
puts_none a t [] same all is = is
puts_none a t (w ∷ ws) same all is = absurd (cc)

pub puts_both : (xs ys : List LogWrite) (a b c : memory.Table) → PutsIn xs a b → PutsIn ys b c → PutsIn (xs ++ ys) a c
puts_both xs ys a b c one two t ws same all is =
    let parts = split xs ys ws same in
    let both = subst (All IsStorableWrite) parts.parts all in
    let put = table_with (shape_in []) in
    let middle = one t parts.front parts.first (All-front IsStorableWrite parts.front parts.back both) is in
    let end = two (fold put t parts.front) parts.back parts.second (All-back IsStorableWrite parts.front parts.back both) middle in
    subst (λ (table : Table). IsTableOf table c) (sym (ap (fold put t) parts.parts ∙ fold-append put t parts.front parts.back)) end

-- what is left decides: what the rest makes of the table is what all make of the first one
abbrev pub MakesAs : List LogWrite → List LogWrite → memory.Table → memory.Table → Type 0
MakesAs all rest first now = (end : memory.Table) → PutsIn rest now end → PutsIn all first end

pub makes_further : (all front behind : List LogWrite) (first now next : memory.Table) → PutsIn front now next → MakesAs all (front ++ behind) first now → MakesAs all behind first next
makes_further all front behind first now next puts makes = λ end rest. makes end (puts_both front behind now next end puts rest)

-- nothing is kept of nothing
pub nothing_kept : IsTableOf [] []
nothing_kept = record { is = refl; stored = All-nil IsStoredAt }

-- ---- names

-- what a table over nothing shows
abbrev pub AreShown : Type 0
AreShown = (pairs : Pairs) (ws : List Write) → Ascends pairs → over pairs (table_over pairs ws) ≡ after_writes pairs ws

abbrev pub AreAscending : Type 0
AreAscending = (pairs : Pairs) (ws : List Write) → Ascends (table_over pairs ws)

pub names_of_logs : SetDocuments → AreShown → AreAscending → Ascends {V = Document} [] → (names : List Name) (ws : List Write) → names_with names (shapes_held (table_over [] ws)) ≡ names_after names ws
names_of_logs set shown ascends none names ws = names_with-held set names (table_over [] ws) (ascends [] ws) ∙ ap (λ pairs. all_learned names (names_of_documents (values_in pairs))) (shown [] ws none)
