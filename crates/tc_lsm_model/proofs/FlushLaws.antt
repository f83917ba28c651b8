-- What a list is once a table is flushed behind it.
use Rattle.std.proofs.Common.{◌≡◌, ℕ, List, [], ◌∷◌, ◌++◌, refl, sym, ap, ◌∙◌, subst}
use Rattle.tc_model.specs.Keyed.{values_in}
use Rattle.tc_model.specs.ShapeNames.{names_of_documents}
use Rattle.tc_model.specs.Dictionary.{all_learned}
use Rattle.tc_schema_model.specs.Counted.{nothing}
use Rattle.tc_schema_model.specs.Stands.{StandsFor}
use Rattle.tc_schema_model.proofs.CountingLaws.{one_schema}
use Rattle.tc_plain_model.specs.Writes.{Write, after_writes}
use Rattle.tc_plain_model.specs.Store.{names_after, reopened}
use Rattle.tc_lsm_model.specs.Contents.{Partition, Content}
use Rattle.tc_lsm_model.specs.Lists.{live, names_of, schema_of, last_of, IsList}
use Rattle.tc_lsm_model.specs.Tables.{Table, over, table_over}
use Rattle.tc_lsm_model.specs.Flushes.{IsFlush}
use Rattle.tc_lsm_model.proofs.ListLaws.{held_over-append, last_after-append, newest_names-append, newest_schema-append, GoOn-append, Ascends-live, one_content}
use Rattle.tc_lsm_model.proofs.TableLaws.{over-table_over, alone-table_over}

pub flushed_list : (part : Partition) (cs : List Content) (t : Table) (n : ℕ) (c : Content) → IsList part cs → IsFlush part cs t n c → IsList part (cs ++ c ∷ [])
flushed_list part cs t n c all is = GoOn-append part 0 [] [] cs (c ∷ []) all (is.goes_on, tt)

pub flushed_live : (part : Partition) (cs : List Content) (t : Table) (n : ℕ) (c : Content) → IsFlush part cs t n c → live (cs ++ c ∷ []) ≡ over (live cs) t
flushed_live part cs t n c is = held_over-append [] cs (c ∷ []) ∙ ap (after_writes (live cs)) is.entries

-- ---- the newest of a list is its last

pub names_of-push : (cs : List Content) (c : Content) → names_of (cs ++ c ∷ []) ≡ c.names
names_of-push cs c = newest_names-append [] cs (c ∷ [])

pub schema_of-push : (cs : List Content) (c : Content) → schema_of (cs ++ c ∷ []) ≡ c.schema
schema_of-push cs c = newest_schema-append nothing cs (c ∷ [])

pub last_of-push : (cs : List Content) (c : Content) → last_of (cs ++ c ∷ []) ≡ c.to
last_of-push cs c = last_after-append 0 cs (c ∷ [])

-- ---- it is one

-- a table behind a list has one flush
pub one_flush : (part : Partition) (cs : List Content) (t : Table) (n : ℕ) (c d : Content) → IsFlush part cs t n c → IsFlush part cs t n d → c ≡ d
one_flush part cs t n c d is are =
    let entries : c.entries ≡ d.entries = is.entries ∙ sym are.entries in
    let names : c.names ≡ d.names = is.names ∙ sym are.names in
    let stands : StandsFor d.names c.schema (values_in (after_writes (live cs) d.entries)) =
    subst (λ es. StandsFor d.names c.schema (values_in (after_writes (live cs) es))) entries (subst (λ ns. StandsFor ns c.schema (values_in (after_writes (live cs) c.entries))) names is.goes_on.stands) in
    one_content c d (is.goes_on.here ∙ sym are.goes_on.here) (is.goes_on.next ∙ sym are.goes_on.next) (is.to ∙ sym are.to) entries names
    (one_schema d.names c.schema d.schema (values_in (after_writes (live cs) d.entries)) stands are.goes_on.stands)

-- ---- an opening

-- the table of what the logs say, flushed, makes of the list what an opening finds
pub flushed_reopened : (part : Partition) (cs : List Content) (logged : List Write) (n : ℕ) (c : Content) → IsFlush part cs (table_over (live cs) logged) n c
    → reopened (live cs) (names_of cs) logged ≡ record { pairs = live (cs ++ c ∷ []); taken = c.names }
flushed_reopened part cs logged n c is =
    let pairs : after_writes (live cs) logged ≡ live (cs ++ c ∷ []) = sym (flushed_live part cs (table_over (live cs) logged) n c is ∙ over-table_over (live cs) logged (Ascends-live cs)) in
    let names : names_after (names_of cs) logged ≡ c.names = sym (is.names ∙ ap (λ written. all_learned (names_of cs) (names_of_documents (values_in written))) (alone-table_over (live cs) logged)) in
    rw (pairs, names) refl
