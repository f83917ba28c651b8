-- The names of what writes leave: there are no more than those that a dictionary has which knows the parts.
use Rattle.std.proofs.Common.{◌≡◌, ◌≤◌, ℕ, List, [], ◌++◌, length, refl, sym, ap, ◌∙◌, subst, Option, Some, None}
use Rattle.std.specs.Prelude.{All, bytes_eq, unwrap_or}
use Rattle.std.specs.Option.{option_or}
use Rattle.std.specs.List.{IsDistinct}
use Rattle.std.proofs.lemmas.List.Elements.{All-nil}
use Rattle.tc_model.specs.Dictionary.{Extends, all_learned}
use Rattle.tc_model.specs.Document.{Document, Name}
use Rattle.tc_model.specs.Keyed.{Ascends, value_of, values_in}
use Rattle.tc_model.specs.ShapeNames.{names_of_documents}
use Rattle.tc_model.proofs.DictionaryGrowth.{Extends-trans}
use Rattle.tc_model.proofs.KeyedEquality.{each_found, of_found}
use Rattle.tc_model.proofs.KeyedOrder.{sorted_nil}
use Rattle.tc_plain_model.specs.Store.{names_after}
use Rattle.tc_plain_model.specs.Writes.{Pairs, Write, after_writes}
use Rattle.tc_plain_model.proofs.WriteLaws.{after_writes-append}
use Rattle.tc_plain_model.proofs.WriteLookups.{Ascends-after_writes, last_write, last_write-append, value_of-after_ascending, value_of-after_writes}
use Rattle.tc_lsm_model.specs.Tables.{Table, table_over, writes_of}
use Rattle.tc_lsm_model.proofs.FlushNames.{Extends-names_after, few-names_after, known-names_after}
use Rattle.tc_lsm_model.proofs.ListNames.{AreNamesIn, KnowsWritten, named-Extends, named-after_writes}
use Rattle.tc_lsm_model.proofs.TableLaws.{Ascends-writes_of, IsTableOver-table_over, alone-table_over}

-- a dictionary knows each document that writes leave of nothing
abbrev pub KnowsLeft : List Name → List Write → Type 0
KnowsLeft names ws = All (AreNamesIn names) (after_writes [] ws)

-- ---- what is left of a table is what is left of its writes

-- the names behind a table and more writes are those behind all of its writes
pub names_after-table : (names : List Name) (p : Pairs) (ws more : List Write) → names_after names (writes_of (table_over p ws) ++ more) ≡ names_after names (ws ++ more)
names_after-table names p ws more =
    ap (λ (left : Pairs). all_learned names (names_of_documents (values_in left)))
    (after_writes-append [] (writes_of (table_over p ws)) more ∙ ap (λ left. after_writes left more) (alone-table_over p ws) ∙ sym (after_writes-append [] ws more))

pub names_of_table : (names : List Name) (p : Pairs) (t : Table) (ws : List Write) → t ≡ table_over p ws → names_after names (writes_of t) ≡ names_after names ws
names_of_table names p t ws is =
    ap (λ t. names_after names (writes_of t)) is ∙ ap (λ (left : Pairs). all_learned names (names_of_documents (values_in left))) (alone-table_over p ws)

-- ---- a dictionary that knows the parts

-- of these writes only the last of each key, in ascending key
abbrev last_of_each : List Write → List Write
last_of_each ws = writes_of (table_over [] ws)

ascends : (ws : List Write) → Ascends (last_of_each ws)
ascends ws = Ascends-writes_of (table_over [] ws) (IsTableOver-table_over [] ws).ascends

-- they learn the same names
same_names : (names : List Name) (ws : List Write) → names_after names (last_of_each ws) ≡ names_after names ws
same_names names ws = names_of_table names [] (table_over [] ws) ws refl

pub knows-left : (names : List Name) (ws : List Write) → KnowsLeft (names_after names ws) ws
knows-left names ws =
    subst (λ left. All (AreNamesIn (names_after names ws)) left) (alone-table_over [] ws)
    (named-after_writes (names_after names ws) [] (last_of_each ws)
    (subst (λ ns. All (KnowsWritten ns) (last_of_each ws)) (same_names names ws) (known-names_after names (last_of_each ws) (ascends ws)))
    (All-nil (AreNamesIn (names_after names ws))))

knows-written : (names : List Name) (ws : List Write) → KnowsLeft names ws → All (KnowsWritten names) (last_of_each ws)
knows-written names ws knows = each_found (KnowsWritten names) (last_of_each ws) (ascends ws) written
  where
    left : KnowsLeft names (last_of_each ws)
    left = subst (λ ps. All (AreNamesIn names) ps) (sym (alone-table_over [] ws)) knows

    written : (k : ℕ) (v : Option Document) → value_of k (last_of_each ws) ≡ Some v → KnowsWritten names (k, v)
    written k None there = tt
    written k (Some d) there =
        of_found (AreNamesIn names) (after_writes [] (last_of_each ws)) k d left
        (value_of-after_ascending k [] (last_of_each ws) sorted_nil (ascends ws) ∙ ap (λ o. unwrap_or o None) there)

KnowsLeft-Extends : (newer older : List Name) (ws : List Write) → Extends newer older → KnowsLeft older ws → KnowsLeft newer ws
KnowsLeft-Extends newer older ws extends knows = named-Extends newer older (after_writes [] ws) extends knows

KnowsLeft-append : (names : List Name) (us vs : List Write) → KnowsLeft names us → KnowsLeft names vs → KnowsLeft names (us ++ vs)
KnowsLeft-append names us vs one two =
    each_found (AreNamesIn names) (after_writes [] (us ++ vs)) (Ascends-after_writes [] (us ++ vs) sorted_nil)
    (λ k d is. step k d (last_write k vs) refl (sym (value_of-after_writes k [] (us ++ vs) sorted_nil ∙ ap (λ o. unwrap_or o None) (last_write-append k us vs)) ∙ is))
  where
    step : (k : ℕ) (d : Document) (last : Option (Option Document)) → last_write k vs ≡ last → unwrap_or (option_or (last_write k vs) (last_write k us)) None ≡ Some d → AreNamesIn names (k, d)
    step k d None none is = of_found (AreNamesIn names) (after_writes [] us) k d one
        (value_of-after_writes k [] us sorted_nil ∙ ap (λ o. unwrap_or (option_or o (last_write k us)) None) (sym none) ∙ is)
    step k d (Some v) some is = of_found (AreNamesIn names) (after_writes [] vs) k d two
        (value_of-after_writes k [] vs sorted_nil ∙ ap (λ o. unwrap_or o None) some ∙ ap (λ o. unwrap_or (option_or o (last_write k us)) None) (sym some) ∙ is)

-- it has no fewer names
no_more_names : (names more : List Name) (ws : List Write) → IsDistinct bytes_eq names → Extends more names → KnowsLeft more ws → length (names_after names ws) ≤ length more
no_more_names names more ws distinct extends knows =
    subst (λ ns. length ns ≤ length more) (same_names names ws) (few-names_after names more (last_of_each ws) distinct extends (knows-written more ws knows))

-- the names after two lots of writes are known to the dictionary that learns the one and then the other
pub no_more_together : (names : List Name) (us vs : List Write) → IsDistinct bytes_eq names → length (names_after names (us ++ vs)) ≤ length (names_after (names_after names us) vs)
no_more_together names us vs distinct =
    let first = names_after names us in
    let all = names_after first vs in
    no_more_names names all (us ++ vs) distinct (Extends-trans all first names (Extends-names_after first vs) (Extends-names_after names us))
    (KnowsLeft-append all us vs (KnowsLeft-Extends all first us (Extends-names_after first vs) (knows-left names us)) (knows-left first vs))
