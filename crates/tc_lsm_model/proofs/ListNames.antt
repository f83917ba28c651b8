-- The names of a list know all that is live in it.
use Rattle.std.proofs.Common.{ℕ, List, [], ◌∷◌, ◌++◌, Option, Some, None, sym, subst}
use Rattle.std.specs.Prelude.{IfSome, All}
use Rattle.std.proofs.lemmas.List.Elements.{All-nil, All-head, All-tail, All-append, All-weaker}
use Rattle.tc_model.specs.Document.{Name, Document, document_shape}
use Rattle.tc_model.specs.Dictionary.{Extends}
use Rattle.tc_model.specs.ShapeNames.{names_within}
use Rattle.tc_model.proofs.DictionaryGrowth.{Extends-same, Extends-trans}
use Rattle.tc_model.proofs.KeyedOrder.{All-with_value, All-without_key}
use Rattle.tc_model.proofs.LastingNumbers.{numbers-Extends}
use Rattle.tc_plain_model.specs.Writes.{Pairs, Write, after_write, after_writes}
use Rattle.tc_lsm_model.specs.Contents.{Partition, Content, IsNamedIn, IsEntry}
use Rattle.tc_lsm_model.specs.Lists.{held_over, live, newest_names, names_of, last_of, GoOn, IsList}
use Rattle.tc_lsm_model.specs.Merges.{entries_of}
use Rattle.tc_lsm_model.proofs.ListLaws.{newest_names-append, GoOn-back}

-- the names of a document of a key
abbrev pub AreNamesIn : List Name → ℕ × Document → Type 0
AreNamesIn names p = IsNamedIn names p.1

-- those of the document that a write sets
abbrev pub KnowsWritten : List Name → Write → Type 0
KnowsWritten names w = IfSome w.1 (IsNamedIn names)

IsNamedIn-Extends : (newer older : List Name) (d : Document) → Extends newer older → IsNamedIn older d → IsNamedIn newer d
IsNamedIn-Extends newer older d extends named = (numbers-Extends newer older (names_within (document_shape d)) extends named).0

IsEntry-Extends : (newer older : List Name) (w : Write) → Extends newer older → IsEntry older w → IsEntry newer w
IsEntry-Extends newer older (key, v) extends is = record { key = is.key; document = is.document; storable = is.storable; named = named v is.named }
  where
    named : (v : Option Document) → IfSome v (IsNamedIn older) → IfSome v (IsNamedIn newer)
    named None has = tt
    named (Some d) has = IsNamedIn-Extends newer older d extends has

-- ---- the newest names

pub Extends-newest : (part : Partition) (g : ℕ) (p : Pairs) (ns : List Name) (cs : List Content) → GoOn part g p ns cs → Extends (newest_names ns cs) ns
Extends-newest part g p ns [] all = Extends-same ns
Extends-newest part g p ns (c ∷ cs) all = Extends-trans (newest_names c.names cs) c.names ns (Extends-newest part c.to (after_writes p c.entries) c.names cs all.1) all.0.extends

pub Extends-front : (part : Partition) (older newer : List Content) → IsList part (older ++ newer) → Extends (names_of (older ++ newer)) (names_of older)
Extends-front part older newer all =
    subst (λ ns. Extends ns (names_of older)) (sym (newest_names-append [] older newer))
    (Extends-newest part (last_of older) (live older) (names_of older) newer (GoOn-back part 0 [] [] older newer all))

-- ---- what they know

-- each entry of the list
pub entries_in : (part : Partition) (g : ℕ) (p : Pairs) (ns : List Name) (cs : List Content) → GoOn part g p ns cs → All (IsEntry (newest_names ns cs)) (entries_of cs)
entries_in part g p ns [] all = All-nil (IsEntry ns)
entries_in part g p ns (c ∷ cs) all =
    All-append (IsEntry (newest_names c.names cs)) c.entries (entries_of cs)
    (All-weaker (IsEntry c.names) (IsEntry (newest_names c.names cs)) (λ w is. IsEntry-Extends (newest_names c.names cs) c.names w (Extends-newest part c.to (after_writes p c.entries) c.names cs all.1) is) c.entries all.0.content.entries)
    (entries_in part c.to (after_writes p c.entries) c.names cs all.1)

named-after_write : (names : List Name) (p : Pairs) (w : Write) → KnowsWritten names w → All (AreNamesIn names) p → All (AreNamesIn names) (after_write p w)
named-after_write names p (key, Some d) knows all = All-with_value (AreNamesIn names) key d p knows all
named-after_write names p (key, None) knows all = All-without_key (AreNamesIn names) key p all

pub named-after_writes : (names : List Name) (p : Pairs) (ws : List Write) → All (KnowsWritten names) ws → All (AreNamesIn names) p → All (AreNamesIn names) (after_writes p ws)
named-after_writes names p [] each all = all
named-after_writes names p (w ∷ ws) each all = named-after_writes names (after_write p w) ws (All-tail (KnowsWritten names) w ws each) (named-after_write names p w (All-head (KnowsWritten names) w ws each) all)

pub named-Extends : (newer older : List Name) (p : Pairs) → Extends newer older → All (AreNamesIn older) p → All (AreNamesIn newer) p
named-Extends newer older p extends all = All-weaker (AreNamesIn older) (AreNamesIn newer) (λ q is. IsNamedIn-Extends newer older q.1 extends is) p all

named-held : (part : Partition) (g : ℕ) (p : Pairs) (ns : List Name) (cs : List Content) → GoOn part g p ns cs → All (AreNamesIn ns) p → All (AreNamesIn (newest_names ns cs)) (held_over p cs)
named-held part g p ns [] all named = named
named-held part g p ns (c ∷ cs) all named =
    named-held part c.to (after_writes p c.entries) c.names cs all.1
    (named-after_writes c.names p c.entries (All-weaker (IsEntry c.names) (KnowsWritten c.names) (λ w is. is.named) c.entries all.0.content.entries) (named-Extends c.names ns p all.0.extends named))

-- each document that is live
pub named-live : (part : Partition) (cs : List Content) → IsList part cs → All (AreNamesIn (names_of cs)) (live cs)
named-live part cs all = named-held part 0 [] [] cs all (All-nil (AreNamesIn []))
