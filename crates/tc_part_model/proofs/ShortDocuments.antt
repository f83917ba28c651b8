-- The documents of listed components and of tables have records that can be compacted.
use Rattle.std.proofs.Common.{ℕ, List, [], ◌∷◌, arith, refl, Option, Some, None}
use Rattle.std.specs.Prelude.{All, IfSome, IsSome, fold}
use Rattle.std.specs.List.{AllZip}
use Rattle.std.proofs.lemmas.Bool.{false≢true}
use Rattle.std.proofs.lemmas.List.Elements.{All-cons, All-head, All-nil, All-tail}
use Rattle.tc_model.specs.Document.{Document, Name, ShapeTree}
use Rattle.tc_model.specs.Keyed.{value_of, values_in}
use Rattle.tc_model.proofs.KeyedOrder.{All-with_value, All-without_key}
use Rattle.tc_model.proofs.StoredDocuments.{keyless_object}
use Rattle.tc_plain_model.specs.Writes.{Pairs, Write, after_write, after_writes}
use Rattle.tc_component.specs.Rows.{IsComponent, IsShortWrite}
use Rattle.tc_lsm_model.specs.Contents.{Content, IsEntry}
use Rattle.tc_lsm_model.specs.Lists.{held_over, live}
use Rattle.tc_lsm_model.specs.Tables.{Table, gone_at, shape_kept, slot, table_with}
use Rattle.tc_machine.proofs.Options.{All-both}
use Rattle.tc_flush.specs.Counting.{IsShortDocument}
use Rattle.tc_flush.specs.Flushable.{IsShortRecord}
use Rattle.tc_part_model.specs.Meaning.{IsOfContent}
use Rattle.tc_part_model.specs.PartState.{AreTold, ToldComponent}

-- ---- what is live in a list

abbrev IsShortPair : ℕ × Document → Type 0
IsShortPair p = IsShortDocument p.1

abbrev SetsShort : Write → Type 0
SetsShort w = IfSome w.1 IsShortDocument

entry_sets : (names : List Name) (w : Write) → IsEntry names w → IsShortWrite w → SetsShort w
entry_sets names (key, None) is short = tt
entry_sets names (key, Some d) is short = record {
  recorded = record { document = is.document; is_object = keyless_object d is.storable.1; shallow = is.storable.0; spelled = refl; short = omega (arith, short) };
  short = short;
}

short_after : (pairs : Pairs) (ws : List Write) → All SetsShort ws → All IsShortPair pairs → All IsShortPair (after_writes pairs ws)
short_after pairs [] each all = all
short_after pairs (w ∷ ws) each all = short_after (after_write pairs w) ws (All-tail SetsShort w ws each) (one w (All-head SetsShort w ws each))
  where
    one : (w : Write) → SetsShort w → All IsShortPair (after_write pairs w)
    one (key, Some d) sets = All-with_value IsShortPair key d pairs sets all
    one (key, None) sets = All-without_key IsShortPair key pairs all

component_short : (t : ToldComponent) (c : Content) → IsOfContent t c → IsSome t.content → All SetsShort c.entries
component_short t c of told = at t.content of.file told
  where
    at : (o : Option (List ℕ)) → IfSome o (λ bytes. IsComponent c bytes) → IsSome o → All SetsShort c.entries
    at None is some = absurd (false≢true some)
    at (Some bytes) is some = All-both (IsEntry c.names) IsShortWrite SetsShort c.entries (entry_sets c.names) is.content.entries is.records

short_over : (pairs : Pairs) (ts : List ToldComponent) (cs : List Content) → AllZip IsOfContent ts cs → AreTold ts → All IsShortPair pairs → All IsShortPair (held_over pairs cs)
short_over pairs [] [] zip told all = all
short_over pairs [] (c ∷ cs) zip told all = absurd zip
short_over pairs (t ∷ ts) [] zip told all = absurd zip
short_over pairs (t ∷ ts) (c ∷ cs) zip told all =
    short_over (after_writes pairs c.entries) ts cs zip.1 (All-tail (λ (x : ToldComponent). IsSome x.content) t ts told)
    (short_after pairs c.entries (component_short t c zip.0 (All-head (λ (x : ToldComponent). IsSome x.content) t ts told)) all)

short_values : (pairs : Pairs) → All IsShortPair pairs → All IsShortDocument (values_in pairs)
short_values [] all = All-nil IsShortDocument
short_values (p ∷ pairs) all = All-cons IsShortDocument p.1 (values_in pairs) (All-head IsShortPair p pairs all) (short_values pairs (All-tail IsShortPair p pairs all))

pub live_short : (ts : List ToldComponent) (cs : List Content) → AllZip IsOfContent ts cs → AreTold ts → All IsShortDocument (values_in (live cs))
live_short ts cs zip told = short_values (live cs) (short_over [] ts cs zip told (All-nil IsShortPair))

-- ---- what a table holds

short_with : (below : ℕ → Option ShapeTree) (t : Table) (w : Write) → IsShortWrite w → All IsShortRecord t → All IsShortRecord (table_with below t w)
short_with below t (key, Some d) short all = All-with_value IsShortRecord key (slot (Some d) (shape_kept (below key) (value_of key t))) t short all
short_with below t (key, None) short all = at (shape_kept (below key) (value_of key t))
  where
    at : (o : Option ShapeTree) → All IsShortRecord (gone_at key o t)
    at None = All-without_key IsShortRecord key t all
    at (Some shape) = All-with_value IsShortRecord key (slot None (Some shape)) t tt all

pub table_short : (below : ℕ → Option ShapeTree) (t : Table) (ws : List Write) → All IsShortWrite ws → All IsShortRecord t → All IsShortRecord (fold (table_with below) t ws)
table_short below t [] each all = all
table_short below t (w ∷ ws) each all = table_short below (table_with below t w) ws (All-tail IsShortWrite w ws each) (short_with below t w (All-head IsShortWrite w ws each) all)
