-- Of a key the newest entry counts.
use Rattle.std.proofs.Common.{◌≡◌, ℕ, List, [], ◌∷◌, ◌++◌, refl, ap, ◌∙◌, Option, Some, None}
use Rattle.std.specs.Prelude.{All, unwrap_or}
use Rattle.std.specs.Option.{option_or}
use Rattle.std.proofs.lemmas.List.Elements.{All-head, All-tail}
use Rattle.tc_model.specs.Document.{Name, Document}
use Rattle.tc_model.specs.Keyed.{Ascends, value_of}
use Rattle.tc_model.proofs.KeyedOrder.{sorted_nil}
use Rattle.tc_plain_model.specs.Writes.{Pairs, after_writes}
use Rattle.tc_plain_model.proofs.WriteLookups.{Ascends-after_writes, value_of-after_ascending}
use Rattle.tc_lsm_model.specs.Contents.{Partition, Content}
use Rattle.tc_lsm_model.specs.Lists.{held_over, live, newest_entry, GoOn, IsList}

or_rest : (newer here : Option (Option Document)) (p : Option Document) → unwrap_or newer (unwrap_or here p) ≡ unwrap_or (option_or newer here) p
or_rest None here p = refl
or_rest (Some v) here p = refl

held-newest : (part : Partition) (g : ℕ) (p : Pairs) (ns : List Name) (key : ℕ) (cs : List Content) → Ascends p → GoOn part g p ns cs → value_of key (held_over p cs) ≡ unwrap_or (newest_entry key cs) (value_of key p)
held-newest part g p ns key [] up all = refl
held-newest part g p ns key (c ∷ cs) up all =
    held-newest part c.to (after_writes p c.entries) c.names key cs (Ascends-after_writes p c.entries up) all.1
    ∙ ap (unwrap_or (newest_entry key cs)) (value_of-after_ascending key p c.entries up all.0.content.ascends)
    ∙ or_rest (newest_entry key cs) (value_of key c.entries) (value_of key p)

-- what is live at a key is what its newest entry says
pub live-newest : (part : Partition) (cs : List Content) (key : ℕ) → IsList part cs → value_of key (live cs) ≡ unwrap_or (newest_entry key cs) None
live-newest part cs key all = held-newest part 0 [] [] key cs sorted_nil all

-- ---- which entry is the newest

-- a content that has no entry of a key
abbrev HasNo : ℕ → Content → Type 0
HasNo key c = value_of key c.entries ≡ None

pub newest-none : (key : ℕ) (cs : List Content) → All (HasNo key) cs → newest_entry key cs ≡ None
newest-none key [] none = refl
newest-none key (c ∷ cs) none = rw (newest-none key cs (All-tail (HasNo key) c cs none)) (All-head (HasNo key) c cs none)

pub newest-found : (older : List Content) (c : Content) (newer : List Content) (key : ℕ) (held : Option Document) → value_of key c.entries ≡ Some held → All (HasNo key) newer
    → newest_entry key (older ++ c ∷ newer) ≡ Some held
newest-found [] c newer key held here none = rw (newest-none key newer none) here
newest-found (first ∷ older) c newer key held here none = rw (newest-found older c newer key held here none) refl
