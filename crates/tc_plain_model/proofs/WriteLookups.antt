-- What writes leave of a key: what the last of them to it says, or else what was there.
use Rattle.std.proofs.Common.{◌≡◌, ℕ, Bool, true, false, List, [], ◌∷◌, ◌++◌, refl, sym, ap, ◌∙◌, Option, Some, None}
use Rattle.std.specs.Prelude.{◌==◌, if◌then◌else◌, unwrap_or}
use Rattle.std.specs.Option.{option_or}
use Rattle.std.specs.Ordering.{nat_cmp}
use Rattle.std.specs.Map.{keys_of}
use Rattle.std.proofs.lemmas.Bool.{eqb-true}
use Rattle.std.proofs.lemmas.Map.Keys.{sorted_head, sorted_tail}
use Rattle.tc_model.specs.Document.{Document}
use Rattle.tc_model.specs.Keyed.{Keyed, Ascends, value_of}
use Rattle.tc_model.proofs.KeyedOrder.{sorted-with_value, sorted-without_key}
use Rattle.tc_model.proofs.KeyedLookups.{value_of-with_value, value_of-without_key, value_of-above}
use Rattle.tc_plain_model.specs.Writes.{Pairs, Write, after_write, after_writes}

-- what the last of these writes to a key says
abbrev pub last_write : ℕ → List Write → Option (Option Document)
last_write k [] = None
last_write k (w ∷ ws) = option_or (last_write k ws) (if k == w.0 then Some w.1 else None)

pub Ascends-after_write : (p : Pairs) (w : Write) → Ascends p → Ascends (after_write p w)
Ascends-after_write p (key, Some d) up = sorted-with_value key d p up
Ascends-after_write p (key, None) up = sorted-without_key key p up

pub Ascends-after_writes : (p : Pairs) (ws : List Write) → Ascends p → Ascends (after_writes p ws)
Ascends-after_writes p [] up = up
Ascends-after_writes p (w ∷ ws) up = Ascends-after_writes (after_write p w) ws (Ascends-after_write p w up)

pub value_of-after_write : (k : ℕ) (p : Pairs) (w : Write) → Ascends p → value_of k (after_write p w) ≡ (if k == w.0 then w.1 else value_of k p)
value_of-after_write k p (key, Some d) up = value_of-with_value k key d p
value_of-after_write k p (key, None) up = value_of-without_key k key p up

pub value_of-after_writes : (k : ℕ) (p : Pairs) (ws : List Write) → Ascends p → value_of k (after_writes p ws) ≡ unwrap_or (last_write k ws) (value_of k p)
value_of-after_writes k p [] up = refl
value_of-after_writes k p (w ∷ ws) up =
    value_of-after_writes k (after_write p w) ws (Ascends-after_write p w up)
    ∙ step (k == w.0) (last_write k ws) (value_of k (after_write p w)) (value_of-after_write k p w up)
  where
    step : (b : Bool) (last : Option (Option Document)) (now : Option Document) → now ≡ (if b then w.1 else value_of k p) → unwrap_or last now ≡ unwrap_or (option_or last (if b then Some w.1 else None)) (value_of k p)
    step true None now is = is
    step true (Some x) now is = refl
    step false None now is = is
    step false (Some x) now is = refl

pub or_none : (last : Option (Option Document)) → option_or last None ≡ last
or_none None = refl
or_none (Some x) = refl

-- of writes behind others the last counts
pub last_write-append : (k : ℕ) (us vs : List Write) → last_write k (us ++ vs) ≡ option_or (last_write k vs) (last_write k us)
last_write-append k [] vs = sym (or_none (last_write k vs))
last_write-append k (w ∷ us) vs = ap (λ last. option_or last (if k == w.0 then Some w.1 else None)) (last_write-append k us vs) ∙ assoc (last_write k vs)
  where
    assoc : (last : Option (Option Document)) → option_or (option_or last (last_write k us)) (if k == w.0 then Some w.1 else None) ≡ option_or last (option_or (last_write k us) (if k == w.0 then Some w.1 else None))
    assoc None = refl
    assoc (Some v) = refl

-- ---- writes in ascending key

-- each is the last of its key
pub last_write-ascending : (k : ℕ) (es : Keyed (Option Document)) → Ascends es → last_write k es ≡ value_of k es
last_write-ascending k [] up = refl
last_write-ascending k (e ∷ es) up =
    step (k == e.0) (last_write k es) (value_of k es) (last_write-ascending k es (sorted_tail nat_cmp e.0 (keys_of es) up))
    (λ same. rw (eqb-true k e.0 same) (value_of-above e.0 es (sorted_head nat_cmp e.0 (keys_of es) up)))
  where
    step : (b : Bool) (last rest : Option (Option Document)) → last ≡ rest → (b ≡ true → rest ≡ None) → option_or last (if b then Some e.1 else None) ≡ (if b then Some e.1 else rest)
    step true last rest is none = rw (is, none refl) refl
    step false last rest is none = or_none last ∙ is

pub value_of-after_ascending : (k : ℕ) (p : Pairs) (es : Keyed (Option Document)) → Ascends p → Ascends es → value_of k (after_writes p es) ≡ unwrap_or (value_of k es) (value_of k p)
value_of-after_ascending k p es up ascends = value_of-after_writes k p es up ∙ ap (λ last. unwrap_or last (value_of k p)) (last_write-ascending k es ascends)
