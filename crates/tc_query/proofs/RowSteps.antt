-- Rows of stored documents, key by key.
use Rattle.std.proofs.Common.{◌≡◌, ◌<◌, ◌≤◌, ◌+◌, ℕ, List, [], ◌++◌, Option, Some, None, length, append-nil, length-append, refl, sym, ap, ◌∙◌, arith, inl, inr}
use Rattle.std.specs.Prelude.{flat_map, option_map, option_to_list}
use Rattle.std.proofs.lemmas.Grind.{flat_map-append}
use Rattle.std.proofs.lemmas.List.Concat.{flat_map-cons}
use Rattle.tc_model.specs.Document.{Document}
use Rattle.tc_model.specs.Keyed.{Ascends, value_of}
use Rattle.tc_request_model.specs.Reply.{Row}
use Rattle.tc_request_model.specs.Request.{Ask}
use Rattle.tc_request_model.specs.Paths.{reached}
use Rattle.tc_request_model.specs.Rows.{row_of, rows_over}
use Rattle.tc_plain_model.specs.Writes.{Pairs}
use Rattle.tc_query.proofs.BelowKeys.{below-next, below-start, below-end}
use Rattle.tc_query.specs.Faults.{IsReadIf}
use Rattle.tc_query.specs.Rows.{rows_with, rows_at, below}
use Rattle.tc_store.specs.Counted.{Counts}

one_key : (ask : Ask) (key : ℕ) (o : Option Document) → rows_over ask (option_to_list (option_map (λ d. (key, d)) o)) ≡ flat_map (λ d. row_of ask.equal_to key (reached ask.path d)) (option_to_list o)
one_key ask key None = refl
one_key ask key (Some d) = refl

-- the rows up to a key are those before it, and its own
pub rows-next : (ask : Ask) (low key : ℕ) (pairs : Pairs) → Ascends pairs → low ≤ key → ((k : ℕ) → low ≤ k → k < key → value_of k pairs ≡ None)
    → rows_over ask (below (key + 1) pairs) ≡ rows_over ask (below low pairs) ++ rows_at ask key pairs
rows-next ask low key pairs up order gap =
    ap (rows_over ask) (below-next low key pairs up order gap)
    ∙ flat_map-append (λ p. row_of ask.equal_to p.0 (reached ask.path p.1)) (below low pairs) (option_to_list (option_map (λ d. (key, d)) (value_of key pairs)))
    ∙ ap (λ rows. rows_over ask (below low pairs) ++ rows) (one_key ask key (value_of key pairs))

pub rows-start : (ask : Ask) (pairs : Pairs) → rows_over ask (below 0 pairs) ≡ []
rows-start ask pairs = ap (rows_over ask) (below-start pairs)

pub rows-end : (ask : Ask) (low : ℕ) (pairs : Pairs) → Ascends pairs → ((k : ℕ) → low ≤ k → value_of k pairs ≡ None) → rows_over ask (below low pairs) ≡ rows_over ask pairs
rows-end ask low pairs up none = ap (rows_over ask) (below-end low pairs up none)

-- ---- how many keys are below

-- the entry of a key, if it has one
abbrev entry_of : ℕ → Option Document → Pairs
entry_of key o = option_to_list (option_map (λ d. (key, d)) o)

length_next : (low key : ℕ) (pairs : Pairs) → Ascends pairs → low ≤ key → ((k : ℕ) → low ≤ k → k < key → value_of k pairs ≡ None)
    → length (below (key + 1) pairs) ≡ length (below low pairs) + length (entry_of key (value_of key pairs))
length_next low key pairs up order gap =
    ap (λ (ps : Pairs). length ps) (below-next low key pairs up order gap) ∙ length-append (below low pairs) (entry_of key (value_of key pairs))

-- where at most one read is made for a key, and only if that is live, no more are made than keys are live
pub reads-next : (low key : ℕ) (pairs : Pairs) (Wanted : Type 0) (first : ℕ) (old new : Counts) → Ascends pairs → low ≤ key → ((k : ℕ) → low ≤ k → k < key → value_of k pairs ≡ None)
    → (Wanted → (d : Document) × (value_of key pairs ≡ Some d)) → old.reads ≤ first + length (below low pairs) → IsReadIf Wanted old new → new.reads ≤ first + length (below (key + 1) pairs)
reads-next low key pairs Wanted first old new up order gap live before (inl same) = let more = length_next low key pairs up order gap in omega (arith, before, same, more)
reads-next low key pairs Wanted first old new up order gap live before (inr read) =
    let there = live read.0 in
    let more = length_next low key pairs up order gap in
    let one : length (entry_of key (value_of key pairs)) ≡ 1 = ap (λ o. length (entry_of key o)) there.1 in
    let few = read.1 in
    omega (arith, before, few, more, one)

-- ---- one key

abbrev row_at : Ask → ℕ → Document → List Row
row_at ask key d = row_of ask.equal_to key (reached ask.path d)

pub rows_with_one : (ask : Ask) (key : ℕ) (d : Document) → row_of ask.equal_to key (reached ask.path d) ≡ rows_with ask key (Some d)
rows_with_one ask key d = sym (flat_map-cons (row_at ask key) d [] ∙ append-nil (row_at ask key d))

pub rows_of_one : (ask : Ask) (key : ℕ) (pairs : Pairs) (d : Document) → value_of key pairs ≡ Some d → row_of ask.equal_to key (reached ask.path d) ≡ rows_at ask key pairs
rows_of_one ask key pairs d there = rows_with_one ask key d ∙ sym (ap (rows_with ask key) there)

pub rows_of_none : (ask : Ask) (key : ℕ) (pairs : Pairs) → value_of key pairs ≡ None → [] ≡ rows_at ask key pairs
rows_of_none ask key pairs none = sym (ap (λ o. flat_map (row_at ask key) (option_to_list o)) none)

pub rows_alike : (ask : Ask) (key : ℕ) (one other : Pairs) → value_of key one ≡ value_of key other → rows_at ask key one ≡ rows_at ask key other
rows_alike ask key one other same = ap (λ o. flat_map (row_at ask key) (option_to_list o)) same
