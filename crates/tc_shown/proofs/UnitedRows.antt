-- The rows that partitions found, put together, are those of their documents together.
use Rattle.std.proofs.Common.{◌≡◌, ◌∙◌, ◌≤◌, ◌<◌, ap, sym, subst, refl, ℕ, suc, List, [], ◌∷◌, map, length, false, arith}
use Rattle.std.specs.Prelude.{fold, flat_map, All, None}
use Rattle.std.proofs.lemmas.List.{length-map}
use Rattle.std.proofs.lemmas.List.Elements.{All-nil, All-cons, All-head, All-tail}
use Rattle.tc_model.specs.Keyed.{Keyed, Ascends, on_value}
use Rattle.tc_model.proofs.KeyedOrder.{sorted_cons, sorted_nil}
use Rattle.tc_request_model.specs.Rendered.{Rendered, RowText, row_text, rendered}
use Rattle.tc_request_model.specs.Rendered as renders
use Rattle.tc_request_model.specs.Reply.{Reply, Row, upserted, deleted, got, rows, flushed, schemas, started, collected, turned_down}
use Rattle.tc_request_model.specs.Request.{Ask, query}
use Rattle.tc_plain_model.specs.Room.{Limits}
use Rattle.tc_request_model.specs.Rows.{rows_over}
use Rattle.tc_plain_model.specs.Writes.{Pairs}
use Rattle.tc_run_model.specs.World.{Part, World, part_of, united}
use Rattle.tc_route.specs.Answers.{AreGathered, IsForParts, KeepOwn, shares_answered}
use Rattle.tc_route.specs.Gathered.{gathered, gathered_rendered, joined_rendered, with_rendered, AreRenderedGathered}
use Rattle.tc_shown.specs.Joined.{alone, rows_in, first_rows, joined}
use Rattle.tc_shown.specs.Scans.{AreOwn}

-- ---- one reply at most

few_behind : (first : Rendered) (found : List (List RowText)) → length (fold with_rendered ((0, first) ∷ []) (flat_map (λ replies. replies) (map alone found))) ≤ 1
few_behind first [] = omega arith
few_behind first (ts ∷ found) = few_behind (joined_rendered first (renders.rows ts)) found

pub few_alone : (found : List (List RowText)) → length (gathered_rendered (map alone found)) ≤ 1
few_alone [] = omega arith
few_alone (ts ∷ found) = few_behind (renders.rows ts) found

-- ---- rows, and their texts

abbrev rows_alone : List Row → Keyed Reply
rows_alone rs = (0, rows rs) ∷ []

abbrev rows_of : Reply → List Row
rows_of (rows rs) = rs
rows_of _ = []

abbrev rows_of_first : Keyed Reply → List Row
rows_of_first [] = []
rows_of_first (a ∷ more) = rows_of a.1

abbrev pub rows_joined : List (List Row) → List Row
rows_joined found = rows_of_first (gathered (map rows_alone found))

texts_alone : (found : List (List Row)) → map alone (map (map row_text) found) ≡ map (map (on_value rendered)) (map rows_alone found)
texts_alone [] = refl
texts_alone (rs ∷ found) = ap (λ more. alone (map row_text rs) ∷ more) (texts_alone found)

texts_in : (a : Reply) → rows_in (rendered a) ≡ map row_text (rows_of a)
texts_in (upserted n replaced) = refl
texts_in (deleted n found) = refl
texts_in (got n d) = refl
texts_in (rows rs) = refl
texts_in flushed = refl
texts_in (schemas ds) = refl
texts_in started = refl
texts_in (collected rs upto) = refl
texts_in (turned_down why) = refl

texts_of_first : (replies : Keyed Reply) → first_rows (map (on_value rendered) replies) ≡ map row_text (rows_of_first replies)
texts_of_first [] = refl
texts_of_first (a ∷ more) = texts_in a.1

-- the texts of rows, put together, are those of the rows that are put together
pub texts_joined : AreRenderedGathered → (found : List (List Row)) → joined (map (map row_text) found) ≡ map row_text (rows_joined found)
texts_joined law found = ap (λ parts. first_rows (gathered_rendered parts)) (texts_alone found) ∙ ap first_rows (law (map rows_alone found)) ∙ texts_of_first (gathered (map rows_alone found))

-- ---- the rows of all

abbrev parts_for : List Pairs → List Part
parts_for parts = map (λ ps. part_of (record { pairs = ps; taken = [] })) parts

-- a world of partitions that store these
abbrev world_for : List Pairs → World
world_for parts = record { limits = record { names = 0; docs = 0 }; parts = parts_for parts; running = None; flushed = false }

pairs_back : (parts : List Pairs) → map (λ (p : Part). p.now.pairs) (parts_for parts) ≡ parts
pairs_back [] = refl
pairs_back (ps ∷ parts) = ap (λ more. ps ∷ more) (pairs_back parts)

own_stores : (count p : ℕ) (parts : List Pairs) → All (λ (ps : Pairs). Ascends ps) parts → AreOwn count p parts → KeepOwn count p (map (λ (p : Part). p.now) (parts_for parts))
own_stores count p [] ascend own = tt
own_stores count p (ps ∷ parts) ascend own =
    (All-head (λ (x : Pairs). Ascends x) ps parts ascend, own.0, own_stores count (suc p) parts (All-tail (λ (x : Pairs). Ascends x) ps parts ascend) own.1)

asked : (limits : Limits) (count p : ℕ) (ask : Ask) (parts : List Pairs) → shares_answered limits count p ((0, query ask) ∷ []) (map (λ (p : Part). p.now) (parts_for parts)) ≡ map rows_alone (map (rows_over ask) parts)
asked limits count p ask [] = refl
asked limits count p ask (ps ∷ parts) = ap (λ more. rows_alone (rows_over ask ps) ∷ more) (asked limits count (suc p) ask parts)

rows_united : AreGathered → (ask : Ask) (parts : List Pairs) → All (λ (ps : Pairs). Ascends ps) parts → AreOwn (length parts) 0 parts → rows_joined (map (rows_over ask) parts) ≡ rows_over ask (united parts)
rows_united law ask [] ascend own = refl
rows_united law ask (ps ∷ parts) ascend own =
    let all = ps ∷ parts in
    let w = world_for all in
    let many : length (parts_for all) ≡ length all = length-map all (λ (x : Pairs). part_of (record { pairs = x; taken = [] })) in
    let some : 0 < length (parts_for all) = omega (arith, many) in
    let keeps : KeepOwn (length (parts_for all)) 0 (map (λ (p : Part). p.now) (parts_for all)) = own_stores (length (parts_for all)) 0 all ascend (subst (λ n. AreOwn n 0 all) (sym many) own) in
    ap (λ replies. rows_of_first (gathered replies)) (sym (asked w.limits (length w.parts) 0 ask all))
    ∙ ap rows_of_first (law w ((0, query ask) ∷ []) some keeps (sorted_cons 0 [] tt sorted_nil) (All-cons (λ r. IsForParts r.1) (0, query ask) [] tt (All-nil (λ r. IsForParts r.1))))
    ∙ ap (λ (parts : List Pairs). rows_over ask (united parts)) (pairs_back all)

texts_over : (ask : Ask) (parts : List Pairs) → map (λ ps. map row_text (rows_over ask ps)) parts ≡ map (map row_text) (map (rows_over ask) parts)
texts_over ask [] = refl
texts_over ask (ps ∷ parts) = ap (λ more. map row_text (rows_over ask ps) ∷ more) (texts_over ask parts)

pub joined_united : AreGathered → AreRenderedGathered → (ask : Ask) (parts : List Pairs) → All (λ (ps : Pairs). Ascends ps) parts → AreOwn (length parts) 0 parts
    → joined (map (λ ps. map row_text (rows_over ask ps)) parts) ≡ map row_text (rows_over ask (united parts))
joined_united law rendering ask parts ascend own =
    ap joined (texts_over ask parts) ∙ texts_joined rendering (map (rows_over ask) parts) ∙ ap (map row_text) (rows_united law ask parts ascend own)
