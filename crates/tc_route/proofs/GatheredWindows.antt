-- What partitions reply to their shares of a window, put together, are the replies of the world, in the window's order.
use Rattle.std.proofs.Common.{◌≡◌, ◌∙◌, ap, sym, subst, refl, ℕ, zero, suc, ◌+◌, ◌<◌, List, [], ◌∷◌, map, length, arith, add-zero}
use Rattle.std.specs.Prelude.{◌%◌, Option, Some, None, fold, All}
use Rattle.std.proofs.lemmas.List.{length-map}
use Rattle.std.proofs.lemmas.Nat.{mod_below}
use Rattle.std.proofs.lemmas.List.Elements.{All-nil, All-head, All-tail}
use Rattle.tc_model.specs.Document.{Document}
use Rattle.tc_model.specs.Keyed.{Keyed, Ascends}
use Rattle.tc_request_model.specs.Request.{Request, upsert, delete, get, query, flush, schema, scan, collect, refused, Refusal}
use Rattle.tc_request_model.specs.Reply.{rows}
use Rattle.tc_model.proofs.KeyedOrder.{sorted-with_value, All-with_value, sorted-without_key, All-without_key}
use Rattle.tc_plain_model.specs.Store.{Store, with_pair, without_pair}
use Rattle.tc_request_model.specs.Rows.{rows_over}
use Rattle.tc_plain_model.specs.Room.{Limits}
use Rattle.tc_request_model.specs.Part.{part_reply, part_left, upsert_refusal, unless_refused}
use Rattle.tc_run_model.specs.World.{Part, World, home_of, store_at, united, part_after, with_part, changed_at}
use Rattle.tc_run_model.proofs.UnitedPairs.{behind_first, rest_ascends}
use Rattle.tc_run_model.proofs.WorldLaws.{length-changed_at}
use Rattle.tc_route.specs.Gathered.{with_reply, gathered}
use Rattle.tc_route.specs.Answers.{shares_answered, window_answered, stores_of, IsForParts, KeepOwn, AreGathered}
use Rattle.tc_route.proofs.Homes.{all_of, IsForOne, homed}
use Rattle.tc_route.proofs.AskedAll.{asked_all}

-- ---- a change at a place

unchanged_at : {A : Type 0} (k : ℕ) (xs : List A) → changed_at k (λ x. x) xs ≡ xs
unchanged_at k [] = refl
unchanged_at zero (x ∷ xs) = refl
unchanged_at (suc k) (x ∷ xs) = ap (λ more. x ∷ more) (unchanged_at k xs)

stores_changed : (limits : Limits) (r : Request) (k : ℕ) (parts : List Part) → map (λ part. part.now) (changed_at k (part_after limits r) parts) ≡ changed_at k (part_left limits r) (map (λ part. part.now) parts)
stores_changed limits r k [] = refl
stores_changed limits r zero (part ∷ parts) = refl
stores_changed limits r (suc k) (part ∷ parts) = ap (λ more. part.now ∷ more) (stores_changed limits r k parts)

pairs_of_stores : (parts : List Part) → map (λ s. s.pairs) (map (λ part. part.now) parts) ≡ map (λ part. part.now.pairs) parts
pairs_of_stores [] = refl
pairs_of_stores (part ∷ parts) = ap (λ more. part.now.pairs ∷ more) (pairs_of_stores parts)

-- ---- partitions keep their own keys alone

-- that a store has keys of one partition alone, in order
abbrev HasOwn : ℕ → ℕ → Store → Type 0
HasOwn count p s = Ascends s.pairs × All (λ e. e.0 % count ≡ p) s.pairs

own_left : (count n : ℕ) (d : Document) (limits : Limits) (s : Store) → HasOwn count (n % count) s → HasOwn count (n % count) (part_left limits (upsert n d) s)
own_left count n d limits s own = either (upsert_refusal limits n d s)
  where
    either : (o : Option Refusal) → HasOwn count (n % count) (unless_refused o (with_pair n d s) (λ r. s))
    either None = (sorted-with_value n d s.pairs own.0, All-with_value (λ e. e.0 % count ≡ n % count) n d s.pairs refl own.1)
    either (Some r) = own

own_kept : (count p : ℕ) (n : ℕ) (s : Store) → HasOwn count p s → HasOwn count p (without_pair n s)
own_kept count p n s own = (sorted-without_key n s.pairs own.0, All-without_key (λ e. e.0 % count ≡ p) n s.pairs own.1)

own_changed : (count home p k : ℕ) (f : Store → Store) (ss : List Store) → home ≡ p + k → ((s : Store) → HasOwn count home s → HasOwn count home (f s)) → KeepOwn count p ss → KeepOwn count p (changed_at k f ss)
own_changed count home p k f [] at keeps own = tt
own_changed count home p zero f (s ∷ ss) at keeps own =
    let here : home ≡ p = at ∙ add-zero p in
    let P : ℕ → Type 0 = λ h. HasOwn count h (f s) in
    let Q : ℕ → Type 0 = λ h. HasOwn count h s in
    let left : HasOwn count p (f s) = subst P here (keeps s (subst Q (sym here) (own.0, own.1))) in
    (left.0, left.1, own.2)
own_changed count home p (suc k) f (s ∷ ss) at keeps own =
    (own.0, own.1, own_changed count home (suc p) k f ss (omega (arith, at)) keeps own.2)

own_with_part : (w : World) (n : ℕ) (r : Request) → ((s : Store) → HasOwn (length w.parts) (home_of n w) s → HasOwn (length w.parts) (home_of n w) (part_left w.limits r s)) → KeepOwn (length w.parts) 0 (stores_of w)
    → KeepOwn (length (with_part (home_of n w) r w).parts) 0 (stores_of (with_part (home_of n w) r w))
own_with_part w n r keeps own =
    rw (length-changed_at (home_of n w) (part_after w.limits r) w.parts, stores_changed w.limits r (home_of n w) w.parts)
    (own_changed (length w.parts) (home_of n w) 0 (home_of n w) (part_left w.limits r) (stores_of w) (omega arith) keeps own)

-- ---- one request, and those behind it

home_below : (w : World) (n : ℕ) → 0 < length w.parts → home_of n w < length (stores_of w)
home_below w n some = rw (length-map w.parts (λ part. part.now)) (mod_below n (length w.parts) some)

home_first : (at : ℕ) (r : Request) (n : ℕ) (rs : Keyed Request) (w : World) → 0 < length w.parts → IsForOne (length w.parts) (home_of n w) r → All (λ e. at < e.0) rs
    → gathered (shares_answered w.limits (length w.parts) 0 ((at, r) ∷ rs) (stores_of w))
    ≡ (at, part_reply w.limits r (store_at (home_of n w) w)) ∷ gathered (shares_answered w.limits (length w.parts) 0 rs (changed_at (home_of n w) (part_left w.limits r) (stores_of w)))
home_first at r n rs w some one behind =
    homed w.limits (length w.parts) (home_of n w) 0 (home_of n w) (at, r) rs (stores_of w) [] one (omega arith) (home_below w n some) (All-nil (λ e. at < e.0)) behind

home_step : (at : ℕ) (r : Request) (n : ℕ) (rs : Keyed Request) (w : World) → 0 < length w.parts → IsForOne (length w.parts) (home_of n w) r → All (λ e. at < e.0) rs
    → gathered (shares_answered w.limits (length (with_part (home_of n w) r w).parts) 0 rs (stores_of (with_part (home_of n w) r w))) ≡ window_answered rs (with_part (home_of n w) r w)
    → gathered (shares_answered w.limits (length w.parts) 0 ((at, r) ∷ rs) (stores_of w)) ≡ (at, part_reply w.limits r (store_at (home_of n w) w)) ∷ window_answered rs (with_part (home_of n w) r w)
home_step at r n rs w some one behind more =
    home_first at r n rs w some one behind
    ∙ ap (λ all. (at, part_reply w.limits r (store_at (home_of n w) w)) ∷ all)
    (ap (λ ss. gathered (shares_answered w.limits (length w.parts) 0 rs ss)) (sym (stores_changed w.limits r (home_of n w) w.parts))
    ∙ ap (λ count. gathered (shares_answered w.limits count 0 rs (stores_of (with_part (home_of n w) r w)))) (sym (length-changed_at (home_of n w) (part_after w.limits r) w.parts))
    ∙ more)

nothing_answered : (limits : Limits) (count p : ℕ) (ss : List Store) → all_of (shares_answered limits count p [] ss) ≡ []
nothing_answered limits count p [] = refl
nothing_answered limits count p (s ∷ ss) = nothing_answered limits count (suc p) ss

-- ---- all of them

still_some : (w : World) (n : ℕ) (r : Request) → 0 < length w.parts → 0 < length (with_part (home_of n w) r w).parts
still_some w n r some = rw (length-changed_at (home_of n w) (part_after w.limits r) w.parts) some

answers_gathered : (window : Keyed Request) (w : World) → 0 < length w.parts → KeepOwn (length w.parts) 0 (stores_of w) → Ascends window → All (λ r. IsForParts r.1) window
    → gathered (shares_answered w.limits (length w.parts) 0 window (stores_of w)) ≡ window_answered window w
answers_gathered [] w some own ascends parts = ap (λ all. fold with_reply [] all) (nothing_answered w.limits (length w.parts) 0 (stores_of w))
answers_gathered ((at, upsert n d) ∷ rs) w some own ascends parts =
    home_step at (upsert n d) n rs w some (λ q. refl) (behind_first (at, upsert n d) rs ascends)
    (answers_gathered rs (with_part (home_of n w) (upsert n d) w) (still_some w n (upsert n d) some)
    (own_with_part w n (upsert n d) (own_left (length w.parts) n d w.limits) own) (rest_ascends (at, upsert n d) rs ascends) (All-tail (λ r. IsForParts r.1) (at, upsert n d) rs parts))
answers_gathered ((at, delete n) ∷ rs) w some own ascends parts =
    home_step at (delete n) n rs w some (λ q. refl) (behind_first (at, delete n) rs ascends)
    (answers_gathered rs (with_part (home_of n w) (delete n) w) (still_some w n (delete n) some)
    (own_with_part w n (delete n) (own_kept (length w.parts) (home_of n w) n) own) (rest_ascends (at, delete n) rs ascends) (All-tail (λ r. IsForParts r.1) (at, delete n) rs parts))
answers_gathered ((at, get n) ∷ rs) w some own ascends parts =
    home_first at (get n) n rs w some (λ q. refl) (behind_first (at, get n) rs ascends)
    ∙ ap (λ all. (at, part_reply w.limits (get n) (store_at (home_of n w) w)) ∷ all)
    (ap (λ ss. gathered (shares_answered w.limits (length w.parts) 0 rs ss)) (unchanged_at (home_of n w) (stores_of w))
    ∙ answers_gathered rs w some own (rest_ascends (at, get n) rs ascends) (All-tail (λ r. IsForParts r.1) (at, get n) rs parts))
answers_gathered ((at, query ask) ∷ rs) w some own ascends parts =
    asked_all w.limits (length w.parts) at ask rs (stores_of w) (rw (length-map w.parts (λ part. part.now)) some) own (behind_first (at, query ask) rs ascends)
    ∙ ap (λ ps. (at, rows (rows_over ask (united ps))) ∷ gathered (shares_answered w.limits (length w.parts) 0 rs (stores_of w))) (pairs_of_stores w.parts)
    ∙ ap (λ all. (at, rows (rows_over ask (united (map (λ part. part.now.pairs) w.parts)))) ∷ all)
    (answers_gathered rs w some own (rest_ascends (at, query ask) rs ascends) (All-tail (λ r. IsForParts r.1) (at, query ask) rs parts))
answers_gathered ((at, flush) ∷ rs) w some own ascends parts = absurd (All-head (λ r. IsForParts r.1) (at, flush) rs parts)
answers_gathered ((at, schema) ∷ rs) w some own ascends parts = absurd (All-head (λ r. IsForParts r.1) (at, schema) rs parts)
answers_gathered ((at, scan ask) ∷ rs) w some own ascends parts = absurd (All-head (λ r. IsForParts r.1) (at, scan ask) rs parts)
answers_gathered ((at, collect) ∷ rs) w some own ascends parts = absurd (All-head (λ r. IsForParts r.1) (at, collect) rs parts)
answers_gathered ((at, refused why) ∷ rs) w some own ascends parts = absurd (All-head (λ r. IsForParts r.1) (at, refused why) rs parts)

pub are_gathered : AreGathered
are_gathered w window some own ascends parts = answers_gathered window w some own ascends parts
