-- The partitions of a world, or one of them, have keys of their own alone behind requests, where they have before them.
use Rattle.std.proofs.Common.{◌≡◌, ◌+◌, ℕ, zero, suc, Bool, true, false, List, [], ◌∷◌, ◌++◌, length, map, arith, refl, sym, subst, inl, inr}
use Rattle.std.specs.Prelude.{◌%◌, Option, Some, None, is_some, if◌then◌else◌}
use Rattle.tc_keeper.specs.Standing.{IsSeen}
use Rattle.tc_model.specs.Document.{Document}
use Rattle.tc_request_model.specs.Request.{Request, Refusal, upsert, delete, get, query, flush, schema, scan, collect, refused}
use Rattle.tc_model.proofs.KeyedOrder.{All-with_value, All-without_key}
use Rattle.tc_plain_model.specs.Store.{Store, with_pair}
use Rattle.tc_request_model.specs.Part.{unless_refused, upsert_refusal}
use Rattle.tc_run_model.specs.Course.{behind, finished, input_failed, input_spent, output_failed, requests_in, stopped, unopened, worlds_left, Ending}
use Rattle.tc_run_model.specs.Windows.{unless_empty, Window}
use Rattle.tc_run_model.specs.World.{Part, World, after, after_all, changed_at, home_of, part_after}
use Rattle.tc_keeper.specs.Holds.{IsOneOf}
use Rattle.tc_keeper.specs.OwnKeys.{AreOwn, HaveOwn}
use Rattle.tc_keeper.specs.Places.{EachFrom}
use Rattle.tc_keeper.proofs.WorldCounts.{one_many}

-- ---- one partition

own_upsert : (count p n : ℕ) (d : Document) (s : Store) (refusal : Option Refusal) → n % count ≡ p → AreOwn count p s.pairs → AreOwn count p (unless_refused refusal (with_pair n d s) (λ r. s)).pairs
own_upsert count p n d s None here own = All-with_value (λ e. e.0 % count ≡ p) n d s.pairs here own
own_upsert count p n d s (Some r) here own = own

-- ---- the partition of a key

pub changed_each : (P : ℕ → Part → Type 0) (n home : ℕ) (f : Part → Part) (parts : List Part) → ((part : Part) → P (n + home) part → P (n + home) (f part)) → EachFrom P n parts → EachFrom P n (changed_at home f parts)
changed_each P n home f [] step each = tt
changed_each P n zero f (part ∷ parts) step each = let same : n + 0 ≡ n = omega arith in ((subst (λ m. (part : Part) → P m part → P m (f part)) same step) part each.0, each.1)
changed_each P n (suc home) f (part ∷ parts) step each =
    let same : n + suc home ≡ suc n + home = omega arith in
    (each.0, changed_each P (suc n) home f parts (subst (λ m. (part : Part) → P m part → P m (f part)) same step) each.1)

-- as many as before
recounted : (only : Option ℕ) (count count' : ℕ) (parts : List Part) → count' ≡ count → EachFrom (λ p part. IsSeen only p → AreOwn count p part.now.pairs) 0 parts → EachFrom (λ p part. IsSeen only p → AreOwn count' p part.now.pairs) 0 parts
recounted only count count' parts same own = subst (λ n. EachFrom (λ p part. IsSeen only p → AreOwn n p part.now.pairs) 0 parts) (sym same) own

changed_own : (only : Option ℕ) (n : ℕ) (r : Request) (w : World) → length (after r w).parts ≡ length w.parts → ((part : Part) → AreOwn (length w.parts) (n % length w.parts) part.now.pairs → AreOwn (length w.parts) (n % length w.parts) (part_after w.limits r part).now.pairs)
    → HaveOwn only w → EachFrom (λ p part. IsSeen only p → AreOwn (length w.parts) p part.now.pairs) 0 (changed_at (home_of n w) (part_after w.limits r) w.parts)
changed_own only n r w many step own =
    let same : 0 + home_of n w ≡ home_of n w = omega arith in
    changed_each (λ p part. IsSeen only p → AreOwn (length w.parts) p part.now.pairs) 0 (home_of n w) (part_after w.limits r) w.parts
    (λ part before is. subst (λ m. AreOwn (length w.parts) m part.now.pairs → AreOwn (length w.parts) m (part_after w.limits r part).now.pairs) (sym same) (step part) (before is)) own

either_own : (only : Option ℕ) (b : Bool) (v w : World) → HaveOwn only v → HaveOwn only w → HaveOwn only (if b then w else v)
either_own only true v w one other = other
either_own only false v w one other = one

one_own : (only : Option ℕ) (r : Request) (w : World) → HaveOwn only w → HaveOwn only (after r w)
one_own only (upsert n d) w own =
    recounted only (length w.parts) (length (after (upsert n d) w).parts) (after (upsert n d) w).parts (one_many (upsert n d) w)
    (changed_own only n (upsert n d) w (one_many (upsert n d) w) (λ part. own_upsert (length w.parts) (n % length w.parts) n d part.now (upsert_refusal w.limits n d part.now) refl) own)
one_own only (delete n) w own =
    recounted only (length w.parts) (length (after (delete n) w).parts) (after (delete n) w).parts (one_many (delete n) w)
    (changed_own only n (delete n) w (one_many (delete n) w) (λ part. All-without_key (λ e. e.0 % length w.parts ≡ n % length w.parts) n part.now.pairs) own)
one_own only (get n) w own = own
one_own only (query ask) w own = own
one_own only flush w own = own
one_own only schema w own = own
one_own only (scan ask) w own = either_own only (is_some w.running) (record w { running = Some (record { ask = ask; seen = map (λ part. length part.writes) w.parts }) }) w own own
one_own only collect w own = own
one_own only (refused r) w own = own

pub own_after : (rs : List Request) (only : Option ℕ) (w : World) → HaveOwn only w → HaveOwn only (after_all rs w)
own_after [] only w own = own
own_after (r ∷ rs) only w own = own_after rs only (after r w) (one_own only r w own)

-- ---- behind a run

alone_own : (only : Option ℕ) (w : World) → HaveOwn only w → (v : World) → IsOneOf v (w ∷ []) → HaveOwn only v
alone_own only w own v (inl same) = subst (HaveOwn only) (sym same) own
alone_own only w own v (inr none) = absurd none

behind_own : (only : Option ℕ) (w : World) (ws : List Window) → HaveOwn only w → HaveOwn only (behind w ws)
behind_own only w ws own = own_after (requests_in ws) only w own

-- so have the worlds at which a run may leave them
pub own_left : (only : Option ℕ) (w : World) (ending : Ending) (answered : List Window) (last : Window) → HaveOwn only w → (v : World) → IsOneOf v (worlds_left ending w answered last) → HaveOwn only v
own_left only w finished answered last own v is = alone_own only (behind w answered) (behind_own only w answered own) v is
own_left only w input_failed answered last own v is = alone_own only (behind w answered) (behind_own only w answered own) v is
own_left only w input_spent answered last own v is = alone_own only (behind w answered) (behind_own only w answered own) v is
own_left only w (output_failed n) answered last own v is = alone_own only (behind w (answered ++ last ∷ [])) (behind_own only w (answered ++ last ∷ []) own) v is
own_left only w stopped answered last own v (inl same) = subst (HaveOwn only) (sym same) (behind_own only w answered own)
own_left only w stopped answered last own v (inr more) = alone_own only (behind w (answered ++ unless_empty last)) (behind_own only w (answered ++ unless_empty last) own) v more
own_left only w unopened answered last own v is = alone_own only w own v is
