-- The partitions of a world had and wrote keys of their own alone behind requests, where they did before them.
use Rattle.std.proofs.Common.{◌≡◌, ◌+◌, ℕ, suc, List, [], ◌∷◌, All, length, map, arith, refl, ap, sym, subst}
use Rattle.std.specs.Prelude.{◌%◌, Bool, true, false, Option, Some, None, is_some, if◌then◌else◌}
use Rattle.std.proofs.lemmas.List.Elements.{All-append, All-cons, All-nil}
use Rattle.tc_model.specs.Document.{Document}
use Rattle.tc_request_model.specs.Request.{Refusal, Request, upsert, delete, get, query, flush, schema, scan, collect, refused}
use Rattle.tc_plain_model.specs.Room.{Limits}
use Rattle.tc_request_model.specs.Part.{part_writes, unless_refused, upsert_refusal}
use Rattle.tc_plain_model.specs.Store.{stored, Store}
use Rattle.tc_plain_model.specs.Writes.{set, unset, Write}
use Rattle.tc_route.specs.Answers.{stores_of, KeepOwn}
use Rattle.tc_run_model.specs.World.{after, after_all, changed_at, first_world, home_of, part_after, part_of, Part, World}
use Rattle.tc_keeper.specs.Keeping.{HasOwnKeys}
use Rattle.tc_keeper.specs.Places.{EachFrom}
use Rattle.tc_keeper.proofs.OwnWorlds.{changed_each}
use Rattle.tc_keeper.proofs.WorldCounts.{one_many}

-- ---- the writes of a request

abbrev Own : ℕ → ℕ → Write → Type 0
Own count p w = w.0 % count ≡ p

alone : (count p : ℕ) (w : Write) → Own count p w → All (Own count p) (w ∷ [])
alone count p w own = All-cons (Own count p) w [] own (All-nil (Own count p))

set_own : (count p n : ℕ) (d : Document) (refusal : Option Refusal) → n % count ≡ p → All (Own count p) (unless_refused refusal (set n d ∷ []) (λ r. []))
set_own count p n d None here = alone count p (set n d) here
set_own count p n d (Some r) here = All-nil (Own count p)

unset_own : (count p n : ℕ) (found : Bool) → n % count ≡ p → All (Own count p) (if found then unset n ∷ [] else [])
unset_own count p n true here = alone count p (unset n) here
unset_own count p n false here = All-nil (Own count p)

written_own : (count p : ℕ) (limits : Limits) (r : Request) (part : Part) → All (Own count p) (part_writes limits r part.now) → HasOwnKeys count p part → HasOwnKeys count p (part_after limits r part)
written_own count p limits r part own has = record { opened = has.opened; writes = All-append (Own count p) part.writes (part_writes limits r part.now) has.writes own }

-- ---- a world

abbrev pub OwnKeys : World → Type 0
OwnKeys w = EachFrom (HasOwnKeys (length w.parts)) 0 w.parts

recounted : (count count' : ℕ) (parts : List Part) → count' ≡ count → EachFrom (HasOwnKeys count) 0 parts → EachFrom (HasOwnKeys count') 0 parts
recounted count count' parts same own = subst (λ n. EachFrom (HasOwnKeys n) 0 parts) (sym same) own

changed_keys : (n : ℕ) (r : Request) (w : World) → ((part : Part) → All (Own (length w.parts) (n % length w.parts)) (part_writes w.limits r part.now)) → OwnKeys w
    → EachFrom (HasOwnKeys (length w.parts)) 0 (changed_at (home_of n w) (part_after w.limits r) w.parts)
changed_keys n r w written own =
    let same : 0 + home_of n w ≡ home_of n w = omega arith in
    changed_each (HasOwnKeys (length w.parts)) 0 (home_of n w) (part_after w.limits r) w.parts
    (λ part has. subst (λ m. HasOwnKeys (length w.parts) m part → HasOwnKeys (length w.parts) m (part_after w.limits r part)) (sym same) (written_own (length w.parts) (n % length w.parts) w.limits r part (written part)) has) own

either_keys : (b : Bool) (v w : World) → OwnKeys v → OwnKeys w → OwnKeys (if b then w else v)
either_keys true v w one other = other
either_keys false v w one other = one

one_keys : (r : Request) (w : World) → OwnKeys w → OwnKeys (after r w)
one_keys (upsert n d) w own =
    recounted (length w.parts) (length (after (upsert n d) w).parts) (after (upsert n d) w).parts (one_many (upsert n d) w)
    (changed_keys n (upsert n d) w (λ part. set_own (length w.parts) (n % length w.parts) n d (upsert_refusal w.limits n d part.now) refl) own)
one_keys (delete n) w own =
    recounted (length w.parts) (length (after (delete n) w).parts) (after (delete n) w).parts (one_many (delete n) w)
    (changed_keys n (delete n) w (λ part. unset_own (length w.parts) (n % length w.parts) n (is_some (stored n part.now)) refl) own)
one_keys (get n) w own = own
one_keys (query ask) w own = own
one_keys flush w own = own
one_keys schema w own = own
one_keys (scan ask) w own = either_keys (is_some w.running) (record w { running = Some (record { ask = ask; seen = map (λ part. length part.writes) w.parts }) }) w own own
one_keys collect w own = own
one_keys (refused r) w own = own

pub keys_after : (rs : List Request) (w : World) → OwnKeys w → OwnKeys (after_all rs w)
keys_after [] w own = own
keys_after (r ∷ rs) w own = keys_after rs (after r w) (one_keys r w own)

-- where a run begins
first_each : (count p : ℕ) (stores : List Store) → KeepOwn count p (map (λ part. part.now) (map part_of stores)) → EachFrom (HasOwnKeys count) p (map part_of stores)
first_each count p [] own = tt
first_each count p (s ∷ stores) own = (record { opened = own.1; writes = All-nil (Own count p) }, first_each count (suc p) stores own.2)

pub first_keys : (w : World) (stores : List Store) → w ≡ first_world w.limits stores → KeepOwn (length w.parts) 0 (stores_of w) → OwnKeys w
first_keys w stores first own =
    let parts : w.parts ≡ map part_of stores = ap (λ (v : World). v.parts) first in
    subst (λ ps. EachFrom (HasOwnKeys (length w.parts)) 0 ps) (sym parts) (first_each (length w.parts) 0 stores (subst (λ ps. KeepOwn (length w.parts) 0 (map (λ (part : Part). part.now) ps)) parts own))
