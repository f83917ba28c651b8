-- What a window leaves of a world is, of each partition, what its share leaves of that.
use Rattle.std.proofs.Common.{◌≡◌, ◌∙◌, ℕ, zero, suc, ◌+◌, ◌<◌, Bool, true, false, List, [], ◌∷◌, ◌++◌, map, length, arith, refl, ap, sym, subst}
use Rattle.std.specs.Prelude.{◌==◌, ◌%◌, All, cond, slice_get, unwrap_or}
use Rattle.std.proofs.lemmas.Bool.{true≢false}
use Rattle.std.proofs.lemmas.Bool.Decides.{nat_tests}
use Rattle.std.proofs.lemmas.List.{append_assoc, append-nil}
use Rattle.std.proofs.lemmas.List.Elements.{All-head, All-tail}
use Rattle.tc_model.specs.Keyed.{Keyed, values_in}
use Rattle.tc_request_model.specs.Request.{Request, upsert, delete, get, query, flush, schema, scan, collect, refused}
use Rattle.tc_plain_model.specs.Store.{Store, empty}
use Rattle.tc_plain_model.specs.Room.{Limits}
use Rattle.tc_request_model.specs.Part.{part_left, part_left_all, part_writes, part_writes_all}
use Rattle.tc_run_model.specs.World.{Part, World, home_of, store_at, part_after, with_part, changed_at, after, after_all}
use Rattle.tc_run_model.proofs.WorldLaws.{flushed_before, length-changed_at}
use Rattle.tc_route.specs.Answers.{IsForParts}
use Rattle.tc_route.specs.Shares.{is_for, share}
use Rattle.tc_keeper.specs.Places.{AtEach}
use Rattle.tc_keeper.proofs.PlaceLaws.{at_each-join, at_each-same, at_each-so, at_each-turned}

-- a part behind its share: what it stores, what it has written, and that it wrote nothing where all was flushed
pub record IsLeft (limits : Limits) (flushed : Bool) (rs : List Request) (old new : Part) : Type 0 where
  pub opened : new.opened ≡ old.opened
  pub stores : new.now ≡ part_left_all limits rs old.now
  pub writes : new.writes ≡ old.writes ++ part_writes_all limits rs old.now
  pub unwritten : flushed ≡ true → part_writes_all limits rs old.now ≡ []

-- a world behind a window
pub record AreLeft (count : ℕ) (rs : Keyed Request) (w v : World) : Type 0 where
  pub limits : v.limits ≡ w.limits
  pub many : length v.parts ≡ length w.parts
  pub each : AtEach (λ p old new. IsLeft w.limits v.flushed (values_in (share count p rs)) old new) 0 w.parts v.parts
  pub flushed : v.flushed ≡ true → w.flushed ≡ true

-- ---- one request for the partition of a number

-- the part of the number is changed, and the others are not
record IsChanged (f : Part → Part) (here : Bool) (home : Store) (old new : Part) : Type 0 where
  pub is : new ≡ cond here (f old) old
  pub at_home : here ≡ true → home ≡ old.now

unchanged : (f : Part → Part) (here : Bool) (home : Store) (part : Part) → here ≡ false → IsChanged f here home part part
unchanged f here home part apart = record { is = sym (ap (λ b. cond b (f part) part) apart); at_home = λ is. absurd (true≢false (sym is ∙ apart)) }

others : (f : Part → Part) (home : ℕ) (s : Store) (q : ℕ) (parts : List Part) → home < q → AtEach (λ i old new. IsChanged f (home == i) s old new) q parts parts
others f home s q [] less = tt
others f home s q (part ∷ parts) less =
    let apart : (home == q) ≡ false = grind (arith, nat_tests, less) in
    (unchanged f (home == q) s part apart, others f home s (suc q) parts (omega (arith, less)))

changed_each : (f : Part → Part) (home p k : ℕ) (parts : List Part) → home ≡ p + k
    → AtEach (λ i old new. IsChanged f (home == i) (unwrap_or (slice_get (map (λ part. part.now) parts) k) empty) old new) p parts (changed_at k f parts)
changed_each f home p k [] at = tt
changed_each f home p zero (part ∷ parts) at =
    let here : (home == p) ≡ true = grind (arith, nat_tests, at) in
    (record { is = sym (ap (λ b. cond b (f part) part) here); at_home = λ is. refl }, others f home part.now (suc p) parts (omega (arith, at)))
changed_each f home p (suc k) (part ∷ parts) at =
    let apart : (home == p) ≡ false = grind (arith, nat_tests, at) in
    (unchanged f (home == p) (unwrap_or (slice_get (map (λ part. part.now) parts) k) empty) part apart, changed_each f home (suc p) k parts (omega (arith, at)))

-- ---- requests, one after the other

-- a part behind a request for it, or for another one, and then behind its share of the rest
step_left : (limits : Limits) (flushed here : Bool) (home : Store) (r : ℕ × Request) (rs : Keyed Request) (old mid new : Part) → (flushed ≡ true → part_writes limits r.1 home ≡ [])
    → IsChanged (part_after limits r.1) here home old mid → IsLeft limits flushed (values_in rs) mid new → IsLeft limits flushed (values_in (cond here (r ∷ rs) rs)) old new
step_left limits flushed true home r rs old mid new nothing changed left = record {
  opened = left.opened ∙ ap (λ (part : Part). part.opened) changed.is;
  writes =
      left.writes ∙ ap (λ (part : Part). part.writes ++ part_writes_all limits (values_in rs) part.now) changed.is
      ∙ append_assoc old.writes (part_writes limits r.1 old.now) (part_writes_all limits (values_in rs) (part_left limits r.1 old.now));
  stores = left.stores ∙ ap (λ (part : Part). part_left_all limits (values_in rs) part.now) changed.is;
  unwritten = λ is.
      let first : part_writes limits r.1 old.now ≡ [] = sym (ap (part_writes limits r.1) (changed.at_home refl)) ∙ nothing is in
      ap (λ ws. ws ++ part_writes_all limits (values_in rs) (part_left limits r.1 old.now)) first
      ∙ sym (ap (λ (part : Part). part_writes_all limits (values_in rs) part.now) changed.is) ∙ left.unwritten is;
}
step_left limits flushed false home r rs old mid new nothing changed left = record {
  opened = left.opened ∙ ap (λ (part : Part). part.opened) changed.is;
  writes = left.writes ∙ ap (λ (part : Part). part.writes ++ part_writes_all limits (values_in rs) part.now) changed.is;
  stores = left.stores ∙ ap (λ (part : Part). part_left_all limits (values_in rs) part.now) changed.is;
  unwritten = λ is. sym (ap (λ (part : Part). part_writes_all limits (values_in rs) part.now) changed.is) ∙ left.unwritten is;
}

-- one for a key, and what is left behind those after it
home_left : (count n : ℕ) (r : ℕ × Request) (rs : Keyed Request) (w v : World) → length w.parts ≡ count → ((p : ℕ) → is_for count p r.1 ≡ (n % count == p))
    → AreLeft count rs (with_part (home_of n w) r.1 w) v → AreLeft count (r ∷ rs) w v
home_left count n r rs w v many one left = record {
  limits = left.limits;
  many = left.many ∙ length-changed_at (home_of n w) (part_after w.limits r.1) w.parts;
  each = at_each-join Changed Left Both 0 (changed_at (home_of n w) (part_after w.limits r.1) w.parts) w.parts v.parts step
      (at_each-turned (λ p old mid. Changed p mid old) 0 w.parts (changed_at (home_of n w) (part_after w.limits r.1) w.parts) (changed_each (part_after w.limits r.1) (home_of n w) 0 (home_of n w) w.parts (omega arith)))
      left.each;
  flushed = λ is. (flushed_before (home_of n w) r.1 w (left.flushed is)).0;
}
  where
    Changed : ℕ → Part → Part → Type 0
    Changed p mid old = IsChanged (part_after w.limits r.1) (home_of n w == p) (store_at (home_of n w) w) old mid

    Left : ℕ → Part → Part → Type 0
    Left p mid new = IsLeft w.limits v.flushed (values_in (share count p rs)) mid new

    Both : ℕ → Part → Part → Type 0
    Both p old new = IsLeft w.limits v.flushed (values_in (share count p (r ∷ rs))) old new

    step : (p : ℕ) (mid old new : Part) → Changed p mid old → Left p mid new → Both p old new
    step p mid old new changed more =
        let is_home : (home_of n w == p) ≡ is_for count p r.1 = sym (one p ∙ ap (λ c. n % c == p) (sym many)) in
        subst (λ b. IsLeft w.limits v.flushed (values_in (cond b (r ∷ share count p rs) (share count p rs))) old new) is_home
        (step_left w.limits v.flushed (home_of n w == p) (store_at (home_of n w) w) r (share count p rs) old mid new (λ is. (flushed_before (home_of n w) r.1 w (left.flushed is)).1) changed more)

-- a request that changes nothing
same_left : (limits : Limits) (flushed here : Bool) (r : ℕ × Request) (rs : Keyed Request) (old new : Part) → ((s : Store) → part_left limits r.1 s ≡ s) → ((s : Store) → part_writes limits r.1 s ≡ [])
    → IsLeft limits flushed (values_in rs) old new → IsLeft limits flushed (values_in (cond here (r ∷ rs) rs)) old new
same_left limits flushed true r rs old new same nothing left = record {
  opened = left.opened;
  stores = left.stores ∙ sym (ap (part_left_all limits (values_in rs)) (same old.now));
  writes = left.writes ∙ sym (ap (λ ws. old.writes ++ ws) no_more);
  unwritten = λ is. no_more ∙ left.unwritten is;
}
  where
    no_more : part_writes limits r.1 old.now ++ part_writes_all limits (values_in rs) (part_left limits r.1 old.now) ≡ part_writes_all limits (values_in rs) old.now
    no_more =
        ap (λ ws. ws ++ part_writes_all limits (values_in rs) (part_left limits r.1 old.now)) (nothing old.now)
        ∙ ap (part_writes_all limits (values_in rs)) (same old.now)
same_left limits flushed false r rs old new same nothing left = left

still_left : (count : ℕ) (r : ℕ × Request) (rs : Keyed Request) (w v : World) → ((s : Store) → part_left w.limits r.1 s ≡ s) → ((s : Store) → part_writes w.limits r.1 s ≡ []) → AreLeft count rs w v → AreLeft count (r ∷ rs) w v
still_left count r rs w v same nothing left = record {
  limits = left.limits;
  many = left.many;
  each = at_each-so (λ p old new. IsLeft w.limits v.flushed (values_in (share count p rs)) old new) (λ p old new. IsLeft w.limits v.flushed (values_in (share count p (r ∷ rs))) old new) 0 w.parts v.parts
      (λ p old new of_rest. same_left w.limits v.flushed (is_for count p r.1) r (share count p rs) old new same nothing of_rest) left.each;
  flushed = left.flushed;
}

pub shares_left : (count : ℕ) (rs : Keyed Request) (w : World) → length w.parts ≡ count → All (λ r. IsForParts r.1) rs → AreLeft count rs w (after_all (values_in rs) w)
shares_left count [] w many parts = record {
  limits = refl;
  many = refl;
  each = at_each-same (λ p old new. IsLeft w.limits w.flushed [] old new) 0 w.parts (λ p part. record { opened = refl; stores = refl; writes = sym (append-nil part.writes); unwritten = λ is. refl });
  flushed = λ is. is;
}
shares_left count ((at, upsert n d) ∷ rs) w many parts =
    home_left count n (at, upsert n d) rs w (after_all (values_in rs) (after (upsert n d) w)) many (λ p. refl)
    (shares_left count rs (with_part (home_of n w) (upsert n d) w) (length-changed_at (home_of n w) (part_after w.limits (upsert n d)) w.parts ∙ many) (All-tail (λ r. IsForParts r.1) (at, upsert n d) rs parts))
shares_left count ((at, delete n) ∷ rs) w many parts =
    home_left count n (at, delete n) rs w (after_all (values_in rs) (after (delete n) w)) many (λ p. refl)
    (shares_left count rs (with_part (home_of n w) (delete n) w) (length-changed_at (home_of n w) (part_after w.limits (delete n)) w.parts ∙ many) (All-tail (λ r. IsForParts r.1) (at, delete n) rs parts))
shares_left count ((at, get n) ∷ rs) w many parts =
    still_left count (at, get n) rs w (after_all (values_in rs) w) (λ s. refl) (λ s. refl) (shares_left count rs w many (All-tail (λ r. IsForParts r.1) (at, get n) rs parts))
shares_left count ((at, query ask) ∷ rs) w many parts =
    still_left count (at, query ask) rs w (after_all (values_in rs) w) (λ s. refl) (λ s. refl) (shares_left count rs w many (All-tail (λ r. IsForParts r.1) (at, query ask) rs parts))
shares_left count ((at, flush) ∷ rs) w many parts = absurd (All-head (λ r. IsForParts r.1) (at, flush) rs parts)
shares_left count ((at, schema) ∷ rs) w many parts = absurd (All-head (λ r. IsForParts r.1) (at, schema) rs parts)
shares_left count ((at, scan ask) ∷ rs) w many parts = absurd (All-head (λ r. IsForParts r.1) (at, scan ask) rs parts)
shares_left count ((at, collect) ∷ rs) w many parts = absurd (All-head (λ r. IsForParts r.1) (at, collect) rs parts)
shares_left count ((at, refused why) ∷ rs) w many parts = absurd (All-head (λ r. IsForParts r.1) (at, refused why) rs parts)
