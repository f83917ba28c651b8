-- A scan that is started is out for the world, and what it found is what a collect may be replied.
use Rattle.std.proofs.Common.{◌≡◌, ◌∙◌, ◌≤◌, ◌<◌, ℕ, zero, suc, false, List, [], ◌∷◌, All, map, length, length-append, take, arith, refl, ap, sym, subst}
use Rattle.std.specs.Prelude.{◌+◌, ◌%◌, HoldsAt, None, Option, Some, zip}
use Rattle.std.specs.List.{AllZip}
use Rattle.std.proofs.lemmas.List.{length-map}
use Rattle.std.proofs.lemmas.List.Elements.{All-head, All-tail, All-nil, All-cons}
use mathlib.Core.List.{IsPrefix}
use Rattle.tc_component.specs.Loaded.{IsLoadedOf}
use Rattle.tc_keeper.specs.Places.{AtEach, EachFrom}
use Rattle.tc_keeper.specs.Standing.{IsSeen}
use Rattle.tc_keeper.proofs.PlaceLaws.{at_each-join, at_each-reads}
use Rattle.tc_lsm_model.specs.Contents as documents
use Rattle.tc_machine.specs.Logs.{kept_write}
use Rattle.tc_model.specs.Keyed.{with_value, without_key}
use Rattle.tc_model.proofs.KeyedOrder.{All-with_value, All-without_key}
use Rattle.tc_plain_model.specs.Writes.{Pairs, Write, after_writes}
use Rattle.tc_run_model.specs.World.{pairs_at, Part}
use Rattle.tc_shown.specs.Scans.{AreOwn, GoesOn, ShowAll}
use Rattle.tc_shown.specs.Shown.{key_of, Reads, ShownState}
use Rattle.tc_shown.specs.declared.scan.Pass.{Pass}
use Rattle.tc_store.specs.Counted.{Counts}
use Rattle.tc_view.specs.declared.content.Content.{Content}
use Rattle.tc_view.specs.declared.happened.Happened.{Happened}
use Rattle.tc_view.specs.declared.rule.Key.{Key}
use Rattle.tc_view.specs.Changes.{showing_in, writes_of}
use Rattle.tc_view.specs.Holding.{Holds, HoldsWrites}
use Rattle.tc_view.specs.Places.{kept_by}
use Rattle.tc_view.specs.Rules.{IsViewOf}
use Rattle.tc_keeper.specs.Keeping.{HasOwnKeys, ShowsPart}

-- ---- laws of views, as they are handed in

-- a view of a history shows what its writes leave
abbrev pub LawOfViews : {F : Type 0} → Type 0 → (F → Option (List ℕ)) → Type 0
LawOfViews W content =
    (start : Pairs) (writes : List Write) (history : List (Happened _ W)) (k : Key) (c : Content _ W) → HoldsWrites content start writes history → IsViewOf k c → IsPrefix c.history history → 0 < length c.history
    → Holds content (showing_in c) (after_writes start (take c.upto writes))

abbrev pub LawOfCounts : {F : Type 0} → Type 0 → (F → Option (List ℕ)) → Type 0
LawOfCounts W content =
    (start : Pairs) (writes : List Write) (history : List (Happened _ W)) (k : Key) (c : Content _ W) → HoldsWrites content start writes history → IsViewOf k c → IsPrefix c.history history → c.upto ≤ length writes

abbrev pub LawOfGrowth : Type 0 → Type 0 → Type 0
LawOfGrowth F W = (k : Key) (c d : Content F W) → IsViewOf k c → IsViewOf k d → IsPrefix c.history d.history → c.upto ≤ d.upto

-- ---- a scan that is started

module _ {F W : Type 0} (content : F → Option (List ℕ)) (only : Option ℕ) where
  abbrev Lent : ℕ → ShownState F W → Pass F W → Type 0
  Lent p s pass = Reads s.book pass.lens × ((kept_by pass.lens).history ≡ s.history)

  -- it has a view of all writes of a partition
  abbrev Sees : ℕ → Pass F W → ℕ → Type 0
  Sees p pass least = IsSeen only p → (0 < length (kept_by pass.lens).history) × (least ≤ (kept_by pass.lens).upto)

  lent_all : (s : ShownState F W) (pass : Pass F W) (part : Part) → Reads s.book pass.lens → (kept_by pass.lens).history ≡ s.history → ShowsPart content s part → (0 < length (kept_by pass.lens).history) × (length part.writes ≤ (kept_by pass.lens).upto)
  lent_all s pass part reads all shows =
      let upto = reads.kept.upto ∙ ap (λ (h : List (Happened F W)). length (writes_of h)) all ∙ ap length shows.shows.written ∙ length-map part.writes kept_write in
      (subst (λ (h : List (Happened F W)). 0 < length h) (sym all) shows.some, omega (arith, upto))

  pub scan_begun : (shown : List (ShownState F W)) (passes : List (Pass F W)) (parts : List Part) → AtEach Lent 0 shown passes → AtEach (λ p s part. IsSeen only p → ShowsPart content s part) 0 shown parts
      → AtEach Sees 0 passes (map (λ part. length part.writes) parts)
  scan_begun shown passes parts lent shows =
      at_each-reads (λ (part : Part). length part.writes) Sees 0 passes parts
      (at_each-join Lent (λ p s part. IsSeen only p → ShowsPart content s part) (λ p pass part. IsSeen only p → (0 < length (kept_by pass.lens).history) × (length part.writes ≤ (kept_by pass.lens).upto)) 0 shown passes parts
      (λ p s pass part l holds seen. lent_all s pass part l.0 l.1 (holds seen)) lent shows)

-- ---- keys

after_own : (count p : ℕ) (pairs : Pairs) (ws : List Write) → All (λ e. e.0 % count ≡ p) pairs → All (λ w. w.0 % count ≡ p) ws → All (λ e. e.0 % count ≡ p) (after_writes pairs ws)
after_own count p pairs [] own all = own
after_own count p pairs ((n, Some d) ∷ ws) own all =
    after_own count p (with_value n d pairs) ws (All-with_value (λ e. e.0 % count ≡ p) n d pairs (All-head (λ (w : Write). w.0 % count ≡ p) (n, Some d) ws all) own) (All-tail (λ (w : Write). w.0 % count ≡ p) (n, Some d) ws all)
after_own count p pairs ((n, None) ∷ ws) own all = after_own count p (without_key n pairs) ws (All-without_key (λ e. e.0 % count ≡ p) n pairs own) (All-tail (λ (w : Write). w.0 % count ≡ p) (n, None) ws all)

take_all : {X : Type 0} (P : X → Type 0) (n : ℕ) (xs : List X) → All P xs → All P (take n xs)
take_all P zero xs all = All-nil P
take_all P (suc n) [] all = All-nil P
take_all P (suc n) (x ∷ xs) all = All-cons P x (take n xs) (All-head P x xs all) (take_all P n xs (All-tail P x xs all))

pairs_own : (count p u : ℕ) (part : Part) → HasOwnKeys count p part → All (λ e. e.0 % count ≡ p) (pairs_at u part)
pairs_own count p u part own = after_own count p part.opened (take u part.writes) own.opened (take_all (λ w. w.0 % count ≡ p) u part.writes own.writes)

-- ---- what is collected

module _ {F W : Type 0} (content : F → Option (List ℕ)) (counts : W → Counts) where
  abbrev upto_of : List (Pass F W) → List ℕ
  upto_of passes = map (λ (pass : Pass F W). (kept_by pass.lens).upto) passes

  abbrev found : List ℕ → List Part → List Pairs
  found upto parts = map (λ (p : ℕ × Part). pairs_at p.0 p.1) (zip upto parts)

  -- the passes of a scan that has run, as it began and as they came back, beside what is shown and what the world has
  pub record Collects (count p : ℕ) (passes : List (Pass F W)) (parts : List Part) (seen : List ℕ) : Type 0 where
    pub least : AllZip (λ least u. least ≤ u) seen (upto_of passes)
    pub most : AllZip (λ u part. u ≤ length part.writes) (upto_of passes) parts
    pub shows : ShowAll content passes (found (upto_of passes) parts)
    pub own : AreOwn count p (found (upto_of passes) parts)
    pub many : length (found (upto_of passes) parts) ≡ length parts

  one_longer : (old new : Pass F W) → IsPrefix (kept_by old.lens).history (kept_by new.lens).history → 0 < length (kept_by old.lens).history → 0 < length (kept_by new.lens).history
  one_longer old new begins some = omega (arith, some, ap length begins.1, length-append (kept_by old.lens).history begins.0)

  pub collects : LawOfViews W content → LawOfCounts W content → LawOfGrowth F W → (count p : ℕ) (shown : List (ShownState F W)) (old new : List (Pass F W)) (parts : List Part) (seen : List ℕ)
      → AtEach (λ q s pass. s.failed ≡ false → Reads s.book pass.lens) p shown old → AllZip (GoesOn counts) old new → AtEach (λ q s pass. (s.failed ≡ false) × IsPrefix (kept_by pass.lens).history s.history) p shown new
      → AtEach (λ q s part. IsSeen None q → ShowsPart content s part) p shown parts → AtEach (λ q pass least. IsSeen None q → (0 < length (kept_by pass.lens).history) × (least ≤ (kept_by pass.lens).upto)) p old seen → EachFrom (HasOwnKeys count) p parts
      → Collects count p new parts seen
  collects views counted grows count p [] [] [] [] [] reads went covered shows begun own = record { least = tt; most = tt; shows = tt; own = tt; many = refl }
  collects views counted grows count p [] [] [] [] (u ∷ seen) reads went covered shows begun own = absurd begun
  collects views counted grows count p [] [] [] (part ∷ parts) seen reads went covered shows begun own = absurd shows
  collects views counted grows count p [] [] (pass' ∷ new) parts seen reads went covered shows begun own = absurd went
  collects views counted grows count p [] (pass ∷ old) new parts seen reads went covered shows begun own = absurd reads
  collects views counted grows count p (s ∷ shown) [] new parts seen reads went covered shows begun own = absurd reads
  collects views counted grows count p (s ∷ shown) (pass ∷ old) [] parts seen reads went covered shows begun own = absurd went
  collects views counted grows count p (s ∷ shown) (pass ∷ old) (pass' ∷ new) [] seen reads went covered shows begun own = absurd shows
  collects views counted grows count p (s ∷ shown) (pass ∷ old) (pass' ∷ new) (part ∷ parts) [] reads went covered shows begun own = absurd begun
  collects views counted grows count p (s ∷ shown) (pass ∷ old) (pass' ∷ new) (part ∷ parts) (least ∷ seen) reads went covered shows begun own =
      let more = collects views counted grows count (suc p) shown old new parts seen reads.1 went.1 covered.1 shows.1 begun.1 own.1 in
      let k = key_of s.book in
      let was_read = reads.0 covered.0.0 in
      let now = went.0.lens k was_read in
      let view = shows.0 tt in
      let was = begun.0 tt in
      let some = one_longer pass pass' went.0.seen was.0 in
      let grown = grows k (kept_by pass.lens) (kept_by pass'.lens) was_read.kept now.kept went.0.seen in record {
        least = (omega (arith, was.1, grown), more.least);
        most = (counted part.opened part.writes s.history k (kept_by pass'.lens) view.shows now.kept covered.0.1, more.most);
        shows = (views part.opened part.writes s.history k (kept_by pass'.lens) view.shows now.kept covered.0.1 some, more.shows);
        own = (pairs_own count p (kept_by pass'.lens).upto part own.0, more.own);
        many = ap suc more.many;
      }

  -- what a lens keeps of a partition that is looked at are files that tell what they hold
  pub unharmed_at : LawOfViews W content → (only : Option ℕ) (n p : ℕ) (shown : List (ShownState F W)) (old new : List (Pass F W)) (parts : List Part) (seen : List ℕ)
      → AtEach (λ q s pass. s.failed ≡ false → Reads s.book pass.lens) n shown old → AllZip (GoesOn counts) old new → AtEach (λ q s pass. (s.failed ≡ false) × IsPrefix (kept_by pass.lens).history s.history) n shown new
      → AtEach (λ q s part. IsSeen only q → ShowsPart content s part) n shown parts → AtEach (λ q pass least. IsSeen only q → (0 < length (kept_by pass.lens).history) × (least ≤ (kept_by pass.lens).upto)) n old seen
      → p < length new → IsSeen only (n + p) → HoldsAt (λ (pass : Pass F W). (cs : List documents.Content) → AllZip (IsLoadedOf content) (kept_by pass.lens).list cs → ⊥) new p → ⊥
  unharmed_at views only n p shown old [] parts seen reads went covered shows begun below is harm = omega (arith, below)
  unharmed_at views only n p shown [] (pass' ∷ new) parts seen reads went covered shows begun below is harm = went
  unharmed_at views only n p [] (pass ∷ old) (pass' ∷ new) parts seen reads went covered shows begun below is harm = reads
  unharmed_at views only n p (s ∷ shown) (pass ∷ old) (pass' ∷ new) [] seen reads went covered shows begun below is harm = shows
  unharmed_at views only n p (s ∷ shown) (pass ∷ old) (pass' ∷ new) (part ∷ parts) [] reads went covered shows begun below is harm = begun
  unharmed_at views only n zero (s ∷ shown) (pass ∷ old) (pass' ∷ new) (part ∷ parts) (least ∷ seen) reads went covered shows begun below is harm =
      let same : n + zero ≡ n = omega arith in
      let here = subst (λ m. IsSeen only m) same is in
      let k = key_of s.book in
      let now = went.0.lens k (reads.0 covered.0.0) in
      let holds = views part.opened part.writes s.history k (kept_by pass'.lens) (shows.0 here).shows now.kept covered.0.1 (one_longer pass pass' went.0.seen (begun.0 here).0) in
      harm pass' holds.list.contents holds.list.loaded
  unharmed_at views only n (suc p) (s ∷ shown) (pass ∷ old) (pass' ∷ new) (part ∷ parts) (least ∷ seen) reads went covered shows begun below is harm =
      let same : n + suc p ≡ suc n + p = omega arith in
      unharmed_at views only (suc n) p shown old new parts seen reads.1 went.1 covered.1 shows.1 begun.1 (omega (arith, below)) (subst (λ m. IsSeen only m) same is) harm
