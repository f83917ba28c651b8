-- What keeps the documents serves a world that may not be known, behind each of its calls.
use Rattle.std.proofs.Common.{◌≡◌, ◌∙◌, ℕ, true, false, List, [], ◌∷◌, All, map, length, refl, ap, sym, subst, inl, inr}
use Rattle.std.specs.Prelude.{None, Option, Some, is_some, zip, Bool, if◌then◌else◌}
use Rattle.std.specs.List.{AllByRecursion, AllZip}
use Rattle.std.specs.declared.alloc.Global.{Global}
use Rattle.std.specs.declared.vec.Vec.{Vec}
use Rattle.std.proofs.lemmas.Bool.{false≢true}
use Rattle.std.proofs.lemmas.List.Elements.{All-cons, All-head, All-nil, All-tail}
use mathlib.Core.List.{IsPrefix}
use Rattle.tc_command.specs.Commands.{ask_of, request_of_command}
use Rattle.tc_keeper.specs.Places.{AtEach}
use Rattle.tc_keeper.specs.Standing.{partition_at, HoldsOwn, HoldsPart, HoldWorld, IsSeen}
use Rattle.tc_keeper.specs.WithJobs.{told_of, works_of, WithJobs}
use Rattle.tc_keeper.proofs.PlaceLaws.{at_each-length, at_each-so}
use Rattle.tc_keeper.proofs.SharesLeft.{shares_left, AreLeft}
use Rattle.tc_log.specs.declared.write.Write as log
use Rattle.tc_lsm_model.specs.Contents.{Partition}
use Rattle.tc_request_model.specs.Rendered.{RowText, row_text, rendered}
use Rattle.tc_request_model.specs.Rendered as renders
use Rattle.tc_request_model.specs.Reply.{collected, Row, started, turned_down}
use Rattle.tc_request_model.specs.Request.{busy, no_scan, Ask, Request, upsert, delete, get, query, flush, schema, scan, collect, refused}
use Rattle.tc_part_model.specs.PartState.{Told}
use Rattle.tc_part_model.specs.PartView.{PartView}
use Rattle.tc_plain_model.specs.Room.{Limits}
use Rattle.tc_request_model.specs.Rows.{rows_over}
use Rattle.tc_plain_model.specs.Writes.{Pairs}
use Rattle.tc_route.specs.Answers.{IsForParts}
use Rattle.tc_route.specs.Meaning.{routed_of}
use Rattle.tc_route.specs.declared.placed.Routed.{Routed}
use Rattle.tc_run_model.specs.Known.{MayRender}
use Rattle.tc_run_model.specs.Replies.{IsCollectReply}
use Rattle.tc_run_model.specs.World.{after, after_all, pairs_at, united, Part, Scan, World}
use Rattle.tc_shown.specs.Scans.{AreOwn, GoesOn, ShowAll}
use Rattle.tc_shown.specs.Shown.{Reads, ShownState}
use Rattle.tc_shown.specs.declared.scan.Pass.{Pass}
use Rattle.tc_shown.specs.declared.scan.Scan.{Scan as Begun}
use Rattle.tc_view.specs.Places.{kept_by}
use Rattle.tc_work.specs.Moving.{Eyes}
use Rattle.tc_keeper.specs.Together.{IsForPart, requests_routed, AreTogether, IsRouted}
use Rattle.tc_keeper.specs.Keeping.{IsOutFor, KeeperState, ServesAt, ShowsPart, ShowWorld}
use Rattle.tc_keeper.specs.Partitions.{StandAt}
use Rattle.tc_keeper.specs.Sight.{nothing, sees, sight_after, whole_of, Sight}
use Rattle.tc_keeper.proofs.KeysWritten.{keys_after}
use Rattle.tc_keeper.proofs.ScanReplies.{collects, scan_begun, Collects, LawOfCounts, LawOfGrowth, LawOfViews}
use Rattle.tc_keeper.proofs.ShownParts.{LawOfPlacing, LawOfWriting}
use Rattle.tc_keeper.proofs.ShownWorlds.{shows_moved, shows_written, Framed, Placed, Wrote}
use Rattle.tc_keeper.proofs.WindowLengths.{all_for_part, requests_same}

-- ---- a window starts no scan, and ends none

for_parts : (r : Request) → IsForPart r → IsForParts r
for_parts (upsert n d) is = tt
for_parts (delete n) is = tt
for_parts (get n) is = tt
for_parts (query ask) is = tt
for_parts flush is = absurd is
for_parts schema is = absurd is
for_parts (scan ask) is = absurd is
for_parts collect is = absurd is
for_parts (refused r) is = absurd is

one_running : (r : Request) (w : World) → IsForPart r → (after r w).running ≡ w.running
one_running (upsert n d) w is = refl
one_running (delete n) w is = refl
one_running (get n) w is = refl
one_running (query ask) w is = refl
one_running flush w is = absurd is
one_running schema w is = absurd is
one_running (scan ask) w is = absurd is
one_running collect w is = absurd is
one_running (refused r) w is = absurd is

running_stays : (rs : List Request) (w : World) → AllByRecursion IsForPart rs → (after_all rs w).running ≡ w.running
running_stays [] w all = refl
running_stays (r ∷ rs) w all = running_stays rs (after r w) all.1 ∙ one_running r w all.0

routed_for_parts : (list : List Routed) → All IsRouted list → All (λ r. IsForParts r.1) (map routed_of list)
routed_for_parts [] all = All-nil (λ r. IsForParts r.1)
routed_for_parts (r ∷ list) all =
    All-cons (λ r. IsForParts r.1) (routed_of r) (map routed_of list) (for_parts (request_of_command r.command) (All-head IsRouted r list all).0) (routed_for_parts list (All-tail IsRouted r list all))

-- ---- worlds that differ in the scan alone

rerun_part : (Works : PartView → Type 0) (t : Told) (limits : Limits) (here : Partition) (w : World) (running : Option Scan) (part : Part) → HoldsPart Works t limits here w part → HoldsPart Works t limits here (record w { running = running }) part
rerun_part Works t limits here w running part h = record {
  view = h.view;
  is = h.is;
  of_number = h.of_number;
  unstaged = h.unstaged;
  tells = h.tells;
  jobs = h.jobs;
  stores = h.stores;
  under = h.under;
  flushed = h.flushed;
}

module _ {S D F W : Type 0} (eyes : Eyes S D F W) where
  pub rerun : (only : Option ℕ) (es : List (WithJobs S D F W)) (w : World) (running : Option Scan) → HoldWorld eyes only es w → HoldWorld eyes only es (record w { running = running })
  rerun only es w running h = record {
    each = at_each-so (HoldsOwn eyes only (length w.parts) w) (HoldsOwn eyes only (length w.parts) (record w { running = running })) 0 es w.parts
        (λ p e part held seen. rerun_part (works_of eyes e) (told_of eyes e) e.engine.part.limits (partition_at p (length w.parts)) w running part (held seen)) h.each;
    own = h.own;
  }

  many_held : (only : Option ℕ) (es : List (WithJobs S D F W)) (w : World) → HoldWorld eyes only es w → length es ≡ length w.parts
  many_held only es w h = at_each-length (HoldsOwn eyes only (length w.parts) w) 0 es w.parts h.each

  -- ---- a window

  shown_window : (only : Option ℕ) (k k' : KeeperState S D F W) (list : List Routed) (frames : List (Vec log.Write Global)) (w : World) → LawOfWriting W eyes.content → AreTogether list → k'.scan ≡ k.scan → length k'.shown ≡ length k'.engines
      → HoldWorld eyes only k.engines w → HoldWorld eyes only k'.engines (after_all (requests_routed list) w) → AtEach (Framed eyes (length k.engines) (map routed_of list)) 0 (zip k.engines k'.engines) frames → AtEach (Wrote frames) 0 k.shown k'.shown
      → ShowWorld eyes.content only k w → ShowWorld eyes.content only k' (after_all (requests_routed list) w)
  shown_window only k k' list frames w law together out many held now framed done shows = record {
    each = shows_written eyes only (length k.engines) (map routed_of list) w v k.engines k'.engines k.shown k'.shown frames law held framed done left (many ∙ many_held only k'.engines v now) shows.each;
    scan = subst (λ o. IsOutFor only o v.running) (sym out) (subst (λ o. IsOutFor only k.scan o) (sym (running_stays (requests_routed list) w (all_for_part list together))) shows.scan);
    own = λ all. keys_after (requests_routed list) w (shows.own all);
  }
    where
      v : World
      v = after_all (requests_routed list) w

      left : AreLeft (length k.engines) (map routed_of list) w v
      left = subst (λ rs. AreLeft (length k.engines) (map routed_of list) w (after_all rs w)) (requests_same list)
          (shares_left (length k.engines) (map routed_of list) w (sym (many_held only k.engines w held)) (routed_for_parts list together.each))

  pub serves_window : (k k' : KeeperState S D F W) (list : List Routed) (frames : List (Vec log.Write Global)) (known : Sight) → LawOfWriting W eyes.content → AreTogether list → k'.scan ≡ k.scan → length k'.shown ≡ length k'.engines
      → StandAt eyes k'.engines (sight_after (requests_routed list) known) → AtEach (Framed eyes (length k.engines) (map routed_of list)) 0 (zip k.engines k'.engines) frames → AtEach (Wrote frames) 0 k.shown k'.shown
      → ServesAt eyes k known → ServesAt eyes k' (sight_after (requests_routed list) known)
  unfolding ServesAt
  serves_window k k' list frames nothing law together out many stands framed done serves = (tt, tt)
  serves_window k k' list frames (sees only w) law together out many stands framed done serves =
      (stands, shown_window only k k' list frames w law together out many serves.0 stands framed done serves.1)

  -- where nothing is known, it is served
  pub serves_unknown : (k : KeeperState S D F W) → ServesAt eyes k nothing
  unfolding ServesAt
  serves_unknown k = (tt, tt)

  -- ---- a placing, behind a call that leaves what is stored, and the scan

  shown_placed : (only : Option ℕ) (k k' : KeeperState S D F W) (w : World) (flushed : Bool) → LawOfPlacing W eyes.content → k'.scan ≡ k.scan → length k'.shown ≡ length k'.engines
      → HoldWorld eyes only k'.engines (record w { flushed = flushed }) → AtEach (Placed eyes only k'.engines) 0 k.shown k'.shown → ShowWorld eyes.content only k w → ShowWorld eyes.content only k' (record w { flushed = flushed })
  shown_placed only k k' w flushed law out many now placed shows = record {
    each = shows_moved eyes only (record w { flushed = flushed }) k'.engines k.shown k'.shown law now placed (many ∙ many_held only k'.engines (record w { flushed = flushed }) now) shows.each;
    scan = subst (λ o. IsOutFor only o w.running) (sym out) shows.scan;
    own = shows.own;
  }

  pub serves_settled : (k k' : KeeperState S D F W) (known : Sight) → LawOfPlacing W eyes.content → k'.scan ≡ k.scan → length k'.shown ≡ length k'.engines → StandAt eyes k'.engines known → AtEach (Placed eyes None k'.engines) 0 k.shown k'.shown
      → ServesAt eyes k known → ServesAt eyes k' known
  unfolding ServesAt
  serves_settled k k' nothing law out many stands placed serves = (tt, tt)
  serves_settled k k' (sees only w) law out many stands placed serves = (stands, shown_placed only k k' w w.flushed law out many stands placed serves.1)

  pub serves_flushed : (k k' : KeeperState S D F W) (known : Sight) → LawOfPlacing W eyes.content → k'.scan ≡ k.scan → length k'.shown ≡ length k'.engines → StandAt eyes k'.engines (sight_after (flush ∷ []) known) → AtEach (Placed eyes None k'.engines) 0 k.shown k'.shown
      → ServesAt eyes k known → ServesAt eyes k' (sight_after (flush ∷ []) known)
  unfolding ServesAt
  serves_flushed k k' nothing law out many stands placed serves = (tt, tt)
  serves_flushed k k' (sees only w) law out many stands placed serves = (stands, shown_placed only k k' w true law out many stands placed serves.1)

  -- ---- a scan is started, or one is out

  no_scan_out : (only : Option ℕ) (running : Option Scan) → IsOutFor {F = F} {W = W} only None running → running ≡ None
  no_scan_out only None out = refl
  no_scan_out only (Some s) out = absurd out

  pub scan_out : (only : Option ℕ) (begun : Option (Begun F W)) (running : Option Scan) → is_some begun ≡ true → IsOutFor only begun running → (s : Scan) × (running ≡ Some s)
  scan_out only None running some out = absurd (false≢true some)
  scan_out only (Some begun) None some out = absurd out
  scan_out only (Some begun) (Some s) some out = (s, refl)

  -- what a scan that is started leaves of a world
  started_world : (ask : Ask) (w : World) → w.running ≡ None → after_all (scan ask ∷ []) w ≡ record w { running = Some (record { ask = ask; seen = map (λ part. length part.writes) w.parts }) }
  started_world ask w none = ap (λ (o : Option Scan). if is_some o then w else record w { running = Some (record { ask = ask; seen = map (λ part. length part.writes) w.parts }) }) none

  busy_world : (ask : Ask) (w : World) (s : Scan) → w.running ≡ Some s → after_all (scan ask ∷ []) w ≡ w
  busy_world ask w s some = ap (λ (o : Option Scan). if is_some o then w else record w { running = Some (record { ask = ask; seen = map (λ part. length part.writes) w.parts }) }) some

  shown_started : (only : Option ℕ) (k k' : KeeperState S D F W) (begun : Begun F W) (w : World) → k.scan ≡ None → k'.scan ≡ Some begun → k'.shown ≡ k.shown
      → AtEach (λ p s pass. Reads s.book pass.lens × ((kept_by pass.lens).history ≡ s.history)) 0 k.shown begun.passes.items → HoldWorld eyes only k'.engines w → ShowWorld eyes.content only k w
      → HoldWorld eyes only k'.engines (after_all (scan (ask_of begun.ask) ∷ []) w) × ShowWorld eyes.content only k' (after_all (scan (ask_of begun.ask) ∷ []) w)
  shown_started only k k' begun w none some shown lent held shows =
      let idle = no_scan_out only w.running (subst (λ o. IsOutFor only o w.running) none shows.scan) in
      let running : Scan = record { ask = ask_of begun.ask; seen = map (λ part. length part.writes) w.parts } in
      let v : World = record w { running = Some running } in
      subst (λ (u : World). HoldWorld eyes only k'.engines u × ShowWorld eyes.content only k' u) (sym (started_world (ask_of begun.ask) w idle)) (
        rerun only k'.engines w (Some running) held,
        record {
          each = subst (λ (ss : List (ShownState F W)). AtEach (λ p s part. IsSeen only p → ShowsPart eyes.content s part) 0 ss w.parts) (sym shown) shows.each;
          scan = subst (λ o. IsOutFor only o (Some running)) (sym some) (refl, scan_begun eyes.content only k.shown begun.passes.items w.parts lent shows.each);
          own = shows.own;
        },
      )

  pub serves_started : (k k' : KeeperState S D F W) (begun : Begun F W) (known : Sight) → k.scan ≡ None → k'.scan ≡ Some begun → k'.shown ≡ k.shown
      → AtEach (λ p s pass. Reads s.book pass.lens × ((kept_by pass.lens).history ≡ s.history)) 0 k.shown begun.passes.items → ((only : Option ℕ) (w : World) → HoldWorld eyes only k.engines w → HoldWorld eyes only k'.engines w)
      → ServesAt eyes k known → ServesAt eyes k' (sight_after (scan (ask_of begun.ask) ∷ []) known)
  unfolding ServesAt
  serves_started k k' begun nothing none some shown lent held serves = (tt, tt)
  serves_started k k' begun (sees only w) none some shown lent held serves = shown_started only k k' begun w none some shown lent (held only w serves.0) serves.1

  pub replies_started : (k : KeeperState S D F W) (ask : Ask) (known : Sight) → k.scan ≡ None → ServesAt eyes k known → MayRender (scan ask ∷ []) (whole_of known) (rendered started ∷ [])
  unfolding ServesAt
  replies_started k ask nothing none serves = (started ∷ [], (inl refl, tt), refl)
  replies_started k ask (sees (Some p) w) none serves = (started ∷ [], (inl refl, tt), refl)
  replies_started k ask (sees None w) none serves =
      let idle = no_scan_out None w.running (subst (λ o. IsOutFor None o w.running) none serves.1.scan) in
      (started ∷ [], (sym (ap (λ (o : Option Scan). if is_some o then turned_down busy else started) idle), tt), refl)

  pub serves_busy : (k : KeeperState S D F W) (ask : Ask) (known : Sight) → is_some k.scan ≡ true → ServesAt eyes k known → ServesAt eyes k (sight_after (scan ask ∷ []) known)
  unfolding ServesAt
  serves_busy k ask nothing some serves = (tt, tt)
  serves_busy k ask (sees only w) some serves =
      let s = scan_out only k.scan w.running some serves.1.scan in
      subst (λ (u : World). HoldWorld eyes only k.engines u × ShowWorld eyes.content only k u) (sym (busy_world ask w s.0 s.1)) serves

  pub replies_busy : (k : KeeperState S D F W) (ask : Ask) (known : Sight) → is_some k.scan ≡ true → ServesAt eyes k known → MayRender (scan ask ∷ []) (whole_of known) (rendered (turned_down busy) ∷ [])
  unfolding ServesAt
  replies_busy k ask nothing some serves = (turned_down busy ∷ [], (inr refl, tt), refl)
  replies_busy k ask (sees (Some p) w) some serves = (turned_down busy ∷ [], (inr refl, tt), refl)
  replies_busy k ask (sees None w) some serves =
      let s = scan_out None k.scan w.running some serves.1.scan in
      (turned_down busy ∷ [], (sym (ap (λ (o : Option Scan). if is_some o then turned_down busy else started) s.1), tt), refl)

  -- ---- a collect

  -- where no scan is out, none runs
  pub serves_none : (k : KeeperState S D F W) (known : Sight) → k.scan ≡ None → ServesAt eyes k known → ServesAt eyes k (sight_after (collect ∷ []) known)
  unfolding ServesAt
  serves_none k nothing none serves = (tt, tt)
  serves_none k (sees only w) none serves = (
    rerun only k.engines w None serves.0,
    record { each = serves.1.each; scan = subst (λ o. IsOutFor only o None) (sym none) tt; own = serves.1.own },
  )

  pub replies_none : (k : KeeperState S D F W) (known : Sight) → k.scan ≡ None → ServesAt eyes k known → MayRender (collect ∷ []) (whole_of known) (rendered (turned_down no_scan) ∷ [])
  unfolding ServesAt
  replies_none k nothing none serves = (turned_down no_scan ∷ [], (inr refl, tt), refl)
  replies_none k (sees (Some p) w) none serves = (turned_down no_scan ∷ [], (inr refl, tt), refl)
  replies_none k (sees None w) none serves =
      let idle = no_scan_out None w.running (subst (λ o. IsOutFor None o w.running) none serves.1.scan) in
      (turned_down no_scan ∷ [], (subst (λ o. IsCollectReply o w (turned_down no_scan)) (sym idle) refl, tt), refl)

  -- where one was out, it is no more
  pub serves_collected : (k k' : KeeperState S D F W) (known : Sight) → k'.scan ≡ None → k'.shown ≡ k.shown → ((only : Option ℕ) (w : World) → HoldWorld eyes only k.engines w → HoldWorld eyes only k'.engines w)
      → ServesAt eyes k known → ServesAt eyes k' (sight_after (collect ∷ []) known)
  unfolding ServesAt
  serves_collected k k' nothing none shown held serves = (tt, tt)
  serves_collected k k' (sees only w) none shown held serves = (
    rerun only k'.engines w None (held only w serves.0),
    record {
      each = subst (λ (ss : List (ShownState F W)). AtEach (λ p s part. IsSeen only p → ShowsPart eyes.content s part) 0 ss w.parts) (sym shown) serves.1.each;
      scan = subst (λ o. IsOutFor only o None) (sym none) tt;
      own = serves.1.own;
    },
  )

  module _ (views : LawOfViews W eyes.content) (counted : LawOfCounts W eyes.content) (grows : LawOfGrowth F W) where
    -- the passes that came back, beside what is shown and what the world has
    scanned : (k : KeeperState S D F W) (begun : Begun F W) (passes : List (Pass F W)) (w : World) (s : Scan) → IsOutFor None (Some begun) (Some s) → AtEach (λ p s pass. s.failed ≡ false → Reads s.book pass.lens) 0 k.shown begun.passes.items
        → AllZip (GoesOn eyes.counts) begun.passes.items passes → AtEach (λ p s pass. (s.failed ≡ false) × IsPrefix (kept_by pass.lens).history s.history) 0 k.shown passes → ShowWorld eyes.content None k w
        → Collects eyes.content eyes.counts (length w.parts) 0 passes w.parts s.seen
    scanned k begun passes w s out reads went covered shows =
        collects eyes.content eyes.counts views counted grows (length w.parts) 0 k.shown begun.passes.items passes w.parts s.seen reads went covered shows.each out.1 (shows.own refl)

    collected_so : (k : KeeperState S D F W) (begun : Begun F W) (passes : List (Pass F W)) (w : World) (running : Option Scan) (rows : List RowText) (upto : List ℕ) → IsOutFor None (Some begun) running → AtEach (λ p s pass. s.failed ≡ false → Reads s.book pass.lens) 0 k.shown begun.passes.items
        → AllZip (GoesOn eyes.counts) begun.passes.items passes → AtEach (λ p s pass. (s.failed ≡ false) × IsPrefix (kept_by pass.lens).history s.history) 0 k.shown passes → ShowWorld eyes.content None k w
        → upto ≡ map (λ (pass : Pass F W). (kept_by pass.lens).upto) passes → ((parts : List Pairs) → ShowAll eyes.content passes parts → AreOwn (length parts) 0 parts → rows ≡ map row_text (rows_over (ask_of begun.ask) (united parts)))
        → (rs : List Row) × IsCollectReply running w (collected rs upto) × (rows ≡ map row_text rs)
    collected_so k begun passes w None rows upto out reads went covered shows counted_upto found = absurd out
    collected_so k begun passes w (Some s) rows upto out reads went covered shows counted_upto found =
        let c = scanned k begun passes w s out reads went covered shows in
        let all : List Pairs = map (λ (p : ℕ × Part). pairs_at p.0 p.1) (zip (map (λ (pass : Pass F W). (kept_by pass.lens).upto) passes) w.parts) in (
          rows_over (ask_of begun.ask) (united all),
          record {
            upto = upto;
            may_cover = rw counted_upto (c.least, c.most);
            is_over = rw counted_upto (ap (λ rs. collected rs (map (λ (pass : Pass F W). (kept_by pass.lens).upto) passes)) (ap (λ ask. rows_over ask (united all)) out.0));
          },
          found all c.shows (subst (λ n. AreOwn n 0 all) (sym c.many) c.own),
        )

    pub replies_collected : (k : KeeperState S D F W) (begun : Begun F W) (passes : List (Pass F W)) (rows : List RowText) (upto : List ℕ) (known : Sight) → k.scan ≡ Some begun → AtEach (λ p s pass. s.failed ≡ false → Reads s.book pass.lens) 0 k.shown begun.passes.items
        → AllZip (GoesOn eyes.counts) begun.passes.items passes → AtEach (λ p s pass. (s.failed ≡ false) × IsPrefix (kept_by pass.lens).history s.history) 0 k.shown passes
        → upto ≡ map (λ (pass : Pass F W). (kept_by pass.lens).upto) passes → ((parts : List Pairs) → ShowAll eyes.content passes parts → AreOwn (length parts) 0 parts → rows ≡ map row_text (rows_over (ask_of begun.ask) (united parts)))
        → (rs : List Row) × (rows ≡ map row_text rs) → ServesAt eyes k known → MayRender (collect ∷ []) (whole_of known) (renders.collected rows upto ∷ [])
    unfolding ServesAt
    replies_collected k begun passes rows upto nothing some reads went covered counted_upto found texts serves =
        (collected texts.0 upto ∷ [], (inl (texts.0, upto, refl), tt), ap (λ ts. renders.collected ts upto ∷ []) texts.1)
    replies_collected k begun passes rows upto (sees (Some p) w) some reads went covered counted_upto found texts serves =
        (collected texts.0 upto ∷ [], (inl (texts.0, upto, refl), tt), ap (λ ts. renders.collected ts upto ∷ []) texts.1)
    replies_collected k begun passes rows upto (sees None w) some reads went covered counted_upto found texts serves =
        let so = collected_so k begun passes w w.running rows upto (subst (λ o. IsOutFor None o w.running) some serves.1.scan) reads went covered serves.1 counted_upto found in
        (collected so.0 upto ∷ [], (so.1, tt), ap (λ ts. renders.collected ts upto ∷ []) so.2)
