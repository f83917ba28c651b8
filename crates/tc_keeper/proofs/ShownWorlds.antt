-- What is shown of all partitions, behind a window and behind a placing, partition by partition.
use Rattle.std.proofs.Common.{◌≡◌, ◌∙◌, ◌+◌, ℕ, suc, List, [], ◌∷◌, ◌++◌, All, map, length, arith, refl, ap, sym, subst, inl, inr}
use Rattle.std.specs.Prelude.{Option, Some, slice_get, zip}
use Rattle.std.specs.declared.alloc.Global.{Global}
use Rattle.std.specs.declared.vec.Vec.{Vec}
use Rattle.tc_keeper.specs.Places.{AtEach, IsAt}
use Rattle.tc_work.specs.Committed.{HasFramed}
use Rattle.tc_keeper.specs.Standing.{HoldsOwn, HoldWorld, IsSeen}
use Rattle.tc_keeper.specs.WithJobs.{told_of, WithJobs}
use Rattle.tc_keeper.proofs.PlaceLaws.{at_each-turned}
use Rattle.tc_keeper.proofs.SharesLeft.{AreLeft, IsLeft}
use Rattle.tc_log.specs.declared.write.Write as log
use Rattle.tc_machine.specs.Logs.{kept_write}
use Rattle.tc_machine.specs.Writes.{IsStorableWrite}
use Rattle.tc_model.specs.Keyed.{Keyed, values_in}
use Rattle.tc_request_model.specs.Request.{Request}
use Rattle.tc_part_model.specs.Meaning.{plain_of}
use Rattle.tc_request_model.specs.Part.{part_writes_all}
use Rattle.tc_plain_model.specs.Store.{Store}
use Rattle.tc_plain_model.specs.Writes.{Write}
use Rattle.tc_route.specs.Shares.{share}
use Rattle.tc_run_model.specs.World.{Part, World}
use Rattle.tc_shown.specs.Shown.{wrote, ShownState}
use Rattle.tc_work.specs.Moving.{Eyes}
use Rattle.tc_keeper.specs.Keeping.{ShowsPart}
use Rattle.tc_keeper.specs.Showing.{IsPlacedOver}
use Rattle.tc_keeper.proofs.EachLaws.{at_each-at, at_each-from, zip_places}
use Rattle.tc_keeper.proofs.Turns.{is_at-get}
use Rattle.tc_keeper.proofs.ShownParts.{shows_placed, shows_wrote, LawOfPlacing, LawOfWriting}

-- ---- places

-- from a place of the second list
pub at_each-back : {X Y : Type 0} (R : ℕ → X → Y → Type 0) (p : ℕ) (xs : List X) (ys : List Y) (y : Y) → AtEach R 0 xs ys → slice_get ys p ≡ Some y → (x : X) × (slice_get xs p ≡ Some x) × R p x y
at_each-back R p xs ys y both is = at_each-at (λ i y x. R i x y) p ys xs y (at_each-turned R 0 xs ys both) is

one_there : {X : Type 0} (xs : List X) (p : ℕ) (x y : X) → slice_get xs p ≡ Some x → slice_get xs p ≡ Some y → x ≡ y
one_there xs p x y is same = cc

pub zip_length : {X Y : Type 0} (xs : List X) (ys : List Y) → length xs ≡ length ys → length (zip xs ys) ≡ length xs
zip_length [] [] same = refl
zip_length [] (y ∷ ys) same = absurd (cc)
zip_length (x ∷ xs) [] same = absurd (cc)
zip_length (x ∷ xs) (y ∷ ys) same = ap suc (zip_length xs ys (cc))

-- ---- a window

abbrev pub Wrote : {F W : Type 0} → List (Vec log.Write Global) → ℕ → ShownState F W → ShownState F W → Type 0
Wrote frames p old new = IsAt p frames (λ frame. new ≡ record old { history = old.history ++ wrote frame.items })

abbrev pub Framed : {S D F W : Type 0} → Eyes S D F W → ℕ → Keyed Request → ℕ → WithJobs S D F W × WithJobs S D F W → Vec log.Write Global → Type 0
Framed eyes count window p run frame = HasFramed eyes (share count p window) run.0.engine run.1.engine frame.items

module _ {S D F W : Type 0} (eyes : Eyes S D F W) (only : Option ℕ) where
  abbrev Shows : ℕ → ShownState F W → Part → Type 0
  Shows p s part = IsSeen only p → ShowsPart eyes.content s part

  -- one partition, whose share of the window was written
  wrote_one : (count : ℕ) (window : Keyed Request) (w v : World) (p : ℕ) (e e' : WithJobs S D F W) (s : ShownState F W) (frame : List log.Write) (part part' : Part) → LawOfWriting W eyes.content → HoldsOwn eyes only (length w.parts) w p e part
      → HasFramed eyes (share count p window) e.engine e'.engine frame → IsLeft w.limits v.flushed (values_in (share count p window)) part part' → Shows p s part → Shows p (record s { history = s.history ++ wrote frame }) part'
  wrote_one count window w v p e e' s frame part part' law holds framed left shows seen =
      let h = holds seen in
      let rs = values_in (share count p window) in
      let same : part_writes_all e.engine.part.limits rs (plain_of (told_of eyes e) h.view) ≡ part_writes_all w.limits rs part.now =
      ap (λ (t : Store). part_writes_all e.engine.part.limits rs t) h.stores ∙ ap (λ l. part_writes_all l rs part.now) (sym h.under) in
      shows_wrote eyes.content law w.limits rs s part part' frame
      (framed.writes h.view h.is ∙ ap (map kept_write) same) (subst (All IsStorableWrite) same (framed.storable h.view h.is)) left.opened left.writes left.stores (shows seen)

  pub shows_written : (count : ℕ) (window : Keyed Request) (w v : World) (es es' : List (WithJobs S D F W)) (shown shown' : List (ShownState F W)) (frames : List (Vec log.Write Global)) → LawOfWriting W eyes.content → HoldWorld eyes only es w
      → AtEach (Framed eyes count window) 0 (zip es es') frames → AtEach (Wrote frames) 0 shown shown' → AreLeft count window w v → length shown' ≡ length v.parts → AtEach Shows 0 shown w.parts → AtEach Shows 0 shown' v.parts
  shows_written count window w v es es' shown shown' frames law held framed written left many shows =
      at_each-from Shows 0 shown' v.parts many (λ p s' part' is_s' is_part'.
      let put = at_each-back (Wrote frames) p shown shown' s' written is_s' in
      let frame = is_at-get (λ frame. s' ≡ record put.0 { history = put.0.history ++ wrote frame.items }) p frames put.2 in
      let run = at_each-back (Framed eyes count window) p (zip es es') frames frame.0 framed frame.1 in
      let engines = zip_places es es' p run.0 run.1 in
      let part = at_each-at (HoldsOwn eyes only (length w.parts) w) p es w.parts run.0.0 held.each engines.0 in
      let went = at_each-back (λ p old new. IsLeft w.limits v.flushed (values_in (share count p window)) old new) p w.parts v.parts part' left.each is_part' in
      let was = at_each-at Shows p shown w.parts put.0 shows put.1 in
      let one : went.0 ≡ part.0 = one_there w.parts p went.0 part.0 went.1 part.1 in
      let two : was.0 ≡ part.0 = one_there w.parts p was.0 part.0 was.1 part.1 in
      let zeroth : p ≡ 0 + p = omega arith in
      subst (λ q. Shows q s' part') zeroth (subst (λ (s : ShownState F W). Shows p s part') (sym frame.2)
      (wrote_one count window w v p run.0.0 run.0.1 put.0 frame.0.items part.0 part' law part.2 run.2
      (subst (λ (old : Part). IsLeft w.limits v.flushed (values_in (share count p window)) old part') one went.2)
      (subst (λ (old : Part). Shows p put.0 old) two was.2))))

  -- ---- a placing

  abbrev pub Placed : List (WithJobs S D F W) → ℕ → ShownState F W → ShownState F W → Type 0
  Placed es p old new = IsAt p es (λ e. IsPlacedOver e old new)

  placed_one : (w : World) (p : ℕ) (e : WithJobs S D F W) (s s' : ShownState F W) (part : Part) → LawOfPlacing W eyes.content → HoldsOwn eyes only (length w.parts) w p e part → IsPlacedOver e s s' → Shows p s part → Shows p s' part
  placed_one w p e s s' part law holds (inl stays) shows seen = subst (λ (s : ShownState F W). ShowsPart eyes.content s part) (sym stays) (shows seen)
  placed_one w p e s s' part law holds (inr placed) shows seen =
      let h = holds seen in
      shows_placed eyes.content law (told_of eyes e) h.view e.engine.part.list s s' part h.is h.tells.components h.unstaged refl (ap (λ (t : Store). t.pairs) h.stores) placed.0 placed.1 (shows seen)

  pub shows_moved : (w : World) (es : List (WithJobs S D F W)) (shown shown' : List (ShownState F W)) → LawOfPlacing W eyes.content → HoldWorld eyes only es w → AtEach (Placed es) 0 shown shown' → length shown' ≡ length w.parts → AtEach Shows 0 shown w.parts → AtEach Shows 0 shown' w.parts
  shows_moved w es shown shown' law held placed many shows =
      at_each-from Shows 0 shown' w.parts many (λ p s' part' is_s' is_part'.
      let put = at_each-back (Placed es) p shown shown' s' placed is_s' in
      let e = is_at-get (λ e. IsPlacedOver e put.0 s') p es put.2 in
      let part = at_each-at (HoldsOwn eyes only (length w.parts) w) p es w.parts e.0 held.each e.1 in
      let was = at_each-at Shows p shown w.parts put.0 shows put.1 in
      let one : part.0 ≡ part' = one_there w.parts p part.0 part' part.1 is_part' in
      let two : was.0 ≡ part' = one_there w.parts p was.0 part' was.1 is_part' in
      let zeroth : p ≡ 0 + p = omega arith in
      subst (λ q. Shows q s' part') zeroth (placed_one w p e.0 put.0 s' part' law (subst (HoldsOwn eyes only (length w.parts) w p e.0) one part.2) e.2 (subst (λ (old : Part). Shows p put.0 old) two was.2)))
