-- What each call of what keeps the documents leaves of what holds between any two, and what its parts ask for.
use Rattle.std.proofs.Common.{◌≡◌, ◌∙◌, ℕ, zero, suc, true, false, List, [], ◌∷◌, All, map, length, refl, ap, sym, subst, inl, inr}
use Rattle.std.specs.Prelude.{is_some, None, Option, Some, zip}
use Rattle.std.specs.List.{AllZip}
use Rattle.std.specs.declared.alloc.Global.{Global}
use Rattle.std.specs.declared.vec.Vec.{Vec}
use Rattle.tc_keeper.specs.Places.{AtEach, IsAt}
use Rattle.tc_keeper.specs.Standing.{partition_at, HoldsOwn, HoldWorld, IsSeen, KeepsPart, KeepWorlds}
use Rattle.tc_keeper.specs.WithJobs.{settings, told_of, with_reader, works_of, WithJobs}
use Rattle.tc_keeper.proofs.PlaceLaws.{at_each-join, at_each-length, at_each-same, at_each-so}
use Rattle.tc_log.specs.Writes.{IsWrite}
use Rattle.tc_log.specs.declared.write.Write as log
use Rattle.tc_model.specs.Keyed.{Keyed}
use Rattle.tc_request_model.specs.Request.{Request}
use Rattle.tc_run_model.specs.World.{Part, World}
use Rattle.tc_shown.specs.Scans.{GoesOn, ReadsAView}
use Rattle.tc_shown.specs.Shown.{key_of, Reads, ShownState}
use Rattle.tc_shown.specs.declared.scan.Pass.{Pass}
use Rattle.tc_shown.specs.declared.scan.Scan.{Scan as Begun}
use Rattle.tc_store.specs.Counted.{Counts}
use Rattle.tc_view.specs.declared.lens.Lens.{Lens}
use Rattle.tc_view.specs.Places.{kept_by}
use Rattle.tc_work.specs.Moving.{Eyes}
use Rattle.tc_keeper.specs.Keeping.{AreLensesOut, AreReadersOut, IsManned, KeeperState}
use Rattle.tc_keeper.specs.Showing.{IsReadAsBefore, ShowsOwnOf}
use Rattle.tc_keeper.proofs.EachLaws.{carried_all, right_all}
use Rattle.tc_keeper.proofs.KeeperCounts.{SameReaders}
use Rattle.tc_keeper.proofs.OwnShown.{own_settled}
use Rattle.tc_keeper.proofs.ReadersApart.{reread_back, reread_lent, settings_reread}
use Rattle.tc_keeper.proofs.ShownWorlds.{zip_length, Framed}

-- ---- one after the other

unread_each : {X Y V : Type 0} (g : Y → V) (R : ℕ → X → V → Type 0) (p : ℕ) (xs : List X) (ys : List Y) → AtEach R p xs (map g ys) → AtEach (λ i x y. R i x (g y)) p xs ys
unread_each g R p [] [] all = tt
unread_each g R p [] (y ∷ ys) all = absurd all
unread_each g R p (x ∷ xs) [] all = absurd all
unread_each g R p (x ∷ xs) (y ∷ ys) all = (all.0, unread_each g R (suc p) xs ys all.1)

-- ---- lenses

module _ {F W : Type 0} where
  lenses_beside : (out : Option (Begun F W)) (shown shown' : List (ShownState F W)) → AtEach (λ p old new. IsReadAsBefore old new) 0 shown shown' → AreLensesOut out shown → AreLensesOut out shown'
  lenses_beside None shown shown' went lenses = tt
  lenses_beside (Some out) shown shown' went lenses =
      at_each-join (λ p old new. IsReadAsBefore old new) (λ p s pass. s.failed ≡ false → Reads s.book pass.lens) (λ p s pass. s.failed ≡ false → Reads s.book pass.lens) 0 shown shown' out.passes.items
      (λ i old new pass went reads works. let stays = went works in subst (λ b. Reads b pass.lens) (sym stays.1) (reads stays.0)) went lenses

  pub read_as_before : (shown : List (ShownState F W)) → AtEach (λ p old new. IsReadAsBefore old new) 0 shown shown
  read_as_before shown = at_each-same (λ p old new. IsReadAsBefore old new) 0 shown (λ i s works. (works, refl))

  abbrev pub Lent : ℕ → ShownState F W → Lens F W → Type 0
  Lent p s lens = Reads s.book lens × ((kept_by lens).history ≡ s.history)

  pub passes_lent : (shown : List (ShownState F W)) (lenses : List (Lens F W)) (passes : List (Pass F W)) → map (λ (pass : Pass F W). pass.lens) passes ≡ lenses → AtEach Lent 0 shown lenses → AtEach (λ p s pass. Reads s.book pass.lens × ((kept_by pass.lens).history ≡ s.history)) 0 shown passes
  passes_lent shown lenses passes same lent = unread_each (λ (pass : Pass F W). pass.lens) Lent 0 shown passes (subst (AtEach Lent 0 shown) (sym same) lent)

  pub passes_read : (shown : List (ShownState F W)) (passes : List (Pass F W)) → AtEach (λ p s pass. Reads s.book pass.lens × ((kept_by pass.lens).history ≡ s.history)) 0 shown passes → All ReadsAView passes
  passes_read shown passes lent = right_all (λ p s pass. Reads s.book pass.lens × ((kept_by pass.lens).history ≡ s.history)) ReadsAView 0 shown passes (λ i s pass l. (key_of s.book, l.0)) lent

  both_many : (counts : W → Counts) (old new : List (Pass F W)) → AllZip (GoesOn counts) old new → length new ≡ length old
  both_many counts [] [] went = refl
  both_many counts [] (n ∷ new) went = absurd went
  both_many counts (o ∷ old) [] went = absurd went
  both_many counts (o ∷ old) (n ∷ new) went = ap suc (both_many counts old new went.1)

  back_read : (counts : W → Counts) (p : ℕ) (shown : List (ShownState F W)) (old new : List (Pass F W)) → AllZip (GoesOn counts) old new → AtEach (λ p s pass. s.failed ≡ false → Reads s.book pass.lens) p shown old → AtEach (λ p s pass. s.failed ≡ false → Reads s.book pass.lens) p shown new
  back_read counts p [] [] [] went reads = tt
  back_read counts p [] [] (n ∷ new) went reads = absurd went
  back_read counts p [] (o ∷ old) new went reads = absurd reads
  back_read counts p (s ∷ shown) [] new went reads = absurd reads
  back_read counts p (s ∷ shown) (o ∷ old) [] went reads = absurd went
  back_read counts p (s ∷ shown) (o ∷ old) (n ∷ new) went reads = (λ works. went.0.lens (key_of s.book) (reads.0 works), back_read counts (suc p) shown old new went.1 reads.1)

module _ {S D F W : Type 0} where
  -- ---- readers and lenses, beside a call of the engines

  abbrev IsHome : WithJobs S D F W → Type 0
  IsHome e = is_some e.engine.part.reader ≡ true

  abbrev IsAway : WithJobs S D F W → Type 0
  IsAway e = e.engine.part.reader ≡ None

  readers_beside : (out : Option (Begun F W)) (es es' : List (WithJobs S D F W)) → SameReaders es es' → AreReadersOut out es → AreReadersOut out es'
  readers_beside None es es' same home = carried_all (λ p old new. new.engine.part.reader ≡ old.engine.part.reader) IsHome IsHome 0 es es' (λ i old new same home. ap is_some same ∙ home) same home
  readers_beside (Some out) es es' same away =
      (away.0 ∙ at_each-length (λ p old new. new.engine.part.reader ≡ old.engine.part.reader) 0 es es' same, carried_all (λ p old new. new.engine.part.reader ≡ old.engine.part.reader) IsAway IsAway 0 es es' (λ i old new same none. same ∙ none) same away.1)

  -- a call of the engines, and showing what they did
  pub manned_beside : {content : F → Option (List ℕ)} (k k' : KeeperState S D F W) → k'.scan ≡ k.scan → SameReaders k.engines k'.engines → map settings k'.engines ≡ map settings k.engines → AtEach (λ p old new. IsReadAsBefore old new) 0 k.shown k'.shown
      → (AtEach (ShowsOwnOf content) 0 k'.engines k.shown → AtEach (ShowsOwnOf content) 0 k'.engines k'.shown) → IsManned content k → IsManned content k'
  manned_beside {content = content} k k' scan readers same read own m = record {
    as_many = sym (at_each-length (λ p old new. IsReadAsBefore old new) 0 k.shown k'.shown read) ∙ m.as_many ∙ at_each-length (λ p old new. new.engine.part.reader ≡ old.engine.part.reader) 0 k.engines k'.engines readers;
    readers = subst (λ o. AreReadersOut o k'.engines) (sym scan) (readers_beside k.scan k.engines k'.engines readers m.readers);
    lenses = subst (λ o. AreLensesOut o k'.shown) (sym scan) (lenses_beside k.scan k.shown k'.shown read m.lenses);
    own = own (own_settled content 0 k.engines k'.engines k.shown same m.own);
  }

  -- ---- frames

  pub frames_many : (eyes : Eyes S D F W) (count : ℕ) (window : Keyed Request) (shown : List (ShownState F W)) (es es' : List (WithJobs S D F W))
      (frames : List (Vec log.Write Global)) → length shown ≡ length es → SameReaders es es' → AtEach (Framed eyes count window) 0 (zip es es') frames
      → length shown ≡ length frames
  frames_many eyes count window shown es es' frames many readers framed =
      many ∙ sym (zip_length es es' (at_each-length (λ p old new. new.engine.part.reader ≡ old.engine.part.reader) 0 es es' readers)) ∙ at_each-length (Framed eyes count window) 0 (zip es es') frames framed

  pub frames_stored : (eyes : Eyes S D F W) (count : ℕ) (window : Keyed Request) (runs : List (WithJobs S D F W × WithJobs S D F W)) (frames : List (Vec log.Write Global)) → AtEach (Framed eyes count window) 0 runs frames → All (λ (frame : Vec log.Write Global). All IsWrite frame.items) frames
  frames_stored eyes count window runs frames framed = right_all (Framed eyes count window) (λ (frame : Vec log.Write Global). All IsWrite frame.items) 0 runs frames (λ i run frame f. f.stored) framed

  pub shown_many : {content : F → Option (List ℕ)} (k : KeeperState S D F W) (es' : List (WithJobs S D F W)) → SameReaders k.engines es' → IsManned content k → length k.shown ≡ length es'
  shown_many k es' readers m = m.as_many ∙ at_each-length (λ p old new. new.engine.part.reader ≡ old.engine.part.reader) 0 k.engines es' readers

  -- ---- a scan is started

  pub readers_in : {content : F → Option (List ℕ)} (k : KeeperState S D F W) → k.scan ≡ None → IsManned content k → All (λ e. is_some e.engine.part.reader ≡ true) k.engines
  readers_in k none m = subst (λ o. AreReadersOut {S = S} {D = D} {F = F} {W = W} o k.engines) none m.readers

  pub manned_lent : {content : F → Option (List ℕ)} (k k' : KeeperState S D F W) (begun : Begun F W) → k'.scan ≡ Some begun → k'.shown ≡ k.shown → AtEach (λ p old new. new ≡ with_reader None old) 0 k.engines k'.engines
      → AtEach (λ p s pass. Reads s.book pass.lens × ((kept_by pass.lens).history ≡ s.history)) 0 k.shown begun.passes.items → IsManned content k → IsManned content k'
  manned_lent {content = content} k k' begun some shown out lent m =
      let many = at_each-length (λ p old new. new ≡ with_reader None old) 0 k.engines k'.engines out in record {
        as_many = ap length shown ∙ m.as_many ∙ many;
        readers = subst (λ o. AreReadersOut o k'.engines) (sym some) (
          sym (at_each-length (λ p s pass. Reads s.book pass.lens × ((kept_by pass.lens).history ≡ s.history)) 0 k.shown begun.passes.items lent) ∙ m.as_many ∙ many,
          right_all (λ p old new. new ≡ with_reader None old) IsAway 0 k.engines k'.engines (λ i old new is. ap (λ (e : WithJobs S D F W). e.engine.part.reader) is) out,
        );
        lenses = subst (λ o. AreLensesOut o k'.shown) (sym some)
            (subst (λ (ss : List (ShownState F W)). AtEach (λ p s pass. s.failed ≡ false → Reads s.book pass.lens) 0 ss begun.passes.items) (sym shown)
            (at_each-so (λ p s pass. Reads s.book pass.lens × ((kept_by pass.lens).history ≡ s.history)) (λ p s pass. s.failed ≡ false → Reads s.book pass.lens) 0 k.shown begun.passes.items (λ i s pass l works. l.0) lent));
        own = subst (AtEach (ShowsOwnOf content) 0 k'.engines) (sym shown) (own_settled content 0 k.engines k'.engines k.shown (settings_reread k.engines k'.engines (reread_lent k.engines k'.engines out)) m.own);
      }

  -- ---- a scan comes back

  pub readers_away : {content : F → Option (List ℕ)} (k : KeeperState S D F W) (begun : Begun F W) → k.scan ≡ Some begun → IsManned content k → (length begun.passes.items ≡ length k.engines) × All (λ e. e.engine.part.reader ≡ None) k.engines
  readers_away k begun some m = subst (λ o. AreReadersOut {S = S} {D = D} {F = F} {W = W} o k.engines) some m.readers

  pub lenses_away : {content : F → Option (List ℕ)} (k : KeeperState S D F W) (begun : Begun F W) → k.scan ≡ Some begun → IsManned content k → AtEach (λ p s pass. s.failed ≡ false → Reads s.book pass.lens) 0 k.shown begun.passes.items
  lenses_away k begun some m = subst (λ o. AreLensesOut {F = F} {W = W} o k.shown) some m.lenses

  pub back_many : {content : F → Option (List ℕ)} (counts : W → Counts) (k : KeeperState S D F W) (begun : Begun F W) (passes : List (Pass F W)) → k.scan ≡ Some begun → AllZip (GoesOn counts) begun.passes.items passes → IsManned content k → length passes ≡ length k.engines
  back_many counts k begun passes some went m = both_many counts begun.passes.items passes went ∙ (readers_away k begun some m).0

  pub lenses_back : {content : F → Option (List ℕ)} (counts : W → Counts) (k : KeeperState S D F W) (begun : Begun F W) (passes : List (Pass F W)) → k.scan ≡ Some begun → AllZip (GoesOn counts) begun.passes.items passes
      → IsManned content k → AtEach (λ p s pass. s.failed ≡ false → Reads s.book pass.lens) 0 k.shown passes
  lenses_back counts k begun passes some went m = back_read counts 0 k.shown begun.passes.items passes went (lenses_away k begun some m)

  home_all : (p : ℕ) (passes : List (Pass F W)) (es es' : List (WithJobs S D F W)) → AtEach (λ p old new. IsAt p passes (λ pass. new ≡ with_reader (Some pass.watch) old)) p es es' → All (λ e. is_some e.engine.part.reader ≡ true) es'
  home_all p passes es es' came = right_all (λ p old new. IsAt p passes (λ (pass : Pass F W). new ≡ with_reader (Some pass.watch) old)) IsHome p es es' (λ i old new at. came_home passes i old new at) came
    where
      came_home : (passes : List (Pass F W)) (i : ℕ) (old new : WithJobs S D F W) → IsAt i passes (λ pass. new ≡ with_reader (Some pass.watch) old) → IsHome new
      came_home [] i old new at = absurd at
      came_home (pass ∷ passes) zero old new at = ap (λ (e : WithJobs S D F W). is_some e.engine.part.reader) at
      came_home (pass ∷ passes) (suc i) old new at = came_home passes i old new at

  pub back_home : (passes : List (Pass F W)) (es es' : List (WithJobs S D F W)) → AtEach (λ p old new. IsAt p passes (λ pass. new ≡ with_reader (Some pass.watch) old)) 0 es es' → All (λ e. is_some e.engine.part.reader ≡ true) es'
  back_home passes es es' came = home_all 0 passes es es' came

  pub manned_back : {content : F → Option (List ℕ)} (k k' : KeeperState S D F W) (passes : List (Pass F W)) → k'.scan ≡ None → k'.shown ≡ k.shown → AtEach (λ p old new. IsAt p passes (λ pass. new ≡ with_reader (Some pass.watch) old)) 0 k.engines k'.engines → IsManned content k → IsManned content k'
  manned_back {content = content} k k' passes none shown came m = record {
    as_many = ap length shown ∙ m.as_many ∙ at_each-length (λ p old new. IsAt p passes (λ (pass : Pass F W). new ≡ with_reader (Some pass.watch) old)) 0 k.engines k'.engines came;
    readers = subst (λ o. AreReadersOut {S = S} {D = D} {F = F} {W = W} o k'.engines) (sym none) (back_home passes k.engines k'.engines came);
    lenses = subst (λ o. AreLensesOut {F = F} {W = W} o k'.shown) (sym none) tt;
    own = subst (AtEach (ShowsOwnOf content) 0 k'.engines) (sym shown) (own_settled content 0 k.engines k'.engines k.shown (settings_reread k.engines k'.engines (reread_back passes k.engines k'.engines came)) m.own);
  }

-- ---- what is held behind requests is kept of those before and behind them

pub behind_keeps : {S D F W : Type 0} (eyes : Eyes S D F W) (only : Option ℕ) (es : List (WithJobs S D F W)) (w v : World) → length v.parts ≡ length w.parts → HoldWorld eyes only es v → KeepWorlds eyes only es w v
behind_keeps {S = S} {D = D} {F = F} {W = W} eyes only es w v many h = beside 0 es w.parts v.parts many (subst (λ count. AtEach (HoldsOwn eyes only count v) 0 es v.parts) many h.each)
  where
    beside : (n : ℕ) (es : List (WithJobs S D F W)) (olds news : List Part) → length news ≡ length olds → AtEach (HoldsOwn eyes only (length w.parts) v) n es news
        → AtEach (λ p e both. IsSeen only p → KeepsPart (works_of eyes e) (told_of eyes e) e.engine.part.limits (partition_at p (length w.parts)) w v both.0 both.1) n es (zip olds news)
    beside n [] [] [] many each = tt
    beside n [] [] (new ∷ news) many each = absurd each
    beside n [] (old ∷ olds) [] many each = absurd (cc)
    beside n [] (old ∷ olds) (new ∷ news) many each = absurd each
    beside n (e ∷ es) olds [] many each = absurd each
    beside n (e ∷ es) [] (new ∷ news) many each = absurd (cc)
    beside n (e ∷ es) (old ∷ olds) (new ∷ news) many each = (λ seen. inr (inl (each.0 seen)), beside (suc n) es olds news (cc) each.1)
