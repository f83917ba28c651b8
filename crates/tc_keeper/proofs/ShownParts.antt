-- What is shown of one partition, behind a window and behind a placing.
use Rattle.std.proofs.Common.{◌≡◌, ◌∙◌, ◌<◌, ℕ, List, [], ◌∷◌, ◌++◌, All, map, length, length-append, arith, refl, ap, sym, subst, inl, inr}
use Rattle.std.specs.Prelude.{Option}
use Rattle.tc_component.specs.Loading.{ComponentState}
use Rattle.tc_log.specs.declared.write.Write as log
use Rattle.tc_machine.specs.Logs.{kept_write}
use Rattle.tc_machine.specs.Writes.{IsStorableWrite}
use Rattle.tc_request_model.specs.Request.{Request}
use Rattle.tc_part_model.specs.Meaning.{IsPart}
use Rattle.tc_part_model.specs.PartState.{AreTold, Told, told_component}
use Rattle.tc_part_model.specs.PartView.{PartView, store_of, stored_with}
use Rattle.tc_plain_model.specs.Room.{Limits}
use Rattle.tc_request_model.specs.Part.{part_left_all, part_writes_all}
use Rattle.tc_plain_model.specs.Store.{Store}
use Rattle.tc_plain_model.specs.Writes.{Pairs, Write, after_writes}
use Rattle.tc_plain_model.proofs.WriteLaws.{after_writes-append}
use Rattle.tc_request_model.proofs.RequestWrites.{part_left_all-writes}
use Rattle.tc_run_model.specs.World.{Part}
use Rattle.tc_shown.specs.Shown.{wrote, IsPlaced, ShownState}
use Rattle.tc_view.specs.declared.happened.Happened.{Happened}
use Rattle.tc_view.specs.declared.happened.Happened.TheVariants.{Placed}
use Rattle.tc_view.specs.Holding.{HoldsWrites}
use Rattle.tc_keeper.specs.Keeping.{ShowsPart}

-- ---- a window

-- what the law of parts says of a frame
abbrev pub LawOfWriting : {F : Type 0} → Type 0 → (F → Option (List ℕ)) → Type 0
LawOfWriting W content =
    (start : Pairs) (writes ws : List Write) (history : List (Happened _ W)) → HoldsWrites content start writes history → 0 < length history → All IsStorableWrite ws
    → HoldsWrites content start (writes ++ ws) (history ++ wrote (map kept_write ws))

longer : {X : Type 0} (xs ys : List X) → 0 < length xs → 0 < length (xs ++ ys)
longer xs ys some = omega (arith, length-append xs ys, some)

pub shows_wrote : {F W : Type 0} (content : F → Option (List ℕ)) → LawOfWriting W content → (limits : Limits) (rs : List Request) (s : ShownState F W) (part part' : Part) (frame : List log.Write)
    → frame ≡ map kept_write (part_writes_all limits rs part.now) → All IsStorableWrite (part_writes_all limits rs part.now) → part'.opened ≡ part.opened → part'.writes ≡ part.writes ++ part_writes_all limits rs part.now → part'.now ≡ part_left_all limits rs part.now
    → ShowsPart content s part → ShowsPart content (record s { history = s.history ++ wrote frame }) part'
shows_wrote {F = F} {W = W} content law limits rs s part part' frame framed storable opened writes left shows = record {
  some = longer s.history (wrote frame) shows.some;
  shows = subst (λ (start : Pairs). HoldsWrites content start part'.writes (s.history ++ wrote frame)) (sym opened)
      (subst (λ (ws : List Write). HoldsWrites content part.opened ws (s.history ++ wrote frame)) (sym writes)
      (subst (λ (f : List log.Write). HoldsWrites content part.opened (part.writes ++ part_writes_all limits rs part.now) (s.history ++ wrote f)) (sym framed)
      (law part.opened part.writes (part_writes_all limits rs part.now) s.history shows.shows shows.some storable)));
  stands = ap (λ (t : Store). t.pairs) left ∙ part_left_all-writes limits rs part.now
      ∙ ap (λ ps. after_writes ps (part_writes_all limits rs part.now)) shows.stands
      ∙ sym (after_writes-append part.opened part.writes (part_writes_all limits rs part.now))
      ∙ ap (λ ws. after_writes part.opened ws) (sym writes) ∙ ap (λ ps. after_writes ps part'.writes) (sym opened);
}

-- ---- a placing

-- what the law says of where documents lie
abbrev pub LawOfPlacing : {F : Type 0} → Type 0 → (F → Option (List ℕ)) → Type 0
LawOfPlacing W content =
    (t : Told) (p : PartView) (list : List (ComponentState _)) (start : Pairs) (writes : List Write) (history : List (Happened _ W)) → IsPart t p → AreTold t.components → t.staged ≡ [] → t.active ≡ [] → t.components ≡ map (told_component content) list
    → store_of p ≡ after_writes start writes → HoldsWrites content start writes history → HoldsWrites content start writes (history ++ Placed list t.sealed ∷ [])

-- nothing is staged in the view
none_mapped : {X Y : Type 0} (f : X → Y) (xs : List X) → map f xs ≡ [] → xs ≡ []
none_mapped f [] none = refl
none_mapped f (x ∷ xs) none = absurd (cc)

pub committed : (t : Told) (p : PartView) → IsPart t p → t.staged ≡ [] → stored_with p ≡ store_of p
committed t p is unstaged = ap (after_writes (store_of p)) (none_mapped kept_write p.staged (sym is.view.staged ∙ unstaged))

pub shows_placed : {F W : Type 0} (content : F → Option (List ℕ)) → LawOfPlacing W content → (t : Told) (p : PartView) (list : List (ComponentState F)) (s s' : ShownState F W) (part : Part)
    → IsPart t p → AreTold t.components → t.staged ≡ [] → t.components ≡ map (told_component content) list → stored_with p ≡ part.now.pairs → t.active ≡ [] → IsPlaced list t.sealed s s' → ShowsPart content s part → ShowsPart content s' part
shows_placed content law t p list s s' part is told unstaged components stores empty (inr stays) shows = subst (λ s. ShowsPart content s part) (sym stays.0) shows
shows_placed {F = F} {W = W} content law t p list s s' part is told unstaged components stores empty (inl placed) shows =
    subst (λ (s : ShownState F W). ShowsPart content s part) (sym placed) (record {
      some = longer s.history (Placed list t.sealed ∷ []) shows.some;
      shows = law t p list part.opened part.writes s.history is told unstaged empty components (sym (committed t p is unstaged) ∙ stores ∙ shows.stands) shows.shows;
      stands = shows.stands;
    })
