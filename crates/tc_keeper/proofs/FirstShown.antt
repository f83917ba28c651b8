-- Partitions that were opened serve the world in which a run begins, once each is shown.
use Rattle.std.proofs.Common.{◌≡◌, ◌∙◌, ◌<◌, ℕ, suc, List, [], ◌∷◌, All, map, length, arith, refl, ap, sym, subst}
use Rattle.std.specs.Prelude.{true, is_some, None, Option}
use Rattle.std.proofs.lemmas.List.Elements.{All-head, All-tail}
use Rattle.tc_component.specs.Loading.{ComponentState}
use Rattle.tc_keeper.specs.Places.{AtEach}
use Rattle.tc_keeper.specs.Standing.{HoldsOwn, HoldWorld, IsSeen}
use Rattle.tc_keeper.specs.WithJobs.{told_of, WithJobs}
use Rattle.tc_memory.specs.Table.{Table}
use Rattle.tc_part_model.specs.Meaning.{IsPart}
use Rattle.tc_part_model.specs.PartState.{AreTold, Told, told_component}
use Rattle.tc_part_model.specs.PartView.{PartView, store_of}
use Rattle.tc_plain_model.specs.Store.{Store}
use Rattle.tc_plain_model.specs.Writes.{Pairs}
use Rattle.tc_run_model.specs.World.{first_world, part_of, Part, Scan, World}
use Rattle.tc_shown.specs.Shown.{ShownState}
use Rattle.tc_view.specs.declared.happened.Happened.{Happened}
use Rattle.tc_view.specs.declared.happened.Happened.TheVariants.{Placed}
use Rattle.tc_view.specs.Holding.{HoldsWrites}
use Rattle.tc_work.specs.Moving.{Eyes}
use Rattle.tc_keeper.specs.Keeping.{AreUnwritten, IsOutFor, KeeperState, ServesAt, ShowsPart, ShowWorld}
use Rattle.tc_keeper.specs.Partitions.{StandAt}
use Rattle.tc_keeper.specs.Showing.{IsShownFirst}
use Rattle.tc_keeper.specs.Sight.{nothing, sees, IsFirst, Sight}
use Rattle.tc_keeper.proofs.KeysWritten.{first_keys}
use Rattle.tc_keeper.proofs.ShownParts.{committed}

-- what the law of parts says of components that are shown first
abbrev pub LawOfOpening : {F : Type 0} → Type 0 → (F → Option (List ℕ)) → Type 0
LawOfOpening W content =
    (t : Told) (p : PartView) (list : List (ComponentState _)) → IsPart t p → AreTold t.components → t.staged ≡ [] → t.active ≡ [] → t.components ≡ map (told_component content) list
    → HoldsWrites {W = W} content (store_of p) [] (Placed list t.sealed ∷ [])

module _ {S D F W : Type 0} (eyes : Eyes S D F W) (only : Option ℕ) (law : LawOfOpening W eyes.content) where
  abbrev IsUnwritten : WithJobs S D F W → Type 0
  IsUnwritten e = (e.engine.part.sealed ≡ None) × (e.engine.part.active ≡ []) × (is_some e.engine.part.reader ≡ true)

  first_one : (count : ℕ) (w : World) (p : ℕ) (e : WithJobs S D F W) (s : ShownState F W) (store : Store) → HoldsOwn eyes only count w p e (part_of store) → IsShownFirst e s → IsUnwritten e → IsSeen only p → ShowsPart eyes.content s (part_of store)
  first_one count w p e s store holds first unwritten seen =
      let h = holds seen in
      let begins = law (told_of eyes e) h.view e.engine.part.list h.is h.tells.components h.unstaged unwritten.1 refl in record {
        some = subst (λ (h : List (Happened F W)). 0 < length h) (sym first) (omega arith);
        shows = subst (λ (h : List (Happened F W)). HoldsWrites eyes.content store.pairs [] h) (sym first)
            (subst (λ (o : Option Table). HoldsWrites {W = W} eyes.content store.pairs [] (Placed e.engine.part.list o ∷ [])) unwritten.0
            (subst (λ (ps : Pairs). HoldsWrites {W = W} eyes.content ps [] (Placed e.engine.part.list e.engine.part.sealed ∷ [])) (sym (committed (told_of eyes e) h.view h.is h.unstaged) ∙ ap (λ (t : Store). t.pairs) h.stores) begins));
        stands = refl;
      }

  first_each : (count : ℕ) (w : World) (p : ℕ) (es : List (WithJobs S D F W)) (shown : List (ShownState F W)) (stores : List Store) → AtEach (HoldsOwn eyes only count w) p es (map part_of stores) → AtEach (λ p e s. IsShownFirst e s) p es shown → All IsUnwritten es
      → AtEach (λ p s part. IsSeen only p → ShowsPart eyes.content s part) p shown (map part_of stores)
  first_each count w p [] [] [] holds first unwritten = tt
  first_each count w p [] [] (store ∷ stores) holds first unwritten = absurd holds
  first_each count w p [] (s ∷ shown) stores holds first unwritten = absurd first
  first_each count w p (e ∷ es) [] stores holds first unwritten = absurd first
  first_each count w p (e ∷ es) (s ∷ shown) [] holds first unwritten = absurd holds
  first_each count w p (e ∷ es) (s ∷ shown) (store ∷ stores) holds first unwritten = (
    first_one count w p e s store holds.0 first.0 (All-head IsUnwritten e es unwritten),
    first_each count w (suc p) es shown stores holds.1 first.1 (All-tail IsUnwritten e es unwritten),
  )

  first_shows : (k : KeeperState S D F W) (w : World) (stores : List Store) → w ≡ first_world w.limits stores → AreUnwritten k.engines → AtEach (λ p e s. IsShownFirst e s) 0 k.engines k.shown → k.scan ≡ None → HoldWorld eyes only k.engines w → ShowWorld eyes.content only k w
  first_shows k w stores first unwritten shown none held =
      let parts : w.parts ≡ map part_of stores = ap (λ (v : World). v.parts) first in
      let idle : w.running ≡ None = ap (λ (v : World). v.running) first in record {
        each = subst (λ (ps : List Part). AtEach (λ p s part. IsSeen only p → ShowsPart eyes.content s part) 0 k.shown ps) (sym parts)
            (first_each (length w.parts) w 0 k.engines k.shown stores (subst (λ (ps : List Part). AtEach (HoldsOwn eyes only (length w.parts) w) 0 k.engines ps) parts held.each) shown unwritten);
        scan = subst (λ o. IsOutFor only o w.running) (sym none) (subst (λ (r : Option Scan). IsOutFor {F = F} {W = W} only None r) (sym idle) tt);
        own = λ all. first_keys w stores first (held.own all);
      }

pub serves_first : {S D F W : Type 0} (eyes : Eyes S D F W) (k : KeeperState S D F W) (known : Sight) → LawOfOpening W eyes.content → AreUnwritten k.engines → AtEach (λ p e s. IsShownFirst e s) 0 k.engines k.shown → k.scan ≡ None → IsFirst known
    → StandAt eyes k.engines known → ServesAt eyes k known
unfolding ServesAt
serves_first eyes k nothing law unwritten shown none first stands = (tt, tt)
serves_first eyes k (sees only w) law unwritten shown none first stands = (stands, first_shows eyes only law k w first.0 first.1 unwritten shown none stands)
