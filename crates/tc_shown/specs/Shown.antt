-- What is published of a partition: the history of its view, who reads it, and what a placing adds to it.
use Rattle.std.specs.Prelude.{◌≡◌, ◌⊎◌, Bool, false, List, [], ◌∷◌, ◌++◌, map, Option, is_some}
use Rattle.left_right.specs.declared.Absorb.{Ghosts}
use Rattle.logbook.specs.Pages.{Book}
use Rattle.tc_log.specs.declared.write.Write.{Write}
use Rattle.tc_memory.specs.Table.{Table}
use Rattle.tc_component.specs.Loading.{ComponentState}
use Rattle.tc_view.specs.declared.content.Content.{Content}
use Rattle.tc_view.specs.declared.happened.Happened.{Happened}
use Rattle.tc_view.specs.declared.happened.Happened.TheVariants.{Wrote, Placed}
use Rattle.tc_view.specs.declared.lens.Lens.{Lens}
use Rattle.tc_view.specs.declared.publisher.Publisher.{Publisher}
use Rattle.tc_view.specs.declared.rule.Key.{Key}
use Rattle.tc_view.specs.declared.step.Step.{Step}
use Rattle.tc_view.specs.declared.view.View.{View}
use Rattle.tc_view.specs.Changes.{Showing, shown_after}
use Rattle.tc_view.specs.Places.{published_by, awaited_by, IsLensOf, IsReady}

-- which view it is, what happened in it since it was opened, and whether a call failed that was to add to it
pub record ShownState (F W : Type 0) : Type 0 where
  pub book : Book
  pub history : List (Happened F W)
  pub failed : Bool

abbrev pub key_of : Book → Key
key_of book = record { book = book }

-- Documents lie where they are shown already: the components have the headers of those, a table is over them where one is, and no write
-- is shown behind.
pub record LieThere {F : Type 0} (list : List (ComponentState F)) (sealed : Option Table) (s : Showing F) : Type 0 where
  pub headers : map (λ c. c.index.head) list ≡ map (λ c. c.index.head) s.list
  pub table : is_some sealed ≡ is_some s.sealed
  pub none_behind : s.written ≡ []

module _ {F W : Type 0} where
  -- the lens reads the view of this book
  abbrev pub Reads : Book → Lens F W → Type 0
  Reads book lens = IsLensOf (key_of book) lens

  -- ---- what a call adds

  -- a frame without writes adds nothing
  abbrev pub wrote : List Write → List (Happened F W)
  wrote [] = []
  wrote (w ∷ ws) = Wrote (w ∷ ws) ∷ []

  -- what is published has a change more, which says where documents lie, or they lie where it says already
  abbrev pub IsPlaced : List (ComponentState F) → Option Table → ShownState F W → ShownState F W → Type 0
  IsPlaced list sealed old new =
      (new ≡ record old { history = old.history ++ Placed list sealed ∷ [] }) ⊎ ((new ≡ old) × LieThere list sealed (shown_after old.history))

-- What is remembered of what is shown: the components, whether a table is over them, and whether writes lie behind both.
pub record IsRemembered {F W : Type 0} (list : List (ComponentState F)) (sealed written : Bool) (c : Content F W) : Type 0 where
  pub components : list ≡ c.list
  pub table : sealed ≡ is_some c.sealed
  pub none_behind : written ≡ false → c.written ≡ []

-- ---- the publisher

module _ {F W X : Type 0} {g : Ghosts (View F W) (Step F W) X} where
  abbrev pub history_of : Publisher F W X g → List (Happened F W)
  history_of p = (awaited_by p).history

  abbrev pub state_of : Publisher F W X g → Bool → ShownState F W
  state_of p failed = record { book = p.history.seen.book; history = history_of p; failed = failed }

  -- the publisher is ready, and has published all that was appended
  pub record IsCurrent (p : Publisher F W X g) : Type 0 where
    pub ready : IsReady (key_of p.history.seen.book) p
    pub all : published_by p ≡ awaited_by p
