-- Of which history a view is, and the rule of the published view.
use Rattle.std.specs.Prelude.{◌≡◌, ℕ, List, [], length, All, Option, None, Some}
use mathlib.Core.Option.{some}
use lib.ListN.{get_elem?}
use Rattle.logbook.specs.Pages.{Book}
use Rattle.tc_log.specs.Writes.{IsWrite}
use Rattle.tc_view.specs.declared.content.Content.{Content}
use Rattle.tc_view.specs.declared.rule.Key.{Key}
use Rattle.tc_view.specs.Changes.{writes_of, shown_after, showing_in}
use Rattle.tc_view.specs.Holding.{IsListed}

module _ {F W : Type 0} where
  -- It has a beginning of the history, and shows what the changes there leave of an empty view. Which documents that is, whoever holds
  -- the history knows.
  pub record IsViewOf (k : Key) (c : Content F W) : Type 0 where
    pub book : c.book ≡ k.book
    pub shows : showing_in c ≡ shown_after c.history
    pub listed : IsListed c.list
    pub stored : All IsWrite c.written
    pub upto : c.upto ≡ length (writes_of c.history)
    pub changes : c.changes ≡ length c.history

  -- there is one view, of which the published content is, and each place that was told of a view was told of it
  pub record Agreed (c : Content F W) (views : List (Option Key)) : Type 0 where
    pub key : Key
    pub is : IsViewOf key c
    pub agree : (seat : ℕ) (k : Key) → get_elem? views seat ≡ some (Some k) → k ≡ key

  abbrev pub Opened : Content F W → Option Key → Type 0
  Opened c w = (k : Key) × (w ≡ Some k) × IsViewOf k c

  abbrev pub Stayed : Option Key → Content F W → Option Key → Type 0
  Stayed v c w = (w ≡ v) × ((k : Key) → v ≡ Some k → IsViewOf k c)

-- what a view has before the first change
abbrev pub opening : {F W : Type 0} → Book → Content F W
opening book = record { list = []; sealed = None; written = []; upto = 0; changes = 0; history = []; book = book }
