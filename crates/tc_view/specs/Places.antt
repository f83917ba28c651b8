-- What clauses read of a publisher, a lens and a snapshot.
use Rattle.std.specs.Prelude.{◌≡◌, Option, Some, fold, drop}
use Rattle.std.specs.Arc.{arc_value}
use Rattle.std.specs.declared.alloc.Global.{Global}
use Rattle.left_right.specs.Sides.{view}
use Rattle.left_right.specs.declared.Absorb.{Ghosts}
use Rattle.left_right.specs.declared.writer.Writer.{Writer}
use Rattle.tc_view.specs.declared.content.Content.{Content}
use Rattle.tc_view.specs.declared.lens.Lens.{Lens}
use Rattle.tc_view.specs.declared.publisher.Publisher.{Publisher}
use Rattle.tc_view.specs.declared.rule.Agrees.{Agrees}
use Rattle.tc_view.specs.declared.rule.Key.{Key}
use Rattle.tc_view.specs.declared.snapshot.Note.{Note}
use Rattle.tc_view.specs.declared.snapshot.Snapshot.{Snapshot}
use Rattle.tc_view.specs.declared.step.Step.{Step}
use Rattle.tc_view.specs.declared.view.View.{View}
use Rattle.tc_view.specs.Rules.{IsViewOf}
use Rattle.tc_view.specs.Views.{content_of, applied}

module _ {F W : Type 0} where
  -- what a snapshot has, what a note tells, and what a lens keeps
  abbrev pub shown_by : Snapshot F W → Content F W
  shown_by s = content_of (arc_value s.of)

  abbrev pub told_by : Note F W → Content F W
  told_by n = shown_by n.shown

  abbrev pub kept_by : Lens F W → Content F W
  kept_by l = shown_by l.kept

  -- the lens reads this view
  pub record IsLensOf (k : Key) (l : Lens F W) : Type 0 where
    pub place : view l.reader.place ≡ Some k
    pub kept : IsViewOf k (kept_by l)

module _ {F W X : Type 0} {g : Ghosts (View F W) (Step F W) X} where
  -- what readers take, and what they take after the next publication
  abbrev pub shown_of : Writer (View F W) (Step F W) (Option Key) Agrees Global X g → Content F W
  shown_of w = content_of w.desk.shown.value

  abbrev pub next_of : Writer (View F W) (Step F W) (Option Key) Agrees Global X g → Content F W
  next_of w = fold applied (shown_of w) (drop w.behind w.log.items)

  -- the writer shows this view, now and next
  pub record IsOpenTo (k : Key) (w : Writer (View F W) (Step F W) (Option Key) Agrees Global X g) : Type 0 where
    pub place : view w.desk.place ≡ Some k
    pub shown : IsViewOf k (shown_of w)
    pub next : IsViewOf k (next_of w)

  -- what was published last, and what will be next
  abbrev pub published_by : Publisher F W X g → Content F W
  published_by p = shown_of p.writer

  abbrev pub awaited_by : Publisher F W X g → Content F W
  awaited_by p = next_of p.writer

  -- the publisher writes this view, and knows its whole history
  pub record IsReady (k : Key) (p : Publisher F W X g) : Type 0 where
    pub open_to : IsOpenTo k p.writer
    pub history : (awaited_by p).history ≡ p.history.seen.log
    pub book : p.history.seen.book ≡ k.book
    pub upto : p.upto ≡ (awaited_by p).upto
