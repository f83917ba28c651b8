-- What clauses read of a view, and what a step does to it.
use Rattle.std.specs.Prelude.{flat_map, option_map}
use Rattle.std.specs.Arc.{arc_value}
use Rattle.tc_view.specs.declared.content.Content.{Content}
use Rattle.tc_view.specs.declared.step.Step.{Step}
use Rattle.tc_view.specs.declared.view.View.{View}
use Rattle.tc_view.specs.Changes.{writes_in, changed}

module _ {F W : Type 0} where
  abbrev pub content_of : View F W → Content F W
  content_of v = record {
    list = arc_value v.list;
    sealed = option_map arc_value v.sealed;
    written = flat_map writes_in v.chunks.items;
    upto = v.mark.upto;
    changes = v.mark.changes;
    history = v.mark.seen.log;
    book = v.mark.seen.book;
  }

  abbrev pub applied : Content F W → Step F W → Content F W
  applied c s = record (changed c s.change) { upto = s.mark.upto; changes = s.mark.changes; history = s.mark.seen.log; book = s.mark.seen.book }
