use Rattle.std.proofs.Common.{◌≡◌, ◌∙◌, ap, sym}
use Rattle.logbook.specs.Pages.{Book}
use Rattle.tc_view.specs.Places.{next_of}
use Rattle.tc_view.specs.Rules.{opening}
use Rattle.tc_view.proofs.publisher.Publisher.new.Goals as goal

pub open-requires-after_bounds : goal.open-requires-after_bounds
open-requires-after_bounds g c κs within = (record { book = c.new-history.result.seen.book }, c.in_ok-first.ensures, c.in_ok-second.ensures)

pub returns : goal.returns
returns g c =
    let made = c.in_ok-open.ensures in
    let key = made.0.0 in
    let next : next_of c.in_ok-open.field-0 ≡ opening c.new-history.result.seen.book = made.2 ∙ c.in_ok-first.ensures in
    let book = sym (ap (λ x. x.book) next) ∙ made.0.1.next.book in (
      key,
      record {
        open_to = made.0.1;
        history = ap (λ x. x.history) next ∙ sym c.new-history.ensures;
        book = book;
        upto = sym (ap (λ x. x.upto) next);
      },
      next ∙ ap (λ (b : Book). opening b) book,
      made.1 ∙ sym made.2,
    )
