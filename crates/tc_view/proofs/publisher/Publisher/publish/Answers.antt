use Rattle.std.proofs.Common.{◌≡◌, ◌∙◌, ap, sym, Result, Ok, Err}
use Rattle.std.specs.Prelude.{MatchResult}
use Rattle.tc_view.specs.Places.{next_of}
use Rattle.tc_view.proofs.publisher.Publisher.publish.Goals as goal

in_both : {A E N : Type 0} (P Q : Type 0) (r : Result A E) → MatchResult r (λ _. P × N) (λ _. Q × N) → N
in_both P Q (Ok x) h = h.1
in_both P Q (Err e) h = h.1

pub returns-clause-ready : goal.returns-clause-ready
returns-clause-ready g c k r =
    let said = c.replace_with-published.ensures in
    let next : next_of c.replace_with-published.new.dest ≡ next_of c.args.self.now.writer = in_both _ _ c.replace_with-published.result said.1 in
    record {
      open_to = said.0 k r.open_to;
      history = ap (λ x. x.history) next ∙ r.history;
      book = r.book;
      upto = r.upto ∙ sym (ap (λ x. x.upto) next);
    }
