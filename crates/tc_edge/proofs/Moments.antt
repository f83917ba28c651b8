-- Reads behind other reads.
use Rattle.std.proofs.Common.{◌≡◌, List, [], ◌∷◌, ◌++◌, Option, None, Some, refl, sym, ap, ◌∙◌, append_assoc, append-nil}
use Rattle.tc_edge.specs.Moments.{Moment, all_given, with_further}

pub with_further-nil : (told : Option (List Moment)) → told ≡ with_further [] told
with_further-nil None = refl
with_further-nil (Some before) = refl

pub with_further-trans : (told told' told'' : Option (List Moment)) (further more : List Moment) → told' ≡ with_further further told → told'' ≡ with_further more told'
    → told'' ≡ with_further (more ++ further) told
with_further-trans told told' told'' further more first second = second ∙ ap (with_further more) first ∙ both told
  where
    both : (told : Option (List Moment)) → with_further more (with_further further told) ≡ with_further (more ++ further) told
    both None = refl
    both (Some before) = ap Some (sym (append_assoc more further before))

pub all_given-append : (more further : List Moment) → all_given (more ++ further) ≡ all_given further ++ all_given more
all_given-append [] further = sym (append-nil (all_given further))
all_given-append (moment ∷ more) further =
    ap (λ bytes. bytes ++ moment.given) (all_given-append more further) ∙ append_assoc (all_given further) (all_given more) moment.given
