use Rattle.std.proofs.Common.{◌≡◌, ◌+◌, ◌<◌, ◌^◌, ◌∷◌, [], length, drop, sym, ap, ◌∙◌, subst}
use Rattle.std.specs.List.{AllByRecursion}
use Rattle.std.proofs.lemmas.List.{drop_more}
use Rattle.tc_model.specs.Document.{Name}
use Rattle.tc_model.specs.Dictionary.{learned, all_learned}
use Rattle.tc_model.proofs.LearnedNames.{room_for_first}
use Rattle.tc_count.proofs.naming.dictionary_of.Goals as goal

abbrev IsShort : Name → Type 0
IsShort name = length name < 2 ^ 32

pub learn-requires-clause-room : goal.learn-requires-clause-room
learn-requires-clause-room c =
    let l = c.loop-name in
    let rest = drop (l.name-index + 1) c.args.names.now in
    let here : drop l.name-index c.args.names.now ≡ c.name-item.result ∷ rest = drop_more c.args.names.now l.name-index c.name-item.result c.loop-name-test.true ∙ ap (λ name. name ∷ rest) (sym c.name-item.is) in
    let whole = ap (all_learned l.dictionary) (sym here) ∙ l.invariant.left in
    rw (c.as_str.ensures.bytes) (room_for_first l.dictionary (c.name-item.result ∷ []) rest (subst (λ names. length names < 2 ^ 32) (sym whole) c.requires.room))

pub learn-requires-clause-short : goal.learn-requires-clause-short
learn-requires-clause-short c =
    let l = c.loop-name in
    let rest = drop (l.name-index + 1) c.args.names.now in
    let here : drop l.name-index c.args.names.now ≡ c.name-item.result ∷ rest = drop_more c.args.names.now l.name-index c.name-item.result c.loop-name-test.true ∙ ap (λ name. name ∷ rest) (sym c.name-item.is) in
    rw (c.as_str.ensures.bytes) (subst (AllByRecursion IsShort) here l.invariant.short).0

pub loop-name-preserved : goal.loop-name-preserved
loop-name-preserved c =
    let l = c.loop-name in
    let rest = drop (l.name-index + 1) c.args.names.now in
    let here : drop l.name-index c.args.names.now ≡ c.name-item.result ∷ rest = drop_more c.args.names.now l.name-index c.name-item.result c.loop-name-test.true ∙ ap (λ name. name ∷ rest) (sym c.name-item.is) in
    record {
      left = ap (λ names. all_learned names rest) (c.in_ok-learn.ensures.ok ∙ ap (learned l.dictionary) c.as_str.ensures.bytes) ∙ ap (all_learned l.dictionary) (sym here) ∙ l.invariant.left;
      short = (subst (AllByRecursion IsShort) here l.invariant.short).1;
    }
