use Rattle.std.proofs.Common.{rules, ◌≡◌, ◌∙◌, ◌∷◌, [], ◌++◌, length, map, sym, ap, arith, subst, append_assoc, length-append}
use Rattle.tc_model.specs.Dictionary.{learned, Extends, all_learned, number as name_number}
use Rattle.tc_model.proofs.DictionaryGrowth.{Extends-trans, Extends-learned}
use Rattle.tc_record.specs.Record.{joined}
use Rattle.tc_compact.specs.Slots.{names_in}
use Rattle.tc_model.proofs.LearnedNames.{length-all_learned}
use Rattle.tc_model.proofs.LastingNumbers.{number-all_learned}
use Rattle.tc_compact.proofs.learning.learn_names.Goals as goal

pub learn_by_guess-requires-clause-room : goal.learn_by_guess-requires-clause-room
learn_by_guess-requires-clause-room c =
    let l = c.loop-token in
    let n = c.in-Name.name.now in
    let here : names_in l.cursor ≡ n ∷ names_in c.next.new.self = search rules in
    let left : all_learned (learned l.names n) (names_in c.next.new.self) ≡ all_learned c.args.names.now (names_in c.args.from.now.tokens) = ap (all_learned l.names) (sym here) ∙ l.invariant.left in
    omega (arith, length-all_learned (learned l.names n) (names_in c.next.new.self), ap length left, c.requires.room)

pub learn_by_guess-requires-clause-short : goal.learn_by_guess-requires-clause-short
learn_by_guess-requires-clause-short c =
    let l = c.loop-token in
    let n = c.in-Name.name.now in
    let here : names_in l.cursor ≡ n ∷ names_in c.next.new.self = search rules in
    omega (arith, l.invariant.short, ap (λ ns. length (joined ns)) here, length-append n (joined (names_in c.next.new.self)))

pub loop-token-preserved-in-Name : goal.loop-token-preserved-in-Name
loop-token-preserved-in-Name c =
    let l = c.loop-token in
    let n = c.in-Name.name.now in
    let rest = names_in c.next.new.self in
    let after = all_learned c.args.names.now (names_in c.args.from.now.tokens) in
    let here : names_in l.cursor ≡ n ∷ rest = search rules in
    let known : c.learn_by_guess.new.names ≡ learned l.names n = c.in_ok-number.ensures.ok in
    let left : all_learned c.learn_by_guess.new.names rest ≡ after = ap (λ names. all_learned names rest) known ∙ ap (all_learned l.names) (sym here) ∙ l.invariant.left in
    let number : name_number after n ≡ c.in_ok-number.number = ap (λ names. name_number names n) (sym left) ∙ number-all_learned c.learn_by_guess.new.names n rest c.in_ok-number.number c.in_ok-number.ensures.number in
    record {
      left = left;
      numbers =
          ap (λ ns. ns ++ map (name_number after) rest) c.in_ok-push.ensures.items
          ∙ append_assoc l.numbers.items (c.in_ok-number.number ∷ []) (map (name_number after) rest)
          ∙ ap (λ k. l.numbers.items ++ k ∷ map (name_number after) rest) (sym number)
          ∙ ap (λ ns. l.numbers.items ++ map (name_number after) ns) (sym here)
          ∙ l.invariant.numbers;
      short = omega (arith, l.invariant.short, ap (λ ns. length (joined ns)) here, length-append n (joined rest));
      extends = Extends-trans c.learn_by_guess.new.names l.names c.args.names.now (subst (λ names. Extends names l.names) (sym known) (Extends-learned l.names n)) l.invariant.extends;
      dictionary = c.in_ok-number.ensures.dictionary;
    }
