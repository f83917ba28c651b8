use Rattle.std.proofs.Common.{◌≡◌, ◌<◌, ◌+◌, ◌^◌, ◌++◌, ◌∷◌, [], None, Some, max, length, sym, ap, ◌∙◌, arith, length-append}
use Rattle.tc_model.specs.Dictionary.{number_of, IsDictionary}
use Rattle.tc_model.proofs.DictionaryGrowth.{IsDictionary-push, learned-new}
use Rattle.tc_model.proofs.NameNumbers.{number_of-append, number_of-push}
use Rattle.tc_names.specs.Longest.{longest_of}
use Rattle.tc_names.proofs.LongestName.{longest-push}
use Rattle.tc_names.proofs.dictionary.Names.learn.Goals as goal

-- the name is not there
new : (c : goal.After-self-1) → number_of c.args.self.now c.args.name.now ≡ None
new c = sym c.in-None.ensures.number

-- it stands behind the others
added : (c : goal.After-self-1) → c.add.new.texts ≡ c.args.self.now ++ c.args.name.now ∷ []
added c =
    c.in_ok-add-in-None.ensures.ok
    ∙ ap (λ bytes. c.self.inside.texts ++ bytes ∷ []) c.as_bytes.ensures.value
    ∙ ap (λ names. names ++ c.args.name.now ∷ []) c.self.view_is

dictionary : (c : goal.After-self-1) → IsDictionary (c.args.self.now ++ c.args.name.now ∷ [])
dictionary c =
    let room : length c.args.self.now + 1 < 2 ^ 32 = omega (arith, c.requires.room, ap length (learned-new c.args.self.now c.args.name.now (new c)), length-append c.args.self.now (c.args.name.now ∷ [])) in
    IsDictionary-push c.args.self.now c.args.name.now c.len-id.ensures.dictionary (record { text = c.utf8.name; short = c.requires.short }) (new c) room

pub invariant_of-self-in-None : goal.invariant_of-self-in-None
invariant_of-self-in-None c =
    let kept : c.self.inside.longest ≡ longest_of c.args.self.now = c.self.invariant.1.1 ∙ ap longest_of c.self.view_is in
    let longest : c.max-self-inside.result ≡ longest_of c.add.new.texts =
    c.max-self-inside.ensures ∙ ap (λ n. max n (length c.args.name.now)) kept ∙ sym (longest-push c.args.self.now c.args.name.now) ∙ ap longest_of (sym (added c)) in
    (rw (added c) (dictionary c), (c.add.ensures.index, longest))

pub returns-in_ok-add-in-None-clause-number : goal.returns-in_ok-add-in-None-clause-number
returns-in_ok-add-in-None-clause-number c = ap (λ names. number_of names c.args.name.now) (added c) ∙ number_of-push c.args.self.now c.args.name.now (new c) ∙ ap Some (sym c.len-id.ensures.count)

pub returns-in_ok-add-in-None-clause-stays : goal.returns-in_ok-add-in-None-clause-stays
returns-in_ok-add-in-None-clause-stays c = λ known id at. rw (added c) (number_of-append c.args.self.now (c.args.name.now ∷ []) known id at)

pub returns-in_ok-add-in-None-clause-dictionary : goal.returns-in_ok-add-in-None-clause-dictionary
returns-in_ok-add-in-None-clause-dictionary c = rw (added c) (dictionary c)
