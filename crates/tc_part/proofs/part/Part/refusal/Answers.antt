use Rattle.std.proofs.Common.{◌∙◌, ◌<◌, ◌^◌, length, sym, ap, subst}
use Rattle.tc_part.proofs.Refusals.{names_test, of_names, of_room, of_none, names_fit}
use Rattle.tc_part.proofs.part.Part.refusal.Goals as goal

pub returns-then-lacks_names-clause-exact : goal.returns-then-lacks_names-clause-exact
returns-then-lacks_names-clause-exact g c =
    let state = c.args.self.now in
    λ d is. of_names state.limits state.taken d c.args.was_live state.live
    (names_test state.limits state.taken d c.args.new_names c.lacks_names.result is c.lacks_names.ensures.test ∙ c.if-lacks_names.true)

pub returns-then-lacks_room-clause-exact : goal.returns-then-lacks_room-clause-exact
returns-then-lacks_room-clause-exact g c =
    let state = c.args.self.now in
    λ d is. of_room state.limits state.taken d c.args.was_live state.live
    (names_test state.limits state.taken d c.args.new_names c.lacks_names.result is c.lacks_names.ensures.test ∙ c.if-lacks_names.false) (sym c.lacks_room.ensures.test ∙ c.if-lacks_room.true)

pub returns-clause-exact : goal.returns-clause-exact
returns-clause-exact g c =
    let state = c.args.self.now in
    λ d is. of_none state.limits state.taken d c.args.was_live state.live
    (names_test state.limits state.taken d c.args.new_names c.lacks_names.result is c.lacks_names.ensures.test ∙ c.if-lacks_names.false) (sym c.lacks_room.ensures.test ∙ c.if-lacks_room.false)

pub returns-clause-names : goal.returns-clause-names
returns-clause-names g c =
    let state = c.args.self.now in
    let few : length state.taken < 2 ^ 32 = subst (λ ns. length ns < 2 ^ 32) (ap (λ s. s.taken) c.self.view_is) c.len-taken.ensures.dictionary.few in
    λ none. names_fit (length state.taken) c.args.new_names state.limits.names (sym c.lacks_names.ensures.test ∙ c.if-lacks_names.false) few c.lacks_names.ensures.most
