use Rattle.std.proofs.Common.{◌≡◌, List, map, filter, ap, sym, ◌∙◌, subst, rules}
use Rattle.std.proofs.lemmas.Fn.{filter_same}
use Rattle.tc_model.specs.Document.{IsAscending}
use Rattle.tc_model.specs.Tree.{members_of}
use Rattle.tc_value.specs.Meaning.{member_of}
use Rattle.tc_value.specs.declared.document.Member.{Member}
use Rattle.tc_command.proofs.KeyLemmas.{is_kept, map-filter, ascending-filter, members_of-filter}
use Rattle.tc_command.proofs.conversions.without_id.Goals as goal

-- the members that are kept, as contracts see them
kept : (old new : List Member) → new ≡ filter (λ m. is_kept m.name) old → map member_of new ≡ filter (λ m. is_kept m.0) (map member_of old)
kept old new is = ap (map member_of) is ∙ map-filter member_of (λ m. is_kept m.0) old

pub of-requires : goal.of-requires
of-requires c =
    let left = kept c.args.members.items _ (filter_same _ (λ (m : Member). is_kept m.name) _ (λ m b f' t. search rules) _ _ c.retain.ensures.filtered) in
    subst IsAscending (sym left) (ascending-filter (map member_of c.args.members.items) c.requires)

pub returns : goal.returns
returns c =
    let left = kept c.args.members.items _ (filter_same _ (λ (m : Member). is_kept m.name) _ (λ m b f' t. search rules) _ _ c.retain.ensures.filtered) in
    ap members_of (c.of.ensures ∙ left) ∙ members_of-filter (map member_of c.args.members.items)
