use Rattle.std.proofs.Common.{rules}
use Rattle.std.proofs.lemmas.List.Sorted.{answers_always}
use Rattle.tc_schema.specs.Places.{field_counted}
use Rattle.tc_schema.proofs.PlaceViews.{field_parts}
use Rattle.tc_schema.proofs.PlacesOfFields.{searched}
use Rattle.tc_schema.proofs.search.search_fields.Goals as goal

pub returns-clause-found : goal.returns-clause-found
returns-clause-found c =
    let facts = c.binary_search_by_key.ensures in
    let by_number = facts.position (λ f. (field_counted f).0) (answers_always _ _ _ (λ f a r g called. rw field_parts (search rules))) in
    (searched field_counted c.args.number c.args.fields.now _ c.requires facts.bound by_number).found

pub returns-clause-missing : goal.returns-clause-missing
returns-clause-missing c =
    let facts = c.binary_search_by_key.ensures in
    let by_number = facts.position (λ f. (field_counted f).0) (answers_always _ _ _ (λ f a r g called. rw field_parts (search rules))) in
    (searched field_counted c.args.number c.args.fields.now _ c.requires facts.bound by_number).missing
