use Rattle.std.proofs.Common.{◌≡◌, ℕ, ◌-◌, ◌<◌, ◌++◌, ◌∷◌, Some, option_map, length, map, sym, ap, ◌∙◌, subst, arith}
use Rattle.std.specs.Prelude.{slice_get}
use Rattle.std.proofs.lemmas.List.{length-map}
use Rattle.tc_model.specs.Tree.{items_of, members_of}
use Rattle.tc_model.specs.TreeSize.{trees_size, labelled_size}
use Rattle.tc_schema_model.specs.Counted.{Counted, a_field}
use Rattle.tc_schema_model.specs.Occurrences.{field, items_occurrences, members_occurrences}
use Rattle.tc_schema_model.proofs.CountingLaws.{shows_nothing}
use Rattle.tc_value.specs.ShapeMeaning.{shape_tree, shape_member}
use Rattle.tc_schema.specs.Places.{place_counted, below_counted, fields_counted}
use Rattle.tc_schema.proofs.PlaceViews.{field_made}
use Rattle.tc_count.specs.Gathered.{items_among, members_among}
use Rattle.tc_schema_model.specs.SchemaText.{values_of}
use Rattle.tc_count.proofs.GatheredValues.{size-among, size-named, values_of_occur}
use Rattle.tc_count.proofs.Grouping.{zero_items, zero_members, grouped_shows, grouped_canonical, further_canonical, first_shows, none_shows, no_fields_show}
use Rattle.tc_count.proofs.PlaceMade.{place_made}
use Rattle.tc_count.proofs.Walks.{none_there, some_there}
use Rattle.tc_count.proofs.counting.+counting.Goals as goal

-- ---- a place

pub place_of-item_of-requires : goal.place_of-item_of-requires
place_of-item_of-requires t c =
    let ss = map shape_tree c.args.values.now in
    let here : map shape_tree c.as_slice.result.now ≡ items_among ss = ap (map shape_tree) c.as_slice.ensures.value ∙ c.in_ok-items.ensures in (
      omega (arith, c.decreases, ap trees_size here, size-among ss, length-map c.args.values.now shape_tree, c.requires.some),
      λ path more name t none. ap (λ items. items_occurrences (items_of items) (path ++ field name ∷ more) t) here ∙ zero_items c.args.names.now ss c.requires.numbered path more name t none,
    )

pub place_of-fields_of-requires : goal.place_of-fields_of-requires
place_of-fields_of-requires t c =
    let ss = map shape_tree c.args.values.now in
    let here : map shape_member c.as_slice-2.result.now ≡ members_among ss = ap (map shape_member) c.as_slice-2.ensures.value ∙ c.in_ok-members.ensures in (
      omega (arith, c.decreases, ap labelled_size here, size-among ss, length-map c.args.values.now shape_tree, c.requires.some),
      λ label path more name t none.
          ap (λ members. members_occurrences (members_of members) label (path ++ field name ∷ more) t) here ∙ zero_members c.args.names.now ss c.requires.numbered label path more name t none,
    )

pub place_of-returns-clause-shown : goal.place_of-returns-clause-shown
place_of-returns-clause-shown t c =
    let names = c.args.names.now in
    let ss = map shape_tree c.args.values.now in
    let items : map shape_tree c.as_slice.result.now ≡ items_among ss = ap (map shape_tree) c.as_slice.ensures.value ∙ c.in_ok-items.ensures in
    let members : map shape_member c.as_slice-2.result.now ≡ members_among ss = ap (map shape_member) c.as_slice-2.ensures.value ∙ c.in_ok-members.ensures in
    let made = place_made c.counts_of.result c.in_ok-item.item c.in_ok-fields.fields in
    rw (made) (grouped_shows names c.len-known.ensures.dictionary.distinct ss c.requires.numbered c.counts_of.result (below_counted c.in_ok-item.item) (fields_counted c.in_ok-fields.fields.items) c.counts_of.ensures.counted
    (λ path t. c.in_ok-item.ensures.shown path t ∙ ap (λ xs. items_occurrences (items_of xs) path t) items)
    (λ name n is least path t. c.in_ok-fields.ensures.shown name n is least path t ∙ ap (λ ms. members_occurrences (members_of ms) name path t) members))

pub place_of-returns-clause-canonical : goal.place_of-returns-clause-canonical
place_of-returns-clause-canonical t c =
    let names = c.args.names.now in
    let ss = map shape_tree c.args.values.now in
    let items : map shape_tree c.as_slice.result.now ≡ items_among ss = ap (map shape_tree) c.as_slice.ensures.value ∙ c.in_ok-items.ensures in
    let members : map shape_member c.as_slice-2.result.now ≡ members_among ss = ap (map shape_member) c.as_slice-2.ensures.value ∙ c.in_ok-members.ensures in
    let made = place_made c.counts_of.result c.in_ok-item.item c.in_ok-fields.fields in
    rw (made) (grouped_canonical names c.len-known.ensures.dictionary.distinct ss c.requires.numbered c.counts_of.result (below_counted c.in_ok-item.item) (fields_counted c.in_ok-fields.fields.items) c.counts_of.ensures.counted
    (λ path t. c.in_ok-item.ensures.shown path t ∙ ap (λ xs. items_occurrences (items_of xs) path t) items)
    (λ name n is least path t. c.in_ok-fields.ensures.shown name n is least path t ∙ ap (λ ms. members_occurrences (members_of ms) name path t) members)
    c.in_ok-item.ensures.canonical c.in_ok-fields.ensures.canonical)

pub place_of-returns-clause-some : goal.place_of-returns-clause-some
place_of-returns-clause-some t c =
    let made = place_made c.counts_of.result c.in_ok-item.item c.in_ok-fields.fields in
    rw (made) (omega (arith, c.counts_of.ensures.total, c.requires.some))

-- ---- no items

pub item_of-returns-then-is_empty-clause-shown : goal.item_of-returns-then-is_empty-clause-shown
item_of-returns-then-is_empty-clause-shown t c = λ path t.
    shows_nothing c.args.names.now path t ∙ ap (λ items. items_occurrences (items_of (map shape_tree items)) path t) (sym (none_there c.args.items.now c.is_empty.result c.is_empty.ensures c.if-is_empty.true))

-- ---- fields

pub fields_of-loop-done-init : goal.fields_of-loop-done-init
fields_of-loop-done-init t c = record {
  count = c.len-count.ensures.count;
  shown = rw (c.new-fields.ensures.items) (no_fields_show c.args.names.now (c.len-count.result - 0) (members_occurrences (members_of (map shape_member c.args.members.now))) (omega (arith, c.len-count.ensures.count)));
  canonical = rw (c.new-fields.ensures.items) tt;
}

pub put_first-place_of-requires : goal.put_first-place_of-requires
put_first-place_of-requires t c =
    let first = c.unwrap-name.result.now in
    let ms = map shape_member c.args.members.now in
    let here : map shape_tree c.as_slice-2.result.now ≡ values_of first ms = ap (map shape_tree) c.as_slice-2.ensures.value ∙ c.in_ok-values.ensures in (
      omega (arith, c.decreases, ap trees_size here, size-named first ms),
      (
        subst (λ values. 0 < length values) (c.as_slice.ensures.value ∙ sym c.as_slice-2.ensures.value) (some_there c.as_slice.result.now c.is_empty.result c.is_empty.ensures c.if-is_empty.false),
        λ path more name t none.
            ap (λ values. items_occurrences (items_of values) (path ++ field name ∷ more) t) here ∙ values_of_occur first ms (path ++ field name ∷ more) t ∙ c.requires.numbered first path more name t none,
      ),
    )

-- where no member has the name
pub put_first-returns-then-is_empty-clause-shown : goal.put_first-returns-then-is_empty-clause-shown
put_first-returns-then-is_empty-clause-shown t c =
    let names = c.args.names.now in
    let first = c.unwrap-name.result.now in
    let ms = map shape_member c.args.members.now in
    let fields = fields_counted c.args.fields.now.items in
    let stands : slice_get names c.args.number ≡ Some first = sym c.name_of.ensures.name ∙ ap (option_map (λ name. name.now)) c.unwrap-name.ensures in
    let none = none_there c.as_slice.result.now c.is_empty.result c.is_empty.ensures c.if-is_empty.true in
    none_shows names (members_occurrences (members_of ms)) (length names) c.args.number first fields stands c.requires.canonical c.requires.shown (λ path t.
    sym (values_of_occur first ms path t) ∙ ap (λ values. items_occurrences (items_of values) path t) (sym c.in_ok-values.ensures ∙ ap (map shape_tree) (sym c.as_slice.ensures.value ∙ none)))

pub put_first-returns-then-is_empty-clause-canonical : goal.put_first-returns-then-is_empty-clause-canonical
put_first-returns-then-is_empty-clause-canonical t c = further_canonical (length c.args.names.now) c.args.number (fields_counted c.args.fields.now.items) c.requires.canonical

-- where some have it
pub put_first-returns-clause-shown : goal.put_first-returns-clause-shown
put_first-returns-clause-shown t c =
    let names = c.args.names.now in
    let n = c.args.number in
    let first = c.unwrap-name.result.now in
    let ms = map shape_member c.args.members.now in
    let fields = fields_counted c.args.fields.now.items in
    let d = place_counted c.in_ok-place.place in
    let here : map shape_tree c.as_slice-2.result.now ≡ values_of first ms = ap (map shape_tree) c.as_slice-2.ensures.value ∙ c.in_ok-values.ensures in
    let stands : slice_get names n ≡ Some first = sym c.name_of.ensures.name ∙ ap (option_map (λ name. name.now)) c.unwrap-name.ensures in
    let written : fields_counted c.insert.new.self.items ≡ a_field n d fields =
    ap fields_counted c.in_ok-insert.ensures.items
    ∙ ap (λ f. a_field f.0 f.1 fields) (field_made n c.in_ok-node.node ∙ ap (λ e. let pair : ℕ × Counted = (n, place_counted e) in pair) c.in_ok-node.ensures.ok) in
    rw (written) (first_shows names (members_occurrences (members_of ms)) n first d fields stands c.requires.shown (λ path t.
    c.in_ok-place.ensures.shown path t ∙ ap (λ values. items_occurrences (items_of values) path t) here ∙ values_of_occur first ms path t))
