use Rattle.std.proofs.Common.{rules, ◌≡◌, ◌∙◌, ◌<◌, All, ap, sym, subst, map, length}
use Rattle.std.specs.List.{dedup, range_with_len}
use Rattle.std.specs.List.Sorted.{IsSortedBy, IsStableBy}
use Rattle.std.proofs.lemmas.Cmp.{nat_list_cmp_total}
use Rattle.std.proofs.lemmas.Fn.{always_returns_same, dedup_same}
use Rattle.std.proofs.lemmas.List.{length-map}
use Rattle.std.proofs.lemmas.List.Filters.{All-dedup}
use Rattle.std.proofs.lemmas.List.Sorted.{ranks_by, All-permutation}
use Rattle.tc_schema.specs.Places.{field_counted}
use Rattle.tc_schema.specs.Ordered.{name_in, text_in, in_turn}
use Rattle.tc_schema.proofs.PutInOrder.{put_all, is_less, has_name_of, put_in_turn, put_ascending}
use Rattle.tc_schema.proofs.FieldsByName.{places_within, put_places_are}
use Rattle.tc_schema.proofs.by_name.places_by_name.Goals as goal

pub returns : goal.returns
returns c =
    let fields = c.args.fields.now in
    let fs = map field_counted fields in
    let name = name_in c.args.names.now fs in
    let text = text_in c.args.names.now fs in
    let all = c.in_ok-places.places.items in
    let sorted = c.sort_by.new.self.items in
    let left = c.dedup_by.new.self.items in
    let order = ranks_by nat_list_cmp_total name in
    let up : IsSortedBy (is_less name text) sorted = c.in_ok-sort_by.ensures.sorted (is_less name text) order (always_returns_same _ _ _ (λ a r f k. search rules)) in
    let stable : IsStableBy (is_less name text) all sorted = c.sort_by.ensures.stable (is_less name text) order (always_returns_same _ _ _ (λ a r f k. search rules)) in
    let kept : left ≡ dedup (has_name_of name text) sorted = dedup_same _ (has_name_of name text) _ (λ x y b f x' y' k. search rules) _ _ c.dedup_by.ensures.filtered in
    let places : all ≡ range_with_len 0 (length fs) = c.in_ok-places.ensures ∙ ap (range_with_len 0) (sym (length-map fields field_counted)) in
    let within : All (λ place. place < length fields) all = subst (All (λ place. place < length fields)) (sym c.in_ok-places.ensures) (places_within (length fields)) in
    record {
      members = ap (in_turn name text) kept ∙ sym (put_ascending name text sorted up) ∙ put_in_turn name text all sorted stable ∙ ap (put_all name text) places ∙ put_places_are c.args.names.now fs;
      inside = subst (All (λ place. place < length fields)) (sym kept) (All-dedup (has_name_of name text) (λ place. place < length fields) sorted (All-permutation (λ place. place < length fields) all sorted c.sort_by.ensures.permutation within));
    }
