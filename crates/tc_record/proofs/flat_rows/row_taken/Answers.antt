use Rattle.std.proofs.Common.{◌≡◌, ◌∙◌, ◌+◌, ◌-◌, [], ◌∷◌, ◌++◌, length, map, take, drop, get_or, slice_set, refl, ap, arith}
use Rattle.std.proofs.lemmas.List.{take_more_set, take_rest, map-append}
use Rattle.tc_record.specs.Preorder.{scalar}
use Rattle.tc_record.specs.WalkView.{piece_of, format_of}
use Rattle.tc_record.proofs.FlatRows.{next_tag, row_begins, row_goes_on, row_ends}
use Rattle.tc_record.proofs.flat_rows.row_taken.Goals as goal

pub loop-place-init : goal.loop-place-init
loop-place-init c =
    let left = c.args.left.now in
    let next = next_tag 0 (get_or c.args.tags.now 0 0) left (omega (arith, c.if-left-tags.false)) (omega (arith, c.if-size-lt2.false, c.if-left-size.false)) in
    rw c.if-not-opens_object.ensures.format (row_begins (format_of c.args.walk.now.format) _ left (drop 1 left) _ _ _ _ next (c.if-not-opens_object.ensures.step refl))

pub loop-place-preserved : goal.loop-place-preserved
loop-place-preserved c =
    let left = c.args.left.now in
    let place = c.loop-place.place in
    let room = c.loop-place.room in
    let value = c.in_ok-room.field-0 in
    let step = c.in_ok-room.ensures.step in
    let next = next_tag (place + 1) (get_or c.args.tags.now (place + 1) 0) left (omega (arith, c.if-left-place.false)) (omega (arith, c.loop-place-test.true, c.if-left-size.false)) in
    let pieces : map piece_of (take (place + 1) (slice_set room place value)) ≡ map piece_of (take place room) ++ scalar step.1 ∷ [] =
    ap (map piece_of) (take_more_set room place value (omega (arith, c.loop-place.auto.room, c.loop-place-test.true, c.if-room-size.false)))
    ∙ map-append piece_of (take place room) (value ∷ []) ∙ ap (λ p. map piece_of (take place room) ++ p ∷ []) step.2 in
    rw (pieces, c.in_ok-room.ensures.format) (row_goes_on (format_of c.loop-place.here.format) _ _ (drop (place + 1 + 1) left) _ _ _ _ step.0 step.1 _ _ c.loop-place.invariant next step.3)

-- behind the members stands the last tag
last : (c : goal.After-result-1) → drop (c.loop-place.place + 1) c.args.left.now ≡ get_or c.args.tags.now (length c.args.tags.now - 1) 0 ∷ drop (length c.args.tags.now) c.args.left.now
last c =
    let left = c.args.left.now in
    let size = length c.args.tags.now in
    let before : c.loop-place.place + 1 ≡ size - 1 = omega (arith, c.loop-place.auto.place-end, c.loop-place-test.false, c.if-size-lt2.false) in
    let all : size - 1 + 1 ≡ size = omega (arith, c.if-size-lt2.false) in
    ap (λ n. drop n left) before ∙ next_tag (size - 1) (get_or c.args.tags.now (size - 1) 0) left (omega (arith, c.if-left-size-2.false)) (omega (arith, c.if-size-lt2.false, c.if-left-size.false))
    ∙ ap (λ n. get_or c.args.tags.now (size - 1) 0 ∷ drop n left) all

pub returns-clause-taken : goal.returns-clause-taken
returns-clause-taken c =
    let left = c.args.left.now in
    let size = length c.args.tags.now in
    let places : size - 2 ≡ c.loop-place.place = omega (arith, c.loop-place.auto.place-end, c.loop-place-test.false) in
    rw (c.if-not-closes_object.ensures.format, take_rest left size, places)
    (row_ends (format_of c.loop-place.here.format) _ _ (drop size left) _ _ _ _ _ _ c.loop-place.invariant (last c) (c.if-not-closes_object.ensures.step refl) c.requires).0

pub returns-clause-left : goal.returns-clause-left
returns-clause-left c =
    let left = c.args.left.now in
    let size = length c.args.tags.now in
    rw (c.if-not-closes_object.ensures.format, take_rest left size)
    (row_ends (format_of c.loop-place.here.format) _ _ (drop size left) _ _ _ _ _ _ c.loop-place.invariant (last c) (c.if-not-closes_object.ensures.step refl) c.requires).1
