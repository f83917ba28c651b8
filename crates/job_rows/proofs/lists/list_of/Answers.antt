use Rattle.std.proofs.Common.{◌≡◌, ◌+◌, true, List, [], ◌∷◌, ◌++◌, refl, rules}
use Rattle.std.specs.Arc.{arc_value}
use Rattle.tc_component.specs.Loading.{ComponentState}
use Rattle.tc_list.specs.Intervals.{last_of}
use Rattle.job_rows.proofs.Answered.{at_ok}
use Rattle.job_rows.proofs.lists.list_of.Goals as goal

three_pushed : {X : Type 0} (none one two three : List X) (a b c x y z : X) → none ≡ [] → one ≡ none ++ x ∷ [] → two ≡ one ++ y ∷ [] → three ≡ two ++ z ∷ [] → x ≡ a → y ≡ b → z ≡ c
    → three ≡ a ∷ b ∷ c ∷ []
three_pushed none one two three a b c x y z empty first second third is_a is_b is_c = rw (third, second, first, empty, is_a, is_b, is_c) refl

next_behind_one : {F : Type 0} (none one : List (ComponentState F)) (x y a b : ComponentState F) → none ≡ [] → one ≡ none ++ x ∷ [] → x ≡ a → y ≡ b → b.index.head.from ≡ a.index.head.to + 1 → y.index.head.from ≡ last_of one + 1
next_behind_one none one x y a b empty first is_a is_b next = rw (first, empty, is_a, is_b) next

next_behind_two : {F : Type 0} (none one two : List (ComponentState F)) (w x y a b : ComponentState F) → none ≡ [] → one ≡ none ++ w ∷ [] → two ≡ one ++ x ∷ [] → x ≡ a → y ≡ b → b.index.head.from ≡ a.index.head.to + 1
    → y.index.head.from ≡ last_of two + 1
next_behind_two none one two w x y a b empty first second is_a is_b next = rw (second, first, empty, is_a, is_b) next

pub push-requires-2-after_bounds : goal.push-requires-2-after_bounds
push-requires-2-after_bounds c κs =
    let first = at_ok (λ a. arc_value a ≡ arc_value c.args.first.now) c.try_clone.result c.in_ok-ok.field-0 c.in_ok-ok.ensures.value c.try_clone.ensures in
    let second = at_ok (λ a. arc_value a ≡ arc_value c.args.second.now) c.try_clone-2.result c.in_ok-ok-3.field-0 c.in_ok-ok-3.ensures.value c.try_clone-2.ensures in
    let follow : c.follows.result ≡ true = let is = c.if-not-follows.false in cc in
    next_behind_one c.new-list.result c.push.new.self _ _ _ _ c.new-list.ensures (at_ok _ c.push.result c.in_ok-ok-2.field-0 c.in_ok-ok-2.ensures.value c.push.ensures.ok) first second
    (c.follows.ensures (search (rules, follow)))

pub push-requires-3-after_bounds : goal.push-requires-3-after_bounds
push-requires-3-after_bounds c κs =
    let second = at_ok (λ a. arc_value a ≡ arc_value c.args.second.now) c.try_clone-2.result c.in_ok-ok-3.field-0 c.in_ok-ok-3.ensures.value c.try_clone-2.ensures in
    let third = at_ok (λ a. arc_value a ≡ arc_value c.args.third.now) c.try_clone-3.result c.in_ok-ok-5.field-0 c.in_ok-ok-5.ensures.value c.try_clone-3.ensures in
    let follow : c.follows-else-not-follows.result ≡ true = let is = c.if-not-follows-2.false in cc in
    next_behind_two c.new-list.result c.push.new.self c.push-2.new.self _ _ _ _ _ c.new-list.ensures
    (at_ok _ c.push.result c.in_ok-ok-2.field-0 c.in_ok-ok-2.ensures.value c.push.ensures.ok)
    (at_ok _ c.push-2.result c.in_ok-ok-4.field-0 c.in_ok-ok-4.ensures.value c.push-2.ensures.ok) second third (c.follows-else-not-follows.ensures (search (rules, follow)))

pub returns : goal.returns
returns c =
    let first = at_ok (λ a. arc_value a ≡ arc_value c.args.first.now) c.try_clone.result c.in_ok-ok.field-0 c.in_ok-ok.ensures.value c.try_clone.ensures in
    let second = at_ok (λ a. arc_value a ≡ arc_value c.args.second.now) c.try_clone-2.result c.in_ok-ok-3.field-0 c.in_ok-ok-3.ensures.value c.try_clone-2.ensures in
    let third = at_ok (λ a. arc_value a ≡ arc_value c.args.third.now) c.try_clone-3.result c.in_ok-ok-5.field-0 c.in_ok-ok-5.ensures.value c.try_clone-3.ensures in
    three_pushed c.new-list.result c.push.new.self c.push-2.new.self c.push-3.new.self _ _ _ _ _ _ c.new-list.ensures
    (at_ok _ c.push.result c.in_ok-ok-2.field-0 c.in_ok-ok-2.ensures.value c.push.ensures.ok)
    (at_ok _ c.push-2.result c.in_ok-ok-4.field-0 c.in_ok-ok-4.ensures.value c.push-2.ensures.ok)
    (at_ok _ c.push-3.result c.in_ok-ok-6.field-0 c.in_ok-ok-6.ensures.value c.push-3.ensures.ok) first second third
