-- What happens to a tiling where the next interval is placed, and that there is none where it has no place.
use Rattle.std.proofs.Common.{◌≡◌, ◌<◌, ◌≤◌, ◌⊎◌, ◌+◌, List, [], ◌∷◌, ◌++◌, sym, subst, inl, inr, arith}
use Rattle.std.specs.Prelude.{Contains, All}
use Rattle.std.proofs.lemmas.List.Elements.{All-contains, Contains-push, Contains-push_cases, Contains-append_left}
use Rattle.std.proofs.lemmas.Bool.{cases_lt}
use Rattle.tc_recover.specs.declared.interval.Interval.{Interval}
use Rattle.tc_recover.specs.Tilings.{Tile, IsUpTo, Ascend, LiesWithin, AreAround, IsTiling, end_of}
use Rattle.tc_recover.specs.Placing.{IsPlaced}
use Rattle.tc_recover.proofs.Members.{member_cases, member_first, member_further, no_member}
use Rattle.tc_recover.proofs.Tiles.{stands_at, one_before, stand_apart, one_holds, tile_pushed, without_last, end_pushed}

within_itself : (i : Interval) → LiesWithin i i
within_itself i = record { begins = omega arith; ends = omega arith }

-- what is around an interval is around what lies within it
around_within : (ts : List Interval) (i j : Interval) → AreAround ts i → LiesWithin i j → AreAround ts j
around_within ts i j around within = (around.0, around.1, record { begins = omega (arith, around.2.begins, within.begins); ends = omega (arith, around.2.ends, within.ends) })

-- the next one lies in a tile
pub stays_placed : (all left ts : List Interval) (n : Interval) → IsPlaced all (n ∷ left) ts → AreAround ts n → IsPlaced all left ts
stays_placed all left ts n p around = record {
  tile = p.tile;
  there = p.there;
  waiting = λ i member. p.waiting i (member_further n left i member);
  placed = λ i member. elim (p.placed i member) [
    | inl waits ↦ elim (member_cases n left i waits) [
      | inl same ↦ inr (subst (AreAround ts) same around)
      | inr further ↦ inl further
    ]
    | inr has ↦ inr has
  ];
  behind = λ t i tile member. p.behind t i tile (member_further n left i member);
  ascend = p.ascend.1;
  order = λ i member. p.order i (member_further n left i member);
}

-- the tiles may change where the next one becomes the last, and around each interval there is a tile still
last_placed : (all left ts us : List Interval) (n : Interval) → IsPlaced all (n ∷ left) ts → Tile 0 (us ++ n ∷ []) → ((t : Interval) → Contains us t → Contains ts t)
    → ((i : Interval) → AreAround ts i → AreAround (us ++ n ∷ []) i) → IsPlaced all left (us ++ n ∷ [])
last_placed all left ts us n p tile kept around = record {
  tile = tile;
  there = λ t member. elim (Contains-push_cases us n t member) [
    | inl before ↦ p.there t (kept t before)
    | inr same ↦ subst (Contains all) same (p.waiting n (member_first n left))
  ];
  waiting = λ i member. p.waiting i (member_further n left i member);
  placed = λ i member. elim (p.placed i member) [
    | inl waits ↦ elim (member_cases n left i waits) [
      | inl same ↦ inr (n, Contains-push us n, subst (LiesWithin n) same (within_itself n))
      | inr further ↦ inl further
    ]
    | inr has ↦ inr (around i has)
  ];
  behind = λ t i member waits. elim (Contains-push_cases us n t member) [
    | inl before ↦ p.behind t i (kept t before) (member_further n left i waits)
    | inr same ↦ subst (λ (x : Interval). IsUpTo x i) same (p.ascend.0 i waits)
  ];
  ascend = p.ascend.1;
  order = λ i member. p.order i (member_further n left i member);
}

-- the next one begins behind the last tile
pub pushed_placed : (all left ts : List Interval) (n : Interval) → IsPlaced all (n ∷ left) ts → n.from ≡ end_of 0 ts + 1 → IsPlaced all left (ts ++ n ∷ [])
pushed_placed all left ts n p next =
    last_placed all left ts ts n p (tile_pushed 0 ts n p.tile next (p.order n (member_first n left))) (λ t member. member)
    (λ i has. (has.0, Contains-append_left ts (n ∷ []) has.0 has.1, has.2))

-- the next one begins with the last tile, and so is around it
pub swapped_placed : (all left ts : List Interval) (l n : Interval) → IsPlaced all (n ∷ left) (ts ++ l ∷ []) → l.from ≡ n.from → IsPlaced all left (ts ++ n ∷ [])
swapped_placed all left ts l n p same =
    let front = without_last 0 ts l p.tile in
    let up = p.behind l n (Contains-push ts l) (member_first n left) in
    let wider : LiesWithin n l = record {
      begins = omega (arith, same);
      ends = elim up [
        | inl below ↦ absurd (omega (arith, below, same))
        | inr further ↦ further.1
      ];
    } in
    last_placed all left (ts ++ l ∷ []) ts n p (tile_pushed 0 ts n front.0 (omega (arith, front.1, same)) (p.order n (member_first n left)))
    (λ t member. Contains-append_left ts (l ∷ []) t member)
    (λ i has. elim (Contains-push_cases ts l has.0 has.1) [
      | inl before ↦ (has.0, Contains-append_left ts (n ∷ []) has.0 before, has.2)
      | inr last ↦ around_within (ts ++ n ∷ []) l i (n, Contains-push ts n, wider) (subst (λ (x : Interval). LiesWithin x i) (sym last) has.2)
    ])

-- what waits begins with the next one at the earliest
not_earlier : (n : Interval) (left all ts : List Interval) (i : Interval) → IsPlaced all (n ∷ left) ts → Contains (n ∷ left) i → n.from ≤ i.from
not_earlier n left all ts i p member = elim (member_cases n left i member) [
  | inl same ↦ subst (λ (x : Interval). n.from ≤ x.from) same (omega arith)
  | inr further ↦ elim (p.ascend.0 i further) [
    | inl below ↦ omega (arith, below)
    | inr level ↦ omega (arith, level.0)
  ]
]

-- so what begins earlier ends with the tiles at the latest
ends_with_tiles : (all left ts : List Interval) (n i : Interval) → IsPlaced all (n ∷ left) ts → Contains all i → (i.from < n.from) ⊎ (n.from ≤ i.from) → (n.from ≤ i.from) ⊎ (i.to ≤ end_of 0 ts)
ends_with_tiles all left ts n i p member (inr later) = inl later
ends_with_tiles all left ts n i p member (inl earlier) = elim (p.placed i member) [
  | inl waits ↦ inl (not_earlier n left all ts i p waits)
  | inr has ↦ let place = stands_at 0 ts has.0 p.tile has.1 in inr (omega (arith, place.2, has.2.ends))
]

-- the tile of a tiling that is around one which ends behind the tiles begins with it
begins_with : (all left ts others : List Interval) (n t : Interval) → IsPlaced all (n ∷ left) ts → end_of 0 ts < n.to → IsTiling all others → Contains others t → LiesWithin t n → t.from ≡ n.from
begins_with all left ts others n t p further tiling member around = elim (p.placed t (tiling.there t member)) [
  | inl waits ↦ let later = not_earlier n left all ts t p waits in omega (arith, later, around.begins)
  | inr has ↦ let place = stands_at 0 ts has.0 p.tile has.1 in absurd (omega (arith, place.2, has.2.ends, around.ends, further))
]

-- such a tile begins behind the tiles, or in them
begins_by : (all left ts others : List Interval) (n t : Interval) → IsPlaced all (n ∷ left) ts → IsTiling all others → Contains others t → t.from ≡ n.from → n.from ≤ end_of 0 ts + 1
begins_by all left ts others n t p tiling member same = elim (one_before 0 others t tiling.tile member) [
  | inl first ↦ omega (arith, first, same)
  | inr before ↦ let place = stands_at 0 others before.0 tiling.tile before.1 in
      elim (ends_with_tiles all left ts n before.0 p (tiling.there before.0 before.1) (cases_lt before.0.from n.from)) [
        | inl later ↦ absurd (omega (arith, later, place.1, before.2, same))
        | inr within ↦ omega (arith, within, before.2, same)
      ]
]

-- the next one ends behind the tiles, and begins neither with one of them nor behind the last: then there is no tiling
pub no_tiling : (all left ts others : List Interval) (n : Interval) → IsPlaced all (n ∷ left) ts → end_of 0 ts < n.to → (n.from ≡ end_of 0 ts + 1 → ⊥) → ((t : Interval) → Contains ts t → t.from ≡ n.from → ⊥) → IsTiling all others → ⊥
no_tiling all left ts others n p further apart other tiling =
    let t = tiling.around n (p.waiting n (member_first n left)) in
    let same = begins_with all left ts others n t.0 p further tiling t.1 t.2 in
    let by = begins_by all left ts others n t.0 p tiling t.1 same in
    let place = stands_at 0 others t.0 tiling.tile t.1 in
    elim (cases_lt (end_of 0 ts) n.from) [
      | inl above ↦ apart (omega (arith, above, by))
      | inr within ↦
          let l = one_holds 0 n.from ts p.tile (omega (arith, place.0, same)) within in
          let u = tiling.around l.0 (p.there l.0 l.1) in
          elim (cases_lt u.0.from t.0.from) [
            | inl below ↦ let far = stand_apart 0 others u.0 t.0 tiling.tile u.1 t.1 below in absurd (omega (arith, far, same, l.3, u.2.ends))
            | inr level ↦ other l.0 l.1 (omega (arith, level, same, l.2, u.2.begins))
          ]
    ]

-- the first one begins at 1
pub first_placed : (all left ts : List Interval) (n : Interval) → IsPlaced all (n ∷ left) ts → ts ≡ [] → n.from ≡ 1 → IsPlaced all left (n ∷ [])
first_placed all left ts n p none first = pushed_placed all left [] n (subst (IsPlaced all (n ∷ left)) none p) (omega (arith, first))

-- and there is no tiling where it does not
pub no_first_tiling : (all left ts others : List Interval) (n : Interval) → IsPlaced all (n ∷ left) ts → ts ≡ [] → (n.from ≡ 1 → ⊥) → IsTiling all others → ⊥
no_first_tiling all left ts others n p none other tiling =
    let q : IsPlaced all (n ∷ left) [] = subst (IsPlaced all (n ∷ left)) none p in
    let t = tiling.around n (p.waiting n (member_first n left)) in
    let place = stands_at 0 others t.0 tiling.tile t.1 in
    let order = p.order n (member_first n left) in
    no_tiling all left [] others n q (omega (arith, place.0, t.2.begins, order)) (λ next. other (omega (arith, next))) (λ u member. absurd (no_member u member)) tiling

-- the next one ends with the last tile at the latest, and does not begin with it
pub within_last : (all left us : List Interval) (l n : Interval) → IsPlaced all (n ∷ left) (us ++ l ∷ []) → n.to ≤ l.to → IsPlaced all left (us ++ l ∷ [])
within_last all left us l n p ends = stays_placed all left (us ++ l ∷ []) n p (l, Contains-push us l, record { begins = begins; ends = ends })
  where
    begins : l.from ≤ n.from
    begins = elim (p.behind l n (Contains-push us l) (member_first n left)) [
      | inl below ↦ omega (arith, below)
      | inr level ↦ omega (arith, level.0)
    ]

-- it begins behind the last tile
pub behind_last : (all left us : List Interval) (l n : Interval) → IsPlaced all (n ∷ left) (us ++ l ∷ []) → n.from ≡ l.to + 1 → IsPlaced all left ((us ++ l ∷ []) ++ n ∷ [])
behind_last all left us l n p next =
    let end = end_pushed 0 us l in
    pushed_placed all left (us ++ l ∷ []) n p (omega (arith, next, end))

-- it ends behind the last tile, and begins neither with it nor behind it
pub no_place : (all left us others : List Interval) (l n : Interval) → IsPlaced all (n ∷ left) (us ++ l ∷ []) → l.to < n.to → (l.from ≡ n.from → ⊥) → (n.from ≡ l.to + 1 → ⊥) → IsTiling all others → ⊥
no_place all left us others l n p further other apart tiling =
    let end = end_pushed 0 us l in
    no_tiling all left (us ++ l ∷ []) others n p (omega (arith, end, further)) (λ next. apart (omega (arith, next, end))) begins_apart tiling
  where
    begins_apart : (t : Interval) → Contains (us ++ l ∷ []) t → t.from ≡ n.from → ⊥
    begins_apart t member same = elim (Contains-push_cases us l t member) [
      | inl before ↦
          let front = without_last 0 us l p.tile in
          let place = stands_at 0 us t front.0 before in
          elim (p.behind l n (Contains-push us l) (member_first n left)) [
            | inl below ↦ omega (arith, front.1, place.1, place.2, below, same)
            | inr level ↦ other level.0
          ]
      | inr last ↦ other (subst (λ (x : Interval). x.from ≡ n.from) (sym last) same)
    ]

-- all have their tiles
pub all_placed : (all left ts : List Interval) → left ≡ [] → IsPlaced all left ts → IsTiling all ts
all_placed all left ts none p = record {
  tile = p.tile;
  there = p.there;
  around = λ i member. elim (p.placed i member) [
    | inl waits ↦ absurd (no_member i (subst (λ is. Contains is i) none waits))
    | inr has ↦ has
  ];
}

-- at first none has
pub none_placed : (all : List Interval) → Ascend all → All (λ i. i.from ≤ i.to) all → IsPlaced all all []
none_placed all ascend order = record {
  tile = tt;
  there = λ t member. absurd (no_member t member);
  waiting = λ i member. member;
  placed = λ i member. inl member;
  behind = λ t i member waits. absurd (no_member t member);
  ascend = ascend;
  order = λ i member. All-contains (λ (x : Interval). x.from ≤ x.to) all i order member;
}
