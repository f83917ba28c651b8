-- What is counted while names are learned is what is counted by all of them at the end.
use Rattle.std.proofs.Common.{◌≡◌, ◌∙◌, ◌+◌, ◌<◌, ◌≤◌, ◌^◌, ℕ, List, ◌∷◌, ◌++◌, is_some, IsTrue, unwrap_or, length, map, refl, sym, ap, subst, arith, append_assoc, append-nil, length-append}
use Rattle.std.proofs.lemmas.List.{map-append}
use Rattle.std.proofs.lemmas.List.Concat.{flat_map-append}
use Rattle.tc_model.specs.Tree.{leaf, array, object, Items, no_items, item, Members, no_members, member}
use Rattle.tc_model.specs.Document.{Name, ShapeTree, ScalarKind}
use Rattle.tc_model.specs.Dictionary.{number_of, number, Extends, all_learned}
use Rattle.tc_model.proofs.NameNumbers.{numbered}
use Rattle.tc_model.proofs.DictionaryGrowth.{number_of-Extends}
use Rattle.tc_model.specs.ShapeNames.{names_within, names_of_items, names_of_members}
use Rattle.tc_model.proofs.LearnedNames.{Extends-all_learned, all_learned-append, all_numbered, room_for_first}
use Rattle.tc_model.proofs.LastingNumbers.{numbers-Extends}
use Rattle.tc_record.specs.Record.{joined}
use Rattle.tc_schema_model.specs.Counted.{Counted, counted, Below, an_item, Fields, nothing, held, field_at, counters_of, total_at, IsCanonical, IsBelowCanonical, AreFieldsCanonical}
use Rattle.tc_schema_model.specs.Counted.{no_item}
use Rattle.tc_schema_model.specs.Added.{added, items_added, members_added, put_field, raised, member_added, IsNamed, AreItemsNamed, AreMembersNamed}
use Rattle.tc_schema_model.specs.Room.{DoesFit, DoFieldsFit}
use Rattle.tc_schema_model.proofs.AddedLaws.{canonical-added, canonical-members_added, documents-added, field_canonical}
use Rattle.tc_schema_model.proofs.FieldLaws.{held_canonical, canonical_below}
use Rattle.tc_schema_model.proofs.MoreNames.{same_total, canonical_newer}
use Rattle.tc_schema_model.proofs.NamedShapes.{named-all_learned}
use Rattle.tc_schema_model.proofs.RoomLaws.{item_fits, member_fits}
use Rattle.tc_model.specs.Kinds.{arrays, objects}

-- ---- a shape counted by more names

same_number : (newer older : List Name) (name : Name) → Extends newer older → IsTrue (is_some (number_of older name)) → number newer name ≡ number older name
same_number newer older name extends known = ap (λ o. unwrap_or o 0) (number_of-Extends newer older name (number older name) extends (numbered older name known))

mutual
  pub same_added : (newer older : List Name) (s : ShapeTree) (d : Counted) → Extends newer older → IsNamed older s → added newer s d ≡ added older s d
  same_added newer older (leaf k) (counted c b fs) extends named = refl
  same_added newer older (array xs) (counted c b fs) extends named = ap (λ b. counted (raised arrays 1 c) b fs) (same_items newer older xs b extends named)
  same_added newer older (object ms) (counted c b fs) extends named = ap (counted (raised objects 1 c) b) (same_members newer older ms fs extends named)

  same_items : (newer older : List Name) (xs : Items Name ScalarKind) (b : Below) → Extends newer older → AreItemsNamed older xs → items_added newer xs b ≡ items_added older xs b
  same_items newer older no_items b extends named = refl
  same_items newer older (item s xs) b extends named =
      ap (λ d. items_added newer xs (an_item d)) (same_added newer older s (held b) extends named.0) ∙ same_items newer older xs (an_item (added older s (held b))) extends named.1

  same_members : (newer older : List Name) (ms : Members Name ScalarKind) (fs : Fields) → Extends newer older → AreMembersNamed older ms → members_added newer ms fs ≡ members_added older ms fs
  same_members newer older no_members fs extends named = refl
  same_members newer older (member name s ms) fs extends named =
      ap (λ n. members_added newer ms (put_field n (added newer s (field_at n fs)) fs)) (same_number newer older name extends named.0)
      ∙ ap (λ d. members_added newer ms (put_field (number older name) d fs)) (same_added newer older s (field_at (number older name) fs) extends named.1)
      ∙ same_members newer older ms (put_field (number older name) (added older s (field_at (number older name) fs)) fs) extends named.2

-- and it fits by the fewer where it does by the more
pub fits_older : (newer older : List Name) (s : ShapeTree) (d : Counted) → Extends newer older → IsNamed older s → IsCanonical (length older) d → DoesFit newer (added newer s d) → DoesFit older (added older s d)
fits_older newer older s d extends named canonical fits = λ path.
    let less : total_at newer (added older s d) path < 2 ^ 64 = subst (λ e. total_at newer e path < 2 ^ 64) (same_added newer older s d extends named) (fits path) in
    omega (arith, less, same_total newer older (added older s d) path extends (canonical-added older s d named canonical))

-- ---- names of a part, and those behind it

-- what the names at the end give, where the names of a part come first
module _ (known part behind last : List Name) (learned : all_learned known (part ++ behind) ≡ last) where
  abbrev pub middle : List Name
  middle = all_learned known part

  pub learned_on : all_learned middle behind ≡ last
  learned_on = sym (all_learned-append known part behind) ∙ learned

  pub last_extends : Extends last middle
  last_extends = subst (λ names. Extends names middle) learned_on (Extends-all_learned middle behind)

  pub room_here : length last < 2 ^ 32 → length middle < 2 ^ 32
  room_here room = room_for_first known part behind (subst (λ names. length names < 2 ^ 32) (sym learned) room)

  pub numbers_on : (ns : List ℕ) → (ns ++ map (number middle) part) ++ map (number last) behind ≡ ns ++ map (number last) (part ++ behind)
  numbers_on ns =
      append_assoc ns (map (number middle) part) (map (number last) behind)
      ∙ ap (λ ks. ns ++ (ks ++ map (number last) behind)) (sym (numbers-Extends last middle part last_extends (all_numbered known part)).1)
      ∙ ap (λ ks. ns ++ ks) (sym (map-append (number last) part behind))

pub joined_length : (part behind : List Name) → length (joined (part ++ behind)) ≡ length (joined part) + length (joined behind)
joined_length part behind = ap length (flat_map-append (λ t. t) part behind) ∙ length-append (joined part) (joined behind)

-- ---- an item, and those behind it

module _ (known : List Name) (s : ShapeTree) (xs : Items Name ScalarKind) (b : Below) (last : List Name) (learned : all_learned known (names_of_items (item s xs)) ≡ last) (canonical : IsBelowCanonical (length known) b) where
  abbrev pub with_item : List Name
  with_item = all_learned known (names_within s)

  item_extends : Extends last with_item
  item_extends = last_extends known (names_within s) (names_of_items xs) last learned

  item_below : IsCanonical (length with_item) (held b)
  item_below = canonical_newer with_item known (held b) (Extends-all_learned known (names_within s)) (held_canonical (length known) b canonical)

  pub item_room : DoesFit last (held (items_added last (item s xs) b)) → DoesFit with_item (added with_item s (held b))
  item_room fits =
      let named : AreItemsNamed last (item s xs) = subst (λ names. AreItemsNamed names (item s xs)) learned (named-all_learned known (array (item s xs))) in
      fits_older last with_item s (held b) item_extends (named-all_learned known s) item_below (item_fits last s xs b named.1 fits)

  pub item_left : items_added last xs (an_item (added with_item s (held b))) ≡ items_added last (item s xs) b
  item_left = ap (λ d. items_added last xs (an_item d)) (sym (same_added last with_item s (held b) item_extends (named-all_learned known s)))

  pub item_canonical : IsBelowCanonical (length with_item) (an_item (added with_item s (held b)))
  item_canonical = (omega (arith, documents-added with_item s (held b)), canonical-added with_item s (held b) (named-all_learned known s) item_below)

-- ---- a member, and those behind it

fields_newer : (limit more : ℕ) (fs : Fields) → limit ≤ more → AreFieldsCanonical limit 0 fs → AreFieldsCanonical more 0 fs
fields_newer limit more fs le canonical =
    let one = counted (raised objects 1 (counters_of nothing)) no_item fs in
    (canonical_below limit more one le (λ _. refl, λ none. absurd (omega (arith, none)), tt, canonical)).3

pub fields_later : (newer older : List Name) (fs : Fields) → Extends newer older → AreFieldsCanonical (length older) 0 fs → AreFieldsCanonical (length newer) 0 fs
fields_later newer older fs extends canonical = fields_newer (length older) (length newer) fs (omega (arith, ap length extends.1, length-append older extends.0)) canonical

module _ (known : List Name) (name : Name) (s : ShapeTree) (ms : Members Name ScalarKind) (fs : Fields) (last : List Name) (learned : all_learned known (names_of_members (member name s ms)) ≡ last) (canonical : AreFieldsCanonical (length known) 0 fs) where
  abbrev pub with_member : List Name
  with_member = all_learned known (name ∷ names_within s)

  member_extends : Extends last with_member
  member_extends = last_extends known (name ∷ names_within s) (names_of_members ms) last learned

  one_named : AreMembersNamed with_member (member name s no_members)
  one_named = subst (λ names. AreMembersNamed (all_learned known (name ∷ names)) (member name s no_members)) (append-nil (names_within s)) (named-all_learned known (object (member name s no_members)))

  member_below : AreFieldsCanonical (length with_member) 0 fs
  member_below = fields_later with_member known fs (Extends-all_learned known (name ∷ names_within s)) canonical

  number_here : number last name ≡ number with_member name
  number_here = same_number last with_member name member_extends one_named.0

  pub member_room : DoFieldsFit last (members_added last (member name s ms) fs) → DoesFit with_member (added with_member s (field_at (number with_member name) fs))
  member_room fits =
      let named : AreMembersNamed last (member name s ms) = subst (λ names. AreMembersNamed names (member name s ms)) learned (named-all_learned known (object (member name s ms))) in
      fits_older last with_member s (field_at (number with_member name) fs) member_extends one_named.1 (field_canonical (length with_member) 0 (number with_member name) fs member_below)
      (subst (λ n. DoesFit last (added last s (field_at n fs))) number_here (member_fits last name s ms fs named fits))

  pub member_left : members_added last ms (member_added with_member (name, s) fs) ≡ members_added last (member name s ms) fs
  member_left = ap (members_added last ms) (sym (same_members last with_member (member name s no_members) fs member_extends one_named))

  pub member_canonical : AreFieldsCanonical (length with_member) 0 (member_added with_member (name, s) fs)
  member_canonical = canonical-members_added with_member (member name s no_members) fs one_named member_below
