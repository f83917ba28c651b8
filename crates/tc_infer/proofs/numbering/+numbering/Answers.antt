use Rattle.std.proofs.Common.{◌≡◌, ◌<◌, ◌^◌, ◌+◌, ◌++◌, [], ◌∷◌, length, map, refl, sym, ap, ◌∙◌, subst, arith, append_assoc, length-append}
use Rattle.std.proofs.lemmas.Result.{IfOk-weaker}
use Rattle.tc_model.specs.Tree.{array, object, item, member}
use Rattle.tc_model.specs.Dictionary.{number, Extends, all_learned, learned}
use Rattle.tc_model.specs.KnownNames.{HasNumber}
use Rattle.tc_model.proofs.NameNumbers.{numbered}
use Rattle.tc_model.proofs.DictionaryGrowth.{Extends-learned}
use Rattle.tc_model.proofs.LearnedNames.{all_numbered, length-all_learned}
use Rattle.tc_model.proofs.LastingNumbers.{number-all_learned}
use Rattle.tc_model.specs.ShapeNames.{names_within, names_of_items, names_of_members}
use Rattle.tc_record.specs.Record.{joined}
use Rattle.tc_schema_model.specs.Counted.{an_item, held, field_at, IsCanonical, IsBelowCanonical, AreFieldsCanonical}
use Rattle.tc_schema_model.specs.Added.{added, items_added, members_added, member_added, put_field}
use Rattle.tc_schema_model.specs.Room.{DoesFit, DoFieldsFit}
use Rattle.tc_schema_model.proofs.AddedLaws.{field_canonical}
use Rattle.tc_schema_model.proofs.FieldLaws.{fields_ordered}
use Rattle.tc_value.specs.Kinds.{kind_meant}
use Rattle.tc_schema.specs.Places.{place_counted, below_counted, fields_counted}
use Rattle.tc_schema.specs.declared.place.Field.TheViews.{out-Node, roll-Node, out-roll-Node, out-Field}
use Rattle.tc_schema.proofs.PlaceViews.{place_parts}
use Rattle.tc_schema.proofs.FieldViews.{counted_at}
use Rattle.tc_schema.proofs.FieldWrites.{number_at, written_field}
use Rattle.tc_infer.specs.Levels.{begun, behind, innermost, outside, with_shape, without_names, levels}
use Rattle.tc_infer.proofs.LevelSteps.{one_less, value_next}
use Rattle.tc_infer.proofs.LearnedSteps.{learned_on, room_here as room_of_part, numbers_on, joined_length, item_room, item_left, item_canonical, member_room, member_left, member_canonical, fields_later}
use Rattle.tc_infer.proofs.PlaceRoom.{room_here, items_fit, members_fit}
use Rattle.tc_infer.proofs.numbering.+numbering.Goals as goal

-- ---- the place itself

pub learn_value-raise-requires : goal.learn_value-raise-requires
learn_value-raise-requires t c =
    let s = begun (kind_meant c.args.kind) (levels c.args.cursor.now) in
    room_here (all_learned c.args.names.now (names_within s)) s c.args.place.now c.requires.fits

pub learn_value-learn_items-requires : goal.learn_value-learn_items-requires
learn_value-learn_items-requires t c =
    let known = c.args.names.now in
    let p = c.args.place.now in
    let xs = without_names (innermost (levels c.args.cursor.now)) in
    let whole : begun (kind_meant c.args.kind) (levels c.args.cursor.now) ≡ array xs = ap (λ k. begun (kind_meant k) (levels c.args.cursor.now)) c.in-Array.is in
    let fits = subst (λ s. DoesFit (all_learned known (names_within s)) (added (all_learned known (names_within s)) s (place_counted p))) whole c.requires.fits in
    let canonical = subst (IsCanonical (length known)) (place_parts p) c.requires.canonical in (
      omega (arith, c.decreases),
      (
        rw (out-roll-Node) canonical.2,
        (
          rw (out-roll-Node) (items_fit (all_learned known (names_of_items xs)) xs p fits),
          (subst (λ s. length (all_learned known (names_within s)) < 2 ^ 32) whole c.requires.room, subst (λ s. c.args.met.now.name_bytes + length (joined (names_within s)) < 2 ^ 32) whole c.requires.short),
        ),
      ),
    )

pub learn_value-learn_members-requires : goal.learn_value-learn_members-requires
learn_value-learn_members-requires t c =
    let known = c.args.names.now in
    let p = c.args.place.now in
    let ms = innermost (levels c.args.cursor.now) in
    let whole : begun (kind_meant c.args.kind) (levels c.args.cursor.now) ≡ object ms = ap (λ k. begun (kind_meant k) (levels c.args.cursor.now)) c.in-Object.is in
    let fits = subst (λ s. DoesFit (all_learned known (names_within s)) (added (all_learned known (names_within s)) s (place_counted p))) whole c.requires.fits in
    let canonical = subst (IsCanonical (length known)) (place_parts p) c.requires.canonical in (
      omega (arith, c.decreases),
      (
        rw (out-roll-Node) canonical.3,
        (
          rw (out-roll-Node) (members_fit (all_learned known (names_of_members ms)) ms p fits),
          (subst (λ s. length (all_learned known (names_within s)) < 2 ^ 32) whole c.requires.room, subst (λ s. c.args.met.now.name_bytes + length (joined (names_within s)) < 2 ^ 32) whole c.requires.short),
        ),
      ),
    )

pub learn_value-returns-in-Object-clause-counted : goal.learn_value-returns-in-Object-clause-counted
learn_value-returns-in-Object-clause-counted t c =
    let names = c.learn_members.new.names in
    let p = c.args.place.now in
    let ms = innermost (levels c.args.cursor.now) in
    let s = begun (kind_meant c.args.kind) (levels c.args.cursor.now) in
    let whole : s ≡ object ms = ap (λ k. begun (kind_meant k) (levels c.args.cursor.now)) c.in-Object.is in
    let half = roll-Node record { counts = c.raise.new.self; item = (out-Node p).item; fields = (out-Node p).fields } in
    let made = roll-Node record { counts = (out-Node half).counts; item = (out-Node half).item; fields = c.learn_members.new.fields } in
    IfOk-weaker c.learn_members.result
    (λ _. fields_counted c.learn_members.new.fields.items ≡ members_added names ms (fields_counted (out-Node half).fields.items))
    (λ _. place_counted made ≡ added names s (place_counted p))
    (λ _ is. place_parts made ∙ rw (whole, place_parts p, out-roll-Node, out-roll-Node, is, out-roll-Node, c.raise.ensures, c.in-Object.is) refl)
    c.learn_members.ensures.counted

-- ---- items

pub learn_items-learn_item-requires : goal.learn_items-learn_item-requires
learn_items-learn_item-requires t c =
    let l = c.loop-token in
    let all = without_names (innermost (levels c.args.cursor.now)) in
    let last = all_learned c.args.names.now (names_of_items all) in
    let below = below_counted l.below in
    let k = kind_meant c.in-Some-kind_begun.kind in
    let rest = levels c.next.new.self in
    let s = begun k rest in
    let xs = without_names (innermost (behind k rest)) in
    let here = value_next l.cursor c.next.new.self c.in-Some.token c.in-Some.ensures.taken c.kind_begun.result c.in-Some-kind_begun.kind c.kind_begun.ensures c.in-Some-kind_begun.is in
    let less = one_less l.cursor c.next.new.self c.in-Some.token c.in-Some.ensures.taken in
    let learned : all_learned l.names (names_of_items (item s xs)) ≡ last = ap (λ ls. all_learned l.names (names_of_items (without_names (innermost ls)))) (sym here) ∙ l.invariant.learned in
    let whole = ap (λ ls. items_added last (without_names (innermost ls)) below) (sym here) ∙ l.invariant.left in
    let fits = subst (λ b. DoesFit last (held b)) (sym whole) c.requires.fits in
    let bytes = ap (λ ls. length (joined (names_of_items (without_names (innermost ls))))) here in (
      omega (arith, c.decreases, less, l.invariant.shorter),
      (
        l.invariant.canonical,
        (
          item_room l.names s xs below last learned l.invariant.canonical fits,
          (
            room_of_part l.names (names_within s) (names_of_items xs) last learned c.requires.room,
            omega (arith, l.invariant.bytes, c.requires.short, bytes, joined_length (names_within s) (names_of_items xs)),
          ),
        ),
      ),
    )

pub learn_items-loop-token-preserved : goal.learn_items-loop-token-preserved
learn_items-loop-token-preserved t c =
    let l = c.loop-token in
    let all = without_names (innermost (levels c.args.cursor.now)) in
    let last = all_learned c.args.names.now (names_of_items all) in
    let below = below_counted l.below in
    let k = kind_meant c.in-Some-kind_begun.kind in
    let rest = levels c.next.new.self in
    let s = begun k rest in
    let xs = without_names (innermost (behind k rest)) in
    let here = value_next l.cursor c.next.new.self c.in-Some.token c.in-Some.ensures.taken c.kind_begun.result c.in-Some-kind_begun.kind c.kind_begun.ensures c.in-Some-kind_begun.is in
    let less = one_less l.cursor c.next.new.self c.in-Some.token c.in-Some.ensures.taken in
    let learned : all_learned l.names (names_of_items (item s xs)) ≡ last = ap (λ ls. all_learned l.names (names_of_items (without_names (innermost ls)))) (sym here) ∙ l.invariant.learned in
    let whole = ap (λ ls. items_added last (without_names (innermost ls)) below) (sym here) ∙ l.invariant.left in
    let e = c.in_ok-learn_item-in-Some-kind_begun.ensures in
    let middle = all_learned l.names (names_within s) in
    let after = e.behind in
    let counted : below_counted c.learn_item.new.below ≡ an_item (added middle s (held below)) = e.counted ∙ ap (λ names. an_item (added names s (held below))) e.learned in
    let numbers = e.numbers ∙ ap (λ names. l.met.numbers.items ++ map (number names) (names_within s)) e.learned in
    record {
      learned = ap (λ ls. all_learned c.learn_item.new.names (names_of_items (without_names (innermost ls)))) after ∙ ap (λ names. all_learned names (names_of_items xs)) e.learned ∙ learned_on l.names (names_within s) (names_of_items xs) last learned;
      left = ap (λ ls. items_added last (without_names (innermost ls)) (below_counted c.learn_item.new.below)) after ∙ ap (items_added last xs) counted ∙ item_left l.names s xs below last learned l.invariant.canonical ∙ whole;
      numbers =
          ap (λ ls. c.learn_item.new.met.numbers.items ++ map (number last) (names_of_items (without_names (innermost ls)))) after
          ∙ ap (λ ns. ns ++ map (number last) (names_of_items xs)) numbers
          ∙ numbers_on l.names (names_within s) (names_of_items xs) last learned l.met.numbers.items
          ∙ ap (λ ls. l.met.numbers.items ++ map (number last) (names_of_items (without_names (innermost ls)))) (sym here)
          ∙ l.invariant.numbers;
      bytes = omega (arith, e.bytes, ap (λ ls. length (joined (names_of_items (without_names (innermost ls))))) after, ap (λ ls. length (joined (names_of_items (without_names (innermost ls))))) here, joined_length (names_within s) (names_of_items xs), l.invariant.bytes);
      outer = ap outside after ∙ sym (ap outside here) ∙ l.invariant.outer;
      shorter = omega (arith, c.learn_item.ensures.shorter, less, l.invariant.shorter);
      canonical = subst (λ names. IsBelowCanonical (length names) (below_counted c.learn_item.new.below)) (sym e.learned) (subst (IsBelowCanonical (length middle)) (sym counted) (item_canonical l.names s xs below last learned l.invariant.canonical));
    }

-- ---- members

pub learn_members-learn_member-requires : goal.learn_members-learn_member-requires
learn_members-learn_member-requires t c =
    let l = c.loop-token in
    let all = innermost (levels c.args.cursor.now) in
    let last = all_learned c.args.names.now (names_of_members all) in
    let fields = fields_counted l.fields.items in
    let k = kind_meant c.in-Some-kind_begun.kind in
    let rest = levels c.next.new.self in
    let name = c.name_in-name.result.now in
    let s = begun k rest in
    let ms = innermost (behind k rest) in
    let here =
    value_next l.cursor c.next.new.self c.in-Some.token c.in-Some.ensures.taken c.kind_begun.result c.in-Some-kind_begun.kind c.kind_begun.ensures c.in-Some-kind_begun.is
    ∙ ap (λ n. with_shape n (begun k rest) (behind k rest)) (sym c.name_in-name.ensures) in
    let less = one_less l.cursor c.next.new.self c.in-Some.token c.in-Some.ensures.taken in
    let learned : all_learned l.names (names_of_members (member name s ms)) ≡ last = ap (λ ls. all_learned l.names (names_of_members (innermost ls))) (sym here) ∙ l.invariant.learned in
    let whole = ap (λ ls. members_added last (innermost ls) fields) (sym here) ∙ l.invariant.left in
    let fits = subst (DoFieldsFit last) (sym whole) c.requires.fits in
    let bytes = ap (λ ls. length (joined (names_of_members (innermost ls)))) here in (
      omega (arith, c.decreases, less, l.invariant.shorter),
      (
        l.invariant.canonical,
        (
          member_room l.names name s ms fields last learned l.invariant.canonical fits,
          (
            room_of_part l.names (name ∷ names_within s) (names_of_members ms) last learned c.requires.room,
            omega (arith, l.invariant.bytes, c.requires.short, bytes, joined_length (name ∷ names_within s) (names_of_members ms)),
          ),
        ),
      ),
    )

pub learn_members-loop-token-preserved : goal.learn_members-loop-token-preserved
learn_members-loop-token-preserved t c =
    let l = c.loop-token in
    let all = innermost (levels c.args.cursor.now) in
    let last = all_learned c.args.names.now (names_of_members all) in
    let fields = fields_counted l.fields.items in
    let k = kind_meant c.in-Some-kind_begun.kind in
    let rest = levels c.next.new.self in
    let name = c.name_in-name.result.now in
    let s = begun k rest in
    let ms = innermost (behind k rest) in
    let here =
    value_next l.cursor c.next.new.self c.in-Some.token c.in-Some.ensures.taken c.kind_begun.result c.in-Some-kind_begun.kind c.kind_begun.ensures c.in-Some-kind_begun.is
    ∙ ap (λ n. with_shape n (begun k rest) (behind k rest)) (sym c.name_in-name.ensures) in
    let less = one_less l.cursor c.next.new.self c.in-Some.token c.in-Some.ensures.taken in
    let learned : all_learned l.names (names_of_members (member name s ms)) ≡ last = ap (λ ls. all_learned l.names (names_of_members (innermost ls))) (sym here) ∙ l.invariant.learned in
    let whole = ap (λ ls. members_added last (innermost ls) fields) (sym here) ∙ l.invariant.left in
    let e = c.in_ok-at-in-Some-kind_begun.ensures in
    let part = name ∷ names_within s in
    let middle = all_learned l.names part in
    let after = e.behind in
    let counted : fields_counted c.learn_member.new.fields.items ≡ member_added middle (name, s) fields = e.counted ∙ ap (λ names. member_added names (name, s) fields) e.learned in
    let numbers = e.numbers ∙ ap (λ names. l.met.numbers.items ++ map (number names) part) e.learned in
    record {
      learned = ap (λ ls. all_learned c.learn_member.new.names (names_of_members (innermost ls))) after ∙ ap (λ names. all_learned names (names_of_members ms)) e.learned ∙ learned_on l.names part (names_of_members ms) last learned;
      left = ap (λ ls. members_added last (innermost ls) (fields_counted c.learn_member.new.fields.items)) after ∙ ap (members_added last ms) counted ∙ member_left l.names name s ms fields last learned l.invariant.canonical ∙ whole;
      numbers =
          ap (λ ls. c.learn_member.new.met.numbers.items ++ map (number last) (names_of_members (innermost ls))) after
          ∙ ap (λ ns. ns ++ map (number last) (names_of_members ms)) numbers
          ∙ numbers_on l.names part (names_of_members ms) last learned l.met.numbers.items
          ∙ ap (λ ls. l.met.numbers.items ++ map (number last) (names_of_members (innermost ls))) (sym here)
          ∙ l.invariant.numbers;
      bytes = omega (arith, e.bytes, ap (λ ls. length (joined (names_of_members (innermost ls)))) after, ap (λ ls. length (joined (names_of_members (innermost ls)))) here, joined_length part (names_of_members ms), l.invariant.bytes);
      outer = ap outside after ∙ sym (ap outside here) ∙ l.invariant.outer;
      shorter = omega (arith, c.learn_member.ensures.shorter, less, l.invariant.shorter);
      canonical = subst (λ names. AreFieldsCanonical (length names) 0 (fields_counted c.learn_member.new.fields.items)) (sym e.learned) (subst (AreFieldsCanonical (length middle) 0) (sym counted) (member_canonical l.names name s ms fields last learned l.invariant.canonical));
    }

pub learn_member-place_learned-requires : goal.learn_member-place_learned-requires
learn_member-place_learned-requires t c =
    let known = c.args.names.now in
    let name = c.args.name.now in
    let within = names_within (begun (kind_meant c.args.kind) (levels c.args.cursor.now)) in
    record {
      room = omega (arith, length-all_learned (learned known name) within, c.requires.1.1.1.1.0);
      short = omega (arith, length-append name (joined within), c.requires.1.1.1.1.1);
      ordered = fields_ordered (length known) 0 (fields_counted c.args.fields.now.items) c.requires.1.1.0;
    }

pub learn_member-learn_value-requires : goal.learn_member-learn_value-requires
learn_member-learn_value-requires t c =
    let known = c.args.names.now in
    let names = c.place_learned.new.names in
    let name = c.args.name.now in
    let s = begun (kind_meant c.args.kind) (levels c.args.cursor.now) in
    let within = names_within s in
    let fields = fields_counted c.args.fields.now.items in
    let n = number names name in
    let here = c.index_mut.result.now in
    let stands = counted_at c.place_learned.new.fields.items c.in_ok-at.at here n (field_at n fields) c.in_ok-at.ensures.here in
    let counted : place_counted c.deref_mut.result.now ≡ field_at n fields =
    ap place_counted c.deref_mut.ensures.value ∙ ap (λ f. place_counted (out-Field f).node.value) c.index_mut.ensures.value ∙ stands in
    let is : names ≡ learned known name = c.in_ok-at.ensures.learned in
    let some = numbered names name (subst (λ ns. HasNumber ns name) (sym is) (all_numbered known (name ∷ [])).0) in
    let canonical = fields_later names known fields (subst (λ ns. Extends ns known) (sym is) (Extends-learned known name)) c.requires.1.1.0 in
    let fits = subst (λ ns. DoesFit (all_learned ns within) (added (all_learned ns within) s (field_at (number (all_learned ns within) name) fields))) (sym is) c.requires.1.1.1.0 in
    let fits_here = subst (λ k. DoesFit (all_learned names within) (added (all_learned names within) s (field_at k fields))) (number-all_learned names name within n some) fits in (
      omega (arith, c.requires.1.0),
      (
        subst (IsCanonical (length names)) (sym counted) (field_canonical (length names) 0 n fields canonical),
        (
          subst (λ d. DoesFit (all_learned names within) (added (all_learned names within) s d)) (sym counted) fits_here,
          (subst (λ ns. length (all_learned ns within) < 2 ^ 32) (sym is) c.requires.1.1.1.1.0, omega (arith, c.in_ok-take.ensures.bytes, length-append name (joined within), c.requires.1.1.1.1.1)),
        ),
      ),
    )

pub learn_member-returns-clause-counted : goal.learn_member-returns-clause-counted
learn_member-returns-clause-counted t c =
    let known = c.args.names.now in
    let names = c.place_learned.new.names in
    let last = c.learn_value.new.names in
    let name = c.args.name.now in
    let s = begun (kind_meant c.args.kind) (levels c.args.cursor.now) in
    let n = number names name in
    let all = c.place_learned.new.fields.items in
    let fields = fields_counted c.args.fields.now.items in
    let here = c.index_mut.result.now in
    let d = added last s (field_at n fields) in
    let stands = counted_at all c.in_ok-at.at here n (field_at n fields) c.in_ok-at.ensures.here in
    let counted : place_counted c.deref_mut.result.now ≡ field_at n fields =
    ap place_counted c.deref_mut.ensures.value ∙ ap (λ f. place_counted (out-Field f).node.value) c.index_mut.ensures.value ∙ stands in
    let own : (out-Field here).number ≡ n = ap (λ f. (out-Field f).number) c.index_mut.ensures.value ∙ number_at all c.in_ok-at.at here n (field_at n fields) c.in_ok-at.ensures.here in
    let some = numbered names name (subst (λ ns. HasNumber ns name) (sym c.in_ok-at.ensures.learned) (all_numbered known (name ∷ [])).0) in
    let lasts : number last name ≡ n = ap (λ ns. number ns name) c.in_ok-learn_value.ensures.learned ∙ number-all_learned names name (names_within s) n some in
    written_field all c.in_ok-at.at n (out-Field here).number _ d own (c.in_ok-learn_value.ensures.counted ∙ ap (added last s) counted)
    ∙ c.in_ok-at.ensures.written d
    ∙ ap (λ k. put_field k (added last s (field_at k fields)) fields) (sym lasts)

pub learn_member-returns-clause-numbers : goal.learn_member-returns-clause-numbers
learn_member-returns-clause-numbers t c =
    let known = c.args.names.now in
    let names = c.place_learned.new.names in
    let last = c.learn_value.new.names in
    let name = c.args.name.now in
    let s = begun (kind_meant c.args.kind) (levels c.args.cursor.now) in
    let within = names_within s in
    let n = number names name in
    let fields = fields_counted c.args.fields.now.items in
    let here = c.index.result.now in
    let met = c.args.met.now.numbers.items in
    let own : (out-Field here).number ≡ n = ap (λ f. (out-Field f).number) c.index.ensures ∙ number_at c.place_learned.new.fields.items c.in_ok-at.at here n (field_at n fields) c.in_ok-at.ensures.here in
    let some = numbered names name (subst (λ ns. HasNumber ns name) (sym c.in_ok-at.ensures.learned) (all_numbered known (name ∷ [])).0) in
    let lasts : number last name ≡ n = ap (λ ns. number ns name) c.in_ok-learn_value.ensures.learned ∙ number-all_learned names name within n some in
    c.in_ok-learn_value.ensures.numbers
    ∙ ap (λ ns. ns ++ map (number last) within) c.in_ok-take.ensures.numbers
    ∙ append_assoc met ((out-Field here).number ∷ []) (map (number last) within)
    ∙ ap (λ k. met ++ k ∷ map (number last) within) (own ∙ sym lasts)
