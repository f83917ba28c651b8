-- What a list of components has of a key is what its contents have of it, where the directories show these.
use Rattle.std.proofs.Common.{◌≡◌, ◌≢◌, ◌+◌, ℕ, zero, suc, Bool, true, false, List, [], ◌∷◌, ◌++◌, Option, Some, None, map, drop, slice_get, refl, sym, ap, ◌∙◌, subst, inl, inr, arith}
use Rattle.std.specs.Prelude.{◌==◌, nat_lt, is_some, option_map, unwrap_or, if◌then◌else◌, All}
use Rattle.std.specs.List.{AllZip}
use Rattle.std.proofs.lemmas.Bool.{eqb-true, lt-ltb}
use Rattle.std.proofs.lemmas.List.Elements.{All-nil, All-cons, All-head, All-tail}
use Rattle.std.proofs.lemmas.Option.{same_Some}
use Rattle.tc_model.specs.Document.{Document}
use Rattle.tc_model.specs.Keyed.{Ascends, value_of, on_value}
use Rattle.tc_model.proofs.ReadValues.{value_of-read}
use Rattle.tc_plain_model.specs.Writes.{Write}
use Rattle.tc_lsm_model.specs.Contents.{Partition, Content}
use Rattle.tc_lsm_model.specs.Lists.{live, IsList}
use Rattle.tc_lsm_model.proofs.ListLaws.{GoOn-back}
use Rattle.tc_lsm_model.proofs.ListLookups.{live-newest, newest-none, newest-found}
use Rattle.tc_component.specs.declared.slot.Slot.{Slot}
use Rattle.tc_component.specs.declared.found.Found.TheVariants.{Absent as NotFound, Gone, At as FoundAt}
use Rattle.tc_component.specs.declared.found.Place.{Place}
use Rattle.tc_component.specs.Columns.{IsFound}
use Rattle.tc_component.specs.Loading.{ComponentState}
use Rattle.tc_list.specs.declared.whereabouts.Whereabouts.{Whereabouts}
use Rattle.tc_list.specs.declared.whereabouts.Whereabouts.TheVariants.{Absent, At}
use Rattle.tc_list.specs.Contents.{marks, Shows, IsLiveAt}
use Rattle.tc_list.specs.Lookups.{HaveNone, IsWhere}
use Rattle.tc_list.proofs.KeyedPlaces.{value_of-at}

-- ---- one component

none_marked : (slots : List Slot) (key : ℕ) → ((at : ℕ) (s : Slot) → slice_get slots at ≡ Some s → s.key ≢ key) → value_of key (marks slots) ≡ None
none_marked [] key none = refl
none_marked (s ∷ slots) key none = cases (key == s.key) (λ same. none 0 s refl (sym (eqb-true key s.key same))) (none_marked slots key (λ at t here. none (suc at) t here))
  where
    cases : (same : Bool) → (same ≡ true → ⊥) → value_of key (marks slots) ≡ None → (if same then Some (nat_lt 0 s.length) else value_of key (marks slots)) ≡ None
    cases true other rest = absurd (other refl)
    cases false other rest = rest

no_mark : (o : Option (Option Document)) → option_map is_some o ≡ None → o ≡ None
no_mark None is = refl
no_mark (Some held) is = cc

shown_none : {F : Type 0} (m : ComponentState F) (c : Content) (key : ℕ) → Shows m c → IsFound m.index.slots key NotFound → value_of key c.entries ≡ None
shown_none m c key shows none =
    no_mark (value_of key c.entries) (sym (value_of-read is_some key c.entries) ∙ ap (value_of key) (sym shows) ∙ none_marked m.index.slots key none)

-- the entry that a slot shows
record Shown (entries : List Write) (at : ℕ) (s : Slot) : Type 0 where
  entry : Write
  here : slice_get entries at ≡ Some entry
  key : entry.0 ≡ s.key
  mark : is_some entry.1 ≡ nat_lt 0 s.length

shown_at : (slots : List Slot) (entries : List Write) (at : ℕ) (s : Slot) → marks slots ≡ map (on_value is_some) entries → slice_get slots at ≡ Some s → Shown entries at s
shown_at [] entries at s shows here = absurd (cc)
shown_at (t ∷ slots) [] at s shows here = absurd (cc)
shown_at (t ∷ slots) (e ∷ entries) zero s shows here =
    let same : t ≡ s = same_Some t s here in
    let first : ◌≡◌ {A = ℕ × Bool} (t.key, nat_lt 0 t.length) (e.0, is_some e.1) = cc in
    record { entry = e; here = refl; key = sym (ap (λ p. p.0) first) ∙ ap (λ (u : Slot). u.key) same; mark = sym (ap (λ p. p.1) first) ∙ ap (λ (u : Slot). nat_lt 0 u.length) same }
shown_at (t ∷ slots) (e ∷ entries) (suc at) s shows here =
    let rest : marks slots ≡ map (on_value is_some) entries = cc in
    let found = shown_at slots entries at s rest here in
    record { entry = found.entry; here = found.here; key = found.key; mark = found.mark }

pub is_none : {X : Type 0} (o : Option X) → is_some o ≡ false → o ≡ None
is_none None is = refl
is_none (Some x) is = cc

is_there : {X : Type 0} (o : Option X) → is_some o ≡ true → (x : X) × (o ≡ Some x)
is_there None is = absurd (cc)
is_there (Some x) is = (x, refl)

shown_gone : {F : Type 0} (m : ComponentState F) (c : Content) (key : ℕ) → Shows m c → Ascends c.entries → IsFound m.index.slots key Gone → value_of key c.entries ≡ Some None
shown_gone m c key shows up (at, here) =
    let e = shown_at m.index.slots c.entries at (record { key = key; length = 0 }) shows here in
    subst (λ k. value_of k c.entries ≡ Some None) e.key (value_of-at c.entries at e.entry up e.here ∙ ap Some (is_none e.entry.1 e.mark))

-- the document that a slot shows
record ShownDocument (entries : List Write) (key at : ℕ) : Type 0 where
  document : Document
  here : slice_get entries at ≡ Some (key, Some document)
  value : value_of key entries ≡ Some (Some document)

shown_document : {F : Type 0} (m : ComponentState F) (c : Content) (key : ℕ) (place : Place) → Shows m c → Ascends c.entries → IsFound m.index.slots key (FoundAt place) → ShownDocument c.entries key place.at
shown_document m c key place shows up (bytes, here, some) =
    let e = shown_at m.index.slots c.entries place.at (record { key = key; length = bytes }) shows here in
    let d = is_there e.entry.1 (e.mark ∙ lt-ltb 0 bytes some) in
    let whole : e.entry ≡ (key, Some d.0) = ap (λ k. (k, e.entry.1)) e.key ∙ ap (λ held. (key, held)) d.1 in
    record {
      document = d.0;
      here = e.here ∙ ap Some whole;
      value = subst (λ (w : Write). value_of w.0 c.entries ≡ Some w.1) whole (value_of-at c.entries place.at e.entry up e.here);
    }

-- ---- a list

-- the content of the component at a place
record Zipped {F : Type 0} (ms : List (ComponentState F)) (cs : List Content) (at : ℕ) (m : ComponentState F) : Type 0 where
  older : List Content
  content : Content
  newer : List Content
  is : cs ≡ older ++ content ∷ newer
  here : slice_get cs at ≡ Some content
  shows : Shows m content
  behind : AllZip Shows (drop (at + 1) ms) newer

zipped : {F : Type 0} (ms : List (ComponentState F)) (cs : List Content) (at : ℕ) (m : ComponentState F) → AllZip Shows ms cs → slice_get ms at ≡ Some m → Zipped ms cs at m
zipped [] cs at m all here = absurd (cc)
zipped (x ∷ ms) [] at m all here = absurd all
zipped (x ∷ ms) (c ∷ cs) zero m all here = record { older = []; content = c; newer = cs; is = refl; here = refl; shows = subst (λ y. Shows y c) (same_Some x m here) all.0; behind = all.1 }
zipped (x ∷ ms) (c ∷ cs) (suc at) m all here =
    let z = zipped ms cs at m all.1 here in
    let further : suc at + 1 ≡ suc (at + 1) = omega arith in
    record {
      older = c ∷ z.older;
      content = z.content;
      newer = z.newer;
      is = ap (λ rest. c ∷ rest) z.is;
      here = z.here;
      shows = z.shows;
      behind = subst (λ n. AllZip Shows (drop n (x ∷ ms)) z.newer) (sym further) z.behind;
    }

all_none : {F : Type 0} (ms : List (ComponentState F)) (cs : List Content) (key : ℕ) → AllZip Shows ms cs → HaveNone ms key → All (λ c. value_of key c.entries ≡ None) cs
all_none [] [] key all none = All-nil (λ (c : Content). value_of key c.entries ≡ None)
all_none [] (c ∷ cs) key all none = absurd all
all_none (m ∷ ms) [] key all none = absurd all
all_none (m ∷ ms) (c ∷ cs) key all none =
    All-cons (λ (d : Content). value_of key d.entries ≡ None) c cs
    (shown_none m c key all.0 (All-head (λ n. IsFound n.index.slots key NotFound) m ms none))
    (all_none ms cs key all.1 (All-tail (λ n. IsFound n.index.slots key NotFound) m ms none))

content_ascends : (part : Partition) (older : List Content) (c : Content) (newer : List Content) → IsList part (older ++ c ∷ newer) → Ascends c.entries
content_ascends part older c newer is = (GoOn-back part 0 [] [] older (c ∷ newer) is).0.content.ascends

held_newest : (part : Partition) (older : List Content) (c : Content) (newer : List Content) (key : ℕ) (held : Option Document) → IsList part (older ++ c ∷ newer) → value_of key c.entries ≡ Some held
    → All (λ d. value_of key d.entries ≡ None) newer → value_of key (live (older ++ c ∷ newer)) ≡ held
held_newest part older c newer key held is here none =
    live-newest part (older ++ c ∷ newer) key is ∙ ap (λ found. unwrap_or found None) (newest-found older c newer key held here none)

pub where_live : {F : Type 0} (part : Partition) (ms : List (ComponentState F)) (cs : List Content) (key : ℕ) (w : Whereabouts) → IsList part cs → AllZip Shows ms cs → IsWhere ms key w
    → IsLiveAt cs key w
where_live part ms cs key Absent is all (inl none) = live-newest part cs key is ∙ ap (λ found. unwrap_or found None) (newest-none key cs (all_none ms cs key all none))
where_live part ms cs key Absent is all (inr (at, n)) =
    let z = zipped ms cs at n.component all n.here in
    let list = subst (IsList part) z.is is in
    let gone = shown_gone n.component z.content key z.shows (content_ascends part z.older z.content z.newer list) n.has in
    subst (λ ds. value_of key (live ds) ≡ None) (sym z.is) (held_newest part z.older z.content z.newer key None list gone (all_none (drop (at + 1) ms) z.newer key z.behind n.newer))
where_live part ms cs key (At component place) is all n =
    let z = zipped ms cs component n.component all n.here in
    let list = subst (IsList part) z.is is in
    let d = shown_document n.component z.content key place z.shows (content_ascends part z.older z.content z.newer list) n.has in
    let held = held_newest part z.older z.content z.newer key (Some d.document) list d.value (all_none (drop (component + 1) ms) z.newer key z.behind n.newer) in
    (z.content, d.document, z.here, d.here, subst (λ ds. value_of key (live ds) ≡ Some d.document) (sym z.is) held)
