-- Components that are right, one more behind them, and that nothing is wrong with them.
use Rattle.std.proofs.Common.{◌≡◌, ◌∙◌, ◌≤◌, ◌+◌, ◌^◌, ℕ, List, [], ◌∷◌, ◌++◌, Option, length, unwrap_or, refl, sym, ap, subst, arith}
use Rattle.std.specs.Prelude.{All}
use Rattle.std.specs.List.{AllZip}
use Rattle.std.proofs.lemmas.List.Elements.{All-nil, All-cons}
use Rattle.tc_model.specs.Document.{Name}
use Rattle.tc_lsm_model.specs.Contents.{Partition, Content}
use Rattle.tc_lsm_model.specs.Lists.{live, names_of, schema_of, GoOn, GoesOn, IsList, held_over}
use Rattle.tc_lsm_model.specs.Lists as contents
use Rattle.tc_lsm_model.proofs.ListLaws.{GoOn-append, GoOn-back, held_over-append}
use Rattle.tc_plain_model.specs.Writes.{Pairs, after_writes}
use Rattle.tc_model.specs.Keyed.{values_in}
use Rattle.tc_model.specs.Kinds.{Kind}
use Rattle.tc_schema_model.specs.Counted.{Counted, shows}
use Rattle.tc_schema_model.specs.Occurrences.{Path, count}
use Rattle.tc_component.specs.Fetching.{record_at}
use Rattle.tc_component.specs.Loaded.{IsLoadedOf}
use Rattle.tc_component.specs.Loading.{ComponentState}
use Rattle.tc_component.specs.Reading.{version_of}
use Rattle.tc_component.specs.Rows.{component_index, IsComponent}
use Rattle.tc_component.specs.Spelling.{Index, Holds}
use Rattle.tc_list.specs.Intervals as intervals
use Rattle.tc_merge.specs.Merging.{newest_names, newest_schema}
use Rattle.tc_audit.specs.Reasons.{AreRight, IsReason, IsWrongBehind}
use Rattle.tc_audit.specs.Stored.{IsStoredIn}
use Rattle.tc_audit.specs.Told.{bytes_told, AreStoredUpTo, IsHeld, IsOf}
use Rattle.tc_audit.specs.declared.verdict.Wrong.{Wrong}
use Rattle.tc_audit.specs.declared.verdict.Wrong.TheVariants.{Record, Documents, Count}

-- the laws of components that are used here
abbrev pub IsStoredThroughout : Type 0
IsStoredThroughout = (c : Content) (bytes : List ℕ) (end : ℕ) → IsComponent c bytes → AreStoredUpTo (component_index (version_of bytes) c) bytes end

abbrev pub HoldsIndex : Type 0
HoldsIndex = (c : Content) (bytes : List ℕ) → IsComponent c bytes → Holds bytes (component_index (version_of bytes) c)

-- a list with a content that goes on behind it
pub list_with : (part : Partition) (cs : List Content) (c : Content) → IsList part cs → GoesOn part (contents.last_of cs) (live cs) (names_of cs) c → IsList part (cs ++ c ∷ [])
list_with part cs c is next = GoOn-append part 0 [] [] cs (c ∷ []) is (next, tt)

pub live_with : (cs : List Content) (c : Content) → live (cs ++ c ∷ []) ≡ after_writes (live cs) c.entries
live_with cs c = held_over-append [] cs (c ∷ [])

module _ {F : Type 0} (told : F → Option (List ℕ)) where
  -- ---- what components and their contents have in common

  pub names_loaded : (ns : List Name) (ms : List (ComponentState F)) (cs : List Content) → AllZip (IsLoadedOf told) ms cs → newest_names ns ms ≡ contents.newest_names ns cs
  names_loaded ns [] [] all = refl
  names_loaded ns [] (c ∷ cs) all = absurd all
  names_loaded ns (m ∷ ms) [] all = absurd all
  names_loaded ns (m ∷ ms) (c ∷ cs) all = ap (λ (i : Index). newest_names i.names ms) all.0.index ∙ names_loaded c.names ms cs all.1

  pub schema_loaded : (d : Counted) (ms : List (ComponentState F)) (cs : List Content) → AllZip (IsLoadedOf told) ms cs → newest_schema d ms ≡ contents.newest_schema d cs
  schema_loaded d [] [] all = refl
  schema_loaded d [] (c ∷ cs) all = absurd all
  schema_loaded d (m ∷ ms) [] all = absurd all
  schema_loaded d (m ∷ ms) (c ∷ cs) all = ap (λ (i : Index). newest_schema i.schema ms) all.0.index ∙ schema_loaded c.schema ms cs all.1

  pub last_loaded : (g : ℕ) (ms : List (ComponentState F)) (cs : List Content) → AllZip (IsLoadedOf told) ms cs → intervals.last_after g ms ≡ contents.last_after g cs
  last_loaded g [] [] all = refl
  last_loaded g [] (c ∷ cs) all = absurd all
  last_loaded g (m ∷ ms) [] all = absurd all
  last_loaded g (m ∷ ms) (c ∷ cs) all = ap (λ (i : Index). intervals.last_after i.head.to ms) all.0.index ∙ last_loaded c.to ms cs all.1

  pub loaded_with : (ms : List (ComponentState F)) (cs : List Content) (m : ComponentState F) (c : Content) → AllZip (IsLoadedOf told) ms cs → IsLoadedOf told m c → AllZip (IsLoadedOf told) (ms ++ m ∷ []) (cs ++ c ∷ [])
  loaded_with [] [] m c all one = (one, tt)
  loaded_with [] (x ∷ cs) m c all one = absurd all
  loaded_with (x ∷ ms) [] m c all one = absurd all
  loaded_with (x ∷ ms) (y ∷ cs) m c all one = (all.0, loaded_with ms cs m c all.1 one)

  -- ---- there is one list of contents

  bytes_are : (m : ComponentState F) (c : Content) → (l : IsLoadedOf told m c) → bytes_told told m ≡ l.bytes
  bytes_are m c l = ap (λ o. unwrap_or o []) l.tells

  module _ (apart : (c d : Content) (bytes : List ℕ) → IsComponent c bytes → IsComponent d bytes → c ≡ d) where
    one_content : (m : ComponentState F) (c d : Content) → IsLoadedOf told m c → IsLoadedOf told m d → c ≡ d
    one_content m c d l k = apart c d k.bytes (subst (IsComponent c) (sym (bytes_are m c l) ∙ bytes_are m d k) l.is) k.is

    pub one_list : (ms : List (ComponentState F)) (cs ds : List Content) → AllZip (IsLoadedOf told) ms cs → AllZip (IsLoadedOf told) ms ds → cs ≡ ds
    one_list [] [] [] all other = refl
    one_list [] [] (d ∷ ds) all other = absurd other
    one_list [] (c ∷ cs) ds all other = absurd all
    one_list (m ∷ ms) [] ds all other = absurd all
    one_list (m ∷ ms) (c ∷ cs) [] all other = absurd other
    one_list (m ∷ ms) (c ∷ cs) (d ∷ ds) all other = ap (λ x. x ∷ cs) (one_content m c d all.0 other.0) ∙ ap (λ xs. d ∷ xs) (one_list ms cs ds all.1 other.1)

  -- ---- components that are right are held, and of one partition

  held_one : HoldsIndex → (m : ComponentState F) (c : Content) → IsLoadedOf told m c → IsHeld told m
  held_one holds m c l = record { bytes = l.bytes; tells = l.tells; holds = subst (Holds l.bytes) (sym l.index) (holds c l.bytes l.is) }

  pub held_all : HoldsIndex → (ms : List (ComponentState F)) (cs : List Content) → AllZip (IsLoadedOf told) ms cs → All (IsHeld told) ms
  held_all holds [] cs all = All-nil (IsHeld told)
  held_all holds (m ∷ ms) [] all = absurd all
  held_all holds (m ∷ ms) (c ∷ cs) all = All-cons (IsHeld told) m ms (held_one holds m c all.0) (held_all holds ms cs all.1)

  of_one : (part : Partition) (m : ComponentState F) (c : Content) → IsLoadedOf told m c → c.part ≡ part → IsOf part m
  of_one part m c l is = (ap (λ (i : Index). i.head.number) l.index ∙ ap (λ (p : Partition). p.number) is, ap (λ (i : Index). i.head.count) l.index ∙ ap (λ (p : Partition). p.count) is)

  pub of_all : (part : Partition) (g : ℕ) (p : Pairs) (ns : List Name) (ms : List (ComponentState F)) (cs : List Content) → AllZip (IsLoadedOf told) ms cs → GoOn part g p ns cs → All (IsOf part) ms
  of_all part g p ns [] cs all is = All-nil (IsOf part)
  of_all part g p ns (m ∷ ms) [] all is = absurd all
  of_all part g p ns (m ∷ ms) (c ∷ cs) all is = All-cons (IsOf part) m ms (of_one part m c all.0 is.0.here) (of_all part c.to (after_writes p c.entries) c.names ms cs all.1 is.1)

  -- ---- what is right is not wrong

  -- the contents of components around one
  record Around (older newer : List (ComponentState F)) (m : ComponentState F) (cs : List Content) : Type 0 where
    front : List Content
    content : Content
    back : List Content
    parts : cs ≡ front ++ content ∷ back
    loaded : AllZip (IsLoadedOf told) older front
    here : IsLoadedOf told m content

  around : (older newer : List (ComponentState F)) (m : ComponentState F) (cs : List Content) → AllZip (IsLoadedOf told) (older ++ m ∷ newer) cs → Around older newer m cs
  around [] newer m [] all = absurd all
  around [] newer m (c ∷ cs) all = record { front = []; content = c; back = cs; parts = refl; loaded = tt; here = all.0 }
  around (x ∷ older) newer m [] all = absurd all
  around (x ∷ older) newer m (c ∷ cs) all =
      let rest = around older newer m cs all.1 in
      record { front = c ∷ rest.front; content = rest.content; back = rest.back; parts = ap (λ ds. c ∷ ds) rest.parts; loaded = (all.0, rest.loaded); here = rest.here }

  module _ (apart : (c d : Content) (bytes : List ℕ) → IsComponent c bytes → IsComponent d bytes → c ≡ d) (stored : IsStoredThroughout) (part : Partition) where
    not_wrong : (cs : List Content) (m : ComponentState F) (c : Content) → IsLoadedOf told m c → GoesOn part (contents.last_of cs) (live cs) (names_of cs) c → (w : Wrong) → IsWrongBehind told cs m w → ⊥
    not_wrong cs m c l next (Record at place bytes) wrong =
        let harm = wrong.1 in
        let all : AreStoredUpTo m.index l.bytes (harm.at + 1) = subst (λ (i : Index). AreStoredUpTo i l.bytes (harm.at + 1)) (sym l.index) (stored c l.bytes (harm.at + 1) l.is) in
        let here = all harm.at harm.slot (omega arith) harm.here harm.some in
        harm.harmed (subst (IsStoredIn m.index.version m.index.names) (ap (record_at m.index.slots harm.at) (sym (bytes_are m c l)) ∙ sym harm.bytes_are) here)
    not_wrong cs m c l next (Documents at) wrong =
        let many = wrong.1 in
        let same : many.content ≡ c = one_content apart m many.content c many.loaded l in
        let long : 2 ^ 32 ≤ length (after_writes (live cs) c.entries) = subst (λ ps. 2 ^ 32 ≤ length ps) (live_with cs c) (subst (λ (d : Content). 2 ^ 32 ≤ length (live (cs ++ d ∷ []))) same many.holds) in
        absurd (omega (arith, long, next.room))
    not_wrong cs m c l next (Count at first) wrong =
        let other = wrong.1 in
        let same : other.content ≡ c = one_content apart m other.content c other.loaded l in
        let x = other.holds.1 in
        x.differ (x.kept_is ∙ shown other.content same _ _ ∙ sym x.counted_is)
      where
        shown : (d : Content) → d ≡ c → (path : Path) (t : Kind) → shows d.names d.schema path t ≡ count (values_in (live (cs ++ d ∷ []))) path t
        shown d same path t = subst (λ (e : Content). shows e.names e.schema path t ≡ count (values_in (live (cs ++ e ∷ []))) path t) (sym same)
            (next.stands.counts path t ∙ ap (λ ps. count (values_in ps) path t) (sym (live_with cs c)))

    pub no_reason : (list : List (ComponentState F)) (cs : List Content) (w : Wrong) → AreRight told part list cs → IsReason told part list w → ⊥
    no_reason list cs w right r =
        let a = around r.older r.newer r.component cs (subst (λ ms. AllZip (IsLoadedOf told) ms cs) r.parts right.loaded) in
        let same : a.front ≡ r.contents = one_list apart r.older a.front r.contents a.loaded r.right.loaded in
        let next = (GoOn-back part 0 [] [] a.front (a.content ∷ a.back) (subst (IsList part) a.parts right.listed)).0 in
        not_wrong r.contents r.component a.content a.here (subst (λ front. GoesOn part (contents.last_of front) (live front) (names_of front) a.content) same next) w r.wrong
