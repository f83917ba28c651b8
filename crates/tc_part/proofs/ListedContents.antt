-- What the listed components show of their contents, and what they are where their files are told.
use Rattle.std.proofs.Common.{rules, ◌≡◌, ◌<◌, ◌++◌, ℕ, List, [], ◌∷◌, Option, Some, None, is_some, map, length, length-append, refl, sym, ap, ◌∙◌, subst, arith}
use Rattle.std.specs.Prelude.{IfSome, IsSome}
use Rattle.std.specs.List.{AllZip}
use Rattle.std.proofs.lemmas.List.Elements.{All-head, All-tail}
use Rattle.tc_model.specs.Keyed.{on_value}
use Rattle.tc_record.specs.Record.{NumberedTree, numbered_record_in}
use Rattle.tc_compact.specs.Compacted.{compacted}
use Rattle.tc_component.specs.Loading.{ComponentState}
use Rattle.tc_component.specs.Reading.{version_of}
use Rattle.tc_component.specs.Rows.{component_index, IsIndexOf, IsComponent}
use Rattle.tc_component.specs.Spelling.{Index}
use Rattle.tc_lsm_model.specs.Contents.{Content}
use Rattle.tc_list.specs.Contents.{marks, Shows}
use Rattle.tc_component.specs.Loaded.{IsLoadedOf}
use Rattle.tc_list.proofs.LoadedContents.{marks_are}
use Rattle.tc_part_model.specs.Meaning.{IsOfContent}
use Rattle.tc_part_model.specs.PartState.{ToldComponent, told_component, AreTold}

some_behind : (xs ys : List ℕ) (y : ℕ) → 0 < length (xs ++ y ∷ ys)
some_behind xs ys y = omega (arith, length-append xs (y ∷ ys))

some_record : (version : ℕ) (n : NumberedTree) → 0 < length (numbered_record_in version n)
some_record version n = search (rules, some_behind)

shows : {F : Type 0} (m : ComponentState F) (c : Content) → IsIndexOf m.index c → Shows m c
shows m c is =
    subst (λ (i : Index). marks i.slots ≡ map (on_value is_some) c.entries) (sym is) (marks_are m.index.version c.names c.entries (λ at key d here. some_record m.index.version (compacted c.names d)))

pub all_show : {F : Type 0} (told : F → Option (List ℕ)) (ms : List (ComponentState F)) (cs : List Content) → AllZip IsOfContent (map (told_component told) ms) cs → AllZip Shows ms cs
all_show told [] [] all = tt
all_show told [] (c ∷ cs) all = absurd all
all_show told (m ∷ ms) [] all = absurd all
all_show told (m ∷ ms) (c ∷ cs) all = (shows m c all.0.index, all_show told ms cs all.1)

loaded : {F : Type 0} (told : F → Option (List ℕ)) (m : ComponentState F) (c : Content) → IsOfContent (told_component told m) c → IsSome (told m.file) → IsLoadedOf told m c
loaded told m c of some = at (told m.file) refl of.file of.version some
  where
    at : (o : Option (List ℕ)) → told m.file ≡ o → IfSome o (λ bytes. IsComponent c bytes) → IfSome o (λ bytes. m.index.version ≡ version_of bytes) → IsSome o → IsLoadedOf told m c
    at None is file version some = absurd (cc)
    at (Some bytes) is file version some = record { bytes = bytes; tells = is; is = file; index = of.index ∙ ap (λ (v : ℕ). component_index v c) version }

pub all_loaded : {F : Type 0} (told : F → Option (List ℕ)) (ms : List (ComponentState F)) (cs : List Content) → AllZip IsOfContent (map (told_component told) ms) cs → AreTold (map (told_component told) ms)
    → AllZip (IsLoadedOf told) ms cs
all_loaded told [] [] all some = tt
all_loaded told [] (c ∷ cs) all some = absurd all
all_loaded told (m ∷ ms) [] all some = absurd all
all_loaded told (m ∷ ms) (c ∷ cs) all some = (
  loaded told m c all.0 (All-head (λ (c : ToldComponent). IsSome c.content) (told_component told m) (map (told_component told) ms) some),
  all_loaded told ms cs all.1 (All-tail (λ (c : ToldComponent). IsSome c.content) (told_component told m) (map (told_component told) ms) some),
)

-- so it is of what they have beside their records
pub all_indices : {F : Type 0} (told : F → Option (List ℕ)) (ms : List (ComponentState F)) (cs : List Content) → AllZip IsOfContent (map (told_component told) ms) cs → AllZip (λ (m : ComponentState F) c. IsIndexOf m.index c) ms cs
all_indices told [] [] all = tt
all_indices told [] (c ∷ cs) all = absurd all
all_indices told (m ∷ ms) [] all = absurd all
all_indices told (m ∷ ms) (c ∷ cs) all = (all.0.index, all_indices told ms cs all.1)
