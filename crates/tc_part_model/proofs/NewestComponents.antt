-- The newest component that was loaded has the names, the schema and the last generation of a list.
use Rattle.std.proofs.Common.{◌≡◌, ◌+◌, ◌++◌, ℕ, List, [], ◌∷◌, refl, ap, Option, Some}
use Rattle.std.specs.List.{AllZip}
use Rattle.tc_model.specs.Document.{Name}
use Rattle.tc_schema_model.specs.Counted.{Counted}
use Rattle.tc_component.specs.Spelling.{Index}
use Rattle.tc_lsm_model.specs.Contents.{Content}
use Rattle.tc_lsm_model.specs.Lists.{last_after, newest_names, newest_schema}
use Rattle.tc_part_model.specs.Meaning.{IsOfContent}
use Rattle.tc_part_model.specs.Newest.{names_by, newest_index, next_by, schema_by}
use Rattle.tc_part_model.specs.PartState.{ToldComponent}

pub newest_last : (before : Option Index) (older : List ToldComponent) (c : ToldComponent) → newest_index before (older ++ c ∷ []) ≡ Some c.index
newest_last before [] c = refl
newest_last before (d ∷ older) c = newest_last (Some d.index) older c

pub names_are : (o : Option Index) (names : List Name) (cs : List ToldComponent) (list : List Content) → names_by o ≡ names → AllZip IsOfContent cs list → names_by (newest_index o cs) ≡ newest_names names list
names_are o names [] [] is all = is
names_are o names [] (c ∷ list) is all = absurd all
names_are o names (t ∷ cs) [] is all = absurd all
names_are o names (t ∷ cs) (c ∷ list) is all = names_are (Some t.index) c.names cs list (ap (λ (i : Index). i.names) all.0.index) all.1

pub schema_is : (o : Option Index) (d : Counted) (cs : List ToldComponent) (list : List Content) → schema_by o ≡ d → AllZip IsOfContent cs list → schema_by (newest_index o cs) ≡ newest_schema d list
schema_is o d [] [] is all = is
schema_is o d [] (c ∷ list) is all = absurd all
schema_is o d (t ∷ cs) [] is all = absurd all
schema_is o d (t ∷ cs) (c ∷ list) is all = schema_is (Some t.index) c.schema cs list (ap (λ (i : Index). i.schema) all.0.index) all.1

pub next_is : (o : Option Index) (g : ℕ) (cs : List ToldComponent) (list : List Content) → next_by o ≡ g + 1 → AllZip IsOfContent cs list → next_by (newest_index o cs) ≡ last_after g list + 1
next_is o g [] [] is all = is
next_is o g [] (c ∷ list) is all = absurd all
next_is o g (t ∷ cs) [] is all = absurd all
next_is o g (t ∷ cs) (c ∷ list) is all = next_is (Some t.index) c.to cs list (ap (λ (i : Index). i.head.to + 1) all.0.index) all.1
