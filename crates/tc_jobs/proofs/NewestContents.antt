-- The newest names and schema of components are those of the contents that they have.
use Rattle.std.proofs.Common.{◌≡◌, ◌∙◌, List, [], ◌∷◌, refl, ap}
use Rattle.std.specs.List.{AllZip}
use Rattle.tc_model.specs.Document.{Name}
use Rattle.tc_schema_model.specs.Counted.{Counted}
use Rattle.tc_component.specs.Loading.{ComponentState}
use Rattle.tc_component.specs.Rows.{IsIndexOf}
use Rattle.tc_component.specs.Spelling.{Index}
use Rattle.tc_lsm_model.specs.Contents.{Content}
use Rattle.tc_lsm_model.specs.Lists.{newest_names as contents_names, newest_schema as contents_schema}
use Rattle.tc_merge.specs.Merging.{newest_names, newest_schema}

-- it has beside its records what the content has
abbrev pub HasIndexOf : {F : Type 0} → ComponentState F → Content → Type 0
HasIndexOf m c = IsIndexOf m.index c

pub same_names : {F : Type 0} (names : List Name) (ms : List (ComponentState F)) (cs : List Content) → AllZip HasIndexOf ms cs → newest_names names ms ≡ contents_names names cs
same_names names [] [] all = refl
same_names names [] (c ∷ cs) all = absurd all
same_names names (m ∷ ms) [] all = absurd all
same_names names (m ∷ ms) (c ∷ cs) all = ap (λ (i : Index). newest_names i.names ms) all.0 ∙ same_names c.names ms cs all.1

pub same_schema : {F : Type 0} (schema : Counted) (ms : List (ComponentState F)) (cs : List Content) → AllZip HasIndexOf ms cs → newest_schema schema ms ≡ contents_schema schema cs
same_schema schema [] [] all = refl
same_schema schema [] (c ∷ cs) all = absurd all
same_schema schema (m ∷ ms) [] all = absurd all
same_schema schema (m ∷ ms) (c ∷ cs) all = ap (λ (i : Index). newest_schema i.schema ms) all.0 ∙ same_schema c.schema ms cs all.1
