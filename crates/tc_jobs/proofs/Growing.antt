-- Names that go on from one another, in the parts of a list and in a list with one component more.
use Rattle.std.proofs.Common.{◌≡◌, ◌∙◌, ◌+◌, ℕ, List, [], ◌∷◌, ◌++◌, map, take, drop, refl, sym, ap, subst}
use Rattle.std.specs.Prelude.{◌↔◌, IsTrue, Bool, true, false}
use Rattle.std.proofs.lemmas.List.{map-append, take-append-drop}
use Rattle.std.proofs.lemmas.List.Elements.{All-append, All-cons, All-drop, All-push, All-take}
use Rattle.tc_model.specs.Document.{Name}
use Rattle.tc_model.specs.Dictionary.{Extends}
use Rattle.tc_schema_model.specs.Counted.{Counted, nothing}
use Rattle.tc_component.specs.Loading.{ComponentState}
use Rattle.tc_list.specs.declared.run.Run.{Run}
use Rattle.tc_list.specs.Runs.{swapped}
use Rattle.tc_merge.specs.Merging.{GrowNames, newest_names, newest_schema}
use Rattle.tc_jobs.specs.Lists.{FirstExtends, GoesBetween, IsListOf, IsOf}

-- ---- the newest of a list

newest_names-push : {F : Type 0} (names : List Name) (cs : List (ComponentState F)) (c : ComponentState F) → newest_names names (cs ++ c ∷ []) ≡ c.index.names
newest_names-push names [] c = refl
newest_names-push names (d ∷ cs) c = newest_names-push d.index.names cs c

newest_schema-push : {F : Type 0} (schema : Counted) (cs : List (ComponentState F)) (c : ComponentState F) → newest_schema schema (cs ++ c ∷ []) ≡ c.index.schema
newest_schema-push schema [] c = refl
newest_schema-push schema (d ∷ cs) c = newest_schema-push d.index.schema cs c

pub last_names : {A F : Type 0} (f : A → ComponentState F) (all older : List A) (newest : A) → all ≡ older ++ newest ∷ [] → newest_names [] (map f all) ≡ (f newest).index.names
last_names f all older newest is = ap (λ xs. newest_names [] (map f xs)) is ∙ ap (newest_names []) (map-append f older (newest ∷ [])) ∙ newest_names-push [] (map f older) (f newest)

pub last_schema : {A F : Type 0} (f : A → ComponentState F) (all older : List A) (newest : A) → all ≡ older ++ newest ∷ [] → newest_schema nothing (map f all) ≡ (f newest).index.schema
last_schema f all older newest is = ap (λ xs. newest_schema nothing (map f xs)) is ∙ ap (newest_schema nothing) (map-append f older (newest ∷ [])) ∙ newest_schema-push nothing (map f older) (f newest)

pub extends_nothing : (names : List Name) → IsTrue true ↔ Extends names []
extends_nothing names = ((λ yes. (names, refl)), λ extends. refl)

-- ---- parts of a list

grow_append : {F : Type 0} (names : List Name) (xs ys : List (ComponentState F)) → GrowNames names xs → GrowNames (newest_names names xs) ys → GrowNames names (xs ++ ys)
grow_append names [] ys front back = back
grow_append names (x ∷ xs) ys front back = (front.0, grow_append x.index.names xs ys front.1 back)

grow_front : {F : Type 0} (names : List Name) (xs ys : List (ComponentState F)) → GrowNames names (xs ++ ys) → GrowNames names xs
grow_front names [] ys grow = tt
grow_front names (x ∷ xs) ys grow = (grow.0, grow_front x.index.names xs ys grow.1)

grow_back : {F : Type 0} (names : List Name) (xs ys : List (ComponentState F)) → GrowNames names (xs ++ ys) → GrowNames (newest_names names xs) ys
grow_back names [] ys grow = grow
grow_back names (x ∷ xs) ys grow = grow_back x.index.names xs ys grow.1

grow_from : {F : Type 0} (names older : List Name) (cs : List (ComponentState F)) → FirstExtends names cs → GrowNames older cs → GrowNames names cs
grow_from names older [] first grow = tt
grow_from names older (c ∷ cs) first grow = (first, grow.1)

extends_none : {F : Type 0} (cs : List (ComponentState F)) → FirstExtends [] cs
extends_none [] = tt
extends_none (c ∷ cs) = (c.index.names, refl)

pub grow_take : {F : Type 0} (n : ℕ) (cs : List (ComponentState F)) → GrowNames [] cs → GrowNames [] (take n cs)
grow_take n cs grow = grow_front [] (take n cs) (drop n cs) (subst (GrowNames []) (sym (take-append-drop n cs)) grow)

grow_behind : {F : Type 0} (n : ℕ) (cs : List (ComponentState F)) → GrowNames [] cs → GrowNames (newest_names [] (take n cs)) (drop n cs)
grow_behind n cs grow = grow_back [] (take n cs) (drop n cs) (subst (GrowNames []) (sym (take-append-drop n cs)) grow)

pub grow_drop : {F : Type 0} (n : ℕ) (cs : List (ComponentState F)) → GrowNames [] cs → GrowNames [] (drop n cs)
grow_drop n cs grow = grow_from [] (newest_names [] (take n cs)) (drop n cs) (extends_none (drop n cs)) (grow_behind n cs grow)

-- ---- one component more

pub listed_behind : {F : Type 0} (number count : ℕ) (cs : List (ComponentState F)) (c : ComponentState F) → Extends c.index.names (newest_names [] cs) → IsListOf number count cs → IsOf number count c → IsListOf number count (cs ++ c ∷ [])
listed_behind number count cs c extends listed of = record {
  each = All-push (IsOf number count) cs c listed.each of;
  names = grow_append [] cs (c ∷ []) listed.names (extends, tt);
}

pub listed_between : {F : Type 0} (number count : ℕ) (run : Run) (cs : List (ComponentState F)) (c : ComponentState F) → GoesBetween (take run.first cs) c (drop (run.last + 1) cs)
    → IsListOf number count cs → IsOf number count c → IsListOf number count (swapped run c cs)
listed_between number count run cs c between listed of =
    let older = take run.first cs in
    let newer = drop (run.last + 1) cs in
    record {
      each = All-append (IsOf number count) older (c ∷ newer) (All-take (IsOf number count) run.first cs listed.each)
          (All-cons (IsOf number count) c newer of (All-drop (IsOf number count) (run.last + 1) cs listed.each));
      names = grow_append [] older (c ∷ newer) (grow_take run.first cs listed.names)
          (between.0, grow_from c.index.names (newest_names [] (take (run.last + 1) cs)) newer between.1 (grow_behind (run.last + 1) cs listed.names));
    }

-- ---- between two parts of a list

pub between_is : {F : Type 0} (older newer : List (ComponentState F)) (c : ComponentState F) (names : List Name) (front back : Bool) → names ≡ c.index.names
    → (IsTrue front ↔ Extends names (newest_names [] older)) → (IsTrue back ↔ FirstExtends names newer) → front ≡ true → (IsTrue back ↔ GoesBetween older c newer)
between_is older newer c names front back same first last goes_on =
    subst (λ ns. IsTrue back ↔ (Extends ns (newest_names [] older) × FirstExtends ns newer)) same ((λ goes. (first.0 goes_on, last.0 goes)), λ between. last.1 between.1)

pub between_not : {F : Type 0} (older newer : List (ComponentState F)) (c : ComponentState F) (names : List Name) (front : Bool) → names ≡ c.index.names
    → (IsTrue front ↔ Extends names (newest_names [] older)) → front ≡ false → (IsTrue front ↔ GoesBetween older c newer)
between_not older newer c names front same first stops =
    subst (λ ns. IsTrue front ↔ (Extends ns (newest_names [] older) × FirstExtends ns newer)) same ((λ goes. absurd (cc)), λ between. first.1 between.0)
