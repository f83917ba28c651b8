-- What is found of a component whose entries are all counted.
use Rattle.std.proofs.Common.{◌≡◌, ◌∙◌, ◌<◌, ◌≤◌, ◌+◌, ◌^◌, ◌⊎◌, ℕ, List, [], ◌∷◌, ◌++◌, Option, length, take, drop, refl, sym, ap, subst, arith, inl, inr}
use Rattle.std.proofs.lemmas.Bool.{cases_lt}
use Rattle.std.proofs.lemmas.List.{length-map, take_all}
use Rattle.std.proofs.lemmas.Slice.Zip.{AllZip-long}
use Rattle.tc_model.specs.Dictionary.{Extends}
use Rattle.tc_model.specs.Keyed.{values_in}
use Rattle.tc_plain_model.specs.Writes.{after_writes}
use Rattle.tc_lsm_model.specs.Contents.{Partition, Content}
use Rattle.tc_lsm_model.specs.Lists.{live, names_of, schema_of}
use Rattle.tc_lsm_model.proofs.ListLaws.{Ascends-live}
use Rattle.tc_lsm_model.proofs.ListNewest.{newest_of_list}
use Rattle.tc_schema_model.specs.Counted.{Counted, documents_of}
use Rattle.tc_schema_model.specs.Stands.{StandsFor}
use Rattle.tc_component.specs.Loaded.{IsLoadedOf}
use Rattle.tc_component.specs.Loading.{ComponentState}
use Rattle.tc_component.specs.Rows.{component_index, IsComponent, IsIndexOf}
use Rattle.tc_component.specs.Spelling.{Index, IsIndex}
use Rattle.tc_component.proofs.Versions.{holds_version}
use Rattle.tc_difference.specs.Differences.{IsFirstDifference}
use Rattle.tc_difference.specs.Found.{found_meant}
use Rattle.tc_list.specs.Intervals as intervals
use Rattle.tc_merge.specs.Merging.{newest_names}
use Rattle.tc_audit.specs.declared.verdict.Wrong.{Wrong}
use Rattle.tc_audit.specs.declared.verdict.Wrong.TheVariants.{Record, Documents, Count}
use Rattle.tc_audit.specs.Reasons.{AreRight, IsWrongBehind}
use Rattle.tc_audit.specs.Told.{content_in, IsOf}
use Rattle.tc_audit.specs.Walking.{documents_among, IsMiscount, IsUpTo, Tells}
use Rattle.tc_audit.proofs.ContentLaws.{ReadsMeant, keys_in, made}
use Rattle.tc_audit.proofs.ManyLive.{many_live}
use Rattle.tc_audit.proofs.RightLists.{list_with, live_with, loaded_with, last_loaded, names_loaded}
use Rattle.tc_audit.proofs.Rooms.{pairs_counted, stands_newer}
use Rattle.tc_audit.proofs.WalkSteps.{ascending, up_to_start}

-- what is live in a list is what its schema counts, also under names that go on
pub starts_right : {F : Type 0} (told : F → Option (List ℕ)) (part : Partition) (older : List (ComponentState F)) (cs : List Content) (c : Index) (whole : List ℕ) (schema : Counted) → AreRight told part older cs → schema ≡ schema_of cs
    → IsIndex c → Extends c.names (newest_names [] older) → IsUpTo c whole (live cs) 0 schema 0
starts_right told part older cs c whole schema right same lawful extends =
    let further : Extends c.names (names_of cs) = subst (Extends c.names) (names_loaded told [] older cs right.loaded) extends in
    up_to_start c whole (live cs) schema
    (subst (λ d. StandsFor c.names d (values_in (live cs))) (sym same) (stands_newer c.names (names_of cs) (schema_of cs) (values_in (live cs)) further lawful.names (newest_of_list part cs right.listed).stands))

-- either so many entries have a document, or what is counted is what is live
many_either : (bound gained counted living : ℕ) → (bound ≤ gained → bound ≤ living) → (gained ≤ bound → counted ≡ living) → bound ≤ counted → bound ≤ living
many_either bound gained counted living by_gained by_count many = cases (cases_lt bound gained)
  where
    cases : (bound < gained) ⊎ (gained ≤ bound) → bound ≤ living
    cases (inl more) = by_gained (omega (arith, more))
    cases (inr few) = omega (arith, many, by_count few)

module _ {F : Type 0} (told : F → Option (List ℕ)) (reads : ReadsMeant) (part : Partition) (older : List (ComponentState F)) (cs : List Content) (m : ComponentState F) (whole : List ℕ) (counted : Counted) (gained : ℕ) where
  module _ (right : AreRight told part older cs) (tells : Tells told m whole) (lawful : IsIndex m.index) (u : IsUpTo m.index whole (live cs) (length m.index.slots) counted gained) where
    is_component : IsComponent (content_in m.index whole) whole × IsIndexOf m.index (content_in m.index whole)
    is_component = made reads m.index whole tells.1 u.stored

    loaded : IsLoadedOf told m (content_in m.index whole)
    loaded = record { bytes = whole; tells = tells.0; is = is_component.0; index = is_component.1 ∙ ap (λ v. component_index v (content_in m.index whole)) (sym (holds_version whole m.index tells.1)) }

    all_taken : take (length m.index.slots) (content_in m.index whole).entries ≡ (content_in m.index whole).entries
    all_taken =
        let keys = ap length (keys_in m.index.names m.index.slots (drop 61 whole)) in
        take_all (length m.index.slots) (content_in m.index whole).entries
        (omega (arith, keys, length-map m.index.slots (λ s. s.key), length-map (content_in m.index whole).entries (λ w. w.0)))

    stands : gained ≤ 2 ^ 32 → StandsFor m.index.names counted (values_in (after_writes (live cs) (content_in m.index whole).entries))
    stands few = subst (λ ws. StandsFor m.index.names counted (values_in (after_writes (live cs) ws))) all_taken (u.stands few)

    live_is : live (cs ++ content_in m.index whole ∷ []) ≡ after_writes (live cs) (content_in m.index whole).entries
    live_is = live_with cs (content_in m.index whole)

    many_by_gained : 2 ^ 32 ≤ gained → 2 ^ 32 ≤ length (live (cs ++ content_in m.index whole ∷ []))
    many_by_gained many =
        let all = ap documents_among all_taken in
        let live_many = many_live (content_in m.index whole).entries (live cs) (ascending m.index whole (live cs) (Ascends-live cs) lawful) in
        omega (arith, many, u.gained_is, all, live_many, ap length live_is)

    as_counted : gained ≤ 2 ^ 32 → documents_of counted ≡ length (live (cs ++ content_in m.index whole ∷ []))
    as_counted few = pairs_counted m.index.names counted (after_writes (live cs) (content_in m.index whole).entries) (stands few) ∙ ap length (sym live_is)

    many_by_count : 2 ^ 32 ≤ documents_of counted → 2 ^ 32 ≤ length (live (cs ++ content_in m.index whole ∷ []))
    many_by_count many = many_either (2 ^ 32) gained (documents_of counted) (length (live (cs ++ content_in m.index whole ∷ []))) many_by_gained as_counted many

    -- too many documents, or a schema that counts otherwise
    pub miscount_behind : (number : ℕ) (w : Wrong) → number ≡ length cs → IsMiscount number m.index counted gained w → IsWrongBehind told cs m w
    miscount_behind number (Record at place bytes) number_is miscount = absurd miscount
    miscount_behind number (Documents at) number_is (at_is, inl many) = (at_is ∙ number_is, record { content = content_in m.index whole; loaded = loaded; holds = many_by_gained many })
    miscount_behind number (Documents at) number_is (at_is, inr many) = (at_is ∙ number_is, record { content = content_in m.index whole; loaded = loaded; holds = many_by_count many })
    miscount_behind number (Count at first) number_is miscount =
        let some : gained < 2 ^ 32 = miscount.1 in
        let short : documents_of counted < 2 ^ 32 = miscount.2 in
        let few : gained ≤ 2 ^ 32 = omega (arith, some) in
        let differs : IsFirstDifference m.index.names m.index.schema (values_in (after_writes (live cs) (content_in m.index whole).entries)) (found_meant first) =
        miscount.3 (values_in (after_writes (live cs) (content_in m.index whole).entries)) (stands few) in (
          miscount.0 ∙ number_is,
          record {
            content = content_in m.index whole;
            loaded = loaded;
            holds = (
              omega (arith, short, as_counted few),
              subst (λ ps. IsFirstDifference m.index.names m.index.schema (values_in ps) (found_meant first)) (sym live_is) differs,
            );
          },
        )

    -- and where the schema is the component's own, and few documents are live, they are right with it
    pub right_behind : counted ≡ m.index.schema → gained < 2 ^ 32 → documents_of counted < 2 ^ 32 → IsOf part m → m.index.head.from ≡ intervals.last_of older + 1 → Extends m.index.names (newest_names [] older)
        → AreRight told part (older ++ m ∷ []) (cs ++ content_in m.index whole ∷ [])
    right_behind same few short of next extends =
        let standing : StandsFor m.index.names counted (values_in (after_writes (live cs) (content_in m.index whole).entries)) = stands (omega (arith, few)) in
        record {
          loaded = loaded_with told older cs m (content_in m.index whole) right.loaded loaded;
          listed = list_with part cs (content_in m.index whole) right.listed (record {
            content = is_component.0.content;
            here = rw (of.0, of.1) refl;
            next = next ∙ ap (λ n. n + 1) (last_loaded told 0 older cs right.loaded);
            extends = subst (Extends m.index.names) (names_loaded told [] older cs right.loaded) extends;
            stands = subst (λ d. StandsFor m.index.names d (values_in (after_writes (live cs) (content_in m.index whole).entries))) same standing;
            room = omega (arith, short, pairs_counted m.index.names counted (after_writes (live cs) (content_in m.index whole).entries) standing);
          });
        }

pub as_many : {F : Type 0} (told : F → Option (List ℕ)) (older : List (ComponentState F)) (cs : List Content) (part : Partition) → AreRight told part older cs → length older ≡ length cs
as_many told older cs part right = sym (AllZip-long (IsLoadedOf told) older cs right.loaded)
