-- Engines that stand at a world that may not be known, behind each call.
use Rattle.std.proofs.Common.{◌≡◌, ◌∙◌, ◌<◌, ℕ, suc, true, List, [], ◌∷◌, length, map, refl, sym, ap, subst, inl}
use Rattle.std.specs.List.{AllByRecursion}
use Rattle.std.specs.Prelude.{Option, Some, None, Result, Ok, Err, IfOk, OnErr, OnOk, slice_get, zip}
use Rattle.std.proofs.lemmas.Simd.{map-map}
use Rattle.serde_json.specs.Written.{compact_text}
use Rattle.tc_keeper.specs.EngineFaults.{IfOf, StopsFirst}
use Rattle.tc_keeper.specs.Moving.{HasFailedMoving, StopsAt}
use Rattle.tc_keeper.specs.Places.{AtEach}
use Rattle.tc_keeper.specs.SchemaTexts.{AreJsonTexts}
use Rattle.tc_keeper.specs.Standing.{partition_at, HoldsPart, HoldWorld, IsSeen, KeepsPart, KeepWorlds}
use Rattle.tc_keeper.specs.WithJobs.{told_of, works_of, WithJobs}
use Rattle.tc_keeper.specs.declared.engines_fault.EnginesFault.{EnginesFault}
use Rattle.tc_keeper.specs.declared.engines_fault.EnginesFault.TheVariants as engines
use Rattle.tc_keeper.proofs.PlaceLaws.{at_each-so}
use Rattle.tc_model.specs.Keyed.{Keyed, values_in, on_value}
use Rattle.tc_request_model.specs.Rendered.{Rendered, rendered}
use Rattle.tc_request_model.specs.Rendered as renders
use Rattle.tc_request_model.specs.Reply.{Reply, schemas}
use Rattle.tc_request_model.specs.Request.{Request, upsert, delete, get, query, flush, schema, scan, collect, refused}
use Rattle.tc_schema_model.specs.SchemaText.{schema_text}
use Rattle.tc_plain_model.specs.Room.{Limits}
use Rattle.tc_plain_model.specs.Store.{documents}
use Rattle.tc_lsm_model.specs.Contents.{Partition}
use Rattle.tc_part_model.specs.PartState.{Told}
use Rattle.tc_part_model.specs.PartView.{PartView}
use Rattle.tc_run_model.specs.Kinds.{AreRenderedOfKinds}
use Rattle.tc_run_model.specs.Known.{MayRender}
use Rattle.tc_command.specs.Commands.{request_of_command}
use Rattle.tc_run_model.specs.Replies.{replies_to, reply_to}
use Rattle.tc_run_model.specs.World.{Part, World, after, after_all}
use Rattle.tc_run_model.proofs.KindLaws.{kinds_rendered}
use Rattle.tc_run_model.proofs.ReplyLaws.{AreReplies-replies_to, IsNoCollect}
use Rattle.tc_route.specs.Answers.{window_answered}
use Rattle.tc_route.specs.Meaning.{routed_of}
use Rattle.tc_route.specs.declared.placed.Routed.{Routed}
use Rattle.tc_work.specs.Asked.{requests_in}
use Rattle.tc_work.specs.Faults.{IfDamaged}
use Rattle.tc_work.specs.Moving.{told_part, Eyes}
use Rattle.tc_work.specs.declared.fault.EngineFault.{EngineFault}
use Rattle.tc_work.specs.declared.fault.EngineFault.TheVariants as engine
use Rattle.tc_keeper.specs.Together.{IsForPart, requests_routed}
use Rattle.tc_keeper.specs.Faults.{fault_of_engine, IsNoDamage}
use Rattle.tc_keeper.specs.Partitions.{fault_of_engines, window_fault_at, window_fault_of, StandAt}
use Rattle.tc_keeper.specs.Sight.{nothing, sees, sight_after, whole_of, Sight}
use Rattle.tc_keeper.proofs.EachLaws.{at_each-at, there}
use Rattle.tc_keeper.proofs.WindowLengths.{requests_same}

-- a call that fails behind one that did not
pub err_always : {T E P : Type 0} (r : Result T E) → P → OnErr r P
err_always (Ok x) p = tt
err_always (Err e) p = p

pub ok_always : {T E P : Type 0} (r : Result T E) → P → OnOk r P
ok_always (Ok x) p = p
ok_always (Err e) p = tt

-- ---- replies

no_collect : (r : Request) → IsForPart r → IsNoCollect r
no_collect (upsert n d) is = tt
no_collect (delete n) is = tt
no_collect (get n) is = tt
no_collect (query ask) is = tt
no_collect flush is = absurd is
no_collect schema is = absurd is
no_collect (scan ask) is = absurd is
no_collect collect is = absurd is
no_collect (refused r) is = absurd is

no_collects : (rs : List Request) → AllByRecursion IsForPart rs → AllByRecursion IsNoCollect rs
no_collects [] all = tt
no_collects (r ∷ rs) all = (no_collect r all.0, no_collects rs all.1)

answered_values : (list : List Routed) (w : World) → values_in (window_answered (map routed_of list) w) ≡ replies_to (requests_routed list) w
answered_values [] w = refl
answered_values (r ∷ list) w = ap (λ replies. reply_to (request_of_command r.command) w ∷ replies) (answered_values list (after (request_of_command r.command) w))

values_rendered : (replies : Keyed Reply) → values_in (map (on_value rendered) replies) ≡ map rendered (values_in replies)
values_rendered [] = refl
values_rendered (a ∷ replies) = ap (λ more. rendered a.1 ∷ more) (values_rendered replies)

pub window_replied : {S D F W : Type 0} (eyes : Eyes S D F W) (es : List (WithJobs S D F W)) (list : List Routed) (known : Sight) (texts : Keyed Rendered) → StandAt eyes es known → AllByRecursion IsForPart (requests_routed list) → AreRenderedOfKinds (requests_in list) (values_in texts)
    → ((w : World) → HoldWorld eyes None es w → texts ≡ map (on_value rendered) (window_answered (map routed_of list) w)) → MayRender (requests_routed list) (whole_of known) (values_in texts)
window_replied eyes es list nothing texts stands for_parts kinds exact =
    kinds_rendered (requests_routed list) (values_in texts) (subst (λ rs. AreRenderedOfKinds rs (values_in texts)) (requests_same list) kinds)
window_replied eyes es list (sees (Some p) w) texts stands for_parts kinds exact =
    kinds_rendered (requests_routed list) (values_in texts) (subst (λ rs. AreRenderedOfKinds rs (values_in texts)) (requests_same list) kinds)
window_replied eyes es list (sees None w) texts stands for_parts kinds exact = (
  replies_to (requests_routed list) w,
  AreReplies-replies_to (requests_routed list) w (no_collects (requests_routed list) for_parts),
  ap values_in (exact w stands) ∙ values_rendered (window_answered (map routed_of list) w) ∙ ap (map rendered) (answered_values list w),
)

-- texts of JSON values are of the kind of schemas
schemas_rendered : (texts : List (List ℕ)) → AreJsonTexts texts → MayRender (schema ∷ []) None (renders.schemas texts ∷ [])
schemas_rendered texts are = (schemas are.0 ∷ [], ((are.0, refl), tt), ap (λ ts. renders.schemas ts ∷ []) are.1)

-- the schemas of the partitions, behind a flush
pub schemas_replied : {S D F W E : Type 0} (eyes : Eyes S D F W) (es : List (WithJobs S D F W)) (known : Sight) (r : Result (List (List ℕ)) E) → StandAt eyes es known → IfOk r AreJsonTexts
    → ((w : World) → HoldWorld eyes None es w → IfOk r (λ shown. shown ≡ map (λ part. compact_text (schema_text (documents part.now))) w.parts)) → IfOk r (λ shown. MayRender (schema ∷ []) (whole_of known) (renders.schemas shown ∷ []))
schemas_replied eyes es nothing (Ok shown) stands json exact = schemas_rendered shown json
schemas_replied eyes es (sees (Some p) w) (Ok shown) stands json exact = schemas_rendered shown json
schemas_replied eyes es (sees None w) (Ok shown) stands json exact =
    (reply_to schema w ∷ [], (refl, tt), ap (λ texts. renders.schemas texts ∷ []) (exact w stands ∙ sym (map-map compact_text (λ part. schema_text (documents part.now)) w.parts)))
schemas_replied eyes es known (Err e) stands json exact = tt

-- ---- what is left

pub on_ok : {T E P : Type 0} (r : Result T E) (x : T) → r ≡ Ok x → OnOk r P → P
on_ok {P = P} r x is p = subst (λ r. OnOk r P) is p

pub on_err : {T E P : Type 0} (r : Result T E) (e : E) → r ≡ Err e → OnErr r P → P
on_err {P = P} r e is p = subst (λ r. OnErr r P) is p

-- behind requests the engines stand at what these leave
pub stand_after : {S D F W : Type 0} (eyes : Eyes S D F W) (es es' : List (WithJobs S D F W)) (rs : List Request) (known : Sight) → StandAt eyes es known → ((only : Option ℕ) (w : World) → HoldWorld eyes only es w → HoldWorld eyes only es' (after_all rs w)) → StandAt eyes es' (sight_after rs known)
stand_after eyes es es' rs nothing stands held = tt
stand_after eyes es es' rs (sees only w) stands held = held only w stands

-- and where nothing was asked at the same world
pub stand_still : {S D F W : Type 0} (eyes : Eyes S D F W) (es es' : List (WithJobs S D F W)) (known : Sight) → StandAt eyes es known → ((only : Option ℕ) (w : World) → HoldWorld eyes only es w → HoldWorld eyes only es' w) → StandAt eyes es' known
stand_still eyes es es' nothing stands held = tt
stand_still eyes es es' (sees only w) stands held = held only w stands

-- a schema asks for a flush
pub schema_flushes : (known : Sight) → sight_after (flush ∷ []) known ≡ sight_after (schema ∷ []) known
schema_flushes nothing = refl
schema_flushes (sees only w) = refl

-- what stands behind a flush stands before it too
unflushed_part : (Works : PartView → Type 0) (t : Told) (limits : Limits) (here : Partition) (w : World) (part : Part) → HoldsPart Works t limits here (record w { flushed = true }) part → HoldsPart Works t limits here w part
unflushed_part Works t limits here w part h = record {
  view = h.view;
  is = h.is;
  of_number = h.of_number;
  tells = h.tells;
  unstaged = h.unstaged;
  jobs = h.jobs;
  stores = h.stores;
  under = h.under;
  flushed = λ flushed. h.flushed refl;
}

pub unflushed : {S D F W : Type 0} (eyes : Eyes S D F W) (only : Option ℕ) (es : List (WithJobs S D F W)) (w : World) → HoldWorld eyes only es (record w { flushed = true }) → HoldWorld eyes only es w
unflushed eyes only es w h = record {
  each = at_each-so (λ p e part. IsSeen only p → HoldsPart (works_of eyes e) (told_of eyes e) e.engine.part.limits (partition_at p (length w.parts))
      (record w { flushed = true }) part) (λ p e part. IsSeen only p
      → HoldsPart (works_of eyes e) (told_of eyes e) e.engine.part.limits (partition_at p (length w.parts)) w part) 0 es w.parts
      (λ p e part held seen. unflushed_part (works_of eyes e) (told_of eyes e) e.engine.part.limits (partition_at p (length w.parts)) w part (held seen)) h.each;
  own = h.own;
}

pub unflushed_stands : {S D F W : Type 0} (eyes : Eyes S D F W) (es : List (WithJobs S D F W)) (known : Sight) → StandAt eyes es (sight_after (flush ∷ []) known) → StandAt eyes es known
unflushed_stands eyes es nothing stands = tt
unflushed_stands eyes es (sees only w) stands = unflushed eyes only es w stands

-- what is held is kept
pub held_keeps : {S D F W : Type 0} (eyes : Eyes S D F W) (only : Option ℕ) (es : List (WithJobs S D F W)) (w : World) → HoldWorld eyes only es w → KeepWorlds eyes only es w w
held_keeps {S = S} {D = D} {F = F} {W = W} eyes only es w h = beside 0 es w.parts h.each
  where
    beside : (n : ℕ) (es : List (WithJobs S D F W)) (parts : List Part) → AtEach (λ p e part. IsSeen only p → HoldsPart (works_of eyes e) (told_of eyes e) e.engine.part.limits (partition_at p (length w.parts)) w part) n es parts
        → AtEach (λ p e both. IsSeen only p → KeepsPart (works_of eyes e) (told_of eyes e) e.engine.part.limits (partition_at p (length w.parts)) w w both.0 both.1) n es (zip parts parts)
    beside n [] [] each = tt
    beside n [] (part ∷ parts) each = absurd each
    beside n (e ∷ es) [] each = absurd each
    beside n (e ∷ es) (part ∷ parts) each = (λ seen. inl (each.0 seen), beside (suc n) es parts each.1)

-- ---- no damage where it is known what is stored

pub undamaged_at : (only : Option ℕ) (p : ℕ) (why : EngineFault) → (IsSeen only p → IfDamaged why (λ damage. ⊥)) → IsNoDamage only (fault_of_engine p why)
undamaged_at only p engine.Disk none = tt
undamaged_at only p (engine.Damaged damage) none = none
undamaged_at only p engine.Spent none = tt
undamaged_at only p engine.Memory none = tt

undamaged_in_window : (only : Option ℕ) (p : ℕ) (why : EngineFault) → (IsSeen only p → IfDamaged why (λ damage. ⊥)) → IsNoDamage only (window_fault_at p why)
undamaged_in_window only p engine.Disk none = tt
undamaged_in_window only p (engine.Damaged damage) none = none
undamaged_in_window only p engine.Spent none = tt
undamaged_in_window only p engine.Memory none = tt

module _ {S D F W : Type 0} (eyes : Eyes S D F W) (es es' : List (WithJobs S D F W)) (only : Option ℕ) (w : World) (h : HoldWorld eyes only es w) where
  -- of the engine at a place, if it is looked at
  held_at : (p : ℕ) (e : WithJobs S D F W) → slice_get es p ≡ Some e → (part : Part) × (IsSeen only p → HoldsPart (works_of eyes e) (told_of eyes e) e.engine.part.limits (partition_at p (length w.parts)) w part)
  held_at p e is =
      let at = at_each-at (λ p e part. IsSeen only p → HoldsPart (works_of eyes e) (told_of eyes e) e.engine.part.limits (partition_at p (length w.parts)) w part) p es w.parts e h.each is in
      (at.0, at.2)

  pub window_undamaged : (content : F → Option (List ℕ)) (share : ℕ → Keyed Request) (fault : EnginesFault) → IfOf fault (λ p why. (p < length es) × AtEach (λ q old new. StopsFirst (told_part eyes) content p why q (share q) old.engine new.engine) 0 es es') → IsNoDamage only (window_fault_of fault)
  window_undamaged content share engines.Memory is = tt
  window_undamaged content share (engines.Of p why) is =
      let e = there es p is.0 in
      let part = held_at p e.0 e.1 in
      let stops = at_each-at (λ q old new. StopsFirst (told_part eyes) content p why q (share q) old.engine new.engine) p es es' e.0 is.1 e.1 in
      undamaged_in_window only p why (λ seen. let held = part.1 seen in (stops.2.1 refl).undamaged held.view held.is held.tells.components)

  pub call_undamaged : (Done : WithJobs S D F W → WithJobs S D F W → Type 0) (Stopped : EngineFault → WithJobs S D F W → WithJobs S D F W → Type 0) (fault : EnginesFault)
      → ((why : EngineFault) (old new : WithJobs S D F W) → Stopped why old new → HasFailedMoving eyes why old new) → IfOf fault (λ p why. (p < length es) × AtEach (StopsAt p Done (Stopped why)) 0 es es') → IsNoDamage only (fault_of_engines fault)
  call_undamaged Done Stopped engines.Memory fails is = tt
  call_undamaged Done Stopped (engines.Of p why) fails is =
      let e = there es p is.0 in
      let part = held_at p e.0 e.1 in
      let stops = at_each-at (StopsAt p Done (Stopped why)) p es es' e.0 is.1 e.1 in
      undamaged_at only p why (λ seen. let held = part.1 seen in (fails why e.0 stops.0 (stops.2.1 refl)).undamaged held.view held.is held.tells held.jobs)
