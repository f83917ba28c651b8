-- An engine that ran its share of a window holds its part of the world behind it, or keeps one of the two where it failed.
use Rattle.std.proofs.Common.{◌≡◌, ◌∙◌, ◌≤◌, true, List, [], length, ap, sym, subst, inl, inr}
use Rattle.std.specs.Prelude.{Option, Some, None, Ok, Err}
use Rattle.std.proofs.lemmas.List.{length-map, nil_from_length}
use Rattle.tc_model.specs.Keyed.{Keyed, values_in}
use Rattle.tc_request_model.specs.Request.{Request}
use Rattle.tc_store.specs.Moments.{IfTold}
use Rattle.tc_log.specs.Layout.{empty_size}
use Rattle.tc_lsm_model.specs.Contents.{Partition}
use Rattle.tc_machine.specs.Logs.{kept_write}
use Rattle.tc_plain_model.specs.Room.{Limits}
use Rattle.tc_request_model.specs.Part.{part_left_all, part_writes_all}
use Rattle.tc_plain_model.specs.Store.{Store}
use Rattle.tc_plain_model.specs.Writes.{Write, after_writes}
use Rattle.tc_request_model.proofs.RequestWrites.{part_left_all-writes}
use Rattle.tc_part_model.specs.Meaning.{plain_of}
use Rattle.tc_part_model.specs.PartState.{PartState, Told}
use Rattle.tc_part_model.specs.PartView.{PartView, store_of}
use Rattle.tc_route.specs.declared.placed.Placed.{Placed}
use Rattle.tc_run_model.specs.World.{Part, World}
use Rattle.tc_work.specs.Failing.{HasFailedKeeping, HasFailedWith}
use Rattle.tc_work.specs.JobsOut.{WorkFor}
use Rattle.tc_work.specs.Moving.{Eyes}
use Rattle.tc_work.specs.Settling.{TellsFiles}
use Rattle.tc_work.specs.Windowed.{windowed, IsWindowed}
use Rattle.tc_work.specs.declared.fault.EngineFault.{EngineFault}
use Rattle.tc_keeper.specs.Running.{HasRun}
use Rattle.tc_keeper.specs.Standing.{FailsPart, HoldsPart}
use Rattle.tc_keeper.specs.WithJobs.{told_of, works_of, WithJobs}
use Rattle.tc_keeper.proofs.SharesLeft.{IsLeft}

-- where nothing is staged, what is stored is what is committed
pub committed : {Works : PartView → Type 0} (t : Told) (limits : Limits) (here : Partition) (w : World) (part : Part) (h : HoldsPart Works t limits here w part) → store_of h.view ≡ part.now.pairs
committed t limits here w part h =
    let none_staged : h.view.staged ≡ [] = nil_from_length h.view.staged (sym (length-map h.view.staged kept_write) ∙ ap length (sym h.is.view.staged ∙ h.unstaged)) in
    sym (ap (λ (ws : List Write). after_writes (store_of h.view) ws) none_staged) ∙ ap (λ (s : Store). s.pairs) h.stores

-- the writes of requests, by what the world's part stores
writes_same : {Works : PartView → Type 0} (t : Told) (limits : Limits) (here : Partition) (w : World) (part : Part) (rs : List Request) (h : HoldsPart Works t limits here w part) → part_writes_all limits rs (plain_of t h.view) ≡ part_writes_all w.limits rs part.now
writes_same t limits here w part rs h = ap (part_writes_all limits rs) h.stores ∙ sym (ap (λ l. part_writes_all l rs part.now) h.under)

pub part_held : {Works WorksNow : PartView → Type 0} (t u : Told) (limits most : Limits) (here : Partition) (rs : List Request) (w v : World) (old new : Part) (h : HoldsPart Works t limits here w old) → IsLeft w.limits v.flushed rs old new
    → v.limits ≡ w.limits → (v.flushed ≡ true → w.flushed ≡ true) → IsWindowed limits rs t h.view u → TellsFiles u → u.staged ≡ t.staged → most ≡ limits
    → (part_writes_all limits rs (plain_of t h.view) ≡ [] → u.log ≡ t.log) → WorksNow (windowed (part_writes_all limits rs (plain_of t h.view)) h.view) → HoldsPart WorksNow u most here v new
part_held t u limits most here rs w v old new h left same before is tells staged under unwritten works = record {
  view = windowed (part_writes_all limits rs (plain_of t h.view)) h.view;
  is = is.part;
  of_number = h.of_number;
  tells = tells;
  unstaged = staged ∙ h.unstaged;
  jobs = works;
  stores = is.plain ∙ ap (part_left_all limits rs) h.stores ∙ sym (ap (λ l. part_left_all l rs old.now) h.under) ∙ sym left.stores;
  under = same ∙ h.under ∙ sym under;
  flushed = λ now. subst (λ log. IfTold log (λ f. length f.content ≤ empty_size)) (sym (unwritten (writes_same t limits here w old rs h ∙ left.unwritten now))) (h.flushed (before now));
}

pub keeping : {Works WorksNow : PartView → Type 0} (t : Told) (limits : Limits) (here : Partition) (w : World) (old : Part) (h : HoldsPart Works t limits here w old)
    (u : Told) (frame : Option (List Write)) → HasFailedKeeping WorksNow u h.view.part (store_of h.view) frame → HasFailedKeeping WorksNow u here old.now.pairs frame
keeping t limits here w old h u frame k = record { view = k.view; here = k.here ∙ h.of_number; holds = k.holds ∙ committed t limits here w old h; files = k.files; logs = k.logs; jobs = k.jobs }

pub part_fails : {Works WorksNow : PartView → Type 0} (t u : Told) (limits : Limits) (here : Partition) (rs : List Request) (w v : World) (old new : Part)
    (h : HoldsPart Works t limits here w old) → IsLeft w.limits v.flushed rs old new
    → HasFailedWith WorksNow (part_writes_all limits rs (plain_of t h.view)) u h.view → FailsPart WorksNow u here old new
part_fails t u limits here rs w v old new h left failed = record {
  kept = elim failed [ inl k ↦ inl (keeping t limits here w old h u None k) | inr k ↦ inr (ws, keeping t limits here w old h u (Some ws) k, writes) ];
}
  where
    ws : List Write
    ws = part_writes_all limits rs (plain_of t h.view)

    writes : after_writes old.now.pairs ws ≡ new.now.pairs
    writes =
        ap (after_writes old.now.pairs) (writes_same t limits here w old rs h) ∙ sym (part_left_all-writes w.limits rs old.now) ∙ sym (ap (λ (s : Store). s.pairs) left.stores)

-- ---- an engine

pub engine_held : {S D F W : Type 0} (eyes : Eyes S D F W) (here : Partition) (rs : Keyed Request) (w v : World) → v.limits ≡ w.limits → (v.flushed ≡ true → w.flushed ≡ true) → (e f : WithJobs S D F W) (x : List Placed) (old new : Part)
    → HoldsPart (works_of eyes e) (told_of eyes e) e.engine.part.limits here w old → HasRun eyes rs e.engine f.engine (Ok x) → f.jobs ≡ e.jobs → IsLeft w.limits v.flushed (values_in rs) old new → HoldsPart (works_of eyes f) (told_of eyes f) f.engine.part.limits here v new
engine_held eyes here rs w v same before e f x old new h ran still left =
    part_held (told_of eyes e) (told_of eyes f) e.engine.part.limits f.engine.part.limits here (values_in rs) w v old new h left same before (ran.windowed h.view h.is) (ran.tells h.tells) ran.unstaged
    (ap (λ (s : PartState _ _ _ _). s.limits) ran.same) (λ none. ap (λ l. eyes.history l.device) (ran.unwritten h.view h.is none))
    (subst (λ jobs. WorkFor eyes.content eyes.history eyes.name_of jobs h.view) (sym still) h.jobs)

pub engine_failed : {S D F W : Type 0} (eyes : Eyes S D F W) (here : Partition) (rs : Keyed Request) (w v : World) → (e f : WithJobs S D F W) (why : EngineFault) (old new : Part)
    → HoldsPart (works_of eyes e) (told_of eyes e) e.engine.part.limits here w old → HasRun eyes rs e.engine f.engine (Err why) → f.jobs ≡ e.jobs → IsLeft w.limits v.flushed (values_in rs) old new → FailsPart (works_of eyes f) (told_of eyes f) here old new
engine_failed eyes here rs w v e f why old new h ran still left =
    part_fails (told_of eyes e) (told_of eyes f) e.engine.part.limits here (values_in rs) w v old new h left
    (subst (λ jobs. HasFailedWith (WorkFor eyes.content eyes.history eyes.name_of jobs) (part_writes_all e.engine.part.limits (values_in rs) (plain_of (told_of eyes e) h.view)) (told_of eyes f) h.view) (sym still) (ran.failed h.view e.jobs h.is h.jobs))
