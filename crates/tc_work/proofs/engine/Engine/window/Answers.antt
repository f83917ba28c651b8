use Rattle.std.proofs.Common.{◌≡◌, ◌∙◌, ◌≤◌, ◌+◌, ◌^◌, [], All, ap, map, refl, subst, sym, length, true, false}
use Rattle.tc_part.specs.Harms.{IsHarmIn}
use Rattle.tc_log.specs.Appending.{LogState}
use Rattle.tc_machine.specs.Logs.{kept_write}
use Rattle.tc_machine.specs.Writes.{IsStorableWrite}
use Rattle.tc_part_model.specs.Leaving.{LogMomentsLeaveStore}
use Rattle.tc_part_model.specs.Meaning.{IsPart, plain_of}
use Rattle.tc_part_model.specs.PartState.{PartState, told, AreTold}
use Rattle.tc_part_model.specs.PartView.{PartView}
use Rattle.tc_model.specs.Keyed.{on_value}
use Rattle.tc_request_model.specs.Part.{part_writes_all}
use Rattle.tc_request_model.specs.Rendered.{rendered}
use Rattle.tc_route.specs.Answers.{answered}
use Rattle.tc_route.specs.Meaning.{rendered_in, routed_of}
use Rattle.tc_work.specs.Asked.{most_writes, requests_in}
use Rattle.tc_work.specs.Faults.{IfDamage}
use Rattle.tc_work.specs.EngineState.{EngineState}
use Rattle.tc_running.specs.Jobs.{JobsState}
use Rattle.tc_work.specs.Failing.{HasFailedWith}
use Rattle.tc_work.specs.JobsOut.{WorkFor}
use Rattle.tc_work.specs.Committed.{FailsWindow}
use Rattle.tc_work.specs.Moving.{eyes}
use Rattle.tc_work.specs.Windowed.{staged_as, IsWindowed}
use Rattle.tc_work.proofs.HandedFaults.{same_fault, same_harm}
use Rattle.tc_work.proofs.ReadCounts.{counted_inside}
use Rattle.tc_work.proofs.Windows.{err_always}
use Rattle.tc_work.proofs.KeptJobs.{flush_out_still, merge_out_still}
use Rattle.tc_work.proofs.OpenEngines.{inside_is, closed_sound}
use Rattle.tc_work.specs.Settling.{MaySettle, TellsFiles}
use Rattle.tc_part_model.proofs.LoadedComponents.{all_loaded}
use Rattle.tc_work.proofs.UnharmedRecords.{not_harmed_in, unharmed}
use Rattle.tc_part.specs.FilesOut.{LogIsOut, OnlyDevicesOut, TellsLogs}
use Rattle.tc_work.proofs.engine.Engine.window.Goals as goal

pub run-requires-clause-sound : goal.run-requires-clause-sound
run-requires-clause-sound g c κs within = ap (λ (s : PartState _ _ _ _). s.failed) (inside_is c.self.inside.part c.self.inside.failed c.args.self.now.part (ap (λ (e : EngineState _ _ _ _). e.part) c.self.view_is) c.requires.sound c.self.invariant) ∙ c.requires.sound

pub run-requires-clause-nothing_staged : goal.run-requires-clause-nothing_staged
run-requires-clause-nothing_staged g c κs within = (c.self.invariant (ap (λ (s : EngineState _ _ _ _). s.part.failed) c.self.view_is ∙ c.requires.sound)).nothing_staged

pub returns-clause-replies : goal.returns-clause-replies
returns-clause-replies g c =
    subst (λ (s : PartState _ _ _ _). (p : PartView) → IsPart (told g.S.Store.history g.S.Device.Device.history g.S.Frozen.Frozen.content s) p
    → AreTold (told g.S.Store.history g.S.Device.Device.history g.S.Frozen.Frozen.content s).components
    → rendered_in c.in_ok-replies.replies ≡ map (on_value rendered) (answered s.limits (map routed_of c.args.list.now)
    (plain_of (told g.S.Store.history g.S.Device.Device.history g.S.Frozen.Frozen.content s) p)))
    (inside_is c.self.inside.part c.self.inside.failed c.args.self.now.part (ap (λ (e : EngineState _ _ _ _). e.part) c.self.view_is)
    c.requires.sound c.self.invariant)
    (c.in_ok-replies.ensures.replies)

pub returns-clause-moments : goal.returns-clause-moments
returns-clause-moments g c =
    subst (λ (s : PartState _ _ _ _). (p : PartView) → IsPart (told g.S.Store.history g.S.Device.Device.history g.S.Frozen.Frozen.content s) p
    → LogMomentsLeaveStore (staged_as (part_writes_all s.limits (requests_in c.args.list.now)
    (plain_of (told g.S.Store.history g.S.Device.Device.history g.S.Frozen.Frozen.content s) p)) p)
    (told g.S.Store.history g.S.Device.Device.history g.S.Frozen.Frozen.content s) (g.S.Device.Device.history c.run.new.part.log.device))
    (inside_is c.self.inside.part c.self.inside.failed c.args.self.now.part (ap (λ (e : EngineState _ _ _ _). e.part) c.self.view_is)
    c.requires.sound c.self.invariant)
    (c.run.ensures.moments)

pub returns-clause-same : goal.returns-clause-same
returns-clause-same g c = sym (closed_sound c.run.new.part c.in_ok-replies.ensures.sound) ∙
    subst (λ (s : PartState _ _ _ _). c.run.new.part ≡ record s {
      main = c.run.new.part.main;
      active = c.run.new.part.active;
      log = c.run.new.part.log;
      taken = c.run.new.part.taken;
      live = c.run.new.part.live;
      writes = c.run.new.part.writes;
    })
    (inside_is c.self.inside.part c.self.inside.failed c.args.self.now.part (ap (λ (e : EngineState _ _ _ _). e.part) c.self.view_is)
    c.requires.sound c.self.invariant)
    (c.in_ok-replies.ensures.same)

pub returns-clause-counted : goal.returns-clause-counted
returns-clause-counted g c = counted_inside g.S.Watch.Watch.counts (requests_in c.args.list.now) _ _ c.self.inside.part c.args.self.now.part c.run.new.part
    (inside_is c.self.inside.part c.self.inside.failed c.args.self.now.part (ap (λ (e : EngineState _ _ _ _). e.part) c.self.view_is) c.requires.sound
    c.self.invariant) c.run.ensures.counted (λ failed. absurd (cc))

-- ---- the frame

pub returns-clause-framed : goal.returns-clause-framed
returns-clause-framed g c =
    record {
      writes = subst (λ (s : PartState _ _ _ _). (p : PartView) → IsPart (told g.S.Store.history g.S.Device.Device.history g.S.Frozen.Frozen.content s) p
          → c.run.new.frame.items ≡ map kept_write (part_writes_all s.limits (requests_in c.args.list.now)
          (plain_of (told g.S.Store.history g.S.Device.Device.history g.S.Frozen.Frozen.content s) p)))
          (inside_is c.self.inside.part c.self.inside.failed c.args.self.now.part (ap (λ (e : EngineState _ _ _ _). e.part) c.self.view_is)
          c.requires.sound c.self.invariant)
          (c.in_ok-replies.ensures.frame);
      storable = subst (λ (s : PartState _ _ _ _). (p : PartView) → IsPart (told g.S.Store.history g.S.Device.Device.history g.S.Frozen.Frozen.content s) p
          → All IsStorableWrite (part_writes_all s.limits (requests_in c.args.list.now)
          (plain_of (told g.S.Store.history g.S.Device.Device.history g.S.Frozen.Frozen.content s) p)))
          (inside_is c.self.inside.part c.self.inside.failed c.args.self.now.part (ap (λ (e : EngineState _ _ _ _). e.part) c.self.view_is)
          c.requires.sound c.self.invariant)
          (c.in_ok-replies.ensures.storable);
      stored = c.in_ok-replies.ensures.frame_stored;
      count = subst (λ (s : PartState _ _ _ _). c.run.new.part.writes ≡ s.writes + length c.run.new.frame.items) (inside_is c.self.inside.part c.self.inside.failed c.args.self.now.part (ap (λ (e : EngineState _ _ _ _). e.part) c.self.view_is) c.requires.sound c.self.invariant)
          (c.in_ok-replies.ensures.frame_counted);
    }

-- ---- it fails

pub returns-in_err-replies-clause-moments : goal.returns-in_err-replies-clause-moments
returns-in_err-replies-clause-moments g c =
    subst (λ (s : PartState _ _ _ _). (p : PartView) → IsPart (told g.S.Store.history g.S.Device.Device.history g.S.Frozen.Frozen.content s) p
    → LogMomentsLeaveStore (staged_as (part_writes_all s.limits (requests_in c.args.list.now)
    (plain_of (told g.S.Store.history g.S.Device.Device.history g.S.Frozen.Frozen.content s) p)) p)
    (told g.S.Store.history g.S.Device.Device.history g.S.Frozen.Frozen.content s) (g.S.Device.Device.history c.run.new.part.log.device))
    (inside_is c.self.inside.part c.self.inside.failed c.args.self.now.part (ap (λ (e : EngineState _ _ _ _). e.part) c.self.view_is)
    c.requires.sound c.self.invariant)
    (c.run.ensures.moments)

pub returns-in_err-replies-clause-fails : goal.returns-in_err-replies-clause-fails
returns-in_err-replies-clause-fails g c =
    let fails : FailsWindow (eyes g.S.Store.history g.S.Device.Device.history g.S.Frozen.Frozen.content g.S.Device.Device.name g.S.Frozen.Frozen.size g.S.Watch.Watch.counts)
    (requests_in c.args.list.now) c.args.self.now.part (record c.run.new.part { failed = true }) = record {
      failed = (subst (λ (s : PartState _ _ _ _). (p : PartView) (jobs : JobsState _ _ _)
          → IsPart (told g.S.Store.history g.S.Device.Device.history g.S.Frozen.Frozen.content s) p
          → WorkFor g.S.Frozen.Frozen.content g.S.Device.Device.history g.S.Device.Device.name jobs p
          → HasFailedWith (WorkFor g.S.Frozen.Frozen.content g.S.Device.Device.history g.S.Device.Device.name jobs)
          (part_writes_all s.limits (requests_in c.args.list.now) (plain_of (told g.S.Store.history g.S.Device.Device.history g.S.Frozen.Frozen.content s) p))
          (record (told g.S.Store.history g.S.Device.Device.history g.S.Frozen.Frozen.content c.run.new.part) { failed = true }) p)
          (inside_is c.self.inside.part c.self.inside.failed c.args.self.now.part (ap (λ (e : EngineState _ _ _ _). e.part) c.self.view_is)
          c.requires.sound c.self.invariant)
          (c.in_err-replies.ensures.failed));
      left = (subst (λ (s : PartState _ _ _ _). record c.run.new.part { failed = true }
          ≡ record s {
            main = c.run.new.part.main;
            active = c.run.new.part.active;
            staged = c.run.new.part.staged;
            taken = c.run.new.part.taken;
            live = c.run.new.part.live;
            log = c.run.new.part.log;
            failed = true;
          })
          (inside_is c.self.inside.part c.self.inside.failed c.args.self.now.part (ap (λ (e : EngineState _ _ _ _). e.part) c.self.view_is)
          c.requires.sound c.self.invariant)
          (ap (λ (x : PartState _ _ _ _). record x { failed = true }) c.in_err-replies.ensures.left));
    } in
    err_always c.from_residual.result _ fails

pub returns-in_err-replies-clause-harmed : goal.returns-in_err-replies-clause-harmed
returns-in_err-replies-clause-harmed g c = same_harm c.from_residual.result c.in_err-replies.field-0.0 _ c.from_residual.ensures.1
    (subst (λ (s : PartState _ _ _ _). IfDamage c.in_err-replies.field-0.0 (λ file at bytes. IsHarmIn (λ file. g.S.Frozen.Frozen.content file) s.list file at bytes))
    (inside_is c.self.inside.part c.self.inside.failed c.args.self.now.part (ap (λ (e : EngineState _ _ _ _). e.part) c.self.view_is)
    c.requires.sound c.self.invariant)
    (c.in_err-replies.ensures.harmed))

pub returns-in_err-replies-clause-counted : goal.returns-in_err-replies-clause-counted
returns-in_err-replies-clause-counted g c =
    counted_inside g.S.Watch.Watch.counts (requests_in c.args.list.now) _ _ c.self.inside.part c.args.self.now.part c.run.new.part
    (inside_is c.self.inside.part c.self.inside.failed c.args.self.now.part (ap (λ (e : EngineState _ _ _ _). e.part) c.self.view_is) c.requires.sound
    c.self.invariant) c.run.ensures.counted
    (same_fault c.from_residual.result c.run.result c.in_err-replies.field-0.0 _ c.from_residual.ensures.1 c.in_err-replies.was)

pub returns-clause-commits : goal.returns-clause-commits
returns-clause-commits g c =
    record {
      windowed = subst (λ (u : PartState _ _ _ _). (p : PartView) → IsPart (told g.S.Store.history g.S.Device.Device.history g.S.Frozen.Frozen.content c.args.self.now.part) p
          → IsWindowed c.args.self.now.part.limits (requests_in c.args.list.now)
          (told g.S.Store.history g.S.Device.Device.history g.S.Frozen.Frozen.content c.args.self.now.part) p
          (told g.S.Store.history g.S.Device.Device.history g.S.Frozen.Frozen.content u)) (closed_sound c.run.new.part c.in_ok-replies.ensures.sound)
          (subst (λ (s : PartState _ _ _ _). (p : PartView) → IsPart (told g.S.Store.history g.S.Device.Device.history g.S.Frozen.Frozen.content s) p
          → IsWindowed s.limits (requests_in c.args.list.now) (told g.S.Store.history g.S.Device.Device.history g.S.Frozen.Frozen.content s) p
          (told g.S.Store.history g.S.Device.Device.history g.S.Frozen.Frozen.content c.run.new.part))
          (inside_is c.self.inside.part c.self.inside.failed c.args.self.now.part (ap (λ (e : EngineState _ _ _ _). e.part) c.self.view_is)
          c.requires.sound c.self.invariant)
          (c.in_ok-replies.ensures.windowed));
      writes = subst (λ (s : PartState _ _ _ _). (p : PartView) → IsPart (told g.S.Store.history g.S.Device.Device.history g.S.Frozen.Frozen.content s) p
          → c.run.new.part.writes ≡ s.writes + length (part_writes_all s.limits (requests_in c.args.list.now)
          (plain_of (told g.S.Store.history g.S.Device.Device.history g.S.Frozen.Frozen.content s) p)))
          (inside_is c.self.inside.part c.self.inside.failed c.args.self.now.part (ap (λ (e : EngineState _ _ _ _). e.part) c.self.view_is)
          c.requires.sound c.self.invariant)
          (c.in_ok-replies.ensures.writes);
      few_writes = subst (λ (s : PartState _ _ _ _). c.run.new.part.writes ≤ s.writes + most_writes (requests_in c.args.list.now)) (inside_is c.self.inside.part c.self.inside.failed c.args.self.now.part (ap (λ (e : EngineState _ _ _ _). e.part) c.self.view_is) c.requires.sound c.self.invariant)
          (c.in_ok-replies.ensures.few_writes);
      ready = λ ready.
          subst (λ (s : PartState _ _ _ _). MaySettle (told g.S.Store.history g.S.Device.Device.history g.S.Frozen.Frozen.content s)) (sym (returns-clause-same g c)) (record { own = ready.own; components = ready.components });
      tells = λ tells.
          subst (λ (s : PartState _ _ _ _). TellsFiles (told g.S.Store.history g.S.Device.Device.history g.S.Frozen.Frozen.content s)) (sym (returns-clause-same g c)) (record { store = tells.store; components = tells.components });
      log_out = subst (λ (s : PartState _ _ _ _). LogIsOut (told g.S.Store.history g.S.Device.Device.history g.S.Frozen.Frozen.content s)
          → LogIsOut (told g.S.Store.history g.S.Device.Device.history g.S.Frozen.Frozen.content c.run.new.part))
          (inside_is c.self.inside.part c.self.inside.failed c.args.self.now.part (ap (λ (e : EngineState _ _ _ _). e.part) c.self.view_is) c.requires.sound
          c.self.invariant) c.in_ok-replies.ensures.log_out;
      unwritten = subst (λ (s : PartState _ _ _ _). (p : PartView) → IsPart (told g.S.Store.history g.S.Device.Device.history g.S.Frozen.Frozen.content s) p
          → part_writes_all s.limits (requests_in c.args.list.now) (plain_of (told g.S.Store.history g.S.Device.Device.history g.S.Frozen.Frozen.content s) p) ≡ []
          → c.run.new.part.log ≡ s.log) (inside_is c.self.inside.part c.self.inside.failed c.args.self.now.part (ap (λ (e : EngineState _ _ _ _). e.part) c.self.view_is)
          c.requires.sound c.self.invariant)
          (c.in_ok-replies.ensures.unwritten);
      looked_up = subst (λ (s : PartState _ _ _ _). most_writes (requests_in c.args.list.now) ≡ 0 → c.run.new.part.log ≡ s.log) (inside_is c.self.inside.part c.self.inside.failed c.args.self.now.part (ap (λ (e : EngineState _ _ _ _). e.part) c.self.view_is) c.requires.sound c.self.invariant)
          (c.in_ok-replies.ensures.looked_up);
    }

pub returns-in_err-replies-clause-undamaged : goal.returns-in_err-replies-clause-undamaged
returns-in_err-replies-clause-undamaged g c = λ p is are_told.
    let laws = c.components_are_contents.ensures in
    unharmed c.from_residual.result _
    (λ file place bytes. not_harmed_in g.S.Frozen.Frozen.content laws.found laws.fetched c.args.self.now.part.list p.list file place bytes (all_loaded g.S.Frozen.Frozen.content c.args.self.now.part.list p.list is.view.components are_told))
    (returns-in_err-replies-clause-harmed g c)

-- ---- what is out

pub returns-in_err-replies-clause-spent : goal.returns-in_err-replies-clause-spent
returns-in_err-replies-clause-spent g c =
    λ spent. record {
      most = subst (λ (s : PartState _ _ _ _). 2 ^ 63 ≤ s.writes + most_writes (requests_in c.args.list.now)) (inside_is c.self.inside.part c.self.inside.failed c.args.self.now.part (ap (λ (e : EngineState _ _ _ _). e.part) c.self.view_is) c.requires.sound c.self.invariant)
          (c.run.ensures.spent (same_fault c.from_residual.result c.run.result c.in_err-replies.field-0.0 _ c.from_residual.ensures.1 c.in_err-replies.was spent));
      unspent = subst (λ (s : PartState _ _ _ _). c.run.new.part.log ≡ s.log) (inside_is c.self.inside.part c.self.inside.failed c.args.self.now.part (ap (λ (e : EngineState _ _ _ _). e.part) c.self.view_is) c.requires.sound c.self.invariant)
          (c.run.ensures.unspent (same_fault c.from_residual.result c.run.result c.in_err-replies.field-0.0 _ c.from_residual.ensures.1 c.in_err-replies.was spent));
      log_out = λ is. let log = c.run.ensures.unspent (same_fault c.from_residual.result c.run.result c.in_err-replies.field-0.0 _ c.from_residual.ensures.1 c.in_err-replies.was spent) in
          subst (λ (s : PartState _ _ _ _). LogIsOut (told g.S.Store.history g.S.Device.Device.history g.S.Frozen.Frozen.content s)) (sym c.in_err-replies.ensures.left)
          (subst (λ (l : LogState _). LogIsOut (record (told g.S.Store.history g.S.Device.Device.history g.S.Frozen.Frozen.content c.self.inside.part) { log = g.S.Device.Device.history l.device })) (sym log)
          (subst (λ (s : PartState _ _ _ _). LogIsOut (told g.S.Store.history g.S.Device.Device.history g.S.Frozen.Frozen.content s))
          (sym (inside_is c.self.inside.part c.self.inside.failed c.args.self.now.part (ap (λ (e : EngineState _ _ _ _). e.part) c.self.view_is) c.requires.sound
          c.self.invariant)) is));
    }

-- ---- the jobs

pub returns-clause-kept : goal.returns-clause-kept
returns-clause-kept g c =
    record {
      policy = ap (λ (e : EngineState _ _ _ _). e.policy) c.self.view_is;
      jobs = λ jobs out.
          let old = c.args.self.now.part in
          let same = returns-clause-same g c in
          let untold : g.S.Store.history old.store ≡ [] → g.S.Store.history c.run.new.part.store ≡ [] = λ none. ap (λ (s : PartState _ _ _ _). g.S.Store.history s.store) same ∙ none in
          record {
            flush = flush_out_still g.S.Store.history g.S.Device.Device.history g.S.Frozen.Frozen.content g.S.Device.Device.name old
                (record c.run.new.part { failed = false }) untold jobs.flush
                (subst (λ (s : PartState _ _ _ _). s ≡ record old {
                  store = s.store;
                  main = s.main;
                  merger = s.merger;
                  list = s.list;
                  active = s.active;
                  log = s.log;
                  taken = s.taken;
                  live = s.live;
                  writes = s.writes;
                  staged = s.staged;
                  merging = s.merging;
                  failed = s.failed;
                }) (sym same) refl) out.flush;
            merge = merge_out_still g.S.Store.history g.S.Device.Device.history g.S.Frozen.Frozen.content g.S.Device.Device.name old
                (record c.run.new.part { failed = false }) untold jobs.merge
                (subst (λ (s : PartState _ _ _ _). s ≡ record old {
                  store = s.store;
                  main = s.main;
                  flusher = s.flusher;
                  sealed = s.sealed;
                  sealed_log = s.sealed_log;
                  active = s.active;
                  log = s.log;
                  generation = s.generation;
                  taken = s.taken;
                  live = s.live;
                  writes = s.writes;
                  staged = s.staged;
                  flushing = s.flushing;
                  failed = s.failed;
                }) (sym same) refl) out.merge;
          };
      devices = λ only. subst (λ (s : PartState _ _ _ _). OnlyDevicesOut (told g.S.Store.history g.S.Device.Device.history g.S.Frozen.Frozen.content s)) (sym (returns-clause-same g c)) only;
      tells = subst (λ (s : PartState _ _ _ _). TellsLogs (told g.S.Store.history g.S.Device.Device.history g.S.Frozen.Frozen.content s)
          → TellsLogs (told g.S.Store.history g.S.Device.Device.history g.S.Frozen.Frozen.content c.run.new.part))
          (inside_is c.self.inside.part c.self.inside.failed c.args.self.now.part (ap (λ (e : EngineState _ _ _ _). e.part) c.self.view_is) c.requires.sound c.self.invariant) c.run.ensures.tells;
    }

pub returns-in_err-replies-clause-kept : goal.returns-in_err-replies-clause-kept
returns-in_err-replies-clause-kept g c =
    record {
      policy = ap (λ (e : EngineState _ _ _ _). e.policy) c.self.view_is;
      jobs = λ jobs out.
          let old = c.args.self.now.part in
          let same = subst (λ (s : PartState _ _ _ _). record c.run.new.part { failed = true }
          ≡ record s {
            main = c.run.new.part.main;
            active = c.run.new.part.active;
            staged = c.run.new.part.staged;
            taken = c.run.new.part.taken;
            live = c.run.new.part.live;
            log = c.run.new.part.log;
            failed = true;
          })
          (inside_is c.self.inside.part c.self.inside.failed c.args.self.now.part (ap (λ (e : EngineState _ _ _ _). e.part) c.self.view_is)
          c.requires.sound c.self.invariant)
          (ap (λ (x : PartState _ _ _ _). record x { failed = true }) c.in_err-replies.ensures.left) in
          let untold : g.S.Store.history old.store ≡ [] → g.S.Store.history c.run.new.part.store ≡ [] = λ none. ap (λ (s : PartState _ _ _ _). g.S.Store.history s.store) same ∙ none in
          record {
            flush = flush_out_still g.S.Store.history g.S.Device.Device.history g.S.Frozen.Frozen.content g.S.Device.Device.name old
                (record c.run.new.part { failed = true }) untold jobs.flush (subst
                (λ (s : PartState _ _ _ _). s ≡ record old {
                  store = s.store;
                  main = s.main;
                  merger = s.merger;
                  list = s.list;
                  active = s.active;
                  log = s.log;
                  taken = s.taken;
                  live = s.live;
                  writes = s.writes;
                  staged = s.staged;
                  merging = s.merging;
                  failed = s.failed;
                }) (sym same) refl) out.flush;
            merge = merge_out_still g.S.Store.history g.S.Device.Device.history g.S.Frozen.Frozen.content g.S.Device.Device.name old
                (record c.run.new.part { failed = true }) untold jobs.merge (subst
                (λ (s : PartState _ _ _ _). s ≡ record old {
                  store = s.store;
                  main = s.main;
                  flusher = s.flusher;
                  sealed = s.sealed;
                  sealed_log = s.sealed_log;
                  active = s.active;
                  log = s.log;
                  generation = s.generation;
                  taken = s.taken;
                  live = s.live;
                  writes = s.writes;
                  staged = s.staged;
                  flushing = s.flushing;
                  failed = s.failed;
                }) (sym same) refl) out.merge;
          };
      devices = λ only.
          subst (λ (s : PartState _ _ _ _). OnlyDevicesOut (told g.S.Store.history g.S.Device.Device.history g.S.Frozen.Frozen.content s)) (sym c.in_err-replies.ensures.left)
          (subst (λ (s : PartState _ _ _ _). OnlyDevicesOut (told g.S.Store.history g.S.Device.Device.history g.S.Frozen.Frozen.content s))
          (sym (inside_is c.self.inside.part c.self.inside.failed c.args.self.now.part (ap (λ (e : EngineState _ _ _ _). e.part) c.self.view_is) c.requires.sound
          c.self.invariant)) only);
      tells = subst (λ (s : PartState _ _ _ _). TellsLogs (told g.S.Store.history g.S.Device.Device.history g.S.Frozen.Frozen.content s)
          → TellsLogs (told g.S.Store.history g.S.Device.Device.history g.S.Frozen.Frozen.content c.run.new.part))
          (inside_is c.self.inside.part c.self.inside.failed c.args.self.now.part (ap (λ (e : EngineState _ _ _ _). e.part) c.self.view_is) c.requires.sound c.self.invariant) c.run.ensures.tells;
    }
