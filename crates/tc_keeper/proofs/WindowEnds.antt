-- What is said of all engines behind a window whose shares they ran, whether their answers were put together or not.
use Rattle.std.proofs.Common.{◌≡◌, ◌∙◌, ◌<◌, ℕ, suc, false, List, [], ◌∷◌, length, map, arith, refl, ap, sym, subst}
use Rattle.std.specs.Prelude.{zip, All, None, Option, Result, Ok, Err, IfErr, IsErrAnd, OnErr, OnOk}
use Rattle.std.proofs.lemmas.List.{length-map}
use Rattle.std.specs.Vec.{with_items}
use Rattle.std.specs.declared.alloc.Global.{Global}
use Rattle.std.specs.declared.vec.Vec.{Vec}
use Rattle.tc_model.specs.Keyed.{Keyed, Ascends, values_in, on_value}
use Rattle.tc_request_model.specs.Request.{Request}
use Rattle.tc_part.specs.FilesOut.{LogIsOut, OnlyDevicesOut}
use Rattle.tc_route.specs.Answers.{window_answered, AreGathered, AreKindsGathered, IsForParts}
use Rattle.tc_route.specs.Gathered.{gathered_rendered, AreRenderedGathered}
use Rattle.tc_request_model.specs.Rendered.{rendered}
use Rattle.tc_route.specs.Meaning.{rendered_in, requests_at, routed_of}
use Rattle.tc_route.specs.Shares.{share}
use Rattle.tc_route.specs.declared.placed.Placed.{Placed}
use Rattle.tc_route.specs.declared.placed.Routed.{Routed}
use Rattle.tc_run_model.specs.World.{World, after_all}
use Rattle.tc_running.specs.Jobs.{JobsState}
use Rattle.tc_work.specs.Asked.{most_writes}
use Rattle.tc_work.specs.EngineState.{EngineState}
use Rattle.tc_work.specs.Moving.{told_part, Eyes}
use Rattle.tc_work.specs.Reads.{live_in, most_reads, IsCountedWithin}
use Rattle.tc_work.specs.Settling.{MaySettle}
use Rattle.tc_work.specs.declared.fault.EngineFault.{EngineFault}
use Rattle.tc_keeper.specs.EngineFaults.{IfOf, IsDiskOf, IsFirstFault, StopsFirst}
use Rattle.tc_keeper.specs.Places.{AtEach}
use Rattle.tc_work.specs.Committed.{HasFramed}
use Rattle.tc_keeper.specs.Running.{HasOnlyRun, HasRun, RanMoments}
use Rattle.tc_keeper.specs.Standing.{HoldWorld, KeepWorlds}
use Rattle.tc_keeper.specs.Windows.{HaveRun, MayRunOn}
use Rattle.tc_keeper.specs.WithJobs.{engine_with, told_of, with_jobs, AreStaffed, IsStaffed, WithJobs}
use Rattle.tc_keeper.specs.declared.engines_fault.EnginesFault.{EnginesFault}
use Rattle.tc_keeper.specs.declared.engines_fault.EnginesFault.TheVariants.{Of, Memory}
use Rattle.tc_keeper.specs.declared.seat.Seat.{Seat}
use Rattle.tc_log.specs.declared.write.Write.{Write}
use Rattle.tc_keeper.proofs.EnginesRun.{all_sound, counted_first, if_given, if_run, stops_first}
use Rattle.tc_keeper.proofs.FramesTaken.{shares_framed}
use Rattle.tc_keeper.proofs.JobsBeside.{staffed-many, with_jobs-length}
use Rattle.tc_keeper.proofs.KindsGiven.{window_answers, RenderAnswers}
use Rattle.tc_keeper.proofs.PlaceLaws.{at_each-join, at_each-length, at_each-read, at_each-so, refilled}
use Rattle.tc_keeper.proofs.SharesRun.{each_ran, read_again}
use Rattle.tc_keeper.proofs.WindowsHeld.{window_replied, world_held, worlds_kept, EachRan, HasRunBeside, Ran}

-- each engine ran its share: the engines behind that, and what they answered
pub record Ended {S D F W : Type 0} (eyes : Eyes S D F W) (window : Keyed Request) (es fs : List (WithJobs S D F W)) (answers : List (Result (List Placed) EngineFault)) : Type 0 where
  pub runs : List (Ran S D F W)
  pub ran : EachRan eyes window es runs
  pub engines : fs ≡ map (λ r. r.0) runs
  pub said : map (λ r. r.1) runs ≡ answers

-- ---- engines that ran, with the jobs beside them

-- an engine behind its share, and its answer
abbrev Alone : Type 0 → Type 0 → Type 0 → Type 0 → Type 0
Alone S D F W = EngineState S D F W × Result (List Placed) EngineFault

abbrev runs_with : {S D F W : Type 0} → List (Alone S D F W) → List (JobsState F D W) → List (Ran S D F W)
runs_with [] jobs = []
runs_with (r ∷ rs) [] = []
runs_with (r ∷ rs) (js ∷ jobs) = (engine_with r.0 js, r.1) ∷ runs_with rs jobs

runs_engines : {S D F W : Type 0} (rs : List (Alone S D F W)) (jobs : List (JobsState F D W)) → with_jobs (map (λ r. r.0) rs) jobs ≡ map (λ r. r.0) (runs_with rs jobs)
runs_engines [] jobs = refl
runs_engines (r ∷ rs) [] = refl
runs_engines (r ∷ rs) (js ∷ jobs) = ap (λ es. engine_with r.0 js ∷ es) (runs_engines rs jobs)

runs_answers : {S D F W : Type 0} (rs : List (Alone S D F W)) (jobs : List (JobsState F D W)) → length rs ≡ length jobs → map (λ r. r.1) (runs_with rs jobs) ≡ map (λ r. r.1) rs
runs_answers [] jobs many = refl
runs_answers (r ∷ rs) [] many = absurd (omega (arith, many))
runs_answers (r ∷ rs) (js ∷ jobs) many = ap (λ xs. r.1 ∷ xs) (runs_answers rs jobs (omega (arith, many)))

runs_ran : {S D F W : Type 0} (eyes : Eyes S D F W) (count : ℕ) (window : Keyed Request) (p : ℕ) (es : List (EngineState S D F W)) (rs : List (Alone S D F W)) (jobs : List (JobsState F D W)) → length es ≡ length jobs
    → AtEach (λ p e r. HasRun eyes (share count p window) e r.0 r.1) p es rs → AtEach (λ p e r. HasRunBeside eyes (share count p window) e r.0 r.1) p (with_jobs es jobs) (runs_with rs jobs)
runs_ran eyes count window p [] [] jobs many ran = tt
runs_ran eyes count window p [] (r ∷ rs) jobs many ran = absurd ran
runs_ran eyes count window p (e ∷ es) [] jobs many ran = absurd ran
runs_ran eyes count window p (e ∷ es) (r ∷ rs) [] many ran = absurd (omega (arith, many))
runs_ran eyes count window p (e ∷ es) (r ∷ rs) (js ∷ jobs) many ran = ((ran.0, refl), runs_ran eyes count window (suc p) es rs jobs (omega (arith, many)) ran.1)

ended : {X S D F W : Type 0} (eyes : Eyes S D F W) (f : X → EngineState S D F W) (g : X → Result (List Placed) EngineFault) (lists : List (Vec Routed Global)) (window : Keyed Request) (count : ℕ) (jobs : List (JobsState F D W)) (olds mids : List X) (fs : List (EngineState S D F W))
    → length olds ≡ count → length olds ≡ length jobs → ((p : ℕ) → p < count → requests_at p lists ≡ share count p window)
    → AtEach (λ p old new. HasRun eyes (requests_at p lists) (f old) (f new) (g new)) 0 olds mids
    → fs ≡ map f mids → Ended eyes window (with_jobs (map f olds) jobs) (with_jobs fs jobs) (map g mids)
ended eyes f g lists window count jobs olds mids fs many as_many each ran same = record {
  runs = runs_with (map (λ x. (f x, g x)) mids) jobs;
  ran = subst (λ n. AtEach (λ p e r. HasRunBeside eyes (share n p window) e r.0 r.1) 0 (with_jobs (map f olds) jobs) (runs_with (map (λ x. (f x, g x)) mids) jobs)) (sym counted)
      (runs_ran eyes count window 0 (map f olds) (map (λ x. (f x, g x)) mids) jobs (length-map olds f ∙ as_many) (each_ran eyes f g lists window count olds mids many each ran));
  engines = ap (λ xs. with_jobs xs jobs) (same ∙ sym (read_again (λ r. r.0) (λ x. (f x, g x)) mids)) ∙ runs_engines (map (λ x. (f x, g x)) mids) jobs;
  said = runs_answers (map (λ x. (f x, g x)) mids) jobs (length-map mids (λ x. (f x, g x)) ∙ sym (at_each-length (λ p old new. HasRun eyes (requests_at p lists) (f old) (f new) (g new)) 0 olds mids ran) ∙ as_many) ∙ read_again (λ r. r.1) (λ x. (f x, g x)) mids;
}
  where
    counted : length (with_jobs (map f olds) jobs) ≡ count
    counted = with_jobs-length (map f olds) jobs (length-map olds f ∙ as_many) ∙ length-map olds f ∙ many

-- ---- the seats of a call

-- what was run in them, and what was left when their answers were taken
pub record SeatsRan {S P D F W : Type 0} (eyes : Eyes S D F W) (lists : List (Vec Routed Global)) (room : Vec (Seat S P W D F) Global) (jobs : List (JobsState F D W)) (froms mids nexts news : List (Seat S P W D F)) : Type 0 where
  pub olds : froms ≡ room.items
  pub left : nexts ≡ (with_items room mids).items
  pub ran : AtEach (λ p (old : Seat S P W D F) (new : Seat S P W D F). HasRun eyes (requests_at p lists) old.engine new.engine new.answer) 0 froms mids
  pub same : map (λ (s : Seat S P W D F). s.engine) news ≡ map (λ (s : Seat S P W D F). s.engine) nexts
  pub staffed : AreStaffed eyes (map (λ (s : Seat S P W D F). s.engine) room.items) jobs

module _ {S P D F W : Type 0} (eyes : Eyes S D F W) (lists : List (Vec Routed Global)) (room : Vec (Seat S P W D F) Global) (jobs : List (JobsState F D W)) (froms mids nexts news : List (Seat S P W D F)) (seats : SeatsRan eyes lists room jobs froms mids nexts news) where
  many_mids : length mids ≡ room.len
  many_mids =
      let ran_all : length froms ≡ length mids = at_each-length (λ p (old : Seat S P W D F) (new : Seat S P W D F). HasRun eyes (requests_at p lists) old.engine new.engine new.answer) 0 froms mids seats.ran in
      omega (arith, ran_all, ap length seats.olds, room.ok.0)

  same_mids : nexts ≡ mids
  same_mids = seats.left ∙ refilled room mids many_mids

  left_news : (with_items (with_items room mids) news).items ≡ news
  left_news =
      let many_news : length news ≡ length nexts = sym (length-map news (λ (s : Seat S P W D F). s.engine)) ∙ ap length seats.same ∙ length-map nexts (λ (s : Seat S P W D F). s.engine) in
      refilled (with_items room mids) news (many_news ∙ ap length same_mids ∙ many_mids)

  -- the engines that are left
  engines_left : map (λ (s : Seat S P W D F). s.engine) (with_items (with_items room mids) news).items ≡ map (λ (s : Seat S P W D F). s.engine) mids
  engines_left = ap (map (λ (s : Seat S P W D F). s.engine)) left_news ∙ seats.same ∙ ap (map (λ (s : Seat S P W D F). s.engine)) same_mids

  -- they ran from what stood in the room
  from_room : AtEach (λ p (old : Seat S P W D F) (new : Seat S P W D F). HasRun eyes (requests_at p lists) old.engine new.engine new.answer) 0 room.items mids
  from_room = subst (λ xs. AtEach (λ p (old : Seat S P W D F) (new : Seat S P W D F). HasRun eyes (requests_at p lists) old.engine new.engine new.answer) 0 xs mids) seats.olds seats.ran

  -- their jobs are those that are out
  pub seats_staffed : AreStaffed eyes (map (λ (s : Seat S P W D F). s.engine) (with_items (with_items room mids) news).items) jobs
  seats_staffed = subst (λ es. AreStaffed eyes es jobs) (sym engines_left)
      (at_each-join (λ p e f. (js : JobsState F D W) → IsStaffed eyes e js → IsStaffed eyes f js) (λ p e js. IsStaffed eyes e js) (λ p e js. IsStaffed eyes e js) 0 (map (λ (s : Seat S P W D F). s.engine) room.items) (map (λ (s : Seat S P W D F). s.engine) mids) jobs
      (λ p e f js keeps staffed. keeps js staffed)
      (at_each-read (λ (s : Seat S P W D F). s.engine) (λ (s : Seat S P W D F). s.engine) (λ p e f. (js : JobsState F D W) → IsStaffed eyes e js → IsStaffed eyes f js) 0 room.items mids
      (at_each-so (λ p (old : Seat S P W D F) (new : Seat S P W D F). HasRun eyes (requests_at p lists) old.engine new.engine new.answer) (λ p (old : Seat S P W D F) (new : Seat S P W D F). (js : JobsState F D W) → IsStaffed eyes old.engine js → IsStaffed eyes new.engine js) 0 room.items mids
      (λ p old new ran. ran.staffed) from_room)) seats.staffed)

  pub seats_ended : (whole : List (Vec Routed Global)) (commands : List Routed) (es : List (WithJobs S D F W)) (parts : ℕ) → lists ≡ whole
      → ((p : ℕ) → p < parts → requests_at p whole ≡ share parts p (map routed_of commands)) → parts ≡ room.len
      → with_jobs (map (λ (s : Seat S P W D F). s.engine) room.items) jobs ≡ es
      → Ended eyes (map routed_of commands) es (with_jobs (map (λ (s : Seat S P W D F). s.engine) (with_items (with_items room mids) news).items) jobs) (map (λ (s : Seat S P W D F). s.answer) nexts)
  seats_ended whole commands es parts same each many view =
      subst (λ xs. Ended eyes (map routed_of commands) xs (with_jobs (map (λ (s : Seat S P W D F). s.engine) (with_items (with_items room mids) news).items) jobs) (map (λ (s : Seat S P W D F). s.answer) nexts)) view
      (subst (λ ys. Ended eyes (map routed_of commands) (with_jobs (map (λ (s : Seat S P W D F). s.engine) room.items) jobs) (with_jobs (map (λ (s : Seat S P W D F). s.engine) (with_items (with_items room mids) news).items) jobs) (map (λ (s : Seat S P W D F). s.answer) ys)) (sym same_mids)
      (ended eyes (λ (s : Seat S P W D F). s.engine) (λ (s : Seat S P W D F). s.answer) lists (map routed_of commands) parts jobs room.items mids (map (λ (s : Seat S P W D F). s.engine) (with_items (with_items room mids) news).items)
      (sym room.ok.0 ∙ sym many) (sym (length-map room.items (λ (s : Seat S P W D F). s.engine)) ∙ staffed-many eyes (map (λ (s : Seat S P W D F). s.engine) room.items) jobs seats.staffed)
      (λ p below. ap (requests_at p) same ∙ each p below) from_room engines_left))

  -- the frames are those of the shares, where all answered
  pub seats_framed : (whole : List (Vec Routed Global)) (commands : List Routed) (es : List (WithJobs S D F W)) (parts : ℕ) (answers : List (List Placed))
      (frames : List (Vec Write Global)) → lists ≡ whole → ((p : ℕ) → p < parts → requests_at p whole ≡ share parts p (map routed_of commands)) → parts ≡ room.len
      → with_jobs (map (λ (s : Seat S P W D F). s.engine) room.items) jobs ≡ es → map (λ (s : Seat S P W D F). s.answer) nexts ≡ map Ok answers
      → AtEach (λ p (run : Seat S P W D F × Seat S P W D F) (frame : Vec Write Global). OnOk run.1.answer (HasFramed eyes (requests_at p lists) run.0.engine run.1.engine frame.items)) 0 (zip froms mids) frames
      → AtEach (λ p (run : WithJobs S D F W × WithJobs S D F W) (frame : Vec Write Global). HasFramed eyes (share (length es) p (map routed_of commands)) run.0.engine
      run.1.engine frame.items) 0 (zip es (with_jobs (map (λ (s : Seat S P W D F). s.engine) (with_items (with_items room mids) news).items) jobs)) frames
  seats_framed whole commands es parts answers frames same each many view given framed =
      subst (λ xs. AtEach (λ p (run : WithJobs S D F W × WithJobs S D F W) (frame : Vec Write Global). HasFramed eyes (share (length xs) p (map routed_of commands))
      run.0.engine run.1.engine frame.items) 0 (zip xs (with_jobs (map (λ (s : Seat S P W D F). s.engine)
      (with_items (with_items room mids) news).items) jobs)) frames) view
      (subst (λ n. AtEach (λ p (run : WithJobs S D F W × WithJobs S D F W) (frame : Vec Write Global). HasFramed eyes (share n p (map routed_of commands)) run.0.engine
      run.1.engine frame.items) 0 (zip (with_jobs (map (λ (s : Seat S P W D F). s.engine) room.items) jobs)
      (with_jobs (map (λ (s : Seat S P W D F). s.engine) (with_items (with_items room mids) news).items) jobs)) frames) counted
      (shares_framed eyes (λ (s : Seat S P W D F). s.engine) (λ (s : Seat S P W D F). s.answer) lists (map routed_of commands) parts 0 jobs room.items mids (map (λ (s : Seat S P W D F). s.engine) (with_items (with_items room mids) news).items) answers frames
      (omega (arith, room.ok.0, many)) as_many (omega (arith, room.ok.0, many_mids)) (λ p below. ap (requests_at p) same ∙ each p below)
      (ap (map (λ (s : Seat S P W D F). s.answer)) (sym same_mids) ∙ given) engines_left
      (subst (λ xs. AtEach (λ p (run : Seat S P W D F × Seat S P W D F) (frame : Vec Write Global). OnOk run.1.answer (HasFramed eyes (requests_at p lists) run.0.engine run.1.engine frame.items)) 0 (zip xs mids) frames) seats.olds framed)))
    where
      as_many : length room.items ≡ length jobs
      as_many = sym (length-map room.items (λ (s : Seat S P W D F). s.engine)) ∙ staffed-many eyes (map (λ (s : Seat S P W D F). s.engine) room.items) jobs seats.staffed

      counted : parts ≡ length (with_jobs (map (λ (s : Seat S P W D F). s.engine) room.items) jobs)
      counted = omega (arith, many, room.ok.0, length-map room.items (λ (s : Seat S P W D F). s.engine), with_jobs-length (map (λ (s : Seat S P W D F). s.engine) room.items) jobs (staffed-many eyes (map (λ (s : Seat S P W D F). s.engine) room.items) jobs seats.staffed))

-- ---- what was answered

pub on_err : {A : Type 0} (r : Result (List Placed) EnginesFault) → A → OnErr r A
on_err (Ok x) a = tt
on_err (Err e) a = a

pub err_is : {T E : Type 0} (r : Result T E) (fault : E) → IsErrAnd r (λ e. e ≡ fault) → r ≡ Err fault
err_is (Ok x) fault is = absurd is
err_is (Err e) fault is = ap Err is

pub if_err : {T E : Type 0} (r : Result T E) (fault : E) (P : E → Type 0) → IsErrAnd r (λ e. e ≡ fault) → P fault → IfErr r P
if_err (Ok x) fault P is holds = tt
if_err (Err e) fault P is holds = subst P (sym is) holds

-- want of memory is no fault of a disk
pub no_disk : {A : Type 0} (r : Result A EnginesFault) → IsErrAnd r (λ e. e ≡ Memory) → (p : ℕ) → IsDiskOf p r → ⊥
no_disk r is p cause = subst (IsDiskOf p) (err_is r Memory is) cause

module _ {S D F W : Type 0} (eyes : Eyes S D F W) (window : Keyed Request) (es fs : List (WithJobs S D F W)) (answers : List (Result (List Placed) EngineFault)) (end : Ended eyes window es fs answers) where
  -- ---- each engine

  pub ended_run : (Q : ℕ → WithJobs S D F W → WithJobs S D F W → Type 0)
      → ((p : ℕ) (e f : WithJobs S D F W) (answer : Result (List Placed) EngineFault) → HasRunBeside eyes (share (length es) p window) e f answer → Q p e f) → AtEach Q 0 es fs
  ended_run Q so = subst (AtEach Q 0 es) (sym end.engines) (if_run eyes window es end.runs Q so end.ran)

  pub ended_given : (xs : List (List Placed)) → answers ≡ map Ok xs → (Q : ℕ → WithJobs S D F W → WithJobs S D F W → Type 0)
      → ((p : ℕ) (e f : WithJobs S D F W) (x : List Placed) → HasRunBeside eyes (share (length es) p window) e f (Ok x) → Q p e f) → AtEach Q 0 es fs
  ended_given xs given Q so = subst (AtEach Q 0 es) (sym end.engines) (if_given eyes window es end.runs xs Q so (end.said ∙ given) end.ran)

  pub ended_sound : (xs : List (List Placed)) → answers ≡ map Ok xs → All (λ e. e.engine.part.failed ≡ false) fs
  ended_sound xs given = subst (All (λ e. e.engine.part.failed ≡ false)) (sym end.engines) (all_sound eyes window es end.runs xs (end.said ∙ given) end.ran)

  ended_same : AtEach (λ p old new. HasOnlyRun old.engine.part new.engine.part × (new.engine.policy ≡ old.engine.policy) × (new.jobs ≡ old.jobs)) 0 es fs
  ended_same = ended_run (λ p old new. HasOnlyRun old.engine.part new.engine.part × (new.engine.policy ≡ old.engine.policy) × (new.jobs ≡ old.jobs)) (λ p e f answer ran. (ran.0.same, ran.0.policy, ran.1))

  ended_devices : AtEach (λ p old new. OnlyDevicesOut (told_of eyes old) → OnlyDevicesOut (told_of eyes new)) 0 es fs
  ended_devices = ended_run (λ p old new. OnlyDevicesOut (told_of eyes old) → OnlyDevicesOut (told_of eyes new)) (λ p e f answer ran. ran.0.devices)

  ended_moments : AtEach (λ p old new. RanMoments (told_part eyes) eyes.history (share (length es) p window) old.engine new.engine) 0 es fs
  ended_moments = ended_run (λ p old new. RanMoments (told_part eyes) eyes.history (share (length es) p window) old.engine new.engine) (λ p e f answer ran. ran.0.at_moments)

  ended_ready : (xs : List (List Placed)) → answers ≡ map Ok xs → AtEach (λ p old new. MaySettle (told_of eyes old) → MaySettle (told_of eyes new)) 0 es fs
  ended_ready xs given = ended_given xs given (λ p old new. MaySettle (told_of eyes old) → MaySettle (told_of eyes new)) (λ p e f x ran. ran.0.ready)

  ended_looked_up : (xs : List (List Placed)) → answers ≡ map Ok xs → AtEach (λ p old new. most_writes (values_in (share (length es) p window)) ≡ 0 → new.engine.part.log ≡ old.engine.part.log) 0 es fs
  ended_looked_up xs given = ended_given xs given (λ p old new. most_writes (values_in (share (length es) p window)) ≡ 0 → new.engine.part.log ≡ old.engine.part.log) (λ p e f x ran. ran.0.looked_up)

  ended_log_out : (xs : List (List Placed)) → answers ≡ map Ok xs → AtEach (λ p old new. LogIsOut (told_of eyes old) → LogIsOut (told_of eyes new)) 0 es fs
  ended_log_out xs given = ended_given xs given (λ p old new. LogIsOut (told_of eyes old) → LogIsOut (told_of eyes new)) (λ p e f x ran. ran.0.log_out)

  pub ended_ran : HaveRun eyes window es fs
  ended_ran = record { same = ended_same; devices = ended_devices; moments = ended_moments }

  pub ended_well : (xs : List (List Placed)) → answers ≡ map Ok xs → MayRunOn eyes window es fs
  ended_well xs given = record { sound = ended_sound xs given; ready = ended_ready xs given; looked_up = ended_looked_up xs given; log_out = ended_log_out xs given }

  -- ---- worlds

  pub ended_held : (xs : List (List Placed)) → answers ≡ map Ok xs → All (λ r. IsForParts r.1) window → (only : Option ℕ) (w : World) → HoldWorld eyes only es w
      → HoldWorld eyes only fs (after_all (values_in window) w)
  ended_held xs given for_parts only w h =
      subst (λ gs. HoldWorld eyes only gs (after_all (values_in window) w)) (sym end.engines) (world_held eyes only window w es end.runs xs h end.ran (end.said ∙ given) for_parts)

  pub ended_kept : All (λ r. IsForParts r.1) window → (only : Option ℕ) (w : World) → HoldWorld eyes only es w → KeepWorlds eyes only fs w (after_all (values_in window) w)
  ended_kept for_parts only w h =
      subst (λ gs. KeepWorlds eyes only gs w (after_all (values_in window) w)) (sym end.engines) (worlds_kept eyes only window w es end.runs h end.ran for_parts)

  pub ended_replied : (xs : List (List Placed)) → answers ≡ map Ok xs → AreGathered → AreRenderedGathered → 0 < length es → Ascends window → All (λ r. IsForParts r.1) window → (w : World) → HoldWorld eyes None es w
      → gathered_rendered (map rendered_in xs) ≡ map (on_value rendered) (window_answered window w)
  ended_replied xs given law rendering some ascends for_parts w h = window_replied eyes window w es end.runs xs law rendering some h end.ran (end.said ∙ given) ascends for_parts

  pub ended_answers : (xs : List (List Placed)) → answers ≡ map Ok xs → AreKindsGathered → AreRenderedGathered → 0 < length es → Ascends window → All (λ r. IsForParts r.1) window
      → RenderAnswers window (gathered_rendered (map rendered_in xs))
  ended_answers xs given law rendering some ascends for_parts = window_answers eyes window es end.runs xs law rendering some (end.said ∙ given) end.ran ascends for_parts

  -- ---- faults

  pub ended_first : (fault : EnginesFault) (n : ℕ) → n ≡ length es → IfOf fault (λ p why. (p < n) × IsFirstFault p why answers)
      → IfOf fault (λ p why. (p < length es) × AtEach (λ q e f. StopsFirst (told_part eyes) eyes.content p why q (share (length es) q window) e.engine f.engine) 0 es fs)
  ended_first (Of p why) n many first = (
    subst (λ m. p < m) many first.0,
    subst (AtEach (λ q e f. StopsFirst (told_part eyes) eyes.content p why q (share (length es) q window) e.engine f.engine) 0 es) (sym end.engines)
        (stops_first eyes window p why es end.runs (subst (IsFirstFault p why) (sym end.said) first.1) end.ran),
  )
  ended_first Memory n many first = tt

  -- a cause that never comes
  pub ended_uncounted : (Q : ℕ → Type 0) → ((p : ℕ) → Q p → ⊥) → AtEach (λ q e f. IsCountedWithin (most_reads (live_in e.engine.part) (values_in (share (length es) q window))) (Q q) (eyes.counts e.engine.part.main) (eyes.counts f.engine.part.main)) 0 es fs
  ended_uncounted Q never = ended_run (λ q e f. IsCountedWithin (most_reads (live_in e.engine.part) (values_in (share (length es) q window))) (Q q) (eyes.counts e.engine.part.main) (eyes.counts f.engine.part.main))
      (λ p e f answer ran. record { faults = ran.0.counted.faults; cause = λ cause. absurd (never p cause); reads = ran.0.counted.reads })

  pub ended_counted : {A : Type 0} (r : Result A EnginesFault) (fault : EnginesFault) (n : ℕ) → IsErrAnd r (λ e. e ≡ fault) → IfOf fault (λ p why. (p < n) × IsFirstFault p why answers)
      → AtEach (λ q e f. IsCountedWithin (most_reads (live_in e.engine.part) (values_in (share (length es) q window))) (IsDiskOf q r) (eyes.counts e.engine.part.main) (eyes.counts f.engine.part.main)) 0 es fs
  ended_counted {A = A} r (Of p why) n is first =
      subst (λ x. AtEach (λ q e f. IsCountedWithin (most_reads (live_in e.engine.part) (values_in (share (length es) q window))) (IsDiskOf {A = A} q x) (eyes.counts e.engine.part.main) (eyes.counts f.engine.part.main)) 0 es fs) (sym (err_is r (Of p why) is))
      (subst (AtEach (λ q e f. IsCountedWithin (most_reads (live_in e.engine.part) (values_in (share (length es) q window))) (IsDiskOf {A = A} q (Err (Of p why))) (eyes.counts e.engine.part.main) (eyes.counts f.engine.part.main)) 0 es) (sym end.engines)
      (counted_first eyes window p why es end.runs (subst (IsFirstFault p why) (sym end.said) first.1) end.ran))
  ended_counted {A = A} r Memory n is first = ended_uncounted (λ p. IsDiskOf p r) (no_disk r is)
