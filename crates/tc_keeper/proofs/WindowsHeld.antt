-- All engines behind a window: each ran its share, so that together they hold the world behind it, or keep one of the two.
use Rattle.std.proofs.Common.{◌≡◌, ◌∙◌, ℕ, suc, ◌<◌, List, [], ◌∷◌, length, map, refl, ap, sym, subst, inl, inr}
use Rattle.std.specs.List.{AllByRecursion}
use Rattle.std.specs.Prelude.{All, None, Option, Result, Ok, Err}
use Rattle.tc_model.specs.Keyed.{Keyed, Ascends, values_in, on_value}
use Rattle.tc_request_model.specs.Request.{Request}
use Rattle.tc_route.specs.Answers.{answered, shares_answered, stores_of, window_answered, AreGathered, IsForParts, KeepOwn}
use Rattle.tc_route.specs.Gathered.{gathered, gathered_rendered, AreRenderedGathered}
use Rattle.tc_request_model.specs.Rendered.{rendered}
use Rattle.tc_route.specs.Meaning.{rendered_in}
use Rattle.tc_route.specs.Shares.{share}
use Rattle.tc_route.specs.declared.placed.Placed.{Placed}
use Rattle.tc_run_model.specs.World.{Part, World, after_all}
use Rattle.tc_work.specs.Moving.{Eyes}
use Rattle.tc_work.specs.declared.fault.EngineFault.{EngineFault}
use Rattle.tc_keeper.specs.Places.{AtEach}
use Rattle.tc_keeper.specs.Running.{HasRun}
use Rattle.tc_keeper.specs.Standing.{partition_at, HoldsOwn, HoldWorld, KeepsOwn, KeepWorlds}
use Rattle.tc_keeper.specs.WithJobs.{WithJobs}
use Rattle.tc_keeper.proofs.EnginesHeld.{engine_failed, engine_held}
use Rattle.tc_keeper.proofs.OwnKeys.{own_left}
use Rattle.tc_keeper.proofs.PlaceLaws.{at_each-join, at_each-length, at_each-reads, at_each-so, at_each-turned, at_each-with, at_each-zip, head_same, tail_same}
use Rattle.tc_keeper.proofs.SharesLeft.{shares_left, AreLeft, IsLeft}

-- an engine ran its share, and its jobs that are out stayed
abbrev pub HasRunBeside : {S D F W : Type 0} → Eyes S D F W → Keyed Request → WithJobs S D F W → WithJobs S D F W → Result (List Placed) EngineFault → Type 0
HasRunBeside eyes rs old new answer = HasRun eyes rs old.engine new.engine answer × (new.jobs ≡ old.jobs)

-- an engine behind its share, and its answer
abbrev pub Ran : Type 0 → Type 0 → Type 0 → Type 0 → Type 0
Ran S D F W = WithJobs S D F W × Result (List Placed) EngineFault

-- each engine ran its share
abbrev pub EachRan : {S D F W : Type 0} → Eyes S D F W → Keyed Request → List (WithJobs S D F W) → List (Ran S D F W) → Type 0
EachRan eyes window es rs = AtEach (λ p e r. HasRunBeside eyes (share (length es) p window) e r.0 r.1) 0 es rs

-- ---- answers

abbrev pub IsGiven : Result (List Placed) EngineFault → Type 0
IsGiven answer = (x : List Placed) × (answer ≡ Ok x)

pub given_all : {S D F W : Type 0} (rs : List (Ran S D F W)) (parts : List (List Placed)) → map (λ r. r.1) rs ≡ map Ok parts → AllByRecursion (λ r. IsGiven r.1) rs
given_all [] parts same = tt
given_all (r ∷ rs) [] same = absurd (cc)
given_all (r ∷ rs) (x ∷ parts) same =
    ((x, head_same same), given_all rs parts (tail_same same))

-- ---- one engine and its part

-- an engine that holds a part of the world, if it is looked at, ran
record RanFrom {S D F W : Type 0} (eyes : Eyes S D F W) (only : Option ℕ) (count : ℕ) (window : Keyed Request) (w : World) (p : ℕ) (part : Part) (r : Ran S D F W) : Type 0 where
  pub engine : WithJobs S D F W
  pub holds : HoldsOwn eyes only (length w.parts) w p engine part
  pub ran : HasRunBeside eyes (share count p window) engine r.0 r.1

ran_from : {S D F W : Type 0} (eyes : Eyes S D F W) (only : Option ℕ) (window : Keyed Request) (w : World) (es : List (WithJobs S D F W)) (rs : List (Ran S D F W))
    → HoldWorld eyes only es w → EachRan eyes window es rs → AtEach (RanFrom eyes only (length es) window w) 0 w.parts rs
ran_from eyes only window w es rs h ran = at_each-join
    (HoldsOwn eyes only (length w.parts) w)
    (λ p e r. HasRunBeside eyes (share (length es) p window) e r.0 r.1)
    (RanFrom eyes only (length es) window w) 0 es w.parts rs
    (λ p e part r holds ran. record { engine = e; holds = holds; ran = ran }) h.each ran

many_parts : {S D F W : Type 0} (eyes : Eyes S D F W) (only : Option ℕ) (w : World) (es : List (WithJobs S D F W)) → HoldWorld eyes only es w → length w.parts ≡ length es
many_parts eyes only w es h = sym (at_each-length (HoldsOwn eyes only (length w.parts) w) 0 es w.parts h.each)

-- ---- all answered

-- the part that is held behind a share
held_one : {S D F W : Type 0} (eyes : Eyes S D F W) (only : Option ℕ) (count : ℕ) (window : Keyed Request) (w v : World) → AreLeft count window w v
    → (p : ℕ) (r : Ran S D F W) (old new : Part) → IsGiven r.1 → RanFrom eyes only count window w p old r → IsLeft w.limits v.flushed (values_in (share count p window)) old new → HoldsOwn eyes only (length w.parts) v p r.0 new
held_one eyes only count window w v left p r old new given from is_left seen =
    engine_held eyes (partition_at p (length w.parts)) (share count p window) w v left.limits left.flushed from.engine r.0 given.0 old new (from.holds seen)
    (subst (HasRun eyes (share count p window) from.engine.engine r.0.engine) given.1 from.ran.0) from.ran.1 is_left

pub world_held : {S D F W : Type 0} (eyes : Eyes S D F W) (only : Option ℕ) (window : Keyed Request) (w : World) (es : List (WithJobs S D F W)) (rs : List (Ran S D F W)) (parts : List (List Placed))
    → HoldWorld eyes only es w → EachRan eyes window es rs → map (λ r. r.1) rs ≡ map Ok parts → All (λ r. IsForParts r.1) window
    → HoldWorld eyes only (map (λ r. r.0) rs) (after_all (values_in window) w)
world_held eyes only window w es rs parts h ran answers for_parts = record {
  each = subst (λ n. AtEach (HoldsOwn eyes only n v) 0 (map (λ r. r.0) rs) v.parts) (sym left.many)
      (at_each-turned (λ p part e. HoldsOwn eyes only (length w.parts) v p e part) 0 v.parts (map (λ r. r.0) rs)
      (at_each-reads (λ r. r.0) (λ p part e. HoldsOwn eyes only (length w.parts) v p e part) 0 v.parts rs all));
  own = λ each. subst (λ n. KeepOwn n 0 (stores_of v)) (sym left.many) (own_left (length w.parts) 0 w.limits v.flushed window w.parts v.parts
      (subst (λ n. AtEach (λ p old new. IsLeft w.limits v.flushed (values_in (share n p window)) old new) 0 w.parts v.parts) (sym many) left.each) (h.own each));
}
  where
    v : World
    v = after_all (values_in window) w

    many : length w.parts ≡ length es
    many = many_parts eyes only w es h

    left : AreLeft (length es) window w v
    left = shares_left (length es) window w many for_parts

    all : AtEach (λ p part r. HoldsOwn eyes only (length w.parts) v p r.0 part) 0 v.parts rs
    all = at_each-join
        (λ p old new. IsLeft w.limits v.flushed (values_in (share (length es) p window)) old new)
        (λ p old r. IsGiven r.1 × RanFrom eyes only (length es) window w p old r)
        (λ p part r. HoldsOwn eyes only (length w.parts) v p r.0 part) 0 w.parts v.parts rs
        (λ p old new r is_left from. held_one eyes only (length es) window w v left p r old new from.0 from.1 is_left) left.each
        (at_each-with (λ r. IsGiven r.1) (RanFrom eyes only (length es) window w) 0 w.parts rs (given_all rs parts answers) (ran_from eyes only window w es rs h ran))

-- ---- some failed

kept_one : {S D F W : Type 0} (eyes : Eyes S D F W) (only : Option ℕ) (count : ℕ) (window : Keyed Request) (w v : World) → AreLeft count window w v
    → (p : ℕ) (old : Part) (f : WithJobs S D F W) (answer : Result (List Placed) EngineFault) (new : Part) → RanFrom eyes only count window w p old (f, answer) → IsLeft w.limits v.flushed (values_in (share count p window)) old new
    → KeepsOwn eyes only (length w.parts) w v p f old new
kept_one eyes only count window w v left p old f (Ok x) new from is_left = λ seen.
    inr (inl (engine_held eyes (partition_at p (length w.parts)) (share count p window) w v left.limits left.flushed from.engine f x old new (from.holds seen) from.ran.0 from.ran.1 is_left))
kept_one eyes only count window w v left p old f (Err why) new from is_left = λ seen.
    inr (inr (engine_failed eyes (partition_at p (length w.parts)) (share count p window) w v from.engine f why old new (from.holds seen) from.ran.0 from.ran.1 is_left))

pub worlds_kept : {S D F W : Type 0} (eyes : Eyes S D F W) (only : Option ℕ) (window : Keyed Request) (w : World) (es : List (WithJobs S D F W)) (rs : List (Ran S D F W))
    → HoldWorld eyes only es w → EachRan eyes window es rs → All (λ r. IsForParts r.1) window
    → KeepWorlds eyes only (map (λ r. r.0) rs) w (after_all (values_in window) w)
worlds_kept eyes only window w es rs h ran for_parts =
    at_each-zip
    (λ p part e. (answer : Result (List Placed) EngineFault) × RanFrom eyes only (length es) window w p part (e, answer))
    (λ p old new. IsLeft w.limits v.flushed (values_in (share (length es) p window)) old new)
    (λ p e parts. KeepsOwn eyes only (length w.parts) w v p e parts.0 parts.1) 0 w.parts (map (λ r. r.0) rs) v.parts
    (λ p old e new from is_left. kept_one eyes only (length es) window w v left p old e from.0 new from.1 is_left)
    (at_each-reads (λ r. r.0) (λ p part e. (answer : Result (List Placed) EngineFault) × RanFrom eyes only (length es) window w p part (e, answer)) 0 w.parts rs
    (at_each-so (RanFrom eyes only (length es) window w) (λ p part r. (answer : Result (List Placed) EngineFault) × RanFrom eyes only (length es) window w p part (r.0, answer)) 0 w.parts rs
    (λ p part r from. (r.1, record { engine = from.engine; holds = from.holds; ran = from.ran })) (ran_from eyes only window w es rs h ran)))
    left.each
  where
    v : World
    v = after_all (values_in window) w

    left : AreLeft (length es) window w v
    left = shares_left (length es) window w (many_parts eyes only w es h) for_parts

-- where nothing was run
pub nothing_run : {S D F W : Type 0} (eyes : Eyes S D F W) (only : Option ℕ) (window : Keyed Request) (w : World) (es : List (WithJobs S D F W)) → HoldWorld eyes only es w → All (λ r. IsForParts r.1) window
    → KeepWorlds eyes only es w (after_all (values_in window) w)
nothing_run eyes only window w es h for_parts =
    let left = shares_left (length es) window w (many_parts eyes only w es h) for_parts in
    at_each-zip (λ p part e. HoldsOwn eyes only (length w.parts) w p e part)
    (λ p old new. IsLeft w.limits (after_all (values_in window) w).flushed (values_in (share (length es) p window)) old new)
    (λ p e parts. KeepsOwn eyes only (length w.parts) w (after_all (values_in window) w) p e parts.0 parts.1) 0 w.parts es (after_all (values_in window) w).parts
    (λ p old e new holds is_left seen. inl (holds seen))
    (at_each-turned (HoldsOwn eyes only (length w.parts) w) 0 es w.parts h.each) left.each

-- ---- replies

-- what an engine answers is what its part of the world does
answered_one : {S D F W : Type 0} (eyes : Eyes S D F W) (count : ℕ) (window : Keyed Request) (w : World) (p : ℕ) (part : Part) (f : WithJobs S D F W) (x : List Placed)
    → RanFrom eyes None count window w p part (f, Ok x) → rendered_in x ≡ map (on_value rendered) (answered w.limits (share count p window) part.now)
answered_one eyes count window w p part f x from =
    let holds = from.holds tt in
    from.ran.0.replies holds.view holds.is holds.tells.components
    ∙ ap (λ s. map (on_value rendered) (answered from.engine.engine.part.limits (share count p window) s)) holds.stores
    ∙ sym (ap (λ l. map (on_value rendered) (answered l (share count p window) part.now)) holds.under)

answered_each : {S D F W : Type 0} (eyes : Eyes S D F W) (count : ℕ) (window : Keyed Request) (w : World) (p : ℕ) (rs : List (Ran S D F W)) (xs : List (List Placed)) (parts : List Part)
    → map (λ r. r.1) rs ≡ map Ok xs → AtEach (RanFrom eyes None count window w) p parts rs → map rendered_in xs ≡ map (map (on_value rendered)) (shares_answered w.limits count p window (map (λ part. part.now) parts))
answered_each eyes count window w p [] [] [] same from = refl
answered_each eyes count window w p [] [] (part ∷ parts) same from = absurd from
answered_each eyes count window w p [] (x ∷ xs) parts same from = absurd (cc)
answered_each eyes count window w p (r ∷ rs) [] parts same from = absurd (cc)
answered_each eyes count window w p (r ∷ rs) (x ∷ xs) [] same from = absurd from
answered_each eyes count window w p (r ∷ rs) (x ∷ xs) (part ∷ parts) same from =
    let first : r.1 ≡ Ok x = head_same same in
    let rest : map (λ r. r.1) rs ≡ map Ok xs = tail_same same in
    let here : rendered_in x ≡ map (on_value rendered) (answered w.limits (share count p window) part.now) =
    answered_one eyes count window w p part r.0 x
    (record { engine = from.0.engine; holds = from.0.holds; ran = subst (HasRunBeside eyes (share count p window) from.0.engine r.0) first from.0.ran }) in
    let more : map rendered_in xs ≡ map (map (on_value rendered)) (shares_answered w.limits count (suc p) window (map (λ part. part.now) parts)) = answered_each eyes count window w (suc p) rs xs parts rest from.1 in
    ap (λ first. first ∷ map rendered_in xs) here ∙ ap (λ all. map (on_value rendered) (answered w.limits (share count p window) part.now) ∷ all) more

pub window_replied : {S D F W : Type 0} (eyes : Eyes S D F W) (window : Keyed Request) (w : World) (es : List (WithJobs S D F W)) (rs : List (Ran S D F W)) (xs : List (List Placed)) → AreGathered → AreRenderedGathered
    → 0 < length es → HoldWorld eyes None es w → EachRan eyes window es rs → map (λ r. r.1) rs ≡ map Ok xs → Ascends window → All (λ r. IsForParts r.1) window
    → gathered_rendered (map rendered_in xs) ≡ map (on_value rendered) (window_answered window w)
window_replied eyes window w es rs xs law rendering some h ran answers ascends for_parts =
    let many : length w.parts ≡ length es = many_parts eyes None w es h in
    ap gathered_rendered (answered_each eyes (length es) window w 0 rs xs w.parts answers (ran_from eyes None window w es rs h ran))
    ∙ rendering (shares_answered w.limits (length es) 0 window (stores_of w))
    ∙ ap (λ n. map (on_value rendered) (gathered (shares_answered w.limits n 0 window (stores_of w)))) (sym many)
    ∙ ap (map (on_value rendered)) (law w window (subst (λ n. 0 < n) (sym many) some) (h.own refl) ascends for_parts)
