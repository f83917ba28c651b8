-- Laws of engines that have their jobs beside them.
use Rattle.std.proofs.Common.{◌≡◌, ◌∙◌, ◌<◌, ℕ, zero, suc, List, [], ◌∷◌, ◌++◌, length, map, set, arith, refl, ap, ap₂, subst, sym}
use Rattle.std.specs.Prelude.{slice_index_or, All}
use Rattle.std.specs.Vec.{with_items}
use Rattle.std.specs.declared.alloc.Global.{Global}
use Rattle.std.specs.declared.vec.Vec.{Vec}
use Rattle.std.proofs.lemmas.List.{length-map}
use Rattle.std.proofs.lemmas.List.Elements.{All-nil, All-cons, All-head, All-tail}
use Rattle.tc_running.specs.Jobs.{JobsState}
use Rattle.tc_work.specs.EngineState.{EngineState}
use Rattle.tc_work.specs.Moving.{Eyes}
use Rattle.tc_keeper.specs.Places.{AtEach}
use Rattle.tc_keeper.specs.WithJobs.{engine_with, with_jobs, AreStaffed, IsStaffed, WithJobs}
use Rattle.tc_keeper.proofs.PlaceLaws.{at_each-length, refilled}

-- ---- lists

pub with_jobs-length : {S D F W : Type 0} (es : List (EngineState S D F W)) (jobs : List (JobsState F D W)) → length es ≡ length jobs → length (with_jobs es jobs) ≡ length es
with_jobs-length [] jobs many = refl
with_jobs-length (e ∷ es) [] many = absurd (omega (arith, many))
with_jobs-length (e ∷ es) (js ∷ jobs) many = ap suc (with_jobs-length es jobs (omega (arith, many)))

pub with_jobs-append : {S D F W : Type 0} (es fs : List (EngineState S D F W)) (jobs more : List (JobsState F D W)) → length es ≡ length jobs → with_jobs (es ++ fs) (jobs ++ more) ≡ with_jobs es jobs ++ with_jobs fs more
with_jobs-append [] fs [] more many = refl
with_jobs-append [] fs (js ∷ jobs) more many = absurd (omega (arith, many))
with_jobs-append (e ∷ es) fs [] more many = absurd (omega (arith, many))
with_jobs-append (e ∷ es) fs (js ∷ jobs) more many = ap (λ xs. engine_with e js ∷ xs) (with_jobs-append es fs jobs more (omega (arith, many)))

-- what is read at a place
pub with_jobs-at : {X S D F W : Type 0} (f : X → EngineState S D F W) (xs : List X) (jobs : List (JobsState F D W)) (at : ℕ) (x : X) (js : JobsState F D W) → length xs ≡ length jobs → at < length xs → x ≡ slice_index_or xs at x → js ≡ slice_index_or jobs at js
    → engine_with (f x) js ≡ slice_index_or (with_jobs (map f xs) jobs) at (engine_with (f x) js)
with_jobs-at f [] jobs at x js many below is are = absurd (omega (arith, below))
with_jobs-at f (y ∷ xs) [] at x js many below is are = absurd (omega (arith, many))
with_jobs-at f (y ∷ xs) (ks ∷ jobs) zero x js many below is are = ap₂ engine_with (ap f is) are
with_jobs-at f (y ∷ xs) (ks ∷ jobs) (suc at) x js many below is are = with_jobs-at f xs jobs at x js (omega (arith, many)) (omega (arith, below)) is are

-- both are written at a place
pub with_jobs-set : {X S D F W : Type 0} (f : X → EngineState S D F W) (xs : List X) (jobs : List (JobsState F D W)) (at : ℕ) (x : X) (js : JobsState F D W) → length xs ≡ length jobs
    → set (with_jobs (map f xs) jobs) at (engine_with (f x) js) ≡ with_jobs (map f (set xs at x)) (set jobs at js)
with_jobs-set f [] jobs at x js many = refl
with_jobs-set f (y ∷ xs) [] at x js many = absurd (omega (arith, many))
with_jobs-set f (y ∷ xs) (ks ∷ jobs) zero x js many = refl
with_jobs-set f (y ∷ xs) (ks ∷ jobs) (suc at) x js many = ap (λ zs. engine_with (f y) ks ∷ zs) (with_jobs-set f xs jobs at x js (omega (arith, many)))

-- what holds of the engines alone
pub with_jobs-all : {S D F W : Type 0} (P : EngineState S D F W → Type 0) (es : List (EngineState S D F W)) (jobs : List (JobsState F D W)) → length es ≡ length jobs → All (λ e. P e.engine) (with_jobs es jobs) → All P es
with_jobs-all P [] jobs many all = All-nil P
with_jobs-all P (e ∷ es) [] many all = absurd (omega (arith, many))
with_jobs-all P (e ∷ es) (js ∷ jobs) many all =
    All-cons P e es (All-head (λ e. P e.engine) (engine_with e js) (with_jobs es jobs) all) (with_jobs-all P es jobs (omega (arith, many)) (All-tail (λ e. P e.engine) (engine_with e js) (with_jobs es jobs) all))

pub all-with_jobs : {S D F W : Type 0} (P : EngineState S D F W → Type 0) (es : List (EngineState S D F W)) (jobs : List (JobsState F D W)) → All P es → All (λ e. P e.engine) (with_jobs es jobs)
all-with_jobs P [] jobs all = All-nil (λ e. P e.engine)
all-with_jobs P (e ∷ es) [] all = All-nil (λ e. P e.engine)
all-with_jobs P (e ∷ es) (js ∷ jobs) all = All-cons (λ e. P e.engine) (engine_with e js) (with_jobs es jobs) (All-head P e es all) (all-with_jobs P es jobs (All-tail P e es all))

-- and of them beside another list
pub at_each-with_jobs : {S D F W Y : Type 0} (R : ℕ → EngineState S D F W → Y → Type 0) (p : ℕ) (es : List (EngineState S D F W)) (jobs : List (JobsState F D W)) (ys : List Y) → length es ≡ length jobs → AtEach R p es ys → AtEach (λ i e y. R i e.engine y) p (with_jobs es jobs) ys
at_each-with_jobs R p [] jobs [] many all = tt
at_each-with_jobs R p [] jobs (y ∷ ys) many all = absurd all
at_each-with_jobs R p (e ∷ es) [] ys many all = absurd (omega (arith, many))
at_each-with_jobs R p (e ∷ es) (js ∷ jobs) [] many all = absurd all
at_each-with_jobs R p (e ∷ es) (js ∷ jobs) (y ∷ ys) many all = (all.0, at_each-with_jobs R (suc p) es jobs ys (omega (arith, many)) all.1)

-- ---- engines that have their jobs

module _ {S D F W : Type 0} (eyes : Eyes S D F W) where
  pub staffed-many : (es : List (EngineState S D F W)) (jobs : List (JobsState F D W)) → AreStaffed eyes es jobs → length es ≡ length jobs
  staffed-many es jobs all = at_each-length (λ p e js. IsStaffed eyes e js) 0 es jobs all

  -- one more of both
  staffed_more : (p : ℕ) (es : List (EngineState S D F W)) (jobs : List (JobsState F D W)) (e : EngineState S D F W) (js : JobsState F D W) → AtEach (λ i e js. IsStaffed eyes e js) p es jobs → IsStaffed eyes e js → AtEach (λ i e js. IsStaffed eyes e js) p (es ++ e ∷ []) (jobs ++ js ∷ [])
  staffed_more p [] [] e js all one = (one, tt)
  staffed_more p [] (ks ∷ jobs) e js all one = absurd all
  staffed_more p (f ∷ es) [] e js all one = absurd all
  staffed_more p (f ∷ es) (ks ∷ jobs) e js all one = (all.0, staffed_more (suc p) es jobs e js all.1 one)

  pub staffed-append : (es : List (EngineState S D F W)) (jobs : List (JobsState F D W)) (e : EngineState S D F W) (js : JobsState F D W) → AreStaffed eyes es jobs → IsStaffed eyes e js → AreStaffed eyes (es ++ e ∷ []) (jobs ++ js ∷ [])
  staffed-append es jobs e js all one = staffed_more 0 es jobs e js all one

  -- one fewer
  record StaffedLess (p : ℕ) (es : List (EngineState S D F W)) (jobs : List (JobsState F D W)) (e : EngineState S D F W) (js : JobsState F D W) : Type 0 where
    pub others : AtEach (λ i e js. IsStaffed eyes e js) p es jobs
    pub last : IsStaffed eyes e js

  staffed_less : (p : ℕ) (es : List (EngineState S D F W)) (jobs : List (JobsState F D W)) (e : EngineState S D F W) (js : JobsState F D W) → AtEach (λ i e js. IsStaffed eyes e js) p (es ++ e ∷ []) (jobs ++ js ∷ []) → StaffedLess p es jobs e js
  staffed_less p [] [] e js all = record { others = tt; last = all.0 }
  staffed_less p [] (ks ∷ []) e js all = absurd all.1
  staffed_less p [] (ks ∷ ls ∷ jobs) e js all = absurd all.1
  staffed_less p (f ∷ []) [] e js all = absurd all.1
  staffed_less p (f ∷ g ∷ es) [] e js all = absurd all.1
  staffed_less p (f ∷ es) (ks ∷ jobs) e js all =
      let rest = staffed_less (suc p) es jobs e js all.1 in record { others = (all.0, rest.others); last = rest.last }

  pub staffed-front : (es : List (EngineState S D F W)) (jobs : List (JobsState F D W)) (e : EngineState S D F W) (js : JobsState F D W) → AreStaffed eyes (es ++ e ∷ []) (jobs ++ js ∷ []) → AreStaffed eyes es jobs
  staffed-front es jobs e js all = (staffed_less 0 es jobs e js all).others

  pub staffed-last : (es : List (EngineState S D F W)) (jobs : List (JobsState F D W)) (e : EngineState S D F W) (js : JobsState F D W) → AreStaffed eyes (es ++ e ∷ []) (jobs ++ js ∷ []) → IsStaffed eyes e js
  staffed-last es jobs e js all = (staffed_less 0 es jobs e js all).last

  -- that at a place
  there_staffed : {X : Type 0} (f : X → EngineState S D F W) (p at : ℕ) (xs : List X) (jobs : List (JobsState F D W)) (x : X) (js : JobsState F D W) → at < length xs → x ≡ slice_index_or xs at x → js ≡ slice_index_or jobs at js
      → AtEach (λ i e js. IsStaffed eyes e js) p (map f xs) jobs → IsStaffed eyes (f x) js
  there_staffed f p at [] jobs x js below is are all = absurd (omega (arith, below))
  there_staffed f p at (y ∷ xs) [] x js below is are all = absurd all
  there_staffed f p zero (y ∷ xs) (ks ∷ jobs) x js below is are all = subst (λ e. IsStaffed eyes e js) (sym (ap f is)) (subst (IsStaffed eyes (f y)) (sym are) all.0)
  there_staffed f p (suc at) (y ∷ xs) (ks ∷ jobs) x js below is are all = there_staffed f (suc p) at xs jobs x js (omega (arith, below)) is are all.1

  pub staffed-at : {X : Type 0} (f : X → EngineState S D F W) (at : ℕ) (xs : List X) (jobs : List (JobsState F D W)) (x : X) (js : JobsState F D W) → at < length xs → x ≡ slice_index_or xs at x → js ≡ slice_index_or jobs at js → AreStaffed eyes (map f xs) jobs → IsStaffed eyes (f x) js
  staffed-at f at xs jobs x js below is are all = there_staffed f 0 at xs jobs x js below is are all

  -- another one in its place
  put_staffed : {X : Type 0} (f : X → EngineState S D F W) (p at : ℕ) (xs : List X) (jobs : List (JobsState F D W)) (x : X) (js : JobsState F D W) → AtEach (λ i e js. IsStaffed eyes e js) p (map f xs) jobs → IsStaffed eyes (f x) js
      → AtEach (λ i e js. IsStaffed eyes e js) p (map f (set xs at x)) (set jobs at js)
  put_staffed f p at [] [] x js all one = tt
  put_staffed f p at [] (ks ∷ jobs) x js all one = absurd all
  put_staffed f p at (y ∷ xs) [] x js all one = absurd all
  put_staffed f p zero (y ∷ xs) (ks ∷ jobs) x js all one = (one, all.1)
  put_staffed f p (suc at) (y ∷ xs) (ks ∷ jobs) x js all one = (all.0, put_staffed f (suc p) at xs jobs x js all.1 one)

  pub staffed-set : {X : Type 0} (f : X → EngineState S D F W) (at : ℕ) (xs : List X) (jobs : List (JobsState F D W)) (x : X) (js : JobsState F D W) → AreStaffed eyes (map f xs) jobs → IsStaffed eyes (f x) js → AreStaffed eyes (map f (set xs at x)) (set jobs at js)
  staffed-set f at xs jobs x js all one = put_staffed f 0 at xs jobs x js all one

  -- how many they are
  pub seats_many : {X : Type 0} (f : X → EngineState S D F W) (xs : List X) (jobs : List (JobsState F D W)) (es : List (WithJobs S D F W)) → AreStaffed eyes (map f xs) jobs → with_jobs (map f xs) jobs ≡ es → length xs ≡ length es
  seats_many f xs jobs es all view = sym (length-map xs f) ∙ sym (with_jobs-length (map f xs) jobs (staffed-many (map f xs) jobs all)) ∙ ap length view

  pub jobs_many : {X : Type 0} (f : X → EngineState S D F W) (olds news : List X) (nows : List (JobsState F D W)) (items : List X)
      (running : Vec (JobsState F D W) Global) → olds ≡ items → length news ≡ length olds → AreStaffed eyes (map f news) nows
      → AreStaffed eyes (map f items) running.items → length nows ≡ running.len
  jobs_many f olds news nows items running same many all before =
      let now : length news ≡ length nows = sym (length-map news f) ∙ staffed-many (map f news) nows all in
      let was : length items ≡ length running.items = sym (length-map items f) ∙ staffed-many (map f items) running.items before in
      omega (arith, now, many, ap length same, was, running.ok.0)

-- ---- vectors that were written over

-- engines in one vector and jobs in another, of which others took the places
pub refilled_both : {X S D F W : Type 0} (f : X → EngineState S D F W) (P : List (EngineState S D F W) → List (JobsState F D W) → Type 0) (seats : Vec X Global) (running : Vec (JobsState F D W) Global) (news : List X) (nows : List (JobsState F D W))
    → length news ≡ seats.len → length nows ≡ running.len → P (map f news) nows → P (map f (with_items seats news).items) (with_items running nows).items
refilled_both f P seats running news nows many as_many holds =
    subst (λ xs. P (map f xs) (with_items running nows).items) (sym (refilled seats news many)) (subst (P (map f news)) (sym (refilled running nows as_many)) holds)

-- a call was made of them, that took both slices
pub called : {X S D F W : Type 0} (f : X → EngineState S D F W) (P : List (WithJobs S D F W) → List (WithJobs S D F W) → Type 0) (seats : Vec X Global)
    (running : Vec (JobsState F D W) Global) (olds : List X) (runs : List (JobsState F D W)) (news : List X) (nows : List (JobsState F D W))
    (es : List (WithJobs S D F W))
    → olds ≡ seats.items → runs ≡ running.items → with_jobs (map f seats.items) running.items ≡ es → length news ≡ seats.len → length nows ≡ running.len → P (with_jobs (map f olds) runs) (with_jobs (map f news) nows)
    → P es (with_jobs (map f (with_items seats news).items) (with_items running nows).items)
called f P seats running olds runs news nows es same_olds same_runs view many as_many holds =
    refilled_both f (λ fs jobs. P es (with_jobs fs jobs)) seats running news nows many as_many
    (subst (λ xs. P xs (with_jobs (map f news) nows)) (ap (λ xs. with_jobs (map f xs) runs) same_olds ∙ ap (with_jobs (map f seats.items)) same_runs ∙ view) holds)
