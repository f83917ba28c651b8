-- The frames that a window wrote are taken, one of each engine.
use Rattle.std.proofs.Common.{◌≡◌, ◌∙◌, ◌<◌, ◌+◌, ℕ, suc, List, [], ◌∷◌, length, map, arith, refl, ap, sym, subst}
use Rattle.std.specs.Prelude.{zip, Result, Ok, OnOk}
use Rattle.std.specs.declared.alloc.Global.{Global}
use Rattle.std.specs.declared.vec.Vec.{Vec}
use Rattle.tc_log.specs.declared.write.Write.{Write}
use Rattle.tc_model.specs.Keyed.{Keyed}
use Rattle.tc_request_model.specs.Request.{Request}
use Rattle.tc_route.specs.Meaning.{requests_at}
use Rattle.tc_route.specs.Shares.{share}
use Rattle.tc_route.specs.declared.placed.Placed.{Placed}
use Rattle.tc_route.specs.declared.placed.Routed.{Routed}
use Rattle.tc_running.specs.Jobs.{JobsState}
use Rattle.tc_work.specs.EngineState.{EngineState}
use Rattle.tc_work.specs.Moving.{Eyes}
use Rattle.tc_work.specs.declared.fault.EngineFault.{EngineFault}
use Rattle.tc_keeper.specs.Places.{AtEach}
use Rattle.tc_work.specs.Committed.{HasFramed}
use Rattle.tc_keeper.specs.WithJobs.{with_jobs, WithJobs}
use Rattle.tc_keeper.proofs.PlaceLaws.{head_same, tail_same}

-- ---- one vector is read, and what else there is in it stays

-- what all that was taken is
pub all_ok : {A : Type 0} (oks : List (Result A EngineFault)) (xs ys : List A) → oks ≡ map Ok xs → oks ≡ map Ok ys → xs ≡ ys
all_ok oks [] [] one two = refl
all_ok oks [] (y ∷ ys) one two = absurd (cc)
all_ok oks (x ∷ xs) [] one two = absurd (cc)
all_ok {A = A} oks (x ∷ xs) (y ∷ ys) one two =
    let both : ◌≡◌ {A = List (Result A EngineFault)} (Ok x ∷ map Ok xs) (Ok y ∷ map Ok ys) = sym one ∙ two in
    let first : ◌≡◌ {A = Result A EngineFault} (Ok x) (Ok y) = head_same both in
    let same : x ≡ y = cc in ap (λ z. z ∷ xs) same ∙ ap (λ zs. y ∷ zs) (all_ok (map Ok xs) xs ys refl (tail_same both))

-- a relation to what is read of the others, which stays
pub reads_stay : {X U V : Type 0} (f : X → U) (g : X → V) (R : ℕ → X → U → V → Type 0) (p : ℕ) (olds mids news : List X) → map f news ≡ map f mids → map g news ≡ map g mids → AtEach (λ i x y. R i x (f y) (g y)) p olds mids → AtEach (λ i x y. R i x (f y) (g y)) p olds news
reads_stay f g R p [] [] [] one two all = tt
reads_stay f g R p [] [] (n ∷ news) one two all = absurd (cc)
reads_stay f g R p [] (m ∷ mids) news one two all = absurd all
reads_stay f g R p (o ∷ olds) [] news one two all = absurd all
reads_stay f g R p (o ∷ olds) (m ∷ mids) [] one two all = absurd (cc)
reads_stay f g R p (o ∷ olds) (m ∷ mids) (n ∷ news) one two all =
    (subst (λ v. R p o (f n) v) (sym (head_same two)) (subst (λ u. R p o u (g m)) (sym (head_same one)) all.0), reads_stay f g R (suc p) olds mids news (tail_same one) (tail_same two) all.1)

-- and one to what was taken of them besides
pub reads_taken : {X U V T : Type 0} (f : X → U) (g : X → V) (h : X → T) (R : ℕ → X → U → V → T → Type 0) (p : ℕ) (olds mids news : List X) → map f news ≡ map f mids → map g news ≡ map g mids → AtEach (λ i x y. R i x (f y) (g y) (h y)) p olds mids
    → AtEach (λ i (run : X × X) t. R i run.0 (f run.1) (g run.1) t) p (zip olds news) (map h mids)
reads_taken f g h R p [] [] [] one two all = tt
reads_taken f g h R p [] [] (n ∷ news) one two all = absurd (cc)
reads_taken f g h R p [] (m ∷ mids) news one two all = absurd all
reads_taken f g h R p (o ∷ olds) [] news one two all = absurd all
reads_taken f g h R p (o ∷ olds) (m ∷ mids) [] one two all = absurd (cc)
reads_taken f g h R p (o ∷ olds) (m ∷ mids) (n ∷ news) one two all =
    (subst (λ v. R p o (f n) v (h m)) (sym (head_same two)) (subst (λ u. R p o u (g m) (h m)) (sym (head_same one)) all.0), reads_taken f g h R (suc p) olds mids news (tail_same one) (tail_same two) all.1)

-- ---- the frames of a window, where all engines answered

-- what was written of the lists is what was written of the shares
pub shares_framed : {X S D F W : Type 0} (eyes : Eyes S D F W) (f : X → EngineState S D F W) (g : X → Result (List Placed) EngineFault)
    (lists : List (Vec Routed Global)) (window : Keyed Request) (count p : ℕ) (jobs : List (JobsState F D W)) (olds news : List X) (fs : List (EngineState S D F W))
    (parts : List (List Placed)) (frames : List (Vec Write Global))
    → p + length olds ≡ count → length olds ≡ length jobs → length olds ≡ length news → ((i : ℕ) → i < count → requests_at i lists ≡ share count i window)
    → map g news ≡ map Ok parts → fs ≡ map f news
    → AtEach (λ i (run : X × X) (frame : Vec Write Global). OnOk (g run.1) (HasFramed eyes (requests_at i lists) (f run.0) (f run.1) frame.items)) p (zip olds news) frames
    → AtEach (λ i (run : WithJobs S D F W × WithJobs S D F W) (frame : Vec Write Global). HasFramed eyes (share count i window) run.0.engine run.1.engine frame.items) p (zip (with_jobs (map f olds) jobs) (with_jobs fs jobs)) frames
shares_framed eyes f g lists window count p jobs [] [] fs parts [] ends many both each given same all = tt
shares_framed eyes f g lists window count p jobs [] [] fs parts (v ∷ frames) ends many both each given same all = absurd all
shares_framed eyes f g lists window count p jobs [] (n ∷ news) fs parts frames ends many both each given same all = absurd (omega (arith, both))
shares_framed eyes f g lists window count p jobs (o ∷ olds) [] fs parts frames ends many both each given same all = absurd (omega (arith, both))
shares_framed eyes f g lists window count p [] (o ∷ olds) (n ∷ news) fs parts frames ends many both each given same all = absurd (omega (arith, many))
shares_framed eyes f g lists window count p (js ∷ jobs) (o ∷ olds) (n ∷ news) [] parts frames ends many both each given same all = absurd (cc)
shares_framed eyes f g lists window count p (js ∷ jobs) (o ∷ olds) (n ∷ news) (e ∷ fs) [] frames ends many both each given same all = absurd (cc)
shares_framed eyes f g lists window count p (js ∷ jobs) (o ∷ olds) (n ∷ news) (e ∷ fs) (x ∷ parts) [] ends many both each given same all = absurd all
shares_framed {S = S} {D = D} {F = F} {W = W} eyes f g lists window count p (js ∷ jobs) (o ∷ olds) (n ∷ news) (e ∷ fs) (x ∷ parts) (v ∷ frames) ends many both each given same all =
    let answered : g n ≡ Ok x = head_same given in
    let framed : HasFramed eyes (requests_at p lists) (f o) (f n) v.items = subst (λ r. OnOk r (HasFramed eyes (requests_at p lists) (f o) (f n) v.items)) answered all.0 in
    let shared : HasFramed eyes (share count p window) (f o) (f n) v.items = subst (λ rs. HasFramed eyes rs (f o) (f n) v.items) (each p (omega (arith, ends))) framed in (
      subst (λ (s : EngineState S D F W). HasFramed eyes (share count p window) (f o) s v.items) (sym (head_same same)) shared,
      shares_framed eyes f g lists window count (suc p) jobs olds news fs parts frames (omega (arith, ends)) (omega (arith, many)) (omega (arith, both)) each (tail_same given) (tail_same same) all.1,
    )
