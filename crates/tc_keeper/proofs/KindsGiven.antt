-- Over every store the replies of all engines, put together, are one a command, at its place and of its kind.
use Rattle.std.proofs.Common.{◌≡◌, ◌∙◌, ℕ, suc, ◌<◌, List, [], ◌∷◌, length, map, refl, ap, sym, subst}
use Rattle.std.specs.Map.{keys_of}
use Rattle.std.specs.Prelude.{All, Ok}
use Rattle.std.proofs.lemmas.List.{length-map}
use Rattle.tc_model.specs.Keyed.{Keyed, Ascends, values_in, on_value}
use Rattle.tc_request_model.specs.Rendered.{Rendered, rendered}
use Rattle.tc_request_model.specs.Reply.{Reply}
use Rattle.tc_request_model.specs.Request.{Request}
use Rattle.tc_route.specs.Answers.{AreAnswers, AreKindsGathered, AreOfShares, IsForParts}
use Rattle.tc_route.specs.Gathered.{gathered, gathered_rendered, AreRenderedGathered}
use Rattle.tc_route.specs.Meaning.{rendered_in}
use Rattle.tc_route.specs.Shares.{share}
use Rattle.tc_route.specs.declared.placed.Placed.{Placed}
use Rattle.tc_run_model.specs.Kinds.{AreRenderedOfKinds}
use Rattle.tc_work.specs.Moving.{Eyes}
use Rattle.tc_keeper.specs.Places.{AtEach}
use Rattle.tc_keeper.specs.WithJobs.{WithJobs}
use Rattle.tc_keeper.proofs.PlaceLaws.{at_each-length, head_same, tail_same}
use Rattle.tc_keeper.proofs.WindowsHeld.{EachRan, HasRunBeside, Ran}

-- what is rendered of answers
abbrev pub RenderAnswers : Keyed Request → Keyed Rendered → Type 0
RenderAnswers rs texts = (replies : Keyed Reply) × AreAnswers rs replies × (texts ≡ map (on_value rendered) replies)

answers_by : (rs : Keyed Request) (texts : Keyed Rendered) → keys_of texts ≡ keys_of rs → AreRenderedOfKinds (values_in rs) (values_in texts) → RenderAnswers rs texts
answers_by [] [] places kinds = ([], tt, refl)
answers_by [] (a ∷ texts) places kinds = absurd kinds
answers_by (r ∷ rs) [] places kinds = absurd kinds
answers_by (r ∷ rs) (a ∷ texts) places kinds =
    let first = kinds.0 in
    let rest = answers_by rs texts (tail_same places) kinds.1 in
    ((a.0, first.0) ∷ rest.0, (head_same places, first.1, rest.1), ap (λ t. (a.0, t) ∷ texts) first.2 ∙ ap (λ ts. (a.0, rendered first.0) ∷ ts) rest.2)

keys_by : (rs : Keyed Request) (replies : Keyed Reply) → AreAnswers rs replies → keys_of (map (on_value rendered) replies) ≡ keys_of rs
keys_by [] [] are = refl
keys_by [] (a ∷ replies) are = absurd are
keys_by (r ∷ rs) [] are = absurd are
keys_by (r ∷ rs) (a ∷ replies) are = ap (λ n. n ∷ keys_of (map (on_value rendered) replies)) are.0 ∙ ap (λ ns. r.0 ∷ ns) (keys_by rs replies are.2)

pub places_of : (rs : Keyed Request) (texts : Keyed Rendered) → RenderAnswers rs texts → keys_of texts ≡ keys_of rs
places_of rs texts is = ap keys_of is.2 ∙ keys_by rs is.0 is.1

kinds_by : (rs : Keyed Request) (replies : Keyed Reply) → AreAnswers rs replies → AreRenderedOfKinds (values_in rs) (values_in (map (on_value rendered) replies))
kinds_by [] [] are = tt
kinds_by [] (a ∷ replies) are = absurd are
kinds_by (r ∷ rs) [] are = absurd are
kinds_by (r ∷ rs) (a ∷ replies) are = ((a.1, are.1, refl), kinds_by rs replies are.2)

pub kinds_of : (rs : Keyed Request) (texts : Keyed Rendered) → RenderAnswers rs texts → AreRenderedOfKinds (values_in rs) (values_in texts)
kinds_of rs texts is = subst (λ ts. AreRenderedOfKinds (values_in rs) (values_in ts)) (sym is.2) (kinds_by rs is.0 is.1)

abbrev RenderShares : ℕ → ℕ → Keyed Request → List (Keyed Rendered) → Type 0
RenderShares count p window parts = (replies : List (Keyed Reply)) × AreOfShares count p window replies × (parts ≡ map (map (on_value rendered)) replies)

of_shares : {S D F W : Type 0} (eyes : Eyes S D F W) (count : ℕ) (window : Keyed Request) (p : ℕ) (es : List (WithJobs S D F W)) (rs : List (Ran S D F W)) (xs : List (List Placed)) → map (λ r. r.1) rs ≡ map Ok xs
    → AtEach (λ i e r. HasRunBeside eyes (share count i window) e r.0 r.1) p es rs → RenderShares count p window (map rendered_in xs)
of_shares eyes count window p es rs [] same ran = ([], tt, refl)
of_shares eyes count window p es [] (x ∷ xs) same ran = absurd (cc)
of_shares eyes count window p [] (r ∷ rs) (x ∷ xs) same ran = absurd ran
of_shares eyes count window p (e ∷ es) (r ∷ rs) (x ∷ xs) same ran =
    let first : r.1 ≡ Ok x = head_same same in
    let rest : map (λ r. r.1) rs ≡ map Ok xs = tail_same same in
    let own : HasRunBeside eyes (share count p window) e r.0 (Ok x) = subst (HasRunBeside eyes (share count p window) e r.0) first ran.0 in
    let here = answers_by (share count p window) (rendered_in x) own.0.places own.0.kinds in
    let more = of_shares eyes count window (suc p) es rs xs rest ran.1 in
    (here.0 ∷ more.0, (here.1, more.1), ap (λ t. t ∷ map rendered_in xs) here.2 ∙ ap (λ ts. map (on_value rendered) here.0 ∷ ts) more.2)

same_length : {S D F W : Type 0} (rs : List (Ran S D F W)) (xs : List (List Placed)) → map (λ r. r.1) rs ≡ map Ok xs → length xs ≡ length rs
same_length rs xs same = sym (length-map xs Ok) ∙ sym (ap length same) ∙ length-map rs (λ r. r.1)

pub window_answers : {S D F W : Type 0} (eyes : Eyes S D F W) (window : Keyed Request) (es : List (WithJobs S D F W)) (rs : List (Ran S D F W)) (xs : List (List Placed)) → AreKindsGathered → AreRenderedGathered
    → 0 < length es → map (λ r. r.1) rs ≡ map Ok xs → EachRan eyes window es rs → Ascends window → All (λ r. IsForParts r.1) window → RenderAnswers window (gathered_rendered (map rendered_in xs))
window_answers eyes window es rs xs law rendering some answers ran ascends for_parts =
    let shares = of_shares eyes (length es) window 0 es rs xs answers ran in
    let parts = shares.0 in
    let many : length parts ≡ length es =
    sym (length-map parts (map (on_value rendered))) ∙ sym (ap length shares.2) ∙ length-map xs rendered_in ∙ same_length rs xs answers
    ∙ sym (at_each-length (λ p e r. HasRunBeside eyes (share (length es) p window) e r.0 r.1) 0 es rs ran) in (
      gathered parts,
      law window parts (subst (λ n. 0 < n) (sym many) some) ascends for_parts (subst (λ n. AreOfShares n 0 window parts) (sym many) shares.1),
      ap gathered_rendered shares.2 ∙ rendering parts,
    )
