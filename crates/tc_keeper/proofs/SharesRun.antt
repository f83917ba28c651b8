-- Lists that are the shares of a window are windows, and engines that ran them ran their shares.
use Rattle.std.proofs.Common.{◌≡◌, ◌∙◌, ◌<◌, ℕ, List, [], ◌∷◌, length, map, arith, refl, ap, sym, subst}
use Rattle.std.specs.Prelude.{slice_index_or, All, Result}
use Rattle.std.specs.declared.alloc.Global.{Global}
use Rattle.std.specs.declared.vec.Vec.{Vec}
use Rattle.tc_model.specs.Keyed.{Keyed}
use Rattle.tc_request_model.specs.Request.{Request}
use Rattle.tc_route.specs.Meaning.{requests_at, routed_of}
use Rattle.tc_route.specs.Shares.{share}
use Rattle.tc_route.specs.declared.placed.Placed.{Placed}
use Rattle.tc_route.specs.declared.placed.Routed.{Routed}
use Rattle.tc_work.specs.Asked.{IsWindow}
use Rattle.tc_work.specs.EngineState.{EngineState}
use Rattle.tc_work.specs.Moving.{Eyes}
use Rattle.tc_work.specs.declared.fault.EngineFault.{EngineFault}
use Rattle.tc_keeper.specs.Places.{AtEach}
use Rattle.tc_keeper.specs.Running.{HasRun}
use Rattle.tc_keeper.proofs.PlaceLaws.{all_second, at_each-below, at_each-by, at_each-read, at_each-so, read_at}
use Rattle.tc_keeper.proofs.ShareWindows.{share_window}

-- the requests of the list at a place
pub requests_there : (lists : List (Vec Routed Global)) (p : ℕ) (d : Vec Routed Global) → p < length lists → requests_at p lists ≡ map routed_of (slice_index_or lists p d).items
requests_there lists p d below = read_at (λ (list : Vec Routed Global). map routed_of list.items) lists p d [] below

pub are_windows : (lists : List (Vec Routed Global)) (count : ℕ) (commands : List Routed) → length lists ≡ count → IsWindow commands → ((p : ℕ) → p < count → requests_at p lists ≡ share count p (map routed_of commands)) → All (λ (list : Vec Routed Global). IsWindow list.items) lists
are_windows lists count commands many whole each =
    all_second (λ (list : Vec Routed Global). IsWindow list.items) 0 lists lists
    (at_each-by (λ p x y. IsWindow y.items) 0 lists lists refl
    (λ i d below. share_window count i commands (slice_index_or lists i d).items whole (sym (requests_there lists i d below) ∙ each i (subst (λ n. i < n) many below))))

pub each_ran : {X S D F W : Type 0} (eyes : Eyes S D F W) (f : X → EngineState S D F W) (g : X → Result (List Placed) EngineFault) (lists : List (Vec Routed Global)) (window : Keyed Request) (count : ℕ) (olds news : List X)
    → length olds ≡ count → ((p : ℕ) → p < count → requests_at p lists ≡ share count p window)
    → AtEach (λ p old new. HasRun eyes (requests_at p lists) (f old) (f new) (g new)) 0 olds news
    → AtEach (λ p (e : EngineState S D F W) (r : EngineState S D F W × Result (List Placed) EngineFault). HasRun eyes (share count p window) e r.0 r.1) 0 (map f olds) (map (λ new. (f new, g new)) news)
each_ran eyes f g lists window count olds news many each ran =
    at_each-read f (λ new. (f new, g new)) (λ p e r. HasRun eyes (share count p window) e r.0 r.1) 0 olds news
    (at_each-so (λ p old new. (p < count) × HasRun eyes (requests_at p lists) (f old) (f new) (g new))
    (λ p old new. HasRun eyes (share count p window) (f old) (f new) (g new)) 0 olds news
    (λ p old new one. subst (λ rs. HasRun eyes rs (f old) (f new) (g new)) (each p one.0) one.1)
    (at_each-below (λ p old new. HasRun eyes (requests_at p lists) (f old) (f new) (g new)) 0 count olds news (omega (arith, many)) ran))

-- what is read of what was read
pub read_again : {X Y Z : Type 0} (f : Y → Z) (g : X → Y) (xs : List X) → map f (map g xs) ≡ map (λ x. f (g x)) xs
read_again f g [] = refl
read_again f g (x ∷ xs) = ap (λ ys. f (g x) ∷ ys) (read_again f g xs)
