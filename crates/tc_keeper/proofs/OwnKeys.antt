-- Parts have keys of their own alone behind a window too.
use Rattle.std.proofs.Common.{◌≡◌, ℕ, suc, Bool, true, false, List, [], ◌∷◌, map, arith, refl, sym, subst}
use Rattle.std.specs.Prelude.{◌%◌, All, cond, Option, Some, None}
use Rattle.std.proofs.lemmas.Bool.Decides.{nat_tests}
use Rattle.tc_model.specs.Document.{Document}
use Rattle.tc_model.specs.Keyed.{Keyed, Ascends, values_in}
use Rattle.tc_request_model.specs.Request.{Request, Refusal, upsert, delete, get, query, flush, schema, scan, collect, refused}
use Rattle.tc_model.proofs.KeyedOrder.{sorted-with_value, All-with_value, sorted-without_key, All-without_key}
use Rattle.tc_plain_model.specs.Store.{Store, with_pair}
use Rattle.tc_plain_model.specs.Room.{Limits}
use Rattle.tc_request_model.specs.Part.{part_left, part_left_all, unless_refused, upsert_refusal}
use Rattle.tc_run_model.specs.World.{Part}
use Rattle.tc_route.specs.Answers.{KeepOwn}
use Rattle.tc_route.specs.Shares.{is_for, share}
use Rattle.tc_keeper.specs.Places.{AtEach}
use Rattle.tc_keeper.proofs.SharesLeft.{IsLeft}

-- ---- keys of one partition alone, in order

own_upsert : (count p n : ℕ) (d : Document) (s : Store) (refusal : Option Refusal) → n % count ≡ p → (Ascends s.pairs × All (λ e. e.0 % count ≡ p) s.pairs)
    → (Ascends (unless_refused refusal (with_pair n d s) (λ r. s)).pairs × All (λ e. e.0 % count ≡ p) (unless_refused refusal (with_pair n d s) (λ r. s)).pairs)
own_upsert count p n d s None here own = (sorted-with_value n d s.pairs own.0, All-with_value (λ e. e.0 % count ≡ p) n d s.pairs here own.1)
own_upsert count p n d s (Some r) here own = own

own_request : (count p : ℕ) (limits : Limits) (r : Request) (s : Store) → is_for count p r ≡ true → (Ascends s.pairs × All (λ e. e.0 % count ≡ p) s.pairs) → (Ascends (part_left limits r s).pairs × All (λ e. e.0 % count ≡ p) (part_left limits r s).pairs)
own_request count p limits (upsert n d) s is own =
    let here : n % count ≡ p = grind (arith, nat_tests, is) in own_upsert count p n d s (upsert_refusal limits n d s) here own
own_request count p limits (delete n) s is own = (sorted-without_key n s.pairs own.0, All-without_key (λ e. e.0 % count ≡ p) n s.pairs own.1)
own_request count p limits (get n) s is own = own
own_request count p limits (query ask) s is own = own
own_request count p limits flush s is own = own
own_request count p limits schema s is own = own
own_request count p limits (scan ask) s is own = own
own_request count p limits collect s is own = own
own_request count p limits (refused why) s is own = own

own_share : (count p : ℕ) (limits : Limits) (rs : Keyed Request) (s : Store) → (Ascends s.pairs × All (λ e. e.0 % count ≡ p) s.pairs) → (Ascends (part_left_all limits (values_in (share count p rs)) s).pairs × All (λ e. e.0 % count ≡ p) (part_left_all limits (values_in (share count p rs)) s).pairs)
own_share count p limits [] s own = own
own_share count p limits (r ∷ rs) s own = step (is_for count p r.1) refl (own_share count p limits rs)
  where
    step : (b : Bool) → is_for count p r.1 ≡ b → ((s : Store) → (Ascends s.pairs × All (λ e. e.0 % count ≡ p) s.pairs) → (Ascends (part_left_all limits (values_in (share count p rs)) s).pairs × All (λ e. e.0 % count ≡ p) (part_left_all limits (values_in (share count p rs)) s).pairs))
        → (Ascends (part_left_all limits (values_in (cond b (r ∷ share count p rs) (share count p rs))) s).pairs × All (λ e. e.0 % count ≡ p) (part_left_all limits (values_in (cond b (r ∷ share count p rs) (share count p rs))) s).pairs)
    step true is more = more (part_left limits r.1 s) (own_request count p limits r.1 s is own)
    step false is more = more s own

pub own_left : (count p : ℕ) (limits : Limits) (flushed : Bool) (window : Keyed Request) (olds news : List Part) → AtEach (λ i old new. IsLeft limits flushed (values_in (share count i window)) old new) p olds news
    → KeepOwn count p (map (λ part. part.now) olds) → KeepOwn count p (map (λ part. part.now) news)
own_left count p limits flushed window [] [] left own = tt
own_left count p limits flushed window [] (new ∷ news) left own = absurd left
own_left count p limits flushed window (old ∷ olds) [] left own = absurd left
own_left count p limits flushed window (old ∷ olds) (new ∷ news) left own =
    let here : (Ascends new.now.pairs × All (λ e. e.0 % count ≡ p) new.now.pairs) = subst (λ (s : Store). Ascends s.pairs × All (λ e. e.0 % count ≡ p) s.pairs) (sym left.0.stores) (own_share count p limits window old.now (own.0, own.1)) in
    (here.0, here.1, own_left count (suc p) limits flushed window olds news left.1 own.2)
