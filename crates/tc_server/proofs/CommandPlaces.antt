-- The commands of a window stand in the order of their lines; a window without lines is sound.
use Rattle.std.proofs.Common.{◌≡◌, ◌∙◌, ◌<◌, ◌≤◌, ℕ, true, List, [], ◌∷◌, ◌++◌, All, map, length, arith, ap, sym, subst}
use Rattle.std.specs.List.{AllByRecursion}
use Rattle.std.specs.List.Sorted.{IsStrictlySortedBy}
use Rattle.std.specs.Map.{keys_of}
use Rattle.std.specs.Prelude.{nat_lt}
use Rattle.std.specs.Ordering.{nat_cmp}
use Rattle.std.specs.declared.cmp.Ordering.TheVariants.{Less}
use Rattle.std.proofs.lemmas.Bool.Decides.{nat_tests}
use Rattle.std.proofs.lemmas.List.Elements.{All-head, All-nil, All-tail, All-weaker}
use Rattle.tc_model.specs.Keyed.{Ascends}
use Rattle.tc_model.proofs.KeyedOrder.{less_by}
use Rattle.tc_route.specs.Meaning.{routed_of}
use Rattle.tc_route.specs.declared.placed.Routed.{Routed}
use Rattle.tc_keeper.specs.Together.{requests_routed, weight_in, IsRouted}
use Rattle.tc_server.specs.Window.{count_asked, IsSoundWindow}
use Rattle.tc_server.specs.declared.window.Window.{Window}

module _ (last : Routed) where
  all_before : (n : ℕ) (list : List Routed) → n < last.at → AllByRecursion (λ k. nat_cmp n k ≡ Less) (keys_of (map routed_of list)) → AllByRecursion (λ k. nat_cmp n k ≡ Less) (keys_of (map routed_of (list ++ last ∷ [])))
  all_before n [] before all = (less_by n last.at (let below : nat_lt n last.at ≡ true = grind (arith, nat_tests, before) in below), tt)
  all_before n (r ∷ list) before all = (all.0, all_before n list before all.1)

  pub ascends_pushed : (list : List Routed) → Ascends (map routed_of list) → All (λ r. r.at < last.at) list → Ascends (map routed_of (list ++ last ∷ []))
  unfolding IsStrictlySortedBy
  ascends_pushed [] ascends below = (tt, tt)
  ascends_pushed (r ∷ list) ascends below = (all_before r.at list (All-head (λ r. r.at < last.at) r list below) ascends.0, ascends_pushed list ascends.1 (All-tail (λ r. r.at < last.at) r list below))

-- with one line more
pub below_longer : (n m : ℕ) (list : List Routed) → n < m → All (λ r. r.at < n) list → All (λ r. r.at < m) list
below_longer n m list longer below = All-weaker (λ r. r.at < n) (λ r. r.at < m) (λ r is. omega (arith, is, longer)) list below

no_commands : Ascends (map routed_of [])
unfolding IsStrictlySortedBy
no_commands = tt

pub sound_empty : (w : Window) → w.refusals.items ≡ [] → w.commands.items ≡ [] → IsSoundWindow w
sound_empty w no_lines empty = record {
  each = subst (All IsRouted) (sym empty) (All-nil IsRouted);
  ascending = subst (λ list. Ascends (map routed_of list)) (sym empty) no_commands;
  below = subst (All (λ r. r.at < length w.refusals.items)) (sym empty) (All-nil (λ r. r.at < length w.refusals.items));
  whole = ap count_asked no_lines ∙ sym (ap length empty);
  light = subst (λ list. weight_in (requests_routed list) ≤ w.bytes) (sym empty) (omega arith);
}
